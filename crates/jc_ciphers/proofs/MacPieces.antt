-- Codes by block ciphers of a message in pieces.
use Rattle.std.proofs.Common.{◌≡◌, ◌∙◌, ◌≤◌, ◌<◌, ◌+◌, ◌-◌, ◌*◌, ◌/◌, ◌%◌, ℕ, zero, suc, Bool, true, false, List, Option, Some, None, [], ◌∷◌, ◌++◌, append-nil, append_assoc, length, length-append, length-drop, replicate, slice_index, take, drop, refl, sym, ap, subst, arith, if◌then◌else◌}
use Rattle.std.specs.Prelude.{nat_eq}
use Rattle.std.specs.Option.{option_map}
use Rattle.std.proofs.Math.Nat.{add-mul-div_left}
use Rattle.std.proofs.lemmas.Bool.{eqb-false, eqb-true}
use Rattle.std.proofs.lemmas.List.{drop-append-le, drop-drop, drop_all, nil_from_length, take_at}
use Rattle.std.proofs.lemmas.Nat.{div-add-mod'}
use Rattle.jc_ciphers.specs.Aes as Aes
use Rattle.jc_ciphers.specs.Des as Des
use Rattle.jc_ciphers.specs.TripleDes.{parts_of, triple_encrypted}
use Rattle.jc_ciphers.specs.declared.kept.BlockAlgorithm.{BlockAlgorithm}
use Rattle.jc_ciphers.specs.declared.kept.BlockAlgorithm.TheVariants as block
use Rattle.jc_ciphers.specs.declared.kept.macs.MacAlgorithm.{MacAlgorithm}
use Rattle.jc_ciphers.specs.declared.kept.macs.MacAlgorithm.TheVariants.{Cbc, Algorithm3, Cmac}
use Rattle.jc_ciphers.specs.declared.padding.Padding.{Padding}
use Rattle.jc_ciphers.specs.Kept.{block_size, chain_in, encrypted_under, next_state, open_in, ready_blocks, state_of, state_size}
use Rattle.jc_ciphers.specs.Kept.Macs.{HoldsBlocks, MacsAreOfTheWhole, MacsInPieces, blocks_after, blocks_key, cbc_chained, chain_before, cipher_of, closed_mac, finished_by, is_closed, last_chain, last_of, mac_1, mac_from, mac_of, mac_of_state, mac_state_after}
use Rattle.jc_ciphers.specs.Macs.{cmac_end}
use Rattle.jc_ciphers.specs.Modes.{block_at, chain_after, xor_first}
use Rattle.jc_ciphers.specs.Padding.{padding_of}
use Rattle.jc_ciphers.proofs.KeptBlocks.{nothing_next, something_next}
use Rattle.jc_ciphers.proofs.Pieces.{chain_after-append}

-- what follows the first q blocks of a message, and more, is what follows them in the longer message
rest_goes_on : (b : ℕ) (m t : List ℕ) (q k : ℕ) → q * b ≤ length m → drop (k * b) (drop (q * b) m ++ t) ≡ drop ((q + k) * b) (m ++ t)
rest_goes_on b m t q k fits =
    let both : q * b + k * b ≡ (q + k) * b = grind arith in
    ap (drop (k * b)) (sym (drop-append-le (q * b) m t fits)) ∙ drop-drop (k * b) (q * b) (m ++ t) ∙ ap (λ (n : ℕ). drop n (m ++ t)) both

chain_goes_on : (f : List ℕ → List ℕ → List ℕ) (b : ℕ) (first m t : List ℕ) (q k : ℕ) → q * b ≤ length m
    → chain_after f b (chain_after f b first m q) (drop (q * b) m ++ t) k ≡ chain_after f b first (m ++ t) (q + k)
unfolding chain_after
chain_goes_on f b first m t q zero fits =
    let same : q ≡ q + 0 = omega arith in
    sym (chain_after-append f b first m t q fits) ∙ ap (chain_after f b first (m ++ t)) same
chain_goes_on f b first m t q (suc k) fits =
    let next : suc (q + k) ≡ q + suc k = omega arith in
    (λ j. f (chain_goes_on f b first m t q k fits j) (take b (rest_goes_on b m t q k fits j))) ∙ ap (chain_after f b first (m ++ t)) next

module _ (size : ℕ) (some : 1 ≤ size) where
  swapped : (q : ℕ) → q * size ≡ size * q
  swapped q = grind arith

  fits : (m : List ℕ) → ready_blocks true size (length m) * size ≤ length m
  fits m = omega (arith, div-add-mod' (length m - 1) size)

  rest_long : (m : List ℕ) → length (last_of size m) ≡ length m - ready_blocks true size (length m) * size
  rest_long m = length-drop (ready_blocks true size (length m) * size) m

  -- as many blocks are ready of the rest with more as the longer message has more
  ready_goes_on : (m t : List ℕ) → 1 ≤ length (last_of size m ++ t)
      → ready_blocks true size (length m) + ready_blocks true size (length (last_of size m ++ t)) ≡ ready_blocks true size (length (m ++ t))
  ready_goes_on m t more =
      let q : ℕ = ready_blocks true size (length m) in
      let n : ℕ = length (last_of size m ++ t) in
      let all : length (m ++ t) - 1 ≡ (n - 1) + size * q =
      omega (arith, length-append m t, length-append (last_of size m) t, rest_long m, fits m, swapped q, more) in
      let count : ((n - 1) + size * q) / size ≡ (n - 1) / size + q = add-mul-div_left (n - 1) q some in
      let whole = ap (λ (k : ℕ). k / size) all in
      omega (arith, whole, count)

  -- and so of whole blocks
  whole_goes_on : (m t : List ℕ)
      → ready_blocks true size (length m) + length (last_of size m ++ t) / size ≡ length (m ++ t) / size
  whole_goes_on m t =
      let q : ℕ = ready_blocks true size (length m) in
      let n : ℕ = length (last_of size m ++ t) in
      let all : length (m ++ t) ≡ n + size * q =
      omega (arith, length-append m t, length-append (last_of size m) t, rest_long m, fits m, swapped q) in
      let count : (n + size * q) / size ≡ n / size + q = add-mul-div_left n q some in
      let whole = ap (λ (k : ℕ). k / size) all in
      omega (arith, whole, count)

  module _ (chain rest : List ℕ) (long : length chain ≡ size) where
    parts : (chain ++ rest) ++ replicate (size - length rest) 0 ≡ chain ++ (rest ++ replicate (size - length rest) 0)
    parts = append_assoc chain rest (replicate (size - length rest) 0)

    chain_back : (vector : List ℕ) → chain_in size vector (state_of size chain rest) ≡ chain
    chain_back vector = ap (take size) parts ∙ take_at chain (rest ++ replicate (size - length rest) 0) size long

    rest_back : open_in size (state_of size chain rest) ≡ rest
    rest_back =
        let t : List ℕ = rest ++ replicate (size - length rest) 0 in
        let two : 2 + size ≡ suc (suc size) = omega arith in
        ap (λ (k : ℕ). take (length rest) (drop k (state_of size chain rest))) two
        ∙ ap (λ (xs : List ℕ). take (length rest) (drop size xs)) parts
        ∙ ap (take (length rest)) (drop-append-le size chain t (omega (arith, long)) ∙ ap (λ (xs : List ℕ). xs ++ t) (drop_all size chain (omega (arith, long))))
        ∙ take_at rest (replicate (size - length rest) 0) (length rest) refl

aes_long : (key b : List ℕ) → length (Aes.encrypted key b) ≡ 16
unfolding Aes.encrypted Aes.cipher_with
aes_long key b = refl

des_long : (key b : List ℕ) → length (Des.encrypted key b) ≡ 8
unfolding Des.encrypted Des.crypted Des.listed
des_long key b = refl

triple_long : (key b : List ℕ) → length (triple_encrypted (parts_of key) b) ≡ 8
unfolding triple_encrypted
triple_long key b = des_long (parts_of key).third _

either_long : (c : Bool) (x y : List ℕ) → length x ≡ 8 → length y ≡ 8 → length (if c then x else y) ≡ 8
either_long true x y one other = one
either_long false x y one other = other

block_long : (a : BlockAlgorithm) (key b : List ℕ) → length (encrypted_under a key b) ≡ block_size a
block_long block.Aes key b = aes_long key b
block_long block.Des key b = either_long (nat_eq (length key) 8) (Des.encrypted key b) (triple_encrypted (parts_of key) b) (des_long key b) (triple_long key b)

size_some : (a : BlockAlgorithm) → 1 ≤ block_size a
size_some block.Aes = omega arith
size_some block.Des = omega arith

nothing_held : (a : BlockAlgorithm) (key vector : List ℕ) → HoldsBlocks a key vector [] (replicate (state_size a) 0)
unfolding chain_after
nothing_held block.Aes key vector = record { chain = refl; rest = refl }
nothing_held block.Des key vector = record { chain = refl; rest = refl }

module _ (a : BlockAlgorithm) (key vector : List ℕ) (first_long : length vector ≡ block_size a) where
  abbrev size : ℕ
  size = block_size a

  abbrev f : List ℕ → List ℕ → List ℕ
  f = cbc_chained a key

  chain_long : (m : List ℕ) (n : ℕ) → length (chain_after f size vector m n) ≡ size
  unfolding chain_after
  chain_long m zero = first_long
  chain_long m (suc n) = block_long a key (xor_first (chain_after f size vector m n) (block_at size m n) size)

  -- the state of what a message leaves holds it
  state_holds : (m chain rest : List ℕ) → chain ≡ chain_before a key vector m → rest ≡ last_of size m
      → HoldsBlocks a key vector m (state_of size chain rest)
  state_holds m chain rest is left =
      let long : length chain ≡ size = ap (λ (xs : List ℕ). length xs) is ∙ chain_long m (ready_blocks true size (length m)) in
      record { chain = chain_back size (size_some a) chain rest long vector ∙ is; rest = rest_back size (size_some a) chain rest long ∙ left }

  longer_by : (b : Bool) (m piece state : List ℕ) → HoldsBlocks a key vector m state → nat_eq (length (open_in size state ++ piece)) 0 ≡ b
      → HoldsBlocks a key vector (m ++ piece) (blocks_after a key vector state piece)
  longer_by true m piece state held none =
      let empty : length (open_in size state ++ piece) ≡ 0 = eqb-true (length (open_in size state ++ piece)) 0 none in
      let no_piece : piece ≡ [] = nil_from_length piece (omega (arith, empty, length-append (open_in size state) piece)) in
      let same : m ≡ m ++ piece = sym (append-nil m) ∙ ap (λ (xs : List ℕ). m ++ xs) (sym no_piece) in
      let P : List ℕ → Type 0 = λ xs. HoldsBlocks a key vector xs state in
      subst (HoldsBlocks a key vector (m ++ piece))
      (nothing_next f size vector state piece (length (open_in size state ++ piece)) refl none) (subst P same held)
  longer_by false m piece state held any =
      let r : List ℕ = open_in size state ++ piece in
      let k : ℕ = ready_blocks true size (length r) in
      let c : List ℕ = chain_in size vector state in
      let q : ℕ = ready_blocks true size (length m) in
      let parts : r ≡ last_of size m ++ piece = ap (λ (xs : List ℕ). xs ++ piece) held.rest in
      let not_none : length r ≡ 0 → ⊥ = eqb-false (length r) 0 any in
      let more : 1 ≤ length (last_of size m ++ piece) = omega (arith, not_none, ap (λ (xs : List ℕ). length xs) parts) in
      let count : q + k ≡ ready_blocks true size (length (m ++ piece)) =
      ap (λ (xs : List ℕ). q + ready_blocks true size (length xs)) parts ∙ ready_goes_on size (size_some a) m piece more in
      let chain : chain_after f size c r k ≡ chain_before a key vector (m ++ piece) =
      (λ j. chain_after f size (held.chain j) (parts j) k) ∙ chain_goes_on f size vector m piece q k (fits size (size_some a) m)
      ∙ ap (chain_after f size vector (m ++ piece)) count in
      let rest : drop (k * size) r ≡ last_of size (m ++ piece) =
      ap (drop (k * size)) parts ∙ rest_goes_on size m piece q k (fits size (size_some a) m) ∙ ap (λ (n : ℕ). drop (n * size) (m ++ piece)) count in
      subst (HoldsBlocks a key vector (m ++ piece))
      (something_next f size vector state piece c (open_in size state) (chain_after f size c r k) (drop (k * size) r) (length r) refl refl refl any refl refl)
      (state_holds (m ++ piece) (chain_after f size c r k) (drop (k * size) r) chain rest)

  pub longer_held : (m piece state : List ℕ) → HoldsBlocks a key vector m state
      → HoldsBlocks a key vector (m ++ piece) (blocks_after a key vector state piece)
  longer_held m piece state held = longer_by (nat_eq (length (open_in size state ++ piece)) 0) m piece state held refl

  -- the end of the blocks is that of the padded message
  pub closed_is : (p : Padding) (m : List ℕ) → closed_mac p a key (chain_before a key vector m) (last_of size m) ≡ mac_1 p a key vector m
  closed_is p m =
      let pad : List ℕ = padding_of p size (length (last_of size m)) in
      let q : ℕ = ready_blocks true size (length m) in
      let n : ℕ = length (last_of size m ++ pad) / size in
      ap (λ (xs : List ℕ). if is_closed p size (length (last_of size m)) then Some xs else None)
      (chain_goes_on f size vector m pad q n (fits size (size_some a) m) ∙ ap (chain_after f size vector (m ++ pad)) (whole_goes_on size (size_some a) m pad))

mac_from_is : (x : MacAlgorithm) (key vector m : List ℕ) → length vector ≡ block_size (cipher_of x)
    → mac_from x key (chain_before (cipher_of x) (blocks_key x key) vector m) (last_of (block_size (cipher_of x)) m) ≡ mac_of x key vector m
mac_from_is (Cbc a p) key vector m long = closed_is a key vector long p m
mac_from_is (Algorithm3 p) key vector m long = ap (option_map (finished_by key)) (closed_is block.Des (take 8 key) vector long p m)
mac_from_is Cmac key vector m long = refl

pub macs_of_the_whole : MacsInPieces
macs_of_the_whole x key vector long =
    let longer = longer_held (cipher_of x) (blocks_key x key) vector long in
    record {
      nothing = nothing_held (cipher_of x) (blocks_key x key) vector;
      longer = longer;
      code = λ m piece state held.
          let after = longer m piece state held in
          (λ j. mac_from x key (after.chain j) (after.rest j)) ∙ mac_from_is x key vector (m ++ piece) long;
    }
