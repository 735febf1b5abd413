-- A message in pieces goes through a mode as the whole does.
use Rattle.std.proofs.Common.{◌≡◌, ◌≢◌, ◌⊎◌, ◌∙◌, ℕ, zero, suc, ◌+◌, ◌-◌, ◌*◌, ◌/◌, ◌%◌, ◌≤◌, ◌<◌, ◌&&◌, Bool, true, false, inl, inr, List, [], ◌∷◌, ◌++◌, append_assoc, append-nil, div-add-mod', div-mul-le_self, drop, drop-drop, length, length-append, length-drop, length-take-le, mod-lt, nat_eq, ne_eqb, not, replicate, slice_index, take, if◌then◌else◌, refl, subst, sym, ap, arith}
use Rattle.std.specs.Prelude.{Option, Some, None}
use Rattle.std.specs.Option.{option_and_then, option_map}
use Rattle.std.proofs.Math.Nat.{mul-add-div_right}
use Rattle.std.proofs.Math.Seq.{drop-append-add, drop-append_seam, take-append-add, take-append_seam}
use Rattle.std.proofs.lemmas.Bool.{cases_lt}
use Rattle.std.proofs.lemmas.List.{drop-append-le, nil_from_length}
use Rattle.jc_ciphers.specs.declared.padding.Padding.{Padding}
use Rattle.jc_ciphers.specs.Kept.Conversion.{ended_output, last_size, next_end, padded, unpadded, unpadded_size, whole_output}
use Rattle.jc_ciphers.specs.Kept.{chain_in, next_output, next_state, open_in, ready_blocks, state_of}
use Rattle.jc_ciphers.specs.Modes.{block_at, chain_after, output}
use Rattle.jc_ciphers.specs.Padding.{padding_of}
use Rattle.jc_ciphers.proofs.Pieces.{chain_after-append, output-append, rows_more}
use Rattle.jc_ciphers.proofs.Ready.{block_there, left_over, nothing_kept, nothing_out, whole_before}

-- ---- blocks after the first ones

pub rows_sum : (k j size : ℕ) → (k + j) * size ≡ k * size + j * size
rows_sum k j size = grind arith

block_after : (size : ℕ) (m : List ℕ) (k j : ℕ) → block_at size m (k + j) ≡ block_at size (drop (k * size) m) j
block_after size m k j =
    ap (λ (n : ℕ). take size (drop n m)) (rows_sum k j size) ∙ ap (take size) (sym (drop-drop (j * size) (k * size) m))

chain_later : (f : List ℕ → List ℕ → List ℕ) (size : ℕ) (first m : List ℕ) (k j : ℕ)
    → chain_after f size first m (k + j) ≡ chain_after f size (chain_after f size first m k) (drop (k * size) m) j
unfolding chain_after
chain_later f size first m k zero = let same : k + 0 ≡ k = omega arith in ap (chain_after f size first m) same
chain_later f size first m k (suc j) =
    let same : k + suc j ≡ suc (k + j) = omega arith in
    ap (chain_after f size first m) same ∙ (λ i. f (chain_later f size first m k j i) (block_after size m k j i))

pub output_later : (f g : List ℕ → List ℕ → List ℕ) (size : ℕ) (first m : List ℕ) (k j : ℕ)
    → output f g size first m (k + j) ≡ output f g size first m k ++ output f g size (chain_after f size first m k) (drop (k * size) m) j
unfolding output
output_later f g size first m k zero =
    let same : k + 0 ≡ k = omega arith in ap (output f g size first m) same ∙ sym (append-nil (output f g size first m k))
output_later f g size first m k (suc j) =
    let same : k + suc j ≡ suc (k + j) = omega arith in
    let tail : List ℕ = drop (k * size) m in
    let chain : List ℕ = chain_after f size first m k in
    ap (output f g size first m) same
    ∙ (λ i. output_later f g size first m k j i ++ g (chain_later f size first m k j i) (block_after size m k j i))
    ∙ append_assoc (output f g size first m k) (output f g size chain tail j) (g (chain_after f size chain tail j) (block_at size tail j))

-- ---- how many blocks

pub ready_within : (holds : Bool) (size n : ℕ) → ready_blocks holds size n * size ≤ n
ready_within true size n = let low = div-mul-le_self (n - 1) size in omega (arith, low)
ready_within false size n = div-mul-le_self n size

ready_later : (holds : Bool) (size k r : ℕ) → 0 < size → 1 ≤ r → ready_blocks holds size (k * size + r) ≡ k + ready_blocks holds size r
ready_later true size k r some one =
    let less : k * size + r - 1 ≡ k * size + (r - 1) = omega (arith, one) in
    ap (λ (n : ℕ). n / size) less ∙ mul-add-div_right some k (r - 1)
ready_later false size k r some one = mul-add-div_right some k r

-- ---- states read back

-- a mode whose chaining blocks are blocks
unfoldable pub KeepsBlocks : (List ℕ → List ℕ → List ℕ) → ℕ → Type 0
KeepsBlocks f size = (c b : List ℕ) → length c ≡ size → length b ≡ size → length (f c b) ≡ size

pub length-chain_after : (f : List ℕ → List ℕ → List ℕ) (size : ℕ) (first m : List ℕ) (k : ℕ) → KeepsBlocks f size → length first ≡ size
    → k * size ≤ length m → length (chain_after f size first m k) ≡ size
unfolding chain_after KeepsBlocks
length-chain_after f size first m zero keeps long fits = long
length-chain_after f size first m (suc k) keeps long fits =
    let more = rows_more k size in
    keeps (chain_after f size first m k) (block_at size m k) (length-chain_after f size first m k keeps long (omega (arith, more, fits)))
    (length-take-le size (drop (k * size) m) (omega (arith, more, fits, length-drop (k * size) m)))

chain_back : (size : ℕ) (vector chain rest : List ℕ) → length chain ≡ size → chain_in size vector (state_of size chain rest) ≡ chain
chain_back size vector chain rest long =
    let zeros : List ℕ = replicate (size - length rest) 0 in
    ap (λ (n : ℕ). take n (chain ++ rest ++ zeros)) (sym long) ∙ ap (take (length chain)) (append_assoc chain rest zeros)
    ∙ take-append_seam chain (rest ++ zeros)

rest_back : (size : ℕ) (chain rest : List ℕ) → length chain ≡ size → open_in size (state_of size chain rest) ≡ rest
rest_back size chain rest long =
    let zeros : List ℕ = replicate (size - length rest) 0 in
    let past : 2 + size ≡ suc (suc size) = omega arith in
    ap (λ (n : ℕ). take (length rest) (drop n (state_of size chain rest))) past
    ∙ ap (λ (n : ℕ). take (length rest) (drop n (chain ++ rest ++ zeros))) (sym long)
    ∙ ap (λ (xs : List ℕ). take (length rest) (drop (length chain) xs)) (append_assoc chain rest zeros)
    ∙ ap (take (length rest)) (drop-append_seam chain (rest ++ zeros)) ∙ take-append_seam rest zeros

next_state_some : (f : List ℕ → List ℕ → List ℕ) (size : ℕ) (holds : Bool) (vector state piece : List ℕ)
    → length (open_in size state ++ piece) ≢ 0
    → next_state f size holds vector state piece
    ≡ state_of size
    (chain_after f size (chain_in size vector state) (open_in size state ++ piece) (ready_blocks holds size (length (open_in size state ++ piece))))
    (drop (ready_blocks holds size (length (open_in size state ++ piece)) * size) (open_in size state ++ piece))
unfolding next_state
next_state_some f size holds vector state piece some =
    let m : List ℕ = open_in size state ++ piece in
    let k : ℕ = ready_blocks holds size (length m) in
    let next : List ℕ = state_of size (chain_after f size (chain_in size vector state) m k) (drop (k * size) m) in
    ap (λ (t : Bool). if t then state else next) (ne_eqb (length m) 0 some)

-- a state holds a message of which w is written
pub record Holds (f g : List ℕ → List ℕ → List ℕ) (size : ℕ) (holds : Bool) (vector m state w : List ℕ) : Type 0 where
  pub came : nat_eq (slice_index state 0) 0 ≡ nat_eq (length m) 0
  pub chain : chain_in size vector state ≡ chain_after f size vector m (ready_blocks holds size (length m))
  pub rest : open_in size state ≡ drop (ready_blocks holds size (length m) * size) m
  pub out : w ≡ output f g size vector m (ready_blocks holds size (length m))

-- what follows the bytes that are open
pub tail_of : (size k : ℕ) (m piece rest : List ℕ) → k * size ≤ length m → rest ≡ drop (k * size) m → rest ++ piece ≡ drop (k * size) (m ++ piece)
tail_of size k m piece rest fits is = ap (λ (xs : List ℕ). xs ++ piece) is ∙ sym (drop-append-le (k * size) m piece fits)

pub length_tail : (size k : ℕ) (m tail : List ℕ) → k * size ≤ length m → tail ≡ drop (k * size) m → length m ≡ k * size + length tail
length_tail size k m tail fits is =
    let same = ap (λ (xs : List ℕ). length xs) is ∙ length-drop (k * size) m in
    omega (arith, same, fits)

-- nothing follows
longer_by_none : (f g : List ℕ → List ℕ → List ℕ) (size : ℕ) (holds : Bool) (vector m piece state w : List ℕ) → 1 ≤ size
    → length (open_in size state ++ piece) ≡ 0 → Holds f g size holds vector m state w
    → Holds f g size holds vector (m ++ piece) (next_state f size holds vector state piece) (w ++ next_output f g size holds vector state piece)
longer_by_none f g size holds vector m piece state w some none held =
    let empty : piece ≡ [] = nil_from_length piece (omega (arith, none, length-append (open_in size state) piece)) in
    let message : m ≡ m ++ piece = sym (append-nil m) ∙ ap (λ (xs : List ℕ). m ++ xs) (sym empty) in
    let written : w ≡ w ++ next_output f g size holds vector state piece =
    sym (append-nil w) ∙ ap (λ (xs : List ℕ). w ++ xs) (nothing_out f g size holds vector state piece some none) in
    let P : List ℕ → Type 0 = λ x. Holds f g size holds vector x state w in
    let Q : List ℕ → Type 0 = λ x. Holds f g size holds vector (m ++ piece) x w in
    let R : List ℕ → Type 0 = λ x. Holds f g size holds vector (m ++ piece) (next_state f size holds vector state piece) x in
    subst R written (subst Q (nothing_kept f size holds vector state piece none) (subst P message held))

longer_by_some : (f g : List ℕ → List ℕ → List ℕ) (size : ℕ) (holds : Bool) (vector m piece state w : List ℕ) → 1 ≤ size → KeepsBlocks f size
    → length vector ≡ size → 1 ≤ length (open_in size state ++ piece) → Holds f g size holds vector m state w
    → Holds f g size holds vector (m ++ piece) (next_state f size holds vector state piece) (w ++ next_output f g size holds vector state piece)
unfolding next_output
longer_by_some f g size holds vector m piece state w some keeps wide one held =
    let k : ℕ = ready_blocks holds size (length m) in
    let fits = ready_within holds size (length m) in
    let whole : List ℕ = m ++ piece in
    let tail : List ℕ = open_in size state ++ piece in
    let j : ℕ = ready_blocks holds size (length tail) in
    let within : k * size ≤ length whole = omega (arith, fits, length-append m piece) in
    let is : tail ≡ drop (k * size) whole = tail_of size k m piece (open_in size state) fits held.rest in
    let long = length_tail size k whole tail within is in
    let count : ready_blocks holds size (length whole) ≡ k + j =
    ap (ready_blocks holds size) long ∙ ready_later holds size k (length tail) (omega (arith, some)) one in
    let chain : chain_in size vector state ≡ chain_after f size vector whole k = held.chain ∙ sym (chain_after-append f size vector m piece k fits) in
    let next : List ℕ = chain_after f size (chain_in size vector state) tail j in
    let next_is : next ≡ chain_after f size vector whole (ready_blocks holds size (length whole)) =
    (λ i. chain_after f size (chain i) (is i) j) ∙ sym (chain_later f size vector whole k j) ∙ ap (chain_after f size vector whole) (sym count) in
    let left : List ℕ = drop (j * size) tail in
    let left_is : left ≡ drop (ready_blocks holds size (length whole) * size) whole =
    ap (drop (j * size)) is ∙ drop-drop (j * size) (k * size) whole
    ∙ ap (λ (n : ℕ). drop n whole) (sym (rows_sum k j size)) ∙ ap (λ (n : ℕ). drop (n * size) whole) (sym count) in
    let width : length (chain_in size vector state) ≡ size =
    ap (λ (xs : List ℕ). length xs) held.chain ∙ length-chain_after f size vector m k keeps wide fits in
    let next_wide : length next ≡ size =
    length-chain_after f size (chain_in size vector state) tail j keeps width (ready_within holds size (length tail)) in
    let after = next_state_some f size holds vector state piece (λ e. omega (arith, e, one)) in
    let written : w ≡ output f g size vector whole k = held.out ∙ sym (output-append f g size vector m piece k fits) in
    record {
      came = ap (λ (s : List ℕ). nat_eq (slice_index s 0) 0) after ∙ sym (ne_eqb (length whole) 0 (λ e. omega (arith, e, long, one)));
      chain = ap (chain_in size vector) after ∙ chain_back size vector next left next_wide ∙ next_is;
      rest = ap (open_in size) after ∙ rest_back size next left next_wide ∙ left_is;
      out = (λ i. written i ++ output f g size (chain i) (is i) j) ∙ sym (output_later f g size vector whole k j)
          ∙ ap (output f g size vector whole) (sym count);
    }

pub longer_held : (f g : List ℕ → List ℕ → List ℕ) (size : ℕ) (holds : Bool) (vector m piece state w : List ℕ) → 1 ≤ size → KeepsBlocks f size
    → length vector ≡ size → Holds f g size holds vector m state w
    → Holds f g size holds vector (m ++ piece) (next_state f size holds vector state piece) (w ++ next_output f g size holds vector state piece)
longer_held f g size holds vector m piece state w some keeps wide held =
    elim (cases_lt (length (open_in size state ++ piece)) 1) as (λ _. Holds f g size holds vector (m ++ piece) (next_state f size holds vector state piece) (w ++ next_output f g size holds vector state piece)) [
      | inl none ↦ longer_by_none f g size holds vector m piece state w some (omega (arith, none)) held
      | inr one ↦ longer_by_some f g size holds vector m piece state w some keeps wide one held
    ]
