-- States that are read back, and what they hold once a piece follows.
use Rattle.std.proofs.Common.{◌≡◌, ◌∙◌, ◌<◌, ◌+◌, ◌-◌, ◌/◌, ◌%◌, ◌^◌, ℕ, zero, suc, Bool, true, false, List, [], ◌∷◌, ◌++◌, append_assoc, length, length-append, take, drop, replicate, get_or, refl, sym, ap, subst, arith, if◌then◌else◌}
use Rattle.std.specs.Prelude.{◌==◌}
use Rattle.std.specs.Int.{from_be_bytes, to_be_bytes, w64}
use Rattle.std.proofs.Math.Nat.{mod-lt}
use Rattle.std.proofs.lemmas.List.{drop-append-le, drop_all, get_or-append-add, length-replicate, take_at}
use Rattle.std.proofs.lemmas.Nat.{from_be_bytes-to_be_bytes_8}
use Rattle.sha2.specs.Sha512.{word_at}
use Rattle.jc_digests.specs.Kept.{HashForm, after_blocks, hash_in, length_in, next_state, open_in, state_of, whole_blocks}
use Rattle.jc_digests.specs.Pieces.{hash_after}
use Rattle.jc_api_crypto.specs.MessagesInPieces.{HoldsMessage}
use Rattle.jc_api_crypto.proofs.Blocks.{blocks_go_on, rest_length, rests_go_on}
use Rattle.jc_api_crypto.proofs.HashValues.{IsReadBack, words_after}

-- a word at the end
word_behind : (xs : List ℕ) (k n : ℕ) → length xs ≡ k → n < 2 ^ 64 → word_at (xs ++ to_be_bytes w64 n) k ≡ n
word_behind xs k n long small =
    let t : List ℕ = to_be_bytes w64 n in
    let at = λ (i : ℕ). ap (λ (l : ℕ). get_or (xs ++ t) (l + i) 0) (sym long) ∙ get_or-append-add xs t i 0 in
    let first : get_or (xs ++ t) k 0 ≡ get_or t 0 0 = ap (λ (l : ℕ). get_or (xs ++ t) l 0) (omega arith) ∙ at 0 in
    (λ j. from_be_bytes w64 (first j ∷ at 1 j ∷ at 2 j ∷ at 3 j ∷ at 4 j ∷ at 5 j ∷ at 6 j ∷ at 7 j ∷ [])) ∙ from_be_bytes-to_be_bytes_8 n small

drop_front : (n : ℕ) (xs ys : List ℕ) → length xs ≡ n → drop n (xs ++ ys) ≡ ys
drop_front n xs ys long =
    drop-append-le n xs ys (omega (arith, long)) ∙ ap (λ (zs : List ℕ). zs ++ ys) (drop_all n xs (omega (arith, long)))

choose_same : (b : Bool) (initial h : List ℕ) → (b ≡ true → initial ≡ h) → (if b then initial else h) ≡ h
choose_same true initial h same = same refl
choose_same false initial h same = refl

module _ (f : HashForm) (W : List ℕ → Type 0) (back : IsReadBack f W) where
  module _ (h rest : List ℕ) (n : ℕ) (small : n < 2 ^ 64) (part : length rest ≡ n % f.block) where
    block_of : List ℕ
    block_of = rest ++ replicate (f.block - length rest) 0

    block_long : length block_of ≡ f.block
    unfolding block_of
    block_long =
        let less : n % f.block < f.block = mod-lt n back.some in
        omega (arith, length-append rest (replicate (f.block - length rest) 0), length-replicate {A = ℕ} (f.block - length rest) 0, part, less)

    front_long : length (f.bytes h ++ block_of) ≡ f.width + f.block
    front_long = omega (arith, length-append (f.bytes h) block_of, back.long h, block_long)

    pub length_back : length_in f (state_of f h rest n) ≡ n
    unfolding block_of
    length_back = word_behind (f.bytes h ++ block_of) (f.width + f.block) n front_long small

    pub open_back : open_in f (state_of f h rest n) ≡ rest
    unfolding block_of
    open_back =
        let t : List ℕ = to_be_bytes w64 n in
        ap (λ (k : ℕ). take (k % f.block) (take f.block (drop f.width (state_of f h rest n)))) length_back
        ∙ ap (λ (xs : List ℕ). take (n % f.block) (take f.block (drop f.width xs))) (append_assoc (f.bytes h) block_of t)
        ∙ ap (λ (xs : List ℕ). take (n % f.block) (take f.block xs)) (drop_front f.width (f.bytes h) (block_of ++ t) (back.long h))
        ∙ ap (take (n % f.block)) (take_at block_of t f.block block_long)
        ∙ take_at rest (replicate (f.block - length rest) 0) (n % f.block) part

    pub hash_back : (initial : List ℕ) → W h → ((n == 0) ≡ true → initial ≡ h) → hash_in f initial (state_of f h rest n) ≡ h
    unfolding block_of
    hash_back initial words same =
        let t : List ℕ = to_be_bytes w64 n in
        ap (λ (k : ℕ). if k == 0 then initial else f.value (state_of f h rest n)) length_back
        ∙ ap (λ (v : List ℕ). if n == 0 then initial else v) (ap f.value (append_assoc (f.bytes h) block_of t) ∙ back.value h (block_of ++ t) words)
        ∙ choose_same (n == 0) initial h same

  -- no bytes make no blocks
  none_taken : (i m : List ℕ) (n : ℕ) → n ≡ length m → (n == 0) ≡ true → i ≡ whole_blocks f i m
  unfolding hash_after
  none_taken i m zero long none =
      let q : 0 ≡ length m / f.block = sym (ap (λ (k : ℕ). k / f.block) (sym long) ∙ grind (arith, back.some)) in
      ap (hash_after f.compressed f.block i m) q
  none_taken i m (suc n) long none = absurd (grind (arith, none))

  -- the state of a message holds it
  pub state_holds : (i m : List ℕ) → W i → length m < 2 ^ 64 → HoldsMessage f i m (state_of f (whole_blocks f i m) (after_blocks f m) (length m))
  state_holds i m first small =
      let h : List ℕ = whole_blocks f i m in
      let words : W h = words_after f W back i m (length m / f.block) first in
      let rest : List ℕ = after_blocks f m in
      let part = rest_length f back.some m in
      record {
        hash = hash_back h rest (length m) small part i words (none_taken i m (length m) refl);
        rest = open_back h rest (length m) small part;
        long = length_back h rest (length m) small part;
      }

  -- and once a piece follows the longer one
  pub goes_on : (i m piece state : List ℕ) → W i → length (m ++ piece) < 2 ^ 64 → HoldsMessage f i m state → HoldsMessage f i (m ++ piece) (next_state f i state piece)
  unfolding next_state
  goes_on i m piece state first small held =
      let n : (length_in f state + length piece) % 2 ^ 64 ≡ length (m ++ piece) = omega (arith, held.long, length-append m piece, small) in
      let hash : whole_blocks f (hash_in f i state) (open_in f state ++ piece) ≡ whole_blocks f i (m ++ piece) =
      (λ j. whole_blocks f (held.hash j) (held.rest j ++ piece)) ∙ blocks_go_on f back.some i m piece in
      let rest : after_blocks f (open_in f state ++ piece) ≡ after_blocks f (m ++ piece) =
      ap (λ (r : List ℕ). after_blocks f (r ++ piece)) held.rest ∙ rests_go_on f back.some m piece in
      subst (HoldsMessage f i (m ++ piece)) (sym (λ j. state_of f (hash j) (rest j) (n j))) (state_holds i (m ++ piece) first small)
