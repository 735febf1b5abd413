-- HMAC of a message in pieces.
use Rattle.std.proofs.Common.{◌≡◌, ◌∙◌, ◌≤◌, ◌<◌, ◌+◌, ◌-◌, ◌^◌, ℕ, zero, suc, Bool, List, [], ◌∷◌, ◌++◌, append-nil, append_assoc, bit_xor, length, length-append, length-take-le, replicate, slice_index, take, refl, sym, ap, arith, if◌then◌else◌}
use Rattle.std.specs.Prelude.{◌==◌, fold, nat_lt}
use Rattle.std.specs.List.{concat}
use Rattle.std.proofs.Math.Dec.{eqb-suc-zero}
use Rattle.std.proofs.lemmas.List.{length-take}
use Rattle.std.proofs.lemmas.List.Folds.{concat-append}
use Rattle.std.proofs.lemmas.List.Sums.{fold-append}
use Rattle.jc_digests.specs.Kept.{block_size, digest_of_state, digest_size, form_of, last_hash, initial_of, length_in, state_after, state_size}
use Rattle.jc_digests.specs.declared.kept.HashAlgorithm.{HashAlgorithm}
use Rattle.jc_ciphers.specs.Macs.{hmac, key_block, listed, marked}
use Rattle.jc_ciphers.specs.Kept.Hmac.{DigestsTheWhole, HmacIsOfTheWhole, digest_of_whole, hmac_of_state, hmac_state_after, inner_state, keyed_state}
use Rattle.jc_ciphers.proofs.DigestSizes.{block_few, block_some, digest_fits}

length-listed : (f : ℕ → ℕ) (n : ℕ) → length (listed f n) ≡ n
unfolding listed
length-listed f zero = refl
length-listed f (suc n) = length-append (listed f n) (f n ∷ []) ∙ omega (arith, length-listed f n)

some_chosen : (n : ℕ) (x y : List ℕ) → 1 ≤ n → (if n == 0 then x else y) ≡ y
some_chosen zero x y some = absurd (omega (arith, some))
some_chosen (suc n) x y some = ap (λ (b : Bool). if b then x else y) (eqb-suc-zero n)

none_chosen : (n : ℕ) (x y : List ℕ) → n ≡ 0 → (if n == 0 then x else y) ≡ x
none_chosen n x y none = ap (λ (k : ℕ). if k == 0 then x else y) none

concat_one : (m : List ℕ) → concat (m ∷ []) ≡ m
concat_one m = append-nil m

concat_two : (x y : List ℕ) → concat (x ∷ y ∷ []) ≡ x ++ y
concat_two x y = ap (λ (l : List ℕ). x ++ l) (append-nil y)

concat_last : (pieces : List (List ℕ)) (last : List ℕ) → concat (pieces ++ last ∷ []) ≡ concat pieces ++ last
concat_last pieces last = concat-append pieces (last ∷ []) ∙ ap (λ (l : List ℕ). concat pieces ++ l) (concat_one last)

length-take-most : (n : ℕ) (xs : List ℕ) → length (take n xs) ≤ n
length-take-most n xs = first_of (omega (arith, length-take n xs), grind (arith, length-take n xs))

module _ (a : HashAlgorithm) (digest : List ℕ → List ℕ) (whole : DigestsTheWhole a digest) (key : List ℕ) (small : length key < 2 ^ 64) where
  abbrev all : List (List ℕ) → List ℕ
  all pieces = fold (state_after a) (replicate (state_size a) 0) pieces

  abbrev next : List ℕ → List ℕ → List ℕ
  next state piece = hmac_state_after a key state piece

  abbrev block : List ℕ
  block = key_block digest (block_size a) key

  -- the key of a block's length is the standard's
  block_same : key_block (digest_of_whole a) (block_size a) key ≡ block
  block_same =
      let bound : length (concat (key ∷ [])) < 2 ^ 64 = omega (arith, small, ap (λ (xs : List ℕ). length xs) (concat_one key)) in
      let same : digest_of_whole a key ≡ digest key = whole.digested (key ∷ []) bound ∙ ap digest (concat_one key) in
      ap (λ (d : List ℕ). if nat_lt (block_size a) (length key) then d ++ replicate (block_size a - length d) 0 else key ++ replicate (block_size a - length key) 0) same

  keyed_same : (pad : ℕ) → keyed_state a key pad ≡ all (marked block pad (block_size a) ∷ [])
  keyed_same pad = ap (λ (b : List ℕ). all (marked b pad (block_size a) ∷ [])) block_same

  marked_long : (pad : ℕ) → length (marked block pad (block_size a)) ≡ block_size a
  marked_long pad = length-listed (λ (i : ℕ). bit_xor (slice_index block i) pad) (block_size a)

  -- a state to which something came goes on as the inner digest does
  goes_on : (pieces taken : List (List ℕ)) → 1 ≤ length (concat taken) → length (concat (taken ++ pieces)) < 2 ^ 64
      → fold next (all taken) pieces ≡ all (taken ++ pieces)
  goes_on [] taken some fits = ap all (sym (append-nil taken))
  goes_on (p ∷ ps) taken some fits =
      let together : length (concat (taken ++ p ∷ ps)) ≡ length (concat taken) + length (concat (p ∷ ps)) =
      ap (λ (xs : List ℕ). length xs) (concat-append taken (p ∷ ps)) ∙ length-append (concat taken) (concat (p ∷ ps)) in
      let long : length_in (form_of a) (all taken) ≡ length (concat taken) = whole.long taken (omega (arith, fits, together)) in
      let kept : inner_state a key (all taken) ≡ all taken =
      some_chosen (length_in (form_of a) (all taken)) (keyed_state a key 0x36) (all taken) (omega (arith, long, some)) in
      let once : next (all taken) p ≡ all (taken ++ p ∷ []) =
      ap (λ (s : List ℕ). state_after a s p) kept ∙ sym (fold-append (state_after a) (replicate (state_size a) 0) taken (p ∷ [])) in
      let more : length (concat (taken ++ p ∷ [])) ≡ length (concat taken) + length p =
      ap (λ (xs : List ℕ). length xs) (concat_last taken p) ∙ length-append (concat taken) p in
      let same : (taken ++ p ∷ []) ++ ps ≡ taken ++ p ∷ ps = append_assoc taken (p ∷ []) ps in
      let bound : length (concat ((taken ++ p ∷ []) ++ ps)) < 2 ^ 64 = omega (arith, fits, ap (λ (xs : List (List ℕ)). length (concat xs)) same) in
      ap (λ (s : List ℕ). fold next s ps) once ∙ goes_on ps (taken ++ p ∷ []) (omega (arith, more, some)) bound ∙ ap all same

  abbrev inner : List ℕ
  inner = marked block 0x36 (block_size a)

  -- the first piece comes after the marked key
  begun : (p : List ℕ) (ps : List (List ℕ)) → block_size a + length (concat (p ∷ ps)) < 2 ^ 64
      → fold next (replicate (state_size a) 0) (p ∷ ps) ≡ all (inner ∷ p ∷ ps)
  begun p ps fits =
      let nothing : length_in (form_of a) (replicate (state_size a) 0) ≡ 0 = whole.long [] (omega arith) in
      let first : inner_state a key (replicate (state_size a) 0) ≡ all (inner ∷ []) =
      none_chosen (length_in (form_of a) (replicate (state_size a) 0)) (keyed_state a key 0x36) (replicate (state_size a) 0) nothing ∙ keyed_same 0x36 in
      let two : length (concat (inner ∷ p ∷ [])) ≡ block_size a + length p =
      ap (λ (xs : List ℕ). length xs) (concat_two inner p) ∙ length-append inner p ∙ ap (λ (n : ℕ). n + length p) (marked_long 0x36) in
      let long : length (concat (inner ∷ p ∷ ps)) ≡ block_size a + length (concat (p ∷ ps)) =
      length-append inner (concat (p ∷ ps)) ∙ ap (λ (n : ℕ). n + length (concat (p ∷ ps))) (marked_long 0x36) in
      ap (λ (s : List ℕ). fold next (state_after a s p) ps) first
      ∙ goes_on ps (inner ∷ p ∷ []) (omega (arith, two, block_some a)) (omega (arith, long, fits))

  ended : (pieces : List (List ℕ)) (last : List ℕ) → block_size a + length (concat (pieces ++ last ∷ [])) < 2 ^ 64
      → fold next (replicate (state_size a) 0) (pieces ++ last ∷ []) ≡ all (inner ∷ pieces ++ last ∷ [])
  ended [] last fits = begun last [] fits
  ended (p ∷ ps) last fits = begun p (ps ++ last ∷ []) fits

  pub code_of_pieces : (last : List ℕ) (pieces : List (List ℕ)) → block_size a + length (concat pieces ++ last) < 2 ^ 64
      → hmac_of_state a key (fold next (replicate (state_size a) 0) pieces) last ≡ hmac digest (block_size a) key (concat pieces ++ last)
  code_of_pieces last pieces fits =
      let m : List ℕ = concat pieces ++ last in
      let outer : List ℕ = marked block 0x5c (block_size a) in
      let joined : concat (inner ∷ pieces ++ last ∷ []) ≡ inner ++ m = ap (λ (l : List ℕ). inner ++ l) (concat_last pieces last) in
      let long : length (concat (pieces ++ last ∷ [])) ≡ length m = ap (λ (xs : List ℕ). length xs) (concat_last pieces last) in
      let long_all : length (concat (inner ∷ pieces ++ last ∷ [])) ≡ block_size a + length m =
      ap (λ (xs : List ℕ). length xs) joined ∙ length-append inner m ∙ ap (λ (n : ℕ). n + length m) (marked_long 0x36) in
      let state : hmac_state_after a key (fold next (replicate (state_size a) 0) pieces) last ≡ all (inner ∷ pieces ++ last ∷ []) =
      sym (fold-append next (replicate (state_size a) 0) pieces (last ∷ [])) ∙ ended pieces last (omega (arith, long, fits)) in
      let made : digest_of_state a (hmac_state_after a key (fold next (replicate (state_size a) 0) pieces) last) ≡ digest (inner ++ m) =
      ap (digest_of_state a) state ∙ whole.digested (inner ∷ pieces ++ last ∷ []) (omega (arith, long_all, fits)) ∙ ap digest joined in
      let d : List ℕ = digest_of_state a (hmac_state_after a key (fold next (replicate (state_size a) 0) pieces) last) in
      let few : length d ≤ digest_size a =
      length-take-most (digest_size a)
      ((form_of a).bytes (last_hash (form_of a) (initial_of a) (hmac_state_after a key (fold next (replicate (state_size a) 0) pieces) last))) in
      let two : length (concat (outer ∷ d ∷ [])) ≡ block_size a + length d =
      ap (λ (xs : List ℕ). length xs) (concat_two outer d) ∙ length-append outer d ∙ ap (λ (n : ℕ). n + length d) (marked_long 0x5c) in
      ap (λ (s : List ℕ). digest_of_state a (state_after a s d)) (keyed_same 0x5c)
      ∙ whole.digested (outer ∷ d ∷ []) (omega (arith, two, few, digest_fits a, block_few a))
      ∙ ap digest (concat_two outer d) ∙ ap (λ (x : List ℕ). digest (outer ++ x)) made

pub hmac_of_the_whole : HmacIsOfTheWhole
hmac_of_the_whole a digest whole key last pieces small fits = code_of_pieces a digest whole key small last pieces fits
