-- The place of the next word of the schedule, and the word that is put there.
use Rattle.std.proofs.Common.{◌≡◌, ◌∙◌, ℕ, ◌+◌, ◌-◌, ◌*◌, ◌/◌, ◌%◌, ◌<◌, ◌≤◌, List, [], ◌∷◌, ◌++◌, length, take, slice_index, ap, sym, append_assoc, arith, refl}
use Rattle.std.proofs.Math.ListN.{set}
use Rattle.std.proofs.lemmas.List.{get_or-append_right, length-set}
use Rattle.std.proofs.lemmas.List.FromFn.{fill_by_all}
use Rattle.jc_ciphers.specs.Aes.{word_before, word_of}
use Rattle.std.proofs.lemmas.Grind.{take-set_at}
use Rattle.std.proofs.lemmas.Nat.{div-add-mod', div-mul-add, mod-mul-add}

pub turn_goes_on : (i k : ℕ) → i % k + 1 < k → (i / k ≡ (i + 1) / k) × (i % k + 1 ≡ (i + 1) % k)
turn_goes_on i k within =
    let split : i / k * k + (i % k + 1) ≡ i + 1 = omega (arith, div-add-mod' i k) in
    (sym (div-mul-add (i / k) k (i % k + 1) within) ∙ ap (λ (n : ℕ). n / k) split, sym (mod-mul-add (i / k) k (i % k + 1) within) ∙ ap (λ (n : ℕ). n % k) split)

pub turn_ends : (i k : ℕ) → 1 ≤ k → i % k + 1 ≡ k → (i / k + 1 ≡ (i + 1) / k) × (0 ≡ (i + 1) % k)
turn_ends i k some last =
    let split : (i / k + 1) * k + 0 ≡ i + 1 = grind (arith, div-add-mod' i k, last) in
    (sym (div-mul-add (i / k + 1) k 0 some) ∙ ap (λ (n : ℕ). n / k) split, sym (mod-mul-add (i / k + 1) k 0 some) ∙ ap (λ (n : ℕ). n % k) split)

pub four_put : (xs : List ℕ) (n a b c d : ℕ) → n + 4 ≤ length xs
    → take (n + 4) (set (set (set (set xs n a) (n + 1) b) (n + 2) c) (n + 3) d) ≡ take n xs ++ (a ∷ b ∷ c ∷ d ∷ [])
four_put xs n a b c d room =
    let one = set xs n a in
    let two = set one (n + 1) b in
    let three = set two (n + 2) c in
    let long-1 : length one ≡ length xs = length-set xs n a in
    let long-2 : length two ≡ length one = length-set one (n + 1) b in
    let long-3 : length three ≡ length two = length-set two (n + 2) c in
    take-set_at three (n + 3) (n + 4) d (omega arith) (omega arith)
    ∙ ap (λ (t : List ℕ). t ++ (d ∷ [])) (take-set_at two (n + 2) (n + 3) c (omega arith) (omega arith)
    ∙ ap (λ (t : List ℕ). t ++ (c ∷ [])) (take-set_at one (n + 1) (n + 2) b (omega arith) (omega arith)
    ∙ ap (λ (t : List ℕ). t ++ (b ∷ [])) (take-set_at xs n (n + 1) a (omega arith) (omega arith))))
    ∙ simp append_assoc

-- the last word, after which the next one comes
pub word_put : (xs word : List ℕ) (i : ℕ) → length xs ≡ 4 * i → length word ≡ 4 → word ≡ word_before (xs ++ word) (i + 1)
word_put xs word i long four =
    let all : word ≡ word_of (slice_index word) = fill_by_all (slice_index word) word 4 0 four (λ k low. refl) in
    let at : (j : ℕ) → slice_index word j ≡ slice_index (xs ++ word) (4 * i + j) =
    λ j. (let rest : 4 * i + j - 4 * i ≡ j = omega arith in
    sym (get_or-append_right xs word (4 * i) (4 * i + j) 0 long (omega arith) ∙ ap (slice_index word) rest)) in
    all ∙ (λ k. word_of (λ j. at j k)) ∙ (let before : i ≡ i + 1 - 1 = omega arith in ap (λ (n : ℕ). word_of (λ j. slice_index (xs ++ word) (4 * n + j))) before)
