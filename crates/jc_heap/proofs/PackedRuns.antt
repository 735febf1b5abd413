-- Runs of packed bytes: what the first word, the bytes of those between and the last word say.
use Rattle.std.proofs.Common.{◌≡◌, ℕ, suc, ◌+◌, ◌-◌, ◌*◌, ◌<◌, ◌≤◌, List, length, get_or, drop}
use Rattle.std.proofs.Common.{refl, sym, ◌∙◌, ap, arith, Option, Some, None}
use Rattle.std.proofs.lemmas.List.{get_or-drop, length-drop, get_or_append_left}
use Rattle.jc_commit.specs.Runs.{run_words}
use Rattle.jc_commit.proofs.WordRuns.{viewed_length, run_words-at}
use Rattle.jc_heap.specs.Packed.{packed_words}
use Rattle.jc_heap.specs.Elements.{byte_or_none, bytes_with, AreSaidBy}
use Rattle.jc_heap.proofs.Runs.{length-double}
use Rattle.jc_heap.proofs.Packing.{packed_words-word}

-- the bytes of a run's words after the first one
abbrev pub behind_first : Option ℕ → List ℕ → List ℕ
behind_first before bs = drop (2 - length (byte_or_none before)) bs

middle_byte : (before behind : Option ℕ) (bs : List ℕ) (j : ℕ) → j < length (behind_first before bs)
    → get_or (bytes_with before bs behind) (2 + j) 0 ≡ get_or (behind_first before bs) j 0
middle_byte None behind bs j h =
    let within : 2 + j < length bs = omega (arith, h, length-drop 2 bs) in
    get_or_append_left bs (byte_or_none behind) 0 (2 + j) within ∙ sym (get_or-drop 2 bs j 0)
middle_byte (Some b) behind bs j h =
    let within : 1 + j < length bs = omega (arith, h, length-drop 1 bs) in
    let next : 2 + j ≡ suc (1 + j) = omega arith in
    ap (λ (i : ℕ). get_or (bytes_with (Some b) bs behind) i 0) next ∙ get_or_append_left bs (byte_or_none behind) 0 (1 + j) within ∙ sym (get_or-drop 1 bs j 0)

middle_word : (before behind : Option ℕ) (bs : List ℕ) (m : ℕ) → 2 * m + 1 < length (behind_first before bs)
    → get_or (packed_words (bytes_with before bs behind)) (suc m) 0
    ≡ 256 * get_or (behind_first before bs) (2 * m) 0 + get_or (behind_first before bs) (2 * m + 1) 0
middle_word before behind bs m h =
    let all = bytes_with before bs behind in
    let high : get_or all (2 * suc m) 0 ≡ get_or (behind_first before bs) (2 * m) 0 =
    ap (λ (i : ℕ). get_or all i 0) (omega arith) ∙ middle_byte before behind bs (2 * m) (omega (arith, h)) in
    let low : get_or all (2 * suc m + 1) 0 ≡ get_or (behind_first before bs) (2 * m + 1) 0 =
    ap (λ (i : ℕ). get_or all i 0) (omega arith) ∙ middle_byte before behind bs (2 * m + 1) h in
    omega (arith, packed_words-word all (suc m), high, low)

-- the bytes between are as many as the words between hold
middle_long : (before behind : Option ℕ) (bs : List ℕ) (n : ℕ) → n ≡ length (packed_words (bytes_with before bs behind))
    → 2 * (n - 2) ≤ length (behind_first before bs)
middle_long None None bs n long = omega (arith, long, length-drop 2 bs, length-double None bs None _ refl)
middle_long None (Some c) bs n long = omega (arith, long, length-drop 2 bs, length-double None bs (Some c) _ refl)
middle_long (Some b) None bs n long = omega (arith, long, length-drop 1 bs, length-double (Some b) bs None _ refl)
middle_long (Some b) (Some c) bs n long = omega (arith, long, length-drop 1 bs, length-double (Some b) bs (Some c) _ refl)

-- a run's words are as its first one, the bytes of those between, and its last one say
pub said : (at : ℕ) (before behind : Option ℕ) (bs : List ℕ) (words : List (ℕ × ℕ)) (first last : ℕ × ℕ) (n : ℕ)
    → run_words at (packed_words (bytes_with before bs behind)) ≡ words → n ≡ length words → at + length (packed_words (bytes_with before bs behind)) ≤ 65536
    → first ≡ get_or words 0 (0, 0) → last ≡ get_or words (n - 1) (0, 0) → AreSaidBy first.1 (behind_first before bs) last.1 words
said at before behind bs words first last n is count few begins ends =
    let ws = packed_words (bytes_with before bs behind) in
    let middle = behind_first before bs in
    let long : length words ≡ length ws = viewed_length at ws words is in
    let each : (k : ℕ) → k < length words → (get_or words k (0, 0)).1 ≡ get_or ws k 0 =
    λ k h. ap (λ (w : ℕ × ℕ). w.1) (ap (λ (l : List (ℕ × ℕ)). get_or l k (0, 0)) (sym is) ∙ run_words-at at ws k (omega (arith, h, long))) in
    let enough : 2 * (length words - 2) ≤ length middle = middle_long before behind bs (length words) long in
    record {
      few = omega (arith, long, few);
      first_word = λ _. ap (λ (w : ℕ × ℕ). w.1) (sym begins);
      bytes = enough;
      middle_words = λ k some h.
          let next : k ≡ suc (k - 1) = omega (arith, some) in
          each k (omega (arith, h)) ∙ ap (λ (m : ℕ). get_or ws m 0) next
          ∙ middle_word before behind bs (k - 1) (omega (arith, some, h, enough));
      last_word = λ k h.
          let there : n - 1 ≡ k = omega (arith, h, count) in
          ap (λ (w : ℕ × ℕ). w.1) (ap (λ (m : ℕ). get_or words m (0, 0)) (sym there) ∙ sym ends);
    }
