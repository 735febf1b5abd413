-- The lines of a sweep, by their places.
use Rattle.std.proofs.Common.{arith, ◌≡◌, ◌∙◌, ℕ, zero, suc, ◌+◌, ◌<◌, ◌≤◌, Bool, true, false, List, [], ◌∷◌, ◌++◌, length, get_or, replicate, append_assoc, ap, sym, refl, subst, codes, Some, None}
use Rattle.std.specs.Prelude.{map, slice_get}
use Rattle.std.specs.List.{All}
use Rattle.std.proofs.lemmas.List.{get_or-replicate, length-append, length-map, length-replicate}
use Rattle.std.proofs.lemmas.List.Elements.{All-head, All-tail}
use Rattle.jcard_outcomes.specs.Join.{AreTold, IsUncutTold}
use Rattle.jcard_outcomes.specs.Part.{IsCutOfWords, cut_tail, is_one_way, told_cut, told_left, told_sweep}
use Rattle.jcard_outcomes.specs.Report.{in_line, standing_text}
use Rattle.jcard_outcomes.specs.declared.standing.Cut.{Cut}
use Rattle.jcard_outcomes.proofs.RecoveryReports.{all_told, nothing_told}
use Rattle.jcard_outcomes.proofs.CutReports.{told_parts}
use Rattle.jcard_outcomes.specs.declared.standing.Standing.{Standing}
use Rattle.jcard_outcomes.specs.declared.standing.Standing.TheVariants.{Before, BeforeButTries, After, AfterButTries, Answers, Changed, ChangedByCalls}

pub cut_at : (whole : List Cut) (a b : ℕ) → a ≡ b → slice_get whole a ≡ slice_get whole b
cut_at whole a b e = ap (slice_get whole) e

pub there : (whole : List Cut) (m : ℕ) → m < length whole → slice_get whole m ≡ None → ⊥
there [] m h e = absurd (omega arith)
there (c ∷ whole) zero h e = absurd cc
there (c ∷ whole) (suc m) h e = there whole m (omega arith) e

pub get_past : (whole : List Cut) (m : ℕ) → length whole ≤ m → slice_get whole m ≡ None
get_past [] m h = refl
get_past (c ∷ whole) zero h = absurd (omega arith)
get_past (c ∷ whole) (suc m) h = get_past whole m (omega arith)

pub line_of_cut : (whole : List Cut) (rest : List (List ℕ)) (m : ℕ) (c : Cut) → slice_get whole m ≡ Some c → get_or (map told_cut whole ++ rest) m [] ≡ told_cut c
line_of_cut [] rest m c e = absurd cc
line_of_cut (d ∷ whole) rest zero c e = let same : d ≡ c = cc in ap told_cut same
line_of_cut (d ∷ whole) rest (suc m) c e = line_of_cut whole rest m c e

pub line_of_uncut : (whole : List Cut) (u : List ℕ) (n m : ℕ) → length whole ≤ m → m < length whole + n → get_or (map told_cut whole ++ replicate n u) m [] ≡ u
line_of_uncut [] u n m h small = get_or-replicate n m u [] (omega arith)
line_of_uncut (d ∷ whole) u n zero h small = absurd (omega arith)
line_of_uncut (d ∷ whole) u n (suc m) h small = line_of_uncut whole u n m (omega arith) (omega arith)

pub total : (whole : List Cut) (u : List ℕ) (n : ℕ) → length (told_sweep n whole u) ≡ length whole + n
total whole u n = length-append (map told_cut whole) (replicate n u) ∙ ap (λ k. k + length (replicate n u)) (length-map whole told_cut)
    ∙ ap (λ k. length whole + k) (length-replicate n u)

-- ---- what a line says

got : (cuts : List Cut) (i : ℕ) → i < length cuts → (c : Cut) × (slice_get cuts i ≡ Some c)
got [] i h = absurd (omega arith)
got (c ∷ cuts) zero h = (c, refl)
got (c ∷ cuts) (suc i) h = got cuts i (omega arith)

got_words : (cuts : List Cut) (i : ℕ) (c : Cut) → slice_get cuts i ≡ Some c → All IsCutOfWords cuts → IsCutOfWords c
got_words [] i c e w = absurd cc
got_words (d ∷ cuts) zero c e w = let same : d ≡ c = cc in subst IsCutOfWords same (All-head IsCutOfWords d cuts w)
got_words (d ∷ cuts) (suc i) c e w = got_words cuts i c e (All-tail IsCutOfWords d cuts w)

-- a line of a cut reports one
pub cut_line : (cuts : List Cut) (u : List ℕ) (n : ℕ) (lines : List (List ℕ)) (i : ℕ) → AreTold cuts u n lines → i < length cuts
    → (c : Cut) × (get_or lines i [] ≡ told_cut c) × IsCutOfWords c
cut_line cuts u n lines i t h =
    let found = got cuts i h in (
      found.0,
      ap (λ l. get_or l i []) t.1 ∙ line_of_cut cuts (replicate n u) i found.0 found.1,
      got_words cuts i found.0 found.1 t.3,
    )

-- a line after them reports a number that does not cut
pub end_line : (cuts : List Cut) (u : List ℕ) (n : ℕ) (lines : List (List ℕ)) (i : ℕ) → AreTold cuts u n lines → length cuts ≤ i → i < length lines
    → IsUncutTold (get_or lines i [])
end_line cuts u n lines i t h small =
    let all : length lines ≡ length cuts + n = ap length t.1 ∙ total cuts u n in
    let it : get_or lines i [] ≡ u = ap (λ l. get_or l i []) t.1 ∙ line_of_uncut cuts u n i h (omega (arith, small, all)) in
    subst IsUncutTold (sym it) t.2

first_byte : (s : Standing) (rest : List ℕ) → get_or (standing_text s ++ rest) 0 0 ≡ 110 → ⊥
first_byte Before rest e = absurd (omega (arith, e))
first_byte BeforeButTries rest e = absurd (omega (arith, e))
first_byte After rest e = absurd (omega (arith, e))
first_byte AfterButTries rest e = absurd (omega (arith, e))
first_byte Answers rest e = absurd (omega (arith, e))
first_byte (Changed d) rest e = absurd (omega (arith, e))
first_byte (ChangedByCalls d) rest e = absurd (omega (arith, e))

-- no cut is reported so
pub cut_is_no_end : (c : Cut) → IsUncutTold (told_cut c) → ⊥
cut_is_no_end c h = by (is_one_way c.recoveries) refl
  where
    by : (b : Bool) → is_one_way c.recoveries ≡ b → ⊥
    by true y = first_byte c.standing (44 ∷ cut_tail c.lost (in_line c.answers.items))
        (ap (λ l. get_or l 0 0) (sym (told_parts c) ∙ sym (nothing_told c.recoveries (told_left c) y) ∙ h.1))
    by false n = absurd (omega (arith, ap (λ l. get_or l 0 0) (sym (all_told c.recoveries (told_left c) n) ∙ h.1)))
