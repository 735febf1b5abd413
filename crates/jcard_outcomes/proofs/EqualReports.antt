-- Sweeps that are reported in the same lines have the same report.
use Rattle.std.proofs.Common.{arith, ◌≡◌, ◌∙◌, inl, ℕ, suc, zero, ◌+◌, ◌-◌, ◌==◌, ◌<◌, ◌||◌, ◌&&◌, false, List, [], ◌∷◌, ◌++◌, if◌then◌else◌, length, get_or, drop, replicate, ap, sym, refl, subst, codes, append_assoc, Some, None, Option}
use Rattle.std.specs.Prelude.{decimal, is_none, map, max, min}
use Rattle.std.proofs.lemmas.Fmt.{decimal_injective}
use Rattle.std.specs.List.{All}
use Rattle.std.specs.Str.{bytes_eq}
use Rattle.std.proofs.lemmas.List.{append_cancel_left, length-drop, length-map, length-replicate}
use Rattle.std.proofs.lemmas.List.Elements.{All-cons, All-head, All-nil, All-tail}
use Rattle.jcard_outcomes.specs.Join.{IsAnswerTold, IsTellable, IsUncutTold, TellCuts, joined_text}
use Rattle.jcard_outcomes.specs.Part.{IsCutOfWords, IsOfWords, IsReadCut, cut_tail, has, told_cut, told_left, told_sweep, told_uncut}
use Rattle.jcard_outcomes.specs.Report.{any_but_tries, are_whole, broken_by_calls, broken_text, count_before, first_broken, in_line, is_after, is_before, is_but_tries, is_by_calls, is_refused, is_refused_at_once, lost_text, most_lost_from, no_write_text, outcome_text, report_text, row_text, rows_from, rows_text, standing_text, uncut_text, verdict_by, verdict_text, whole_text}
use Rattle.jcard_outcomes.specs.Recoveries.{difference_or, first_difference, recoveries_by, recoveries_text, same_text, ways_from}
use Rattle.jcard_outcomes.specs.declared.recoveries.Depth.{Depth}
use Rattle.jcard_outcomes.specs.declared.recoveries.Depth.TheVariants.{Zero, One, Two, Three}
use Rattle.jcard_outcomes.specs.declared.recoveries.Recoveries.{Recoveries}
use Rattle.jcard_outcomes.specs.declared.report.Sweep.{Sweep}
use Rattle.jcard_outcomes.specs.declared.standing.Cut.{Cut}
use Rattle.jcard_outcomes.specs.declared.standing.Standing.{Standing}
use Rattle.jcard_outcomes.specs.declared.standing.Standing.TheVariants.{Before, BeforeButTries, After, AfterButTries, Answers, Changed, ChangedByCalls}
use Rattle.jcard_outcomes.proofs.LineOrder.{from_next}
use Rattle.jcard_outcomes.proofs.RecoveryReports.{left_unrecovered, told_once}
use Rattle.jcard_outcomes.proofs.Splits.{cut_unique, decimal_lacks}
use Rattle.jcard_outcomes.proofs.CutReports.{answer_of_uncut, answer_unique, by_calls_told, standing_has_no_comma, told_parts}

-- ---- one cut

-- what a standing is, by how it is reported
before_told : (s : Standing) → is_before s ≡ (bytes_eq (standing_text s) (codes "as before") || bytes_eq (standing_text s) (codes "as before but for PIN tries"))
before_told Before = refl
before_told BeforeButTries = refl
before_told After = refl
before_told AfterButTries = refl
before_told Answers = refl
before_told (Changed d) = refl
before_told (ChangedByCalls d) = refl

after_told : (s : Standing) → is_after s ≡ (bytes_eq (standing_text s) (codes "as after") || bytes_eq (standing_text s) (codes "as after but for PIN tries"))
after_told Before = refl
after_told BeforeButTries = refl
after_told After = refl
after_told AfterButTries = refl
after_told Answers = refl
after_told (Changed d) = refl
after_told (ChangedByCalls d) = refl

tries_told : (s : Standing) → is_but_tries s
    ≡ (bytes_eq (standing_text s) (codes "as before but for PIN tries") || bytes_eq (standing_text s) (codes "as after but for PIN tries"))
tries_told Before = refl
tries_told BeforeButTries = refl
tries_told After = refl
tries_told AfterButTries = refl
tries_told Answers = refl
tries_told (Changed d) = refl
tries_told (ChangedByCalls d) = refl

before_alike : (a b : Standing) → standing_text a ≡ standing_text b → is_before a ≡ is_before b
before_alike a b e = before_told a
    ∙ ap (λ t. bytes_eq t (codes "as before") || bytes_eq t (codes "as before but for PIN tries")) e ∙ sym (before_told b)

after_alike : (a b : Standing) → standing_text a ≡ standing_text b → is_after a ≡ is_after b
after_alike a b e = after_told a ∙ ap (λ t. bytes_eq t (codes "as after") || bytes_eq t (codes "as after but for PIN tries")) e ∙ sym (after_told b)

tries_alike : (a b : Standing) → standing_text a ≡ standing_text b → is_but_tries a ≡ is_but_tries b
tries_alike a b e = tries_told a
    ∙ ap (λ t. bytes_eq t (codes "as before but for PIN tries") || bytes_eq t (codes "as after but for PIN tries")) e ∙ sym (tries_told b)

calls_alike : (a b : Standing) → standing_text a ≡ standing_text b → IsOfWords a → IsOfWords b → is_by_calls a ≡ is_by_calls b
calls_alike a b e p q = sym (by_calls_told a p) ∙ ap (has 45) e ∙ by_calls_told b q

-- two cuts leave the same
record Alike (a b : Cut) : Type 0 where
  standing : standing_text a.standing ≡ standing_text b.standing
  lost : a.lost ≡ b.lost
  by_calls : is_by_calls a.standing ≡ is_by_calls b.standing
  outcome : outcome_text a ≡ outcome_text b
  recoveries : a.recoveries ≡ b.recoveries

tails_alike : (m n : ℕ) (x y : List ℕ) → m < 65536 → n < 65536 → cut_tail m x ≡ cut_tail n y → (m ≡ n) × (x ≡ y)
tails_alike m n x y small fits e =
    let parts = cut_unique 32 (decimal m) (decimal n) (codes "words lost, answers " ++ x) (codes "words lost, answers " ++ y)
    (decimal_lacks 32 m (inl (omega arith)) (omega (arith, small))) (decimal_lacks 32 n (inl (omega arith)) (omega (arith, fits)))
    (append_cancel_left (codes " ") (decimal m ++ 32 ∷ (codes "words lost, answers " ++ x)) (decimal n ++ 32 ∷ (codes "words lost, answers " ++ y)) e) in (
      decimal_injective m n (omega (arith, small)) (omega (arith, fits)) parts.0,
      append_cancel_left (codes "words lost, answers ") x y parts.1,
    )

alike : (a b : Cut) → told_cut a ≡ told_cut b → IsReadCut a → IsReadCut b → Alike a b
unfolding outcome_text
alike a b e p q =
    let once = told_once a.recoveries b.recoveries (told_left a) (told_left b) p.1.1 q.1.1 (left_unrecovered a) (left_unrecovered b) e in
    let parts = cut_unique 44 (standing_text a.standing) (standing_text b.standing) (cut_tail a.lost (in_line a.answers.items))
    (cut_tail b.lost (in_line b.answers.items)) p.0 q.0 (sym (told_parts a) ∙ once.1 ∙ told_parts b) in
    let tails = tails_alike a.lost b.lost (in_line a.answers.items) (in_line b.answers.items) p.1.0.1 q.1.0.1 parts.1 in
    record {
      standing = parts.0;
      lost = tails.0;
      by_calls = calls_alike a.standing b.standing parts.0 p.1.0.0 q.1.0.0;
      outcome = ap (λ l. l ++ standing_text a.standing ++ lost_text a.lost) tails.1
          ∙ ap (λ l. in_line b.answers.items ++ l ++ lost_text a.lost) parts.0
          ∙ ap (λ n. in_line b.answers.items ++ standing_text b.standing ++ lost_text n) tails.0;
      recoveries = once.0;
    }

-- ---- all cuts

abbrev AreAlike : List Cut → List Cut → Type 0
AreAlike [] [] = Unit {0}
AreAlike (c ∷ cs) (d ∷ ds) = Alike c d × AreAlike cs ds
AreAlike cs ds = ⊥

all_alike : (cs ds : List Cut) → All IsReadCut cs → All IsReadCut ds
    → map told_cut cs ≡ map told_cut ds → AreAlike cs ds
all_alike [] [] p q e = tt
all_alike [] (d ∷ ds) p q e = let h : [] ≡ told_cut d ∷ map told_cut ds = e in absurd cc
all_alike (c ∷ cs) [] p q e = let h : told_cut c ∷ map told_cut cs ≡ [] = e in absurd cc
all_alike (c ∷ cs) (d ∷ ds) p q e =
    let whole : told_cut c ∷ map told_cut cs ≡ told_cut d ∷ map told_cut ds = e in
    let head : told_cut c ≡ told_cut d = cc in
    let tail : map told_cut cs ≡ map told_cut ds = cc in (
      alike c d head (All-head IsReadCut c cs p) (All-head IsReadCut d ds q),
      all_alike cs ds (All-tail IsReadCut c cs p) (All-tail IsReadCut d ds q) tail,
    )

rows_alike : (cs ds : List Cut) → AreAlike cs ds → (first last : ℕ) (o : List ℕ) → rows_from first last o cs ≡ rows_from first last o ds
unfolding rows_from
rows_alike [] [] h first last o = refl
rows_alike [] (d ∷ ds) h first last o = absurd h
rows_alike (c ∷ cs) [] h first last o = absurd h
rows_alike (c ∷ cs) (d ∷ ds) h first last o =
    ap (λ x. if bytes_eq o x then rows_from first (last + 1) o cs else row_text first last o ++ rows_from (last + 1) (last + 1) x cs) h.0.outcome
    ∙ ap (λ r. if bytes_eq o (outcome_text d) then r else row_text first last o ++ rows_from (last + 1) (last + 1) (outcome_text d) cs)
    (rows_alike cs ds h.1 first (last + 1) o)
    ∙ ap (λ r. if bytes_eq o (outcome_text d) then rows_from first (last + 1) o ds else row_text first last o ++ r)
    (rows_alike cs ds h.1 (last + 1) (last + 1) (outcome_text d))

all_rows_alike : (cs ds : List Cut) → AreAlike cs ds → rows_text cs ≡ rows_text ds
all_rows_alike [] [] h = refl
all_rows_alike [] (d ∷ ds) h = absurd h
all_rows_alike (c ∷ cs) [] h = absurd h
all_rows_alike (c ∷ cs) (d ∷ ds) h = ap (λ o. rows_from 0 0 o cs) h.0.outcome ∙ rows_alike cs ds h.1 0 0 (outcome_text d)

counts_alike : (cs ds : List Cut) → AreAlike cs ds → count_before cs ≡ count_before ds
unfolding count_before
counts_alike [] [] h = refl
counts_alike [] (d ∷ ds) h = absurd h
counts_alike (c ∷ cs) [] h = absurd h
counts_alike (c ∷ cs) (d ∷ ds) h =
    ap (λ x. if x then count_before cs + 1 else count_before cs) (before_alike c.standing d.standing h.0.standing)
    ∙ ap (λ n. if is_before d.standing then n + 1 else n) (counts_alike cs ds h.1)

any_alike : (cs ds : List Cut) → AreAlike cs ds → any_but_tries cs ≡ any_but_tries ds
unfolding any_but_tries
any_alike [] [] h = refl
any_alike [] (d ∷ ds) h = absurd h
any_alike (c ∷ cs) [] h = absurd h
any_alike (c ∷ cs) (d ∷ ds) h = ap (λ x. x || any_but_tries cs) (tries_alike c.standing d.standing h.0.standing)
    ∙ ap (λ r. is_but_tries d.standing || r) (any_alike cs ds h.1)

broken_alike : (cs ds : List Cut) → AreAlike cs ds → (k : ℕ) → first_broken k cs ≡ first_broken k ds
unfolding first_broken
broken_alike [] [] h k = refl
broken_alike [] (d ∷ ds) h k = absurd h
broken_alike (c ∷ cs) [] h k = absurd h
broken_alike (c ∷ cs) (d ∷ ds) h k =
    ap (λ x. if x || is_after c.standing then first_broken (k + 1) cs else Some k) (before_alike c.standing d.standing h.0.standing)
    ∙ ap (λ x. if is_before d.standing || x then first_broken (k + 1) cs else Some k) (after_alike c.standing d.standing h.0.standing)
    ∙ ap (λ r. if is_before d.standing || is_after d.standing then r else Some k) (broken_alike cs ds h.1 (k + 1))

broken_calls_alike : (cs ds : List Cut) → AreAlike cs ds → broken_by_calls cs ≡ broken_by_calls ds
unfolding broken_by_calls
broken_calls_alike [] [] h = refl
broken_calls_alike [] (d ∷ ds) h = absurd h
broken_calls_alike (c ∷ cs) [] h = absurd h
broken_calls_alike (c ∷ cs) (d ∷ ds) h =
    ap (λ x. if x || is_after c.standing then broken_by_calls cs else is_by_calls c.standing) (before_alike c.standing d.standing h.0.standing)
    ∙ ap (λ x. if is_before d.standing || x then broken_by_calls cs else is_by_calls c.standing) (after_alike c.standing d.standing h.0.standing)
    ∙ ap (λ r. if is_before d.standing || is_after d.standing then r else is_by_calls c.standing) (broken_calls_alike cs ds h.1)
    ∙ ap (λ r. if is_before d.standing || is_after d.standing then broken_by_calls ds else r) h.0.by_calls

lengths_alike : (cs ds : List Cut) → AreAlike cs ds → length cs ≡ length ds
lengths_alike [] [] h = refl
lengths_alike [] (d ∷ ds) h = absurd h
lengths_alike (c ∷ cs) [] h = absurd h
lengths_alike (c ∷ cs) (d ∷ ds) h = ap suc (lengths_alike cs ds h.1)

most_alike : (cs ds : List Cut) → AreAlike cs ds → (n : ℕ) → most_lost_from n cs ≡ most_lost_from n ds
unfolding most_lost_from
most_alike [] [] h n = refl
most_alike [] (d ∷ ds) h n = absurd h
most_alike (c ∷ cs) [] h n = absurd h
most_alike (c ∷ cs) (d ∷ ds) h n = ap (λ l. most_lost_from (max n l) cs) h.0.lost ∙ most_alike cs ds h.1 (max n d.lost)

differences_alike : (cs ds : List Cut) → AreAlike cs ds → (k : ℕ) → first_difference k cs ≡ first_difference k ds
unfolding first_difference
differences_alike [] [] h k = refl
differences_alike [] (d ∷ ds) h k = absurd h
differences_alike (c ∷ cs) [] h k = absurd h
differences_alike (c ∷ cs) (d ∷ ds) h k = ap (λ (r : Recoveries). difference_or k r.difference (first_difference (k + 1) cs)) h.0.recoveries
    ∙ ap (λ l. difference_or k d.recoveries.difference l) (differences_alike cs ds h.1 (k + 1))

ways_alike : (cs ds : List Cut) → AreAlike cs ds → (n : ℕ) → ways_from n cs ≡ ways_from n ds
unfolding ways_from
ways_alike [] [] h n = refl
ways_alike [] (d ∷ ds) h n = absurd h
ways_alike (c ∷ cs) [] h n = absurd h
ways_alike (c ∷ cs) (d ∷ ds) h n = ap (λ (r : Recoveries). ways_from (min (n + r.ways) 18446744073709551615) cs) h.0.recoveries
    ∙ ways_alike cs ds h.1 (min (n + d.recoveries.ways) 18446744073709551615)

found_alike : (depth : Depth) (f : Option (ℕ × ℕ)) (cs ds : List Cut) → AreAlike cs ds → recoveries_by depth f cs ≡ recoveries_by depth f ds
found_alike depth (Some found) cs ds h = refl
found_alike depth None cs ds h = ap (same_text depth) (ways_alike cs ds h 0)

recoveries_alike : (depth : Depth) (cs ds : List Cut) → AreAlike cs ds → recoveries_text depth cs ≡ recoveries_text depth ds
recoveries_alike Zero cs ds h = refl
recoveries_alike One cs ds h = ap (λ f. recoveries_by One f cs) (differences_alike cs ds h 0) ∙ found_alike One (first_difference 0 ds) cs ds h
recoveries_alike Two cs ds h = ap (λ f. recoveries_by Two f cs) (differences_alike cs ds h 0) ∙ found_alike Two (first_difference 0 ds) cs ds h
recoveries_alike Three cs ds h = ap (λ f. recoveries_by Three f cs) (differences_alike cs ds h 0) ∙ found_alike Three (first_difference 0 ds) cs ds h

wholes_alike : (cs ds : List Cut) → AreAlike cs ds → are_whole cs ≡ are_whole ds
wholes_alike cs ds h = ap (λ f. is_none f && is_none (first_difference 0 cs)) (broken_alike cs ds h 0)
    ∙ ap (λ f. is_none (first_broken 0 ds) && is_none f) (differences_alike cs ds h 0)

verdict_alike : (f : Option ℕ) (cs ds : List Cut) → AreAlike cs ds → verdict_by f cs ≡ verdict_by f ds
verdict_alike (Some k) cs ds h = ap (λ b. broken_text b k) (broken_calls_alike cs ds h)
verdict_alike None cs ds h = ap (λ n. whole_text n (count_before cs) (any_but_tries cs) (most_lost_from 0 cs)) (lengths_alike cs ds h)
    ∙ ap (λ n. whole_text (length ds) n (any_but_tries cs) (most_lost_from 0 cs)) (counts_alike cs ds h)
    ∙ ap (λ t. whole_text (length ds) (count_before ds) t (most_lost_from 0 cs)) (any_alike cs ds h)
    ∙ ap (λ n. whole_text (length ds) (count_before ds) (any_but_tries ds) n) (most_alike cs ds h 0)

all_verdicts_alike : (answer : List ℕ) (cs ds : List Cut) → AreAlike cs ds → verdict_text answer cs ≡ verdict_text answer ds
all_verdicts_alike answer cs ds h =
    ap (λ f. if is_refused_at_once answer cs then no_write_text answer else verdict_by f cs) (broken_alike cs ds h 0)
    ∙ ap (λ v. if is_refused_at_once answer cs then no_write_text answer else v) (verdict_alike (first_broken 0 ds) cs ds h)
    ∙ ap (λ n. if (n == 0) && is_refused answer then no_write_text answer else verdict_by (first_broken 0 ds) ds) (lengths_alike cs ds h)

-- ---- the report

-- the line of the command that is not cut
uncut_line : (answer answers : List ℕ) → told_uncut answer answers ++ codes "\n" ≡ uncut_text answer answers
unfolding told_uncut
uncut_line answer answers = simp append_assoc

report_alike : (depth : Depth) (s : Sweep) (cuts : List Cut) (answer uncut : List ℕ) → AreAlike cuts s.cuts.items → answer ≡ s.answer.items
    → uncut ≡ told_uncut s.answer.items s.after.answers.items → s.depth ≡ depth → joined_text depth cuts answer uncut ≡ report_text s
report_alike depth s cuts answer uncut h f e deep =
    ap (λ r. r ++ uncut ++ codes "\n" ++ verdict_text answer cuts ++ recoveries_text depth cuts) (all_rows_alike cuts s.cuts.items h)
    ∙ ap (λ v. rows_text s.cuts.items ++ uncut ++ codes "\n" ++ v ++ recoveries_text depth cuts) (all_verdicts_alike answer cuts s.cuts.items h)
    ∙ ap (λ a. rows_text s.cuts.items ++ uncut ++ codes "\n" ++ verdict_text a s.cuts.items ++ recoveries_text depth cuts) f
    ∙ ap (λ l. l ++ verdict_text s.answer.items s.cuts.items ++ recoveries_text depth cuts) (append_assoc (rows_text s.cuts.items) uncut (codes "\n")
    ∙ ap (λ u. rows_text s.cuts.items ++ u) (ap (λ u. u ++ codes "\n") e ∙ uncut_line s.answer.items s.after.answers.items))
    ∙ ap (λ r. rows_text s.cuts.items ++ uncut_text s.answer.items s.after.answers.items ++ verdict_text s.answer.items s.cuts.items ++ r)
    (recoveries_alike depth cuts s.cuts.items h ∙ ap (λ d. recoveries_text d s.cuts.items) (sym deep))

-- ---- the lines after the cuts

drop_front : {A : Type 0} (a b : List A) → drop (length a) (a ++ b) ≡ b
drop_front [] b = refl
drop_front (x ∷ a) b = drop_front a b

pub behind_cuts : (cuts : List Cut) (rest : List (List ℕ)) → drop (length cuts) (map told_cut cuts ++ rest) ≡ rest
behind_cuts cuts rest = ap (λ n. drop n (map told_cut cuts ++ rest)) (sym (length-map cuts told_cut)) ∙ drop_front (map told_cut cuts) rest

first_of_all : {A : Type 0} (n : ℕ) (x y : A) → 0 < n → replicate n x ≡ replicate n y → x ≡ y
first_of_all zero x y h e = absurd (omega arith)
first_of_all (suc n) x y h e = let whole : x ∷ replicate n x ≡ y ∷ replicate n y = e in cc

begins_with : {A : Type 0} (n : ℕ) (x : A) (rest : List A) → 0 < n → rest ≡ replicate n x → (more : List A) × (rest ≡ x ∷ more)
begins_with zero x rest h e = absurd (omega arith)
begins_with (suc n) x rest h e = (replicate n x, e)

pub same_lengths : (cs ds : List Cut) → map told_cut cs ≡ map told_cut ds → length cs ≡ length ds
same_lengths cs ds e = sym (length-map cs told_cut) ∙ ap length e ∙ length-map ds told_cut

-- the lines state a sweep
pub joined_read : (n : ℕ) (lines : List (List ℕ)) (cuts : List Cut) (uncut : List ℕ) → TellCuts lines cuts
    → drop (length cuts) lines ≡ replicate n uncut → lines ≡ told_sweep n cuts uncut
joined_read n lines cuts uncut t e =
    let rest : t.0 ≡ replicate n uncut = sym (behind_cuts cuts t.0) ∙ ap (drop (length cuts)) (sym t.1) ∙ e in
    t.1 ∙ ap (λ l. map told_cut cuts ++ l) rest

-- the line after the cuts reports none
pub uncut_told : (n : ℕ) (lines : List (List ℕ)) (cuts : List Cut) (uncut : List ℕ) → 0 < n → TellCuts lines cuts
    → drop (length cuts) lines ≡ replicate n uncut → IsUncutTold uncut
uncut_told n lines cuts uncut some t e =
    let rest : t.0 ≡ replicate n uncut = sym (behind_cuts cuts t.0) ∙ ap (drop (length cuts)) (sym t.1) ∙ e in
    let first = begins_with n uncut t.0 some rest in
    t.2 uncut first.0 first.1

-- it stands there
pub uncut_stands : (n : ℕ) (lines : List (List ℕ)) (count : ℕ) (uncut : List ℕ) → 0 < n → drop count lines ≡ replicate n uncut
    → (count < length lines) × (get_or lines count [] ≡ uncut)
uncut_stands n lines count uncut some e =
    let size : length lines - count ≡ n = sym (length-drop count lines) ∙ ap length e ∙ length-replicate n uncut in
    let within : count < length lines = omega (arith, size, some) in
    let next : drop count lines ≡ get_or lines count [] ∷ drop (count + 1) lines = from_next lines count within in
    let first = begins_with n uncut (drop count lines) some e in
    let both : get_or lines count [] ∷ drop (count + 1) lines ≡ uncut ∷ first.0 = sym next ∙ first.1 in
    let same : get_or lines count [] ≡ uncut = cc in
    (within, same)

read_cuts : (cuts : List Cut) → All IsCutOfWords cuts → All IsReadCut cuts
read_cuts [] w = All-nil IsReadCut
read_cuts (c ∷ cuts) w =
    let one = All-head IsCutOfWords c cuts w in
    All-cons IsReadCut c cuts (standing_has_no_comma c.standing one.0.0, one) (read_cuts cuts (All-tail IsCutOfWords c cuts w))

-- the lines after those that state the cuts of a sweep state its answer
pub uncut_is : (s : Sweep) (lines : List (List ℕ)) (n : ℕ) (cuts : List Cut) (uncut : List ℕ) → 0 < n
    → lines ≡ told_sweep n s.cuts.items (told_uncut s.answer.items s.after.answers.items) → map told_cut cuts ≡ map told_cut s.cuts.items
    → drop (length cuts) lines ≡ replicate n uncut → uncut ≡ told_uncut s.answer.items s.after.answers.items
uncut_is s lines n cuts uncut some e same behind =
    let u = told_uncut s.answer.items s.after.answers.items in
    let at : drop (length cuts) lines ≡ replicate n u =
    ap (drop (length cuts)) e ∙ ap (λ m. drop m (told_sweep n s.cuts.items u)) (same_lengths cuts s.cuts.items same)
    ∙ behind_cuts s.cuts.items (replicate n u) in
    first_of_all n uncut u some (sym behind ∙ at)

-- the report of a sweep that the lines say is the one that is reported
pub joined_whole : (depth : Depth) (s : Sweep) (lines : List (List ℕ)) (n : ℕ) (cuts : List Cut) (answer uncut : List ℕ) → IsTellable depth s → 0 < n
    → lines ≡ told_sweep n s.cuts.items (told_uncut s.answer.items s.after.answers.items)
    → All IsReadCut cuts → map told_cut cuts ≡ map told_cut s.cuts.items
    → drop (length cuts) lines ≡ replicate n uncut → IsAnswerTold answer uncut
    → (joined_text depth cuts answer uncut ≡ report_text s) × (are_whole cuts ≡ are_whole s.cuts.items)
joined_whole depth s lines n cuts answer uncut tellable some e lacking same behind told =
    let alikes = all_alike cuts s.cuts.items lacking (read_cuts s.cuts.items tellable.0) same in
    let u = told_uncut s.answer.items s.after.answers.items in
    let it : uncut ≡ u = uncut_is s lines n cuts uncut some e same behind in
    let own : IsAnswerTold s.answer.items uncut = subst (IsAnswerTold s.answer.items) (sym it) (answer_of_uncut s.answer.items s.after.answers.items tellable.2) in
    (report_alike depth s cuts answer uncut alikes (answer_unique uncut answer s.answer.items told own) it tellable.3, wholes_alike cuts s.cuts.items alikes)
