-- Words that are written one after the other.
use Rattle.std.proofs.Common.{◌≡◌, ℕ, zero, suc, ◌+◌, ◌<◌, Bool, true, false, List, [], ◌∷◌, length, take, take_all, set, slice_index, refl, sym, ◌∙◌, ap, subst, arith, length-set}
use Rattle.std.specs.Prelude.{Option, None, Result, Ok, Err, OnOk, OnErr, is_ok, is_err, if◌then◌else◌}
use Rattle.std.proofs.lemmas.Bool.{false≢true}
use Rattle.std.proofs.lemmas.List.{length-take-le}
use Rattle.std.proofs.lemmas.Option.{none-some}
use Rattle.jc_words.specs.Count.{saturating_count}
use Rattle.jc_words.specs.Refusals.{Refusals}
use Rattle.jc_words.specs.Store.{FuseStoreValue, store_after_refusal, write_passed}
use Rattle.jc_words.specs.WordPairs.{RefusedThrough}
use Rattle.jc_words.specs.declared.store.StoreDown.{StoreDown}
use Rattle.jc_words.specs.WordRuns.{with_run, writes_passed, WroteRun}
use Rattle.jc_words.proofs.Refusals.{count-refused_once}

pub length-with_run : (w : List ℕ) (i : ℕ) (run : List ℕ) → length (with_run w i run) ≡ length w
length-with_run w i [] = refl
length-with_run w i (v ∷ vs) = length-with_run (set w i v) (suc i) vs ∙ length-set w i v

pub with_run_more : (w : List ℕ) (i : ℕ) (run : List ℕ) (k : ℕ) → k < length run
    → with_run w i (take (k + 1) run) ≡ set (with_run w i (take k run)) (i + k) (slice_index run k)
with_run_more w i [] k below = absurd (omega (arith, below))
with_run_more w i (v ∷ vs) zero below = let e : i ≡ i + 0 = omega arith in ap (λ (j : ℕ). set w j v) e
with_run_more w i (v ∷ vs) (suc k) below =
    let e : suc k + 1 ≡ suc (k + 1) = omega arith in
    let f : suc i + k ≡ i + suc k = omega arith in
    ap (λ (n : ℕ). with_run w i (take n (v ∷ vs))) e ∙ with_run_more (set w i v) (suc i) vs k (omega (arith, below))
    ∙ ap (λ (j : ℕ). set (with_run (set w i v) (suc i) (take k vs)) j (slice_index vs k)) f

-- a word more of a run was written
pub run_more : {S : Type 0} {w : S → List ℕ} {d : S → Bool} {p : S → ℕ} {r : S → Refusals} {x y z : S} (i : ℕ) (run : List ℕ) (k a v : ℕ)
    (result : Result Unit StoreDown) (refused : Refusals) → k < length run → a ≡ i + k → v ≡ slice_index run k → is_err result ≡ false
    → OnOk result (w z ≡ set (w y) a v) → OnOk result (d y ≡ false) → d z ≡ is_err result
    → p z ≡ (if is_ok result then saturating_count (p y) 1 else p y) → r z ≡ (if is_ok result then r y else refused)
    → WroteRun w d p r i run k true x y → WroteRun w d p r i run (k + 1) true x z
run_more {w = w} {x = x} i run k a v (Ok done) refused below at is good written was_up down passed refusals before = record {
  written = written ∙ (λ j. set (before.written j) (at j) (is j)) ∙ sym (with_run_more (w x) i run k below);
  was_up = λ some. sym before.down ∙ was_up;
  down = down ∙ sym (sym before.down ∙ was_up);
  passed = omega (arith, passed, before.passed);
  refusals = refusals ∙ before.refusals;
}
run_more i run k a v (Err e) refused below at is good written was_up down passed refusals before = absurd (false≢true (sym good))

-- ---- through a fuse

pub on_ok : {P : Type 0} (result : Result Unit StoreDown) → is_err result ≡ false → OnOk result P → P
on_ok (Ok done) good holds = holds
on_ok (Err e) good holds = absurd (false≢true (sym good))

pub on_err : {P : Type 0} (result : Result Unit StoreDown) → is_err result ≡ true → OnErr result P → P
on_err (Ok done) bad holds = absurd (false≢true bad)
on_err (Err e) bad holds = holds

-- a write more of a run passed
pub passed_more : (i : ℕ) (run : List ℕ) (k : ℕ) (f : FuseStoreValue) → k < length run
    → writes_passed i (take (k + 1) run) f ≡ write_passed (i + k) (slice_index run k) (writes_passed i (take k run) f)
passed_more i [] k f below = absurd (omega (arith, below))
passed_more i (v ∷ vs) zero f below = let e : i ≡ i + 0 = omega arith in ap (λ (j : ℕ). write_passed j v f) e
passed_more i (v ∷ vs) (suc k) f below =
    let e : suc k + 1 ≡ suc (k + 1) = omega arith in
    let next : suc i + k ≡ i + suc k = omega arith in
    ap (λ (n : ℕ). writes_passed i (take n (v ∷ vs)) f) e ∙ passed_more (suc i) vs k (write_passed i v f) (omega (arith, below))
    ∙ ap (λ (j : ℕ). write_passed j (slice_index vs k) (writes_passed (suc i) (take k vs) (write_passed i v f))) next

-- what they leave of a store whose store below is up
passed_is : (i : ℕ) (run : List ℕ) (f : FuseStoreValue) (n : ℕ) → n ≡ length run → (0 < n → f.down_below ≡ false) → writes_passed i run f ≡ record f {
  words = with_run f.words i run;
  passed = saturating_count f.passed n;
  passed_below = saturating_count f.passed_below n;
}
passed_is i [] f n none up =
    let here : f.passed ≡ saturating_count f.passed n = omega (arith, none) in
    let below : f.passed_below ≡ saturating_count f.passed_below n = omega (arith, none) in
    λ j. record f { passed = here j; passed_below = below j }
passed_is i (v ∷ vs) f n many up =
    let was : f.down_below ≡ false = up (omega (arith, many)) in
    let here : saturating_count (saturating_count f.passed 1) (length vs) ≡ saturating_count f.passed n = omega (arith, many) in
    let below : saturating_count (saturating_count f.passed_below 1) (length vs) ≡ saturating_count f.passed_below n = omega (arith, many) in
    passed_is (suc i) vs (write_passed i v f) (length vs) refl (λ some. refl)
    ∙ (λ j. record f { words = with_run (set f.words i v) (suc i) vs; passed = here j; down_below = sym was j; passed_below = below j })

-- a store with a fuse, by the ghost members of the store below
abbrev pub value_over : {S : Type 0} → (S → List ℕ) → (S → Bool) → (S → ℕ) → (S → Refusals) → Option ℕ → Bool → ℕ → ℕ → S → FuseStoreValue
value_over w d p r until down passed refused store = record {
  words = w store;
  down = down;
  passed = passed;
  refusals = record { count = refused; fuse = until; faults = (r store).count };
  down_below = d store;
  passed_below = p store;
}

-- the store below wrote a run
pub handed_on : {S : Type 0} {w : S → List ℕ} {d : S → Bool} {p : S → ℕ} {r : S → Refusals} {x y : S} (i : ℕ) (run : List ℕ) (until : Option ℕ) (down : Bool)
    (before after refused : ℕ) → WroteRun w d p r i run (length run) true x y → after ≡ saturating_count before (length run)
    → value_over w d p r until down after refused y ≡ writes_passed i run (value_over w d p r until down before refused x)
handed_on {w = w} {d = d} {p = p} {r = r} {x = x} {y = y} i run until down before after refused did passed =
    let words : w y ≡ with_run (w x) i run = did.written ∙ ap (with_run (w x) i) (take_all (length run) run (omega arith)) in
    (λ j. record {
      words = words j;
      down = down;
      passed = passed j;
      refusals = record { count = refused; fuse = until; faults = (did.refusals j).count };
      down_below = did.down j;
      passed_below = did.passed j;
    }) ∙ sym (passed_is i run (value_over w d p r until down before refused x) (length run) refl did.was_up)

-- it wrote k words of a run, and refused the next one
pub handed_in_part : {S : Type 0} {w : S → List ℕ} {d : S → Bool} {p : S → ℕ} {r : S → Refusals} {x y : S} (i : ℕ) (run : List ℕ) (k : ℕ) (until : Option ℕ)
    (down : Bool) (before after refused : ℕ) → k < length run → WroteRun w d p r i run k false x y → until ≡ None → down ≡ false
    → after ≡ saturating_count before k
    → RefusedThrough (writes_passed i (take k run) (value_over w d p r until down before refused x)) (store_after_refusal (value_over w d p r until down after refused y))
handed_in_part {w = w} {d = d} {p = p} {r = r} {x = x} {y = y} i run k until down before after refused within did unarmed up passed =
    let many : k ≡ length (take k run) = sym (length-take-le k run (omega (arith, within))) in
    let new = store_after_refusal (value_over w d p r until down after refused y) in
    let faults : (r y).count ≡ saturating_count (r x).count 1 = ap (λ (s : Refusals). s.count) did.refusals ∙ count-refused_once (d x) (p y) (r x) in
    subst (λ (f : FuseStoreValue). RefusedThrough f new) (sym (passed_is i (take k run) (value_over w d p r until down before refused x) k many did.was_up)) (record {
      stays_down = λ was. absurd (false≢true (sym up ∙ was));
      blows = λ was armed. absurd (none-some _ (sym unarmed ∙ armed));
      below = λ was other. λ j. record {
        words = did.written j;
        down = true;
        passed = passed j;
        refusals = record { count = saturating_count refused 1; fuse = until; faults = faults j };
        down_below = did.down j;
        passed_below = did.passed j;
      };
    })
