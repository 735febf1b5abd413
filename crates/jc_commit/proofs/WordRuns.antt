-- Words that are written one after the other, as changes.
use Rattle.std.proofs.Common.{◌≡◌, ℕ, zero, suc, ◌+◌, ◌<◌, ◌≤◌, Bool, true, false, List, [], ◌∷◌, length, take, get_or, set, refl, sym, ◌∙◌, ap, subst, arith, add-zero}
use Rattle.std.proofs.lemmas.Bool.{false≢true}
use Rattle.jc_words.specs.Refusals.{Refusals}
use Rattle.jc_words.specs.WordRuns.{with_run, WroteRun}
use Rattle.jc_commit.specs.Image.{with_words}
use Rattle.jc_commit.specs.Writing.{Wrote}
use Rattle.jc_commit.specs.Runs.{run_words, WroteWords}

pub length-run_words : (at : ℕ) (vs : List ℕ) → length (run_words at vs) ≡ length vs
length-run_words at [] = refl
length-run_words at (v ∷ vs) = ap suc (length-run_words (suc at) vs)

pub viewed_length : (at : ℕ) (vs : List ℕ) (l : List (ℕ × ℕ)) → run_words at vs ≡ l → length l ≡ length vs
viewed_length at vs l is = sym (ap (λ (m : List (ℕ × ℕ)). length m) is) ∙ length-run_words at vs

pub run_words-at : (at : ℕ) (vs : List ℕ) (k : ℕ) → k < length vs → get_or (run_words at vs) k (0, 0) ≡ (at + k, get_or vs k 0)
run_words-at at [] k h = absurd (omega arith)
run_words-at at (v ∷ vs) zero h = ap (λ (a : ℕ). (a, v)) (sym (add-zero at))
run_words-at at (v ∷ vs) (suc k) h =
    let next : suc at + k ≡ at + suc k = omega arith in
    run_words-at (suc at) vs k (omega arith) ∙ ap (λ (a : ℕ). (a, get_or vs k 0)) next

-- a word of a run, by its address and its value
pub run_word : (at : ℕ) (vs : List ℕ) (words : List (ℕ × ℕ)) (k v : ℕ) → run_words at vs ≡ words → k < length words → v ≡ get_or vs k 0
    → (at + k, v) ≡ get_or words k (0, 0)
run_word at vs words k v is below e =
    ap (λ (x : ℕ). (at + k, x)) e ∙ sym (run_words-at at vs k (omega (arith, below, viewed_length at vs words is)))
    ∙ ap (λ (l : List (ℕ × ℕ)). get_or l k (0, 0)) is

run_is : (w : List ℕ) (at : ℕ) (vs : List ℕ) → with_run w at vs ≡ with_words w (run_words at vs)
run_is w at [] = refl
run_is w at (v ∷ vs) = run_is (set w at v) (suc at) vs

take_run : (at : ℕ) (vs : List ℕ) (k : ℕ) → run_words at (take k vs) ≡ take k (run_words at vs)
take_run at [] zero = refl
take_run at [] (suc k) = refl
take_run at (v ∷ vs) zero = refl
take_run at (v ∷ vs) (suc k) = ap (λ (l : List (ℕ × ℕ)). (at, v) ∷ l) (take_run (suc at) vs k)

-- the first words of a run are those of the changes
first_words : (w : List ℕ) (at : ℕ) (vs : List ℕ) (changes : List (ℕ × ℕ)) (k : ℕ) → run_words at vs ≡ changes
    → with_run w at (take k vs) ≡ with_words w (take k changes)
first_words w at vs changes k is =
    run_is w at (take k vs) ∙ ap (with_words w) (take_run at vs k) ∙ ap (λ (cs : List (ℕ × ℕ)). with_words w (take k cs)) is

-- how far a run was written, and what that did to the store
pub record RanFor {S : Type 0} (words_of : S → List ℕ) (is_down : S → Bool) (count : S → ℕ) (refused : S → Refusals) (at : ℕ) (run : List ℕ) (k : ℕ)
    (done : Bool) (old new : S) : Type 0 where
  pub within : k ≤ length run
  pub all : done ≡ true → k ≡ length run
  pub written : words_of new ≡ with_run (words_of old) at (take k run)
  pub wrote : Wrote is_down count refused (length run) done old new

pub ran_whole : {S : Type 0} {w : S → List ℕ} {d : S → Bool} {p : S → ℕ} {r : S → Refusals} {x y : S} (at : ℕ) (run : List ℕ)
    → WroteRun w d p r at run (length run) true x y → RanFor w d p r at run (length run) true x y
ran_whole at run did = record {
  within = omega arith;
  all = λ done. refl;
  written = did.written;
  wrote = record {
    passed = did.passed;
    from = omega (arith, did.passed);
    was_up = λ done some. did.was_up some;
    down = did.down;
    refusals = did.refusals;
  };
}

pub ran_in_part : {S : Type 0} {w : S → List ℕ} {d : S → Bool} {p : S → ℕ} {r : S → Refusals} {x y : S} (at : ℕ) (run : List ℕ) (k : ℕ) → k < length run
    → WroteRun w d p r at run k false x y → RanFor w d p r at run k false x y
ran_in_part at run k below did = record {
  within = omega (arith, below);
  all = λ done. absurd (false≢true done);
  written = did.written;
  wrote = record {
    passed = λ small. omega (arith, did.passed, below);
    from = omega (arith, did.passed);
    was_up = λ done some. absurd (false≢true done);
    down = did.down;
    refusals = did.refusals;
  };
}

as_changes : {S : Type 0} {w : S → List ℕ} {d : S → Bool} {p : S → ℕ} {r : S → Refusals} {x y : S} {done : Bool} (at : ℕ) (vs : List ℕ)
    (changes : List (ℕ × ℕ)) (k : ℕ) → run_words at vs ≡ changes → RanFor w d p r at vs k done x y → WroteWords w d p r changes k done x y
as_changes {w = w} {d = d} {p = p} {r = r} {x = x} {y = y} {done = done} at vs changes k is far =
    let n = viewed_length at vs changes is in record {
      within = omega (arith, far.within, n);
      all = λ whole. far.all whole ∙ sym n;
      written = far.written ∙ first_words (w x) at vs changes k is;
      wrote = subst (λ (m : ℕ). Wrote d p r m done x y) (sym n) far.wrote;
    }

-- the words of a run were written as changes: all, or k of them
pub run_written : {S : Type 0} {w : S → List ℕ} {d : S → Bool} {p : S → ℕ} {r : S → Refusals} {x y : S} (at : ℕ) (vs : List ℕ) (changes : List (ℕ × ℕ))
    → run_words at vs ≡ changes → WroteRun w d p r at vs (length vs) true x y → WroteWords w d p r changes (length vs) true x y
run_written at vs changes is run = as_changes at vs changes (length vs) is (ran_whole at vs run)

pub part_written : {S : Type 0} {w : S → List ℕ} {d : S → Bool} {p : S → ℕ} {r : S → Refusals} {x y : S} (at : ℕ) (vs : List ℕ) (changes : List (ℕ × ℕ)) (k : ℕ)
    → run_words at vs ≡ changes → k < length vs → WroteRun w d p r at vs k false x y → WroteWords w d p r changes k false x y
part_written at vs changes k is within run = as_changes at vs changes k is (ran_in_part at vs k within run)
