-- Writes, one after the other.
use Rattle.std.specs.Prelude.{◌<◌, ◌≤◌, Bool, true, false, Result, Ok, Err, is_ok, IsErr}
use Rattle.std.proofs.Common.{◌≡◌, ℕ, zero, suc, ◌+◌, List, refl, sym, ap, ◌∙◌, arith}
use Rattle.std.proofs.lemmas.Bool.{false≢true}
use Rattle.jc_words.specs.Count.{saturating_count}
use Rattle.jc_words.specs.Refusals.{Refusals, refused_once}
use Rattle.jc_commit.specs.Writing.{Wrote, KeepsJournal, KeepsTransaction}

-- none
pub no_write : {S : Type 0} {d : S → Bool} {p : S → ℕ} {r : S → Refusals} (x : S) → Wrote d p r 0 true x x
no_write x = record { passed = omega arith; from = omega arith; was_up = λ done some. absurd (omega arith); down = refl; refusals = refl }

-- one that passed
pub one_write : {S : Type 0} {d : S → Bool} {p : S → ℕ} {r : S → Refusals} {x y : S} → d x ≡ false → d y ≡ false → p y ≡ saturating_count (p x) 1 → r y ≡ r x
    → Wrote d p r 1 true x y
one_write was_up up passed refusals =
    record { passed = passed; from = omega arith; was_up = λ done some. was_up; down = up ∙ sym was_up; refusals = refusals }

-- one that was refused
pub no_more : {S : Type 0} {d : S → Bool} {p : S → ℕ} {r : S → Refusals} {x y : S} → d y ≡ true → p y ≡ p x → r y ≡ refused_once (d x) (p x) (r x)
    → Wrote d p r 1 false x y
no_more {d = d} {r = r} {x = x} down passed refusals = record {
  passed = λ small. omega arith;
  from = omega arith;
  was_up = λ done. absurd (false≢true done);
  down = down;
  refusals = refusals ∙ ap (λ (n : ℕ). refused_once (d x) n (r x)) (sym passed);
}

-- one or the other was there
either : (n m k : ℕ) (P : Type 0) → k ≡ n + m → 0 < k → (0 < n → P) → (0 < m → P) → P
either zero m k P all some first second = second (omega arith)
either (suc n) m k P all some first second = first (omega arith)

-- writes after others
pub more_writes : {S : Type 0} {d : S → Bool} {p : S → ℕ} {r : S → Refusals} {x y z : S} {n m k : ℕ} → Wrote d p r n true x y → Wrote d p r m true y z → k ≡ n + m
    → Wrote d p r k true x z
more_writes {d = d} {x = x} {n = n} {m = m} {k = k} first second all = record {
  passed = omega (arith, first.passed, second.passed);
  from = omega (arith, first.from, second.from);
  was_up = λ done some. either n m k (d x ≡ false) all some (first.was_up refl) (λ later. sym first.down ∙ second.was_up refl later);
  down = second.down ∙ first.down;
  refusals = second.refusals ∙ first.refusals;
}

-- after others, one was refused
pub refused_later : {S : Type 0} {d : S → Bool} {p : S → ℕ} {r : S → Refusals} {x y z : S} {n m k : ℕ} → Wrote d p r n true x y → Wrote d p r m false y z → n + m ≤ k
    → Wrote d p r k false x z
refused_later {p = p} {z = z} first second within = record {
  passed = λ small. let short = second.passed small in omega (arith, first.passed, short);
  from = omega (arith, first.from, second.from);
  was_up = λ done. absurd (false≢true done);
  down = second.down;
  refusals = second.refusals ∙ (λ i. refused_once (first.down i) (p z) (first.refusals i));
}

-- of more writes
pub refused_early : {S : Type 0} {d : S → Bool} {p : S → ℕ} {r : S → Refusals} {x y : S} {n k : ℕ} → Wrote d p r n false x y → n ≤ k → Wrote d p r k false x y
refused_early {d = d} {p = p} {r = r} {x = x} second within = refused_later {d = d} {p = p} {r = r} (no_write x) second (omega arith)

-- where the call answers so
pub at_err : {S A E : Type 0} {d : S → Bool} {p : S → ℕ} {r : S → Refusals} {x y : S} {n : ℕ} (result : Result A E) → IsErr result
    → Wrote d p r n false x y → Wrote d p r n (is_ok result) x y
at_err (Ok a) is wrote = absurd (false≢true is)
at_err (Err e) is wrote = wrote

-- what a write left, and then another
pub keeps_more : {u v w : List ℕ} → KeepsJournal u v → KeepsJournal v w → KeepsJournal u w
keeps_more first second = record {
  good = second.good;
  size = second.size ∙ first.size;
  log = second.log ∙ first.log;
  recovered = second.recovered ∙ first.recovered;
}

pub stays_more : {u v w : List ℕ} → KeepsTransaction u v → KeepsTransaction v w → KeepsTransaction u w
stays_more first second = record {
  good = second.good;
  size = second.size ∙ first.size;
  log = second.log ∙ first.log;
  live = second.live ∙ first.live;
  top = second.top ∙ first.top;
}
