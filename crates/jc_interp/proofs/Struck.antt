-- Runs up to the first fault of an attack, the fault, and the run from there on.
use Rattle.std.proofs.Common.{◌≡◌, ℕ, zero, suc, ◌+◌, ◌-◌, ◌<◌, ◌≤◌, List, Option, Some, None, Result, refl, sym, ◌∙◌, ap, subst, arith, eq-eqb}
use Rattle.std.proofs.lemmas.Bool.{eqb-true, ne_eqb}
use Rattle.std.proofs.lemmas.Bool.Decides.{Decides-eqb, same_from_decides}
use Rattle.std.specs.Option.{option_map}
use Rattle.std.specs.Prelude.{◌==◌}
use Rattle.jc_memory.specs.Programs.{Completes, Executes, bind}
use Rattle.jc_memory.specs.State.{MemoryState}
use Rattle.jc_linker.specs.Values.{Packages}
use Rattle.jc_frames.specs.declared.outcome.Outcome.{Outcome}
use Rattle.jc_frames.specs.declared.outcome.Outcome.TheVariants.{Fault}
use Rattle.jc_frames.specs.Frames.{Frames, Next, GoesOn, Throws, Ends}
use Rattle.jc_interp.specs.declared.attacks.Attack.{Attack}
use Rattle.jc_interp.specs.declared.attacks.LaterFault.{LaterFault}
use Rattle.jc_interp.specs.Attacks.{IsAway, attacked, attacked_step, faulted, faulted_if, faulted_later, later_attack, one_fault, then_later}
use Rattle.jc_interp.specs.Run.{Continues, IsPartOfRun, or_end, run_of}
use Rattle.jc_interp.specs.Step.{code_of}

-- a later fault comes as an attack of its own would
on_alone : (next : Next Frames) (first left : ℕ) (lent : List ℕ) (p : Packages) → then_later next None first left lent p ≡ next
on_alone (GoesOn s) first left lent p = refl
on_alone (Throws e s) first left lent p = refl
on_alone (Ends o) first left lent p = refl

comes_alike : (n after first : ℕ) → (suc n + after == first) ≡ (first - after == suc n)
comes_alike n after first = same_from_decides {P = first - after ≡ suc n} (suc n + after == first) (first - after == suc n)
    (λ e. (let is = eqb-true (suc n + after) first e in omega (arith, is)), λ is. eq-eqb (suc n + after) first (omega (arith, is)))
    (Decides-eqb (first - after) (suc n))

module _ (first n : ℕ) (lent : List ℕ) (p : Packages) (s : Frames) where
  later_alike : (later : Option LaterFault)
      → faulted_later later first (suc n) lent p s ≡ attacked (option_map (λ fault. one_fault (first - fault.after) fault.model) later) (suc n) lent p s
  later_alike None = refl
  later_alike (Some fault) = ap (λ b. faulted_if b fault.model lent p s) (comes_alike n fault.after first)
      ∙ sym (on_alone (faulted_if (first - fault.after == suc n) fault.model lent p s) (first - fault.after) (suc n) lent p)

-- the first fault does not come while at most this many instructions are left
abbrev pub IsPast : Attack → ℕ → Type 0
IsPast a most = 0 < a.left → a.left ≤ most → ⊥

past_here : (a : Attack) (n : ℕ) → IsPast a (suc n) → (lent : List ℕ) (p : Packages) (s : Frames)
    → attacked (Some a) (suc n) lent p s ≡ attacked (later_attack a) (suc n) lent p s
past_here a n past lent p s = rw (ne_eqb a.left (suc n) (λ e. past (omega (arith, e)) (omega (arith, e)))) (later_alike a.left n lent p s a.later)

-- then the attack is its later fault
pub past : (a : Attack) (n : ℕ) → IsPast a n → (lent : List ℕ) (p : Packages) (s : Frames) (m : MemoryState)
    → run_of (Some a) n lent p s m ≡ run_of (later_attack a) n lent p s m
unfolding run_of
past a zero before lent p s m = refl
past a (suc n) before lent p s m = rw (past_here a n before lent p s)
    (λ i. bind (attacked_step (later_attack a) (suc n) lent p s m) m (λ next v. or_end n next (λ t. past a n (λ some few. before some (omega (arith, few))) lent p t v i)))

module _ (a : Attack) (lent : List ℕ) (p : Packages) (s : Frames) (m : MemoryState) where
  struck_now : (k : ℕ) → a.left ≡ suc k → (t : Frames) → faulted a.model (code_of lent p s.current.origin.package_number) s ≡ GoesOn t
      → run_of (Some a) (suc k) lent p s m ≡ run_of (later_attack a) (suc k) lent p t m
  unfolding run_of
  struck_now k is t goes = rw (eq-eqb a.left (suc k) is, goes, later_alike a.left k lent p t a.later)
      (λ i. bind (attacked_step (later_attack a) (suc k) lent p t m) m
      (λ next v. or_end k next (λ u. past a k (λ some few. absurd (omega (arith, is, few))) lent p u v i)))

  ended_now : (k : ℕ) → a.left ≡ suc k → faulted a.model (code_of lent p s.current.origin.package_number) s ≡ Ends Fault
      → Completes (run_of (Some a) (suc k) lent p s m) m (k, Fault) m
  unfolding run_of
  ended_now k is ends = rw (eq-eqb a.left (suc k) is, ends) (refl, refl)

  one_at_least : 0 < a.left → a.left ≡ suc (a.left - 1)
  one_at_least some = omega (arith, some)

  pub struck : 0 < a.left → (t : Frames) → faulted a.model (code_of lent p s.current.origin.package_number) s ≡ GoesOn t
      → run_of (Some a) a.left lent p s m ≡ run_of (later_attack a) a.left lent p t m
  struck some t goes = let e = one_at_least some in
      ap (λ n. run_of (Some a) n lent p s m) e ∙ struck_now (a.left - 1) e t goes ∙ ap (λ n. run_of (later_attack a) n lent p t m) (sym e)

  pub struck_ends : 0 < a.left → faulted a.model (code_of lent p s.current.origin.package_number) s ≡ Ends Fault
      → Completes (run_of (Some a) a.left lent p s m) m (a.left - 1, Fault) m
  struck_ends some ends = let e = one_at_least some in
      subst (λ (n : ℕ). Completes (run_of (Some a) n lent p s m) m (a.left - 1, Fault) m) (sym e) (ended_now (a.left - 1) e ends)

-- both faults are away from the steps before the first
later_away : (later : Option LaterFault) (first left : ℕ) → first < left → (lent : List ℕ) (p : Packages) (s : Frames)
    → faulted_later later first left lent p s ≡ GoesOn s
later_away None first left below lent p s = refl
later_away (Some fault) first left below lent p s = rw (ne_eqb (left + fault.after) first (λ e. absurd (omega (arith, e, below)))) refl

pub before_away : (a : Attack) (most : ℕ) → IsAway (Some a) most a.left
before_away a most = λ left below above lent p s.
    rw (ne_eqb a.left left (λ e. absurd (omega (arith, e, below)))) (later_away a.later a.left left below lent p s)

-- the steps before the first fault and those from it on are all
pub all_steps : (a : Attack) (limit : ℕ) → a.left ≤ limit → limit - a.left + a.left ≡ limit
all_steps a limit le = omega (arith, le)

-- a run of which the steps before the first fault were taken
module _ {E : Type 0} (r : Result (Option (ℕ × Outcome)) E) (a : Attack) (limit : ℕ) (within : a.left ≤ limit) (lent : List ℕ) (p : Packages)
    (first s : Frames) (start m : MemoryState) where
  pub up_to : ((attack : Option Attack) → IsAway attack (limit - a.left + a.left) a.left
      → IsPartOfRun r attack (limit - a.left + a.left) attack a.left lent p first start s m) → IsPartOfRun r (Some a) limit (Some a) a.left lent p first start s m
  up_to ran = subst (λ n. IsPartOfRun r (Some a) n (Some a) a.left lent p first start s m) (all_steps a limit within)
      (ran (Some a) (before_away a (limit - a.left + a.left)))

-- what ends so from the frames after the fault ends so from those before it
module _ (planned : Option Attack) (limit : ℕ) (a : Attack) (lent : List ℕ) (p : Packages) (first s t : Frames) (start m : MemoryState)
    (so_far : Continues planned limit lent p first start (Some a) a.left s m)
    (same : run_of (Some a) a.left lent p s m ≡ run_of (later_attack a) a.left lent p t m) where
  pub on_from_struck : Continues planned limit lent p first start (later_attack a) a.left t m
  on_from_struck after made = so_far after (subst (λ d. Executes d m after) (sym same) made)

-- and so it is of an attack whose first fault is past
module _ (planned : Option Attack) (limit : ℕ) (a : Attack) (left : ℕ) (lent : List ℕ) (p : Packages) (first s : Frames) (start m : MemoryState)
    (so_far : Continues planned limit lent p first start (Some a) left s m) where
  pub on_past : IsPast a left → Continues planned limit lent p first start (later_attack a) left s m
  on_past before after made = so_far after (subst (λ d. Executes d m after) (sym (past a left before lent p s m)) made)

-- how many faults an attack has
abbrev pub count_of : Option LaterFault → ℕ
count_of None = 1
count_of (Some fault) = 2

abbrev pub fault_count : Option Attack → ℕ
fault_count None = 0
fault_count (Some a) = count_of a.later

-- one fewer are left of it after the first
fewer_of : (later : Option LaterFault) (first : ℕ)
    → fault_count (option_map (λ fault. one_fault (first - fault.after) fault.model) later) < count_of later
fewer_of None first = omega arith
fewer_of (Some fault) first = omega arith

pub fewer_faults : (a : Attack) → fault_count (later_attack a) < fault_count (Some a)
fewer_faults a = fewer_of a.later a.left
