-- Why a command was not cut.
use Rattle.std.proofs.Common.{◌≡◌, ◌⊎◌, ◌++◌, ◌+◌, ◌*◌, ◌<◌, ◌≤◌, ℕ, zero, suc, true, List, [], ◌∷◌, length, refl, sym, subst, inl, inr, arith}
use Rattle.std.proofs.Math.Nat.{mul-suc, suc-mul}
use Rattle.jcard_outcomes.specs.declared.standing.Cut.{Cut}
use Rattle.jcard_outcomes.specs.declared.standing.Left.{Left}
use Rattle.jcard_sweeps.specs.Faults.{IsImageFault, IsLeftFault, IsProbeFault, told_run_fault}
use Rattle.jcard_tear.specs.Faults.{IsCarriedOut, IsCutPast, IsScriptFor, IsUnbegun, IsUncutFor, told_probe_fault}
use Rattle.jc_words.specs.Store.{FuseStoreValue}
use Rattle.jcard_sweeps.specs.Runs.{IsRunFault, Runs}
use Rattle.jcard_tear.specs.Sweep.{AreCuts, IsDone}
use Rattle.jcard_tear.specs.declared.cuts.Baseline.{Baseline}
use Rattle.jcard_sweeps.specs.declared.command.Command.{Command}
use Rattle.jcard_sweeps.specs.declared.runs.RunFault.{RunFault}
use Rattle.jcard_sweeps.specs.declared.runs.RunFault.TheVariants as run
use Rattle.jcard_sweeps.specs.declared.sweep_fault.TearFault.{TearFault}
use Rattle.jcard_sweeps.specs.declared.sweep_fault.TearFault.TheVariants.{Down, NoMemory, Probe, Script, TooManyCuts}

-- memory was refused
pub memory_uncut : (words : List ℕ) (c : Command) (step : ℕ) (fault : TearFault) → fault ≡ NoMemory → IsUncutFor words c step fault
memory_uncut words c step fault e = subst (λ (f : TearFault). IsUncutFor words c step f) (sym e) tt

-- a script was not carried out to its end
pub run_uncut : (words : List ℕ) (c : Command) (step : ℕ) (script : List ℕ) (cause : RunFault) (fault : TearFault) → IsScriptFor c script
    → IsRunFault c.behind.instructions words script cause → fault ≡ told_run_fault cause → IsUncutFor words c step fault
run_uncut words c step script run.NoMemory fault for is e = memory_uncut words c step fault e
run_uncut words c step script (run.Script x) fault for is e = subst (λ (f : TearFault). IsUncutFor words c step f) (sym e) (script, for, is)

-- the script before a line was not
pub run_unbegun : (budget : ℕ) (words before : List ℕ) (cause : RunFault) (fault : TearFault) → IsRunFault budget words before cause
    → fault ≡ told_run_fault cause → IsUnbegun budget words before fault
run_unbegun budget words before run.NoMemory fault is e = subst (IsUnbegun budget words before) (sym e) tt
run_unbegun budget words before (run.Script x) fault is e = subst (IsUnbegun budget words before) (sym e) is

-- memory was refused
pub memory_unbegun : (budget : ℕ) (words before : List ℕ) (fault : TearFault) → fault ≡ NoMemory → IsUnbegun budget words before fault
memory_unbegun budget words before fault e = subst (IsUnbegun budget words before) (sym e) tt

-- a recovery or the probe after it was not
pub probe_uncut : (words : List ℕ) (c : Command) (step : ℕ) (fault : TearFault) → IsCarriedOut words c
    → IsProbeFault c.behind.instructions c.probe.now fault → IsUncutFor words c step fault
probe_uncut words c step NoMemory done is = tt
probe_uncut words c step (Probe x) done is = (done, is)
probe_uncut words c step other done is = absurd is

-- the card is down at the command
pub down_uncut : (words : List ℕ) (c : Command) (step : ℕ) (text : List ℕ) (after : FuseStoreValue) → Runs c.behind.instructions words (c.before.now ++ c.line.now) text after
    → after.down ≡ true → IsUncutFor words c step Down
down_uncut words c step text after runs down = (text, after, runs, down)

-- a command that was done was carried out
pub done_carried : (words : List ℕ) (c : Command) (answer : List ℕ) (left : Left) → IsDone words c answer left → IsCarriedOut words c
done_carried words c answer left done = (c.before.now ++ c.line.now, done.0, done.1, inr (inl refl), done.2)

-- what stands in an image after a cut is bad
pub image_probed : (budget : ℕ) (probe : List ℕ) (fault : TearFault) → IsImageFault fault → IsProbeFault budget probe fault
image_probed budget probe NoMemory is = tt
image_probed budget probe (Probe x) is = inr (inr is)
image_probed budget probe (Script x) is = absurd is
image_probed budget probe Down is = absurd is
image_probed budget probe TooManyCuts is = absurd is

-- a recovery or the lines of a probe were not carried out to their end
pub left_probed : (budget : ℕ) (probe : List ℕ) (cause : RunFault) → IsLeftFault budget probe cause → (fault : TearFault) → fault ≡ told_probe_fault cause
    → IsProbeFault budget probe fault
left_probed budget probe run.NoMemory is fault e = subst (IsProbeFault budget probe) (sym e) tt
left_probed budget probe (run.Script x) is fault e = subst (IsProbeFault budget probe) (sym e) is

-- memory was refused for the lines of a probe, or for what is reported
pub memory_probed : (budget : ℕ) (probe : List ℕ) (fault : TearFault) → fault ≡ NoMemory → IsProbeFault budget probe fault
memory_probed budget probe fault e = subst (IsProbeFault budget probe) (sym e) tt

-- ---- too many cuts

-- the last of each n-th cut is past the most, if the next one would be
pub cuts_past : (words : List ℕ) (c : Command) (b : Baseline) (k n : ℕ) (cuts : List Cut) → AreCuts words c b k n cuts → 0 < length cuts
    → (65535 ≤ k + n * length cuts) ⊎ (n ≡ 0) → IsCutPast words c n
unfolding AreCuts
cuts_past words c b k n [] a some most = absurd (omega (arith, some))
cuts_past words c b k n (x ∷ []) a some (inl most) = (k, a.0.0, x.recoveries, a.0.1, inl (omega (arith, most)))
cuts_past words c b k n (x ∷ []) a some (inr none) = (k, a.0.0, x.recoveries, a.0.1, inr none)
cuts_past words c b k n (x ∷ y ∷ ys) a some (inl most) =
    cuts_past words c b (k + n) n (y ∷ ys) a.1 (omega arith) (inl (omega (arith, mul-suc n (length (y ∷ ys)), most)))
cuts_past words c b k n (x ∷ y ∷ ys) a some (inr none) = cuts_past words c b (k + n) n (y ∷ ys) a.1 (omega arith) (inr none)

-- a step as often as cuts are counted comes past them, if it is one
pub steps_past : (first n m : ℕ) → 65535 ≤ m → (65535 ≤ first + n * m) ⊎ (n ≡ 0)
steps_past first zero m h = inr refl
steps_past first (suc n) m h = inl (omega (arith, suc-mul n m, h))
