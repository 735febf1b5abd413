-- Why a script in memory was not carried out, passed on.
use Rattle.std.proofs.Common.{◌≡◌, ℕ, List, Result, Ok, Err, IfErr, IsErrAnd, MatchResult, subst, sym, inl, inr}
use Rattle.jcard_sweeps.specs.Faults.{IsImageFault, IsLeftFault, IsLogFault}
use Rattle.jcard_sweeps.specs.Runs.{IsRunFault}
use Rattle.jcard_sweeps.specs.declared.runs.RunFault.{RunFault}
use Rattle.jcard_sweeps.specs.declared.runs.RunFault.TheVariants as run
use Rattle.jcard_sweeps.specs.declared.sweep_fault.TearFault.{TearFault}
use Rattle.jcard_sweeps.specs.declared.sweep_fault.TearFault.TheVariants.{NoMemory}

-- a `?` passes on what is known of the cause
pub passed_on : {A F : Type 0} (P : A → Type 0) {Q : F → Type 0} (R : F → Type 0) (r : Result A F) → IsErrAnd r Q → ((fault : F) → Q fault → R fault) → MatchResult r P R
passed_on P R (Ok x) is to = absurd is
passed_on P R (Err fault) is to = to fault is

-- the same of a cause that is known
pub cause_passed_on : {A F : Type 0} (P : A → Type 0) (R : F → Type 0) (r : Result A F) (cause : F) → IsErrAnd r (λ fault. fault ≡ cause) → R cause → MatchResult r P R
cause_passed_on P R (Ok x) cause is h = absurd is
cause_passed_on P R (Err fault) cause is h = subst R (sym is) h

-- the same of a fault alone
pub refused_on : {A F : Type 0} {Q : F → Type 0} (R : F → Type 0) (r : Result A F) → IsErrAnd r Q → ((fault : F) → Q fault → R fault) → IfErr r R
refused_on R (Ok x) is to = tt
refused_on R (Err fault) is to = to fault is

-- memory was refused for what stands in an image
pub memory_imaged : (fault : TearFault) → fault ≡ NoMemory → IsImageFault fault
memory_imaged fault e = subst IsImageFault (sym e) tt

pub memory_left : (budget : ℕ) (probe : List ℕ) (fault : RunFault) → fault ≡ run.NoMemory → IsLeftFault budget probe fault
memory_left budget probe fault e = subst (IsLeftFault budget probe) (sym e) tt

pub run_left : (budget : ℕ) (words probe : List ℕ) (fault : RunFault) → IsRunFault budget words probe fault → IsLeftFault budget probe fault
run_left budget words probe run.NoMemory is = tt
run_left budget words probe (run.Script x) is = inl (words, is)

pub log_left : (budget : ℕ) (probe : List ℕ) (fault : RunFault) → IsLogFault fault → IsLeftFault budget probe fault
log_left budget probe run.NoMemory is = tt
log_left budget probe (run.Script x) is = inr (inl is)

pub memory_logged : (fault : RunFault) → fault ≡ run.NoMemory → IsLogFault fault
memory_logged fault e = subst IsLogFault (sym e) tt
