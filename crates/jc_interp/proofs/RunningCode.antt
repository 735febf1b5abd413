-- The code that runs, from the loop of all steps to a call.
use Rattle.std.proofs.Common.{◌≡◌, ℕ, ◌==◌, Bool, true, false, List, Some, refl, ◌∙◌, ap}
use Rattle.jc_linker.specs.Values.{Packages}
use Rattle.jc_linker.specs.Classes.{package_in}
use Rattle.jc_linker.specs.Lookups.{target_at}
use Rattle.jc_linker.specs.declared.target.Target.{Target}
use Rattle.jc_frames.specs.Frames.{Frames}
use Rattle.jc_instructions.specs.MethodComponent.{method_component_of}
use Rattle.jc_interp.specs.declared.frames_only.FramesExit.{FramesExit}
use Rattle.jc_interp.specs.declared.frames_only.FramesExit.TheVariants.{Exit, Needs}
use Rattle.jc_interp.specs.RunningCode.{IsRunningCode}
use Rattle.jc_interp.specs.Step.{code_of}
use Rattle.jc_interp.specs.PausedSteps.{WhereNeeded}

-- frames that stay as they are at a pause run the method that they ran
pub still_needed : (why : FramesExit) (s t u v : Frames) → WhereNeeded why (t.current.origin ≡ s.current.origin)
    → s.current.origin ≡ u.current.origin → v ≡ t → WhereNeeded why (v.current.origin ≡ u.current.origin)
still_needed (Exit stop) s t u v kept here same = tt
still_needed (Needs instr) s t u v kept here same = ap (λ f. f.current.origin) same ∙ kept ∙ here

of_package : (lent code : List ℕ) (p : Packages) (n number : ℕ) (s : Frames) → code ≡ code_of lent p n → n ≡ number → s.current.origin.package_number ≡ number
    → IsRunningCode code p s
of_package lent code p n number s own here runs loaded =
    own ∙ rw (here, ← runs, loaded) refl

-- what is run of the loop's code is the code that runs
pub paused_code : (why : FramesExit) (lent code : List ℕ) (p : Packages) (n : ℕ) (s t : Frames) → code ≡ code_of lent p n
    → n ≡ s.current.origin.package_number → WhereNeeded why (t.current.origin ≡ s.current.origin) → WhereNeeded why (IsRunningCode code p t)
paused_code (Exit stop) lent code p n s t own here kept = tt
paused_code (Needs instr) lent code p n s t own here kept =
    of_package lent code p n s.current.origin.package_number t own here (ap (λ o. o.package_number) kept)

runs_by : (b : Bool) (p : Packages) (number index : ℕ) (entry : Target) → (number == 0) ≡ b → target_at p number index ≡ Some entry
    → (number == 0) ≡ false
unfolding target_at package_in
runs_by false p number index entry e there = e
runs_by true p number index entry e there = absurd (let none = rw e at there in cc)

runs_package : (p : Packages) (number index : ℕ) (entry : Target) → target_at p number index ≡ Some entry → (number == 0) ≡ false
runs_package p number index entry there = runs_by (number == 0) p number index entry refl there

-- code whose constant pool has an entry is that of a package
pub has_pool : (code : List ℕ) (p : Packages) (s : Frames) (index : ℕ) (entry : Target) → IsRunningCode code p s
    → target_at p s.current.origin.package_number index ≡ Some entry → code ≡ method_component_of p s.current.origin.package_number
has_pool code p s index entry runs there = runs (runs_package p s.current.origin.package_number index entry there)
