-- Runs: this many steps at most, among which an attack may come.
use Rattle.std.specs.Prelude.{ℕ, zero, suc, ◌≡◌, List, [], Option, Some, None, Result, Ok, Err}
use Rattle.jc_memory.specs.State.{MemoryState}
use Rattle.jc_heap.specs.Completions.{Completion, Completed, Torn}
use Rattle.jc_memory.specs.Programs.{Program, Finish, Executes, bind}
use Rattle.jc_linker.specs.Values.{Packages}
use Rattle.jc_frames.specs.declared.method.Origin.{Origin}
use Rattle.jc_frames.specs.declared.outcome.Outcome.{Outcome}
use Rattle.jc_frames.specs.declared.outcome.Outcome.TheVariants.{Fault}
use Rattle.jc_frames.specs.Frames.{Frames, Next, GoesOn, Throws, Ends}
use Rattle.jc_frames.specs.Calls.{first_frame}
use Rattle.jc_interp.specs.declared.attacks.Attack.{Attack}
use Rattle.jc_interp.specs.declared.attacks.Budget.{Budget}
use Rattle.jc_interp.specs.Attacks.{attacked_step}

-- on from a step after which this many are left, or the end (a step throws nothing that it does not catch)
abbrev pub or_end : ℕ → Next Frames → (Frames → Program (ℕ × Outcome)) → Program (ℕ × Outcome)
or_end left (GoesOn s) more = more s
or_end left (Throws e s) more = Finish (left, Fault)
or_end left (Ends o) more = Finish (left, o)

-- what a run of at most this many steps may do, where an attack may come: how many are left, and how it ended. One that has not ended then
-- is a code fault
unfoldable pub run_of : Option Attack → ℕ → List ℕ → Packages → Frames → MemoryState → Program (ℕ × Outcome)
run_of attack zero lent p s m = Finish (0, Fault)
run_of attack (suc n) lent p s m = bind (attacked_step attack (suc n) lent p s m) m (λ next v. or_end n next (λ t. run_of attack n lent p t v))

-- what ends so from here, with this attack and this many steps left, ends so from the beginning
abbrev pub Continues : Option Attack → ℕ → List ℕ → Packages → Frames → MemoryState → Option Attack → ℕ → Frames → MemoryState → Type 0
Continues attack limit lent p first start rest left s m = (after : Completion MemoryState (ℕ × Outcome)) → Executes (run_of rest left lent p s m) m after
    → Executes (run_of attack limit lent p first start) start after

-- a run of which all steps but this many were taken: it ended; or it has not, and goes on with these and with this attack; or the store refused
-- a write
abbrev pub IsPartOfRun : {E : Type 0} → Result (Option (ℕ × Outcome)) E → Option Attack → ℕ → Option Attack → ℕ → List ℕ → Packages → Frames
    → MemoryState → Frames → MemoryState → Type 0
IsPartOfRun (Ok (Some end)) attack limit rest later lent p first start s m = Executes (run_of attack limit lent p first start) start (Completed end m)
IsPartOfRun (Ok None) attack limit rest later lent p first start s m =
    (m.heap.down ≡ start.heap.down) × Continues attack limit lent p first start rest later s m
IsPartOfRun (Err down) attack limit rest later lent p first start s m = Executes (run_of attack limit lent p first start) start (Torn m)

-- a run of methods of packages
abbrev pub run_methods : Budget → Packages → Frames → MemoryState → Program (ℕ × Outcome)
run_methods budget p s m = run_of budget.attack budget.left [] p s m

-- code that belongs to no package
abbrev pub no_package : Origin
no_package = record { package_number = 0; method = 0 }

-- the frame of such code before its first byte: no cell on its stack, and this many locals, which are short 0
abbrev pub bare_frames : ℕ → ℕ → Frames
bare_frames limit locals = record { current = first_frame [] locals limit 0 no_package; callers = [] }

-- a run of code that was lent, with a stack of this many cells and this many locals
abbrev pub run_ad_hoc : ℕ → ℕ → List ℕ → Budget → Packages → MemoryState → Program (ℕ × Outcome)
run_ad_hoc limit locals lent budget p m = run_of budget.attack budget.left lent p (bare_frames limit locals) m
