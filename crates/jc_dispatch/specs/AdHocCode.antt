-- Code that belongs to no package and comes with a command.
use Rattle.std.specs.Prelude.{ℕ, List}
use Rattle.jc_memory.specs.State.{MemoryState}
use Rattle.jc_memory.specs.Programs.{Program, Finish, bind}
use Rattle.jc_linker.specs.Values.{Packages}
use Rattle.jc_frames.specs.declared.outcome.Outcome.{Outcome}
use Rattle.jc_interp.specs.declared.attacks.Budget.{Budget}
use Rattle.jc_interp.specs.Run.{run_ad_hoc}
use Rattle.jc_dispatch.specs.Phase.{close}

-- such code runs, with a stack of this many cells and this many locals, and what it leaves open ends: how it ended
unfoldable pub ad_hoc_run : Budget → ℕ → ℕ → List ℕ → Packages → MemoryState → Program Outcome
ad_hoc_run budget limit locals code p m = bind (run_ad_hoc limit locals code budget p m) m (λ end v. bind (close v) v (λ u w. Finish end.1))
