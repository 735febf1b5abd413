-- As many bytes as elements that were asked for fill them.
use Rattle.std.proofs.Common.{◌≡◌, ◌∙◌, Result, Ok, Err, sym, subst}
use Rattle.std.specs.Prelude.{IfOk, pos}
use Rattle.jc_memory.specs.State.{MemoryState}
use Rattle.jc_linker.specs.Values.{Packages}
use Rattle.jc_frames.specs.declared.outcome.FrameExit.{FrameExit}
use Rattle.jc_api.specs.Arguments.{AreAsked, elements_at}
use Rattle.jc_api.specs.declared.arguments.Pair.{Pair}
use Rattle.jc_api.proofs.Stretches.{length_bytes}
use Rattle.jc_api_framework.specs.Util.{Fits}

pub all_fit : (p : Packages) (m : MemoryState) (x : Result Pair FrameExit) → IfOk x (λ a. a.from.count ≡ a.to.count) → IfOk x (λ a. AreAsked p m a.to)
    → IfOk x (Fits p m)
all_fit p m (Ok a) same asked = subst (λ n. elements_at p m a.to.array (pos a.to.start) (pos n) ≡ Ok a.to) (sym (length_bytes m a.from ∙ same)) asked
all_fit p m (Err e) same asked = tt
