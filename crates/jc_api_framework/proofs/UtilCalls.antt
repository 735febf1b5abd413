-- Util: what its calls may do, all of which only read and then do what they answer.
pub mod Kinds
pub mod Fitting
pub mod Orders
use Rattle.std.proofs.Common.{ℕ, List}
use Rattle.jc_memory.specs.State.{MemoryState, Effect}
use Rattle.jc_platform.specs.declared.names.PlatformMethod.TheVariants as rooms
use Rattle.jc_platform.specs.declared.names.UtilitiesMethod.{UtilitiesMethod}
use Rattle.jc_linker.specs.Values.{Packages}
use Rattle.jc_frames.specs.declared.cell.Cell.{Cell}
use Rattle.jc_api.proofs.Due.{IsPlainCall}
use Rattle.jc_api.proofs.Forms.{reading_due}
use Rattle.jc_api_framework.specs.Util.{util_answer, util_call}
use Rattle.jc_api_framework.proofs.Passing.{MethodPasses}

pub util_due : (P : Effect → MemoryState → Type 0) (L : MemoryState → ℕ → Type 0) (args : List Cell) (p : Packages) (m : MemoryState)
    (method : UtilitiesMethod) → MethodPasses P (rooms.Utilities method) args p m → IsPlainCall P L (util_call method args p m) m
unfolding util_call
util_due P L args p m method pass = reading_due P L (rooms.Utilities method) args p m pass.calls (util_answer method args p m)
