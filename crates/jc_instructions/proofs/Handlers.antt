-- One handler more.
use Rattle.std.proofs.Common.{◌≡◌, ℕ, zero, suc, ◌+◌, ◌-◌, ◌<◌, List, refl, arith}
use Rattle.jc_linker.specs.Values.{Packages}
use Rattle.jc_frames.specs.declared.method.Origin.{Origin}
use Rattle.jc_frames.specs.Handlers.{handler_in}
use Rattle.jc_instructions.specs.Catch.{catch_from, or_next_handler, catch_by_entry}

pub catch_from-more : (p : Packages) (thrown : ℕ) (origin : Origin) (place : ℕ) (text : List ℕ) (n at : ℕ) → 0 < n →
    catch_from p thrown origin place text n at ≡ or_next_handler (catch_by_entry p thrown origin place text (handler_in text at))
    (catch_from p thrown origin place text (n - 1) (at + 8))
catch_from-more p thrown origin place text zero at h = absurd (omega arith)
catch_from-more p thrown origin place text (suc n) at h =
    let e : suc n - 1 ≡ n = omega arith in rw e refl

pub ruleset more = (catch_from-more)
