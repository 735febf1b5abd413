use Rattle.std.proofs.Common.{sym, subst}
use Rattle.jc_memory.specs.Programs.{Executes}
use Rattle.jc_environment.specs.Pins.Updates.{pin_update}
use Rattle.jc_world.specs.Arrays.{bytes_in}
use Rattle.jc_world.specs.NativeCalls.{after_call}
use Rattle.jc_api_framework.specs.OwnerPin.{changed_or_thrown}
use Rattle.jc_api_framework.proofs.OwnerPinCalls.Settling.{answered}
use Rattle.jc_api_framework.proofs.owner_pin.update.set_named.Goals as goal

pub returns : goal.returns
returns g c =
    let m = c.args.memory.now in let d = pin_update m c.args.pin (bytes_in m c.args.bytes) in
    subst (λ r. Executes (changed_or_thrown d m) m (after_call r c.set_bytes.new.memory)) (sym c.answer_of.ensures)
    (answered d m c.set_bytes.new.memory c.set_bytes.result c.set_bytes.ensures)
