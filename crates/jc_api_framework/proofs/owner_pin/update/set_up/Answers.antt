use Rattle.std.proofs.Common.{sym, subst}
use Rattle.jc_memory.specs.Programs.{Executes}
use Rattle.jc_environment.specs.Pins.PinInit.{pin_init}
use Rattle.jc_world.specs.NativeCalls.{after_call}
use Rattle.jc_api_framework.specs.OwnerPin.{changed_or_thrown}
use Rattle.jc_api_framework.proofs.OwnerPinCalls.Settling.{answered}
use Rattle.jc_api_framework.proofs.owner_pin.update.set_up.Goals as goal

pub returns : goal.returns
returns g c =
    let m = c.args.memory.now in let d = pin_init m c.args.pin c.args.limit c.args.maximum in
    subst (λ r. Executes (changed_or_thrown d m) m (after_call r c.init.new.memory)) (sym c.answer_of.ensures)
    (answered d m c.init.new.memory c.init.result c.init.ensures)
