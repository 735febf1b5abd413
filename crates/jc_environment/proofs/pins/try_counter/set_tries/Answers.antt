use Rattle.std.proofs.Common.{◌∙◌, ap}
use Rattle.jc_environment.proofs.KeptPins.{counted_pin}
use Rattle.jc_environment.proofs.pins.try_counter.set_tries.Goals as goal

pub returns-clause-pin : goal.returns-clause-pin
returns-clause-pin g c =
    counted_pin c.args.memory.now c.nonatomic_write.new.self c.args.pin c.args.left
    (ap (λ s. s.heap.now) c.in_ok-nonatomic_write.ensures.1) c.requires.pin
