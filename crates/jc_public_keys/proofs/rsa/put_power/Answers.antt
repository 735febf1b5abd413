use Rattle.std.proofs.Common.{◌∙◌, arith}
use Rattle.jc_public_keys.proofs.Powers.{power_is, power_refused}
use Rattle.jc_public_keys.proofs.rsa.put_power.Goals as goal

pub returns-in-Ok : goal.returns-in-Ok
returns-in-Ok c =
    let is = c.in-Ok.ensures in
    power_is c.args.modulus.now c.args.exponent.now c.args.message.now c.power.new.to (λ k. omega (arith, c.type_inv.to k)) (c.power.auto.to ∙ c.requires.room) is.0 is.1 is.2

pub returns-in-Err : goal.returns-in-Err
returns-in-Err c =
    power_refused c.args.modulus.now c.args.exponent.now c.args.message.now c.args.to.now c.power.new.to c.in-Err.field-0 c.in-Err.ensures
