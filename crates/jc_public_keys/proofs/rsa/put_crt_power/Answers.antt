use Rattle.std.proofs.Common.{arith, length}
use Rattle.jc_public_keys.proofs.Powers.{crt_power_is, crt_refused}
use Rattle.jc_public_keys.proofs.rsa.put_crt_power.Goals as goal

pub returns-in-Ok : goal.returns-in-Ok
returns-in-Ok c =
    let is = c.in-Ok.ensures in
    crt_power_is c.args.key.now c.args.message.now c.crt_power.new.to (length c.args.to.now) (λ k. omega (arith, c.type_inv.to k)) c.crt_power.auto.to is.0 is.1 is.2

pub returns-in-Err : goal.returns-in-Err
returns-in-Err c = crt_refused c.args.key.now c.args.message.now c.args.to.now c.crt_power.new.to c.in-Err.field-0 c.in-Err.ensures
