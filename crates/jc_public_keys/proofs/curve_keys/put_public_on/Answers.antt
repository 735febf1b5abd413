use Rattle.std.proofs.Math.Facts.{Fits-lt-pow}
use Rattle.jc_numbers.specs.Numbers.{number_of_bytes}
use Rattle.jc_public_keys.proofs.KeysFound.{no_public, public_found}
use Rattle.jc_public_keys.proofs.curve_keys.put_public_on.Goals as goal

pub returns-in-Ok : goal.returns-in-Ok
returns-in-Ok c =
    public_found c.args.curve.now c.requires.field (number_of_bytes c.args.private.now) c.public_point.new.to (λ i. Fits-lt-pow (c.type_inv.to i)) c.in-Ok.ensures

pub returns-in-Err : goal.returns-in-Err
returns-in-Err c = no_public c.args.curve.now c.requires.field (number_of_bytes c.args.private.now) c.in-Err.field-0 c.in-Err.ensures
