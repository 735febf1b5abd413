use Rattle.std.proofs.Common.{take}
use Rattle.std.proofs.Math.Facts.{Fits-lt-pow}
use Rattle.jc_numbers.specs.Numbers.{number_of_bytes}
use Rattle.jc_public_keys.proofs.BytesOfNumbers.{taken_bytes}
use Rattle.jc_public_keys.proofs.SignaturesFound.{unwritten, written}
use Rattle.jc_public_keys.proofs.ecdsa.put_signed.Goals as goal

pub returns-in-Ok-clause-signature : goal.returns-in-Ok-clause-signature
returns-in-Ok-clause-signature c =
    let e = c.in-Ok.ensures in
    let to = c.encode.new.to in
    written c.args.curve.now c.requires.field c.requires.order (number_of_bytes c.args.private.now) c.args.digest.now (number_of_bytes c.args.k.now)
    (number_of_bytes c.sign.new.r) (number_of_bytes c.sign.new.s) (take c.encode.result to) (taken_bytes to c.encode.result (λ i. Fits-lt-pow (c.type_inv.to i)))
    e.0 e.1 e.2 c.encode.ensures.encoding

pub returns-in-Err-clause-signature : goal.returns-in-Err-clause-signature
returns-in-Err-clause-signature c =
    unwritten c.args.curve.now c.requires.field c.requires.order (number_of_bytes c.args.private.now) c.args.digest.now (number_of_bytes c.args.k.now)
    c.in-Err.field-0 c.in-Err.ensures
