use Rattle.std.proofs.Common.{refl, arith}
use Rattle.jc_curves.proofs.DerLaws.{long_from, short_from}
use Rattle.jc_curves.proofs.der.sequence.Goals as goal

pub returns-then-bytes : goal.returns-then-bytes
returns-then-bytes c = short_from c.args.bytes.now _ (omega arith) (omega arith) (omega arith) (omega arith) refl

pub returns : goal.returns
returns c = long_from c.args.bytes.now _ (omega arith) (omega arith) (omega arith) (omega arith) (omega arith) refl
