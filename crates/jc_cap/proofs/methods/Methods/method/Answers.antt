use Rattle.std.proofs.Common.{arith, sym}
use Rattle.jc_cap.specs.MethodViews.{method_parts}
use Rattle.jc_cap.proofs.Offsets.{method_beyond}
use Rattle.jc_cap.proofs.methods.Methods.method.Goals as goal

pub returns-then-self-at : goal.returns-then-self-at
returns-then-self-at c = sym (method_beyond (method_parts c.args.self.now) c.args.offset (omega (arith, c.start-start.ensures, c.if-offset-start.false))
    (omega (arith, c.start-start.ensures, c.if-self-at.true)))
