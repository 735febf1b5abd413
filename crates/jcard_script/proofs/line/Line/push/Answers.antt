use Rattle.std.proofs.Common.{sym, subst}
use Rattle.jcard_script.specs.Line.{IsLineOf}
use Rattle.jcard_script.specs.Word.{IsWordOf}
use Rattle.jcard_script.proofs.LineSteps.{return_last, strip_other}
use Rattle.jcard_script.proofs.line.Line.push.Goals as goal

pub returns-then-not-self : goal.returns-then-not-self
returns-then-not-self c = λ line k.
    let s = c.settle.ensures line k in
    let same = strip_other line c.args.byte c.if-not-self.true in (
      sym (return_last line c.args.byte),
      subst (λ l. IsLineOf c.push.new.self.kind c.push.new.self.digits.items c.push.new.self.is_odd l) (sym same) (c.push.ensures line s.0),
      subst (IsWordOf c.push-then-not-self.new.self) (sym same) (c.push-then-not-self.ensures line s.1),
    )
