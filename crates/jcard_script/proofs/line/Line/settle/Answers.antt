use Rattle.std.proofs.Common.{◌∙◌, subst, sym}
use Rattle.std.specs.Str.Lines.{strip_carriage_return}
use Rattle.jcard_script.specs.Line.{IsLineOf}
use Rattle.jcard_script.specs.Word.{IsWordOf}
use Rattle.jcard_script.proofs.LineSteps.{returned}
use Rattle.jcard_script.proofs.line.Line.settle.Goals as goal

pub returns-then-self : goal.returns-then-self
returns-then-self c = λ line h.
    let whole = returned line (sym h.0 ∙ c.if-self.true) in (
      subst (IsLineOf c.push.new.self.kind c.push.new.self.digits.items c.push.new.self.is_odd) whole (c.push.ensures (strip_carriage_return line) h.1),
      subst (IsWordOf c.push-then-self.new.self) whole (c.push-then-self.ensures (strip_carriage_return line) h.2),
    )
