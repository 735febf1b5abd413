use Rattle.std.proofs.Common.{subst}
use Rattle.std.specs.String.{string_bytes}
use Rattle.jcard_test.specs.Cards.{IsRow}
use Rattle.jcard_test.specs.Lines.{Says}
use Rattle.jcard_test.specs.declared.line.Line.TheVariants.{Row}
use Rattle.jcard_test.proofs.cards.row_of.Goals as goal

pub returns-in_ok-row-in-Row : goal.returns-in_ok-row-in-Row
returns-in_ok-row-in-Row c =
    let says = subst (λ t. Says t c.read_line.result) c.as_str.ensures.value c.read_line.ensures in (
      Row c.in-Row.command c.in-Row.answer,
      subst (λ s. Says (string_bytes c.args.line.now.text) s) c.in-Row.is says,
      subst (λ t. IsRow c.args.line.now.number c.in-Row.command.now t c.in_ok-row-in-Row.row) c.wanted_of.ensures c.in_ok-row-in-Row.ensures,
    )
