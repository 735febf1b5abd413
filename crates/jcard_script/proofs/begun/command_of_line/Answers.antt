use Rattle.std.proofs.Common.{◌≡◌, ◌∙◌, ◌++◌, ◌∷◌, [], ℕ, List, ap, subst, sym}
use Rattle.std.specs.Str.Lines.{strip_carriage_return}
use Rattle.jcard_script.specs.Line.{IsCommandOf}
use Rattle.jcard_script.specs.Script.{form_of}
use Rattle.jcard_script.specs.Begun.{IsCommandLine}
use Rattle.jcard_script.proofs.Digits.{some_so}
use Rattle.jcard_script.proofs.begun.command_of_line.Goals as goal

pub returns-in-Exchange : goal.returns-in-Exchange
returns-in-Exchange c =
    let bytes : List ℕ = c.in_ok-last.bytes.now in
    let line = c.in_ok-last.ensures.cases.0 ∙ ap (λ (b : ℕ). bytes ++ b ∷ []) c.if-last-ne10.false in
    let is = c.in-Exchange.ensures [] c.empty.ensures in
    some_so c.kept.result (λ kept. kept.items ≡ c.in-Exchange.command.now) (λ kept. IsCommandLine kept.items c.args.line.now) c.kept.ensures
    (λ kept same. (bytes, line, c.is_unbroken.ensures c.if-not-is_unbroken.false, subst (λ told. IsCommandOf told (form_of (strip_carriage_return bytes))) (sym same) is))
