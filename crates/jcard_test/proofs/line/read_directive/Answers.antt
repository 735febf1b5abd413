use Rattle.std.proofs.Common.{◌∙◌, ◌++◌, ℕ, List, ap, codes, sym, rules}
use Rattle.jcard_test.proofs.LineMeanings.{directive_of}
use Rattle.jcard_test.proofs.line.read_directive.Goals as goal

pub returns : goal.returns
returns c = directive_of c.read_for.result c.args.text.now c.in_ok-strip_prefix.field-0.now (search rules, search rules, λ name e. c.in_default.ensures.cases name e)
    (c.in_ok-strip_prefix.ensures.cases.1.1 ∙ ap (λ (t : List ℕ). codes "for " ++ t) (sym c.in_ok-strip_prefix.ensures.cases.2)) c.read_for.ensures
