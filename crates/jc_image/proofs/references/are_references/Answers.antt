use Rattle.std.proofs.Common.{arith, ◌∙◌, sym}
use Rattle.std.proofs.lemmas.Bool.{false≢true}
use Rattle.jc_image.proofs.Naming.{all_references, named_met}
use Rattle.jc_image.proofs.references.are_references.Goals as goal

pub returns-then-names_no_package : goal.returns-then-names_no_package
returns-then-names_no_package g c = (
  (λ t. all_references c.args.journal.now.plain c.requires.laid c.args.marks.now c.args.named.now c.requires.marks c.requires.below
      (c.names_no_package.ensures.none c.if-names_no_package.true)
      (λ r pos lt e. c.all_met.ensures.0 t r pos (omega (arith, lt, c.read-top.ensures)) e)),
  λ all. c.all_met.ensures.1 (λ r pos lt e. named_met c.args.journal.now.plain c.requires.laid c.args.marks.now c.args.named.now c.requires.marks all r pos e),
)

pub returns-else-names_no_package : goal.returns-else-names_no_package
returns-else-names_no_package g c = (
  (λ t. absurd (false≢true (sym c.if-names_no_package.false ∙ t))),
  λ all. absurd (c.names_no_package.ensures.some c.if-names_no_package.false all),
)
