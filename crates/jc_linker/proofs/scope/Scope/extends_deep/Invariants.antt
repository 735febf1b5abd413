use Rattle.jc_linker.specs.Classes.{AreTold}
use Rattle.jc_linker.proofs.scope.Scope.extends_deep.Given as goal

abbrev pub invariant-loop-word : goal.invariant-loop-word
invariant-loop-word l = AreTold l.self l.word l.of l.table
