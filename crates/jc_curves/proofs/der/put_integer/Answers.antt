use Rattle.std.proofs.Common.{◌+◌, ◌∷◌, length}
use Rattle.jc_curves.proofs.DerLaws.{both_written, with_zero}
use Rattle.jc_curves.proofs.der.put_integer.Goals as goal

pub returns-then-needs_zero-clause-written : goal.returns-then-needs_zero-clause-written
returns-then-needs_zero-clause-written c =
    let number = c.args.number.now in (
      2 ∷ (length number + 1) ∷ 0 ∷ number,
      with_zero number c.requires.few (c.needs_zero.ensures.0 c.if-needs_zero.true),
      both_written _ _ _ _ _ c.put.ensures.written c.put-start.ensures.written,
    )
