use Rattle.std.proofs.Common.{arith}
use Rattle.jc_cap.specs.Packages.{package_at}
use Rattle.jc_cap.proofs.Lent.{count_is}
use Rattle.jc_cap.proofs.imports.Imports.get.Goals as goal

pub seek-place-requires-clause-within : goal.seek-place-requires-clause-within
seek-place-requires-clause-within c = omega (
  arith,
  c.requires,
  count_is package_at c.self.inside.count c.self.inside.bytes.now c.args.self.now c.self.invariant
      c.self.view_is,
)
