use Rattle.std.proofs.Common.{subst}
use Rattle.jc_cap.specs.Assembling.{IsPackage}
use Rattle.jc_cap.proofs.Named.{is_package, never_unread}
use Rattle.jc_cap.proofs.assembling.Package.contents.Goals as goal

pub unreachable-requires : goal.unreachable-requires
unreachable-requires c = never_unread c.self.inside.texts c.in-Err.field-0 c.self.invariant c.in-Err.ensures

pub returns-clause-sound : goal.returns-clause-sound
returns-clause-sound c = subst IsPackage c.self.view_is (is_package c.self.inside.texts c.self.invariant)
