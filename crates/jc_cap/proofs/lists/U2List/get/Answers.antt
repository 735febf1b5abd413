use Rattle.jc_cap.specs.Reading.{u2_at}
use Rattle.jc_cap.proofs.Lent.{place_within, value_at, never_at}
use Rattle.jc_cap.proofs.Lent.{u2_size}
use Rattle.jc_cap.proofs.lists.U2List.get.Goals as goal

pub split_at-requires : goal.split_at-requires
split_at-requires c = place_within u2_at 2 u2_size c.args.index c.self.inside.count c.self.inside.bytes.now c.args.self.now c.self.invariant c.self.view_is
    c.requires

pub unreachable-requires : goal.unreachable-requires
unreachable-requires c = never_at u2_at 2 u2_size c.args.index c.self.inside.count c.self.inside.bytes.now c.split_at.result.1.now c.args.self.now
    c.in-Err.field-0 c.self.invariant c.self.view_is c.requires c.split_at.ensures.back c.in-Err.ensures

pub returns : goal.returns
returns c = value_at u2_at 2 u2_size c.args.index c.self.inside.count c.self.inside.bytes.now c.split_at.result.1.now c.in-Ok.field-0-1.now c.args.self.now
    c.in-Ok.value c.self.invariant c.self.view_is c.requires c.split_at.ensures.back c.in-Ok.ensures
