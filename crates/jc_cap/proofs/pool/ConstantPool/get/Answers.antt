use Rattle.jc_cap.specs.Pool.{entry_at}
use Rattle.jc_cap.proofs.Lent.{place_within, value_at, never_at}
use Rattle.jc_cap.proofs.ToldPool.{entry_size}
use Rattle.jc_cap.proofs.pool.ConstantPool.get.Goals as goal

pub split_at-requires : goal.split_at-requires
split_at-requires c = place_within entry_at 4 entry_size c.args.index c.self.inside.count c.self.inside.bytes.now c.args.self.now c.self.invariant
    c.self.view_is c.requires

pub unreachable-requires : goal.unreachable-requires
unreachable-requires c = never_at entry_at 4 entry_size c.args.index c.self.inside.count c.self.inside.bytes.now c.split_at.result.1.now c.args.self.now
    c.in-Err.field-0 c.self.invariant c.self.view_is c.requires c.split_at.ensures.back c.in-Err.ensures

pub returns : goal.returns
returns c = value_at entry_at 4 entry_size c.args.index c.self.inside.count c.self.inside.bytes.now c.split_at.result.1.now c.in-Ok.field-0-1.now
    c.args.self.now c.in-Ok.value c.self.invariant c.self.view_is c.requires c.split_at.ensures.back c.in-Ok.ensures
