use Rattle.std.proofs.Common.{◌+◌, ◌-◌, ℕ, sym, ap, ◌∙◌, arith}
use Rattle.std.specs.Prelude.{nat_le}
use Rattle.jc_commit.specs.EntryIndex.{named_by}
use Rattle.jc_commit.proofs.EntryKeeping.{needing_few}
use Rattle.jc_commit.proofs.Views.{within_all, room_left}
use Rattle.jc_commit.proofs.keep.has_room.Goals as goal

pub returns-then-count-room : goal.returns-then-count-room
returns-then-count-room g c =
    let few = needing_few (named_by c.args.log (g.S.WordStore.words c.args.store.now) c.args.n) c.args.born (g.C.WordChanges.changes c.args.changes.now) in
    sym (within_all _ _ (omega (arith, few, c.count.ensures, c.if-count-room.true, c.requires.few)))

pub returns : goal.returns
returns g c =
    room_left c.count_needing.result c.args.n (c.args.log.capacity - c.args.n) c.args.log.capacity (omega (arith, c.requires.few))
    ∙ ap (λ (m : ℕ). nat_le (c.args.n + m) c.args.log.capacity) c.count_needing.ensures
