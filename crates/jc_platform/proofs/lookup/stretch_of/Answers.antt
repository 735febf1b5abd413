use Rattle.std.proofs.Common.{◌≡◌, ◌≤◌, ◌-◌, length, take, drop}
use Rattle.jc_platform.specs.Lookup.{rows_of}
use Rattle.jc_platform.specs.Rows.{methods_of}
use Rattle.jc_platform.proofs.ClassMethods.{ends_within, in_order, stand_together, stretch_of}
use Rattle.jc_platform.proofs.lookup.stretch_of.Goals as goal

pub returns-clause-order : goal.returns-clause-order
returns-clause-order c =
    let s = stretch_of c.index.result in
    let order : s.first ≤ s.end = rw c.index.ensures.place (in_order c.args.class) in
    order

pub returns-clause-within : goal.returns-clause-within
returns-clause-within c =
    let s = stretch_of c.index.result in
    let within : s.end ≤ length (rows_of s.room) = rw c.index.ensures.place (ends_within c.args.class) in
    within

pub returns-clause-together : goal.returns-clause-together
returns-clause-together c =
    let s = stretch_of c.index.result in
    let together : take (s.end - s.first) (drop s.first (rows_of s.room)) ≡ methods_of c.args.class =
    rw c.index.ensures.place (stand_together c.args.class) in
    together
