use Rattle.std.proofs.Common.{[], ◌++◌, subst}
use Rattle.std.proofs.lemmas.List.{take_all}
use Rattle.std.proofs.lemmas.Result.{err_from_is_err_and}
use Rattle.jcard_test.specs.Tests.{AreIncluded}
use Rattle.jcard_test.proofs.RowTests.{included_next, included_none, noted_more, nothing_noted}
use Rattle.jcard_test.proofs.rows_file.with_included.Goals as goal

pub loop-line-init : goal.loop-line-init
loop-line-init g c = ([], g.met.D.Disk.none c.args.disk.now, nothing_noted c.args.sources.now.items, rw c.new-lines.ensures.items (included_none c.args.name.now))

pub loop-line-preserved : goal.loop-line-preserved
loop-line-preserved g c =
    let so_far = c.loop-line.invariant in
    let next = c.in_ok-add_line.ensures in (
      so_far.0 ++ next.0,
      g.met.D.Disk.then _ _ _ so_far.0 next.0 so_far.1 next.1,
      noted_more _ _ _ so_far.0 next.0 so_far.2 next.2,
      included_next c.args.name.now c.args.own.now c.loop-line.line-index c.line-item.result c.loop-line.lines.items _ so_far.0 next.3.0 next.0
          c.loop-line-test.true c.line-item.is so_far.3 next.3.1 next.3.2,
    )

pub returns-in_err-add_line : goal.returns-in_err-add_line
returns-in_err-add_line g c =
    let so_far = c.loop-line.invariant in
    let last = c.in_err-add_line.ensures in
    let p = err_from_is_err_and c.from_residual.result c.from_residual.ensures.1 in
    rw (p.1, p.2) (so_far.0 ++ last.0, g.met.D.Disk.then _ _ _ so_far.0 last.0 so_far.1 last.1, noted_more _ _ _ so_far.0 last.0 so_far.2 last.2, last.3)

pub returns : goal.returns
returns g c =
    let all = c.loop-line.invariant in (
      all.0,
      all.1,
      all.2,
      subst (λ own. AreIncluded c.args.name.now own c.loop-line.lines.items all.0)
          (take_all c.loop-line.line-index c.args.own.now c.loop-line-test.false) all.3,
    )
