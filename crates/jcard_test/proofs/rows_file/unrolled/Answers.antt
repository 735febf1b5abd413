use Rattle.std.proofs.Common.{[], subst}
use Rattle.std.specs.Prelude.{MatchResult, option_map}
use Rattle.jcard_test.specs.Tests.{IsFileOf, IsNotIncluded}
use Rattle.jcard_test.proofs.RowTests.{nothing_noted, unrolled_file}
use Rattle.jcard_test.proofs.rows_file.unrolled.Goals as goal

pub returns-in-Ok : goal.returns-in-Ok
returns-in-Ok g c =
    let more = c.of_lines.ensures in
    let name = c.args.name.now in
    let file = subst (λ own. MatchResult c.of_lines.result (λ f. IsFileOf name own (option_map (λ t. t.items) f.table) f.lines.items more.0)
    (λ f. IsNotIncluded name f)) c.deref.ensures.value more.3 in (
      more.0,
      more.1,
      more.2,
      unrolled_file (λ f. option_map (λ t. t.items) f.table) (λ f. f.lines.items) c.of_lines.result name c.args.text.now c.in-Ok.lines.items
          more.0 c.in-Ok.ensures file,
    )

pub returns-in-Err : goal.returns-in-Err
returns-in-Err g c = ([], g.met.D.Disk.none c.args.disk.now, nothing_noted c.args.sources.now.items, tt)
