use Rattle.std.proofs.Common.{[], ◌∷◌, refl, subst}
use Rattle.std.specs.String.{string_bytes}
use Rattle.jcard_test.specs.Lines.{Says}
use Rattle.jcard_test.proofs.RowTests.{nothing_noted, place_of_file, place_of_other}
use Rattle.jcard_test.proofs.rows_file.add_line.Goals as goal

pub returns-in-Include : goal.returns-in-Include
returns-in-Include g c =
    let says = subst (λ t. Says t c.read_line.result) c.as_str.ensures.value c.read_line.ensures in
    let includes = subst (λ s. Says (string_bytes c.args.line.now.text) s) c.in-Include.is says in
    let more = c.add_file.ensures in
    (more.0, more.1, more.2, place_of_file c.add_file.result c.args.name.now c.args.line.now c.in-Include.file more.0 _ _ includes more.3)

pub returns-in-Ok : goal.returns-in-Ok
returns-in-Ok g c =
    let says = subst (λ t. Says t c.read_line.result) c.as_str.ensures.value c.read_line.ensures in
    let same = c.in-Ok.ensures in (
      [],
      g.met.D.Disk.none c.args.disk.now,
      nothing_noted c.args.sources.now.items,
      (
        same.0 ∷ [],
        place_of_other c.args.name.now c.args.line.now c.read_line.result (same.0 ∷ [])
            c.in_default.not-Include says same.0 same.1 refl,
        same.2,
      ),
    )

pub returns-in-Err : goal.returns-in-Err
returns-in-Err g c = ([], g.met.D.Disk.none c.args.disk.now, nothing_noted c.args.sources.now.items, tt)
