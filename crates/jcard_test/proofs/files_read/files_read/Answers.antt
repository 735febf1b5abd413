use Rattle.std.proofs.Common.{List, ◌++◌, ◌∙◌, ap, refl}
use Rattle.std.proofs.lemmas.Result.{err_from_is_err_and}
use Rattle.jcard_test.specs.Sources.{paths_of, paths_read}
use Rattle.jcard_test.specs.declared.sources.Source.{Source}
use Rattle.jcard_test.proofs.files_read.files_read.Goals as goal

pub returns : goal.returns
returns g c =
    let read = c.in_ok-files.ensures in (
      read.0,
      read.1,
      read.2.0,
      (refl, read.3, read.2.1 ∙ ap (λ (ss : List Source). paths_of ss ++ paths_read read.0) c.new-sources.ensures.items),
    )

pub returns-in_err-files : goal.returns-in_err-files
returns-in_err-files g c =
    let read = c.in_err-files.ensures in
    let p = err_from_is_err_and c.from_residual.result c.from_residual.ensures.1 in
    rw (p.1, p.2) (read.0, read.1, read.2.0, read.3)
