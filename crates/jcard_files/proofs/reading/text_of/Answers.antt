use Rattle.std.proofs.Common.{[], ◌∷◌, Err, refl, inl}
use Rattle.std.proofs.lemmas.Result.{err_from_is_err_and}
use Rattle.jcard_files.specs.FileDeeds.{ReadsText}
use Rattle.jcard_files.proofs.reading.text_of.Goals as goal

pub returns-in_err-file : goal.returns-in_err-file
returns-in_err-file g c =
    let p = err_from_is_err_and c.from_residual.result c.from_residual.ensures.1 in
    rw (p.1, p.2) (ReadsText c.args.name.now (Err c.in_err-file.field-0.0) ∷ [], c.in_err-file.ensures.does, inl (c.in_err-file.ensures.refused, refl))
