use Rattle.std.proofs.Common.{[], ◌++◌, refl, inl, inr}
use Rattle.std.proofs.lemmas.Result.{err_from_is_err_and}
use Rattle.jcard_texts.proofs.Known.{appends_same}
use Rattle.jcard_files.proofs.Effects.{unfailed}
use Rattle.jcard_sweeps.proofs.image_sweep.sweep_image.Goals as goal

pub returns-in_err-words : goal.returns-in_err-words
returns-in_err-words g c =
    let image = c.in_err-words.ensures.read in
    let fault = c.in_err-words.field-0.0 in
    let p = err_from_is_err_and c.from_residual.result c.from_residual.ensures.1 in
    rw (p.1, p.2) (([], image.0, appends_same _, inl (fault, refl, refl, image.2), image.1), unfailed _ fault c.in_err-words.ensures.unwritten)

pub returns-in_err-script : goal.returns-in_err-script
returns-in_err-script g c =
    let image = c.in_ok-words.ensures.read in
    let script = c.in_err-script.ensures.read in
    let fault = c.in_err-script.field-0.0 in
    let p = err_from_is_err_and c.from_residual-in_err-script.result c.from_residual-in_err-script.ensures.1 in
    rw (p.1, p.2) (
      (
        [],
        image.0 ++ script.0,
        appends_same _,
        inr (c.in_ok-words.words.items, image.0, script.0, image.2, refl, inl (fault, refl, refl, script.2)),
        g.met.D.Disk.then _ _ _ image.0 script.0 image.1 script.1,
      ),
      unfailed _ fault c.in_err-script.ensures.unwritten,
    )

pub returns : goal.returns
returns g c =
    let image = c.in_ok-words.ensures.read in
    let script = c.in_ok-script.ensures.read in
    let text = c.in_ok-script.script.items in
    let told = rw (c.deref.ensures.value, c.deref-2.ensures.value) at c.sweep_script.ensures in
    let on = told.0 in (
      (
        on.0,
        image.0 ++ (script.0 ++ on.1),
        on.2,
        inr (c.in_ok-words.words.items, image.0, script.0 ++ on.1, image.2, refl, inr (text, script.0, on.1, script.2, refl, on.3)),
        g.met.D.Disk.then _ _ _ image.0 (script.0 ++ on.1) image.1 (g.met.D.Disk.then _ _ _ script.0 on.1 script.1 on.4),
      ),
      told.1,
    )
