use Rattle.std.proofs.Common.{◌≡◌, ◌∙◌, List, [], ◌∷◌, Ok, Err, refl, ap, subst, inl, inr}
use Rattle.std.proofs.lemmas.Result.{err_from_is_err_and}
use Rattle.jcard_texts.proofs.Known.{appends_same}
use Rattle.jc_words.specs.Store.{store_value}
use Rattle.jcard_files.specs.FileDeeds.{FileDeed, ClosesImage, ReadsImage, untouched}
use Rattle.jcard_files.proofs.Stores.{fresh_untouched}
use Rattle.jcard_files.proofs.Effects.{not_opened_unwritten, unfailed}
use Rattle.jcard_dump.proofs.comparison.compare_with.Goals as goal

pub returns : goal.returns
returns g c =
    let other = c.args.other.now in
    let words = g.D.Image.WordStore.words c.in_ok-second.second in
    let I = g.D.Image.WordStore in
    let value = store_value I.words I.down I.passed I.refusals in
    let fresh : value c.new.result.store ≡ untouched words = ap value c.new.ensures
    ∙ fresh_untouched words _ _ _ c.in_ok-second.ensures.up c.in_ok-second.ensures.none_passed c.in_ok-second.ensures.none_refused in
    let closed = subst (λ s. g.D.Disk.does c.open_image_to_read.new.self (ClosesImage other s ∷ []) c.close_image.new.self) fresh
    c.close_image.ensures in
    let told = c.tell_differences-told.ensures.0 in
    let reads : List FileDeed = ReadsImage other (Ok words) ∷ [] in (
      (
        told.0,
        ReadsImage other (Ok words) ∷ ClosesImage other (untouched words) ∷ [],
        told.1,
        inr (words, c.in_ok-second.ensures.size, told.2, refl),
        g.met.D.Disk.then _ _ _ reads _ c.in_ok-second.ensures.does closed,
      ),
      c.tell_differences-told.ensures.1,
    )

pub returns-in_err-second : goal.returns-in_err-second
returns-in_err-second g c =
    let p = err_from_is_err_and c.from_residual.result c.from_residual.ensures.1 in
    rw (p.1, p.2) (
      (
        [],
        ReadsImage c.args.other.now (Err c.in_err-second.field-0.0) ∷ [],
        appends_same _,
        inl (c.in_err-second.field-0.0, refl, c.in_err-second.ensures.refused, refl, refl),
        c.in_err-second.ensures.does,
      ),
      unfailed _ c.in_err-second.field-0.0 (not_opened_unwritten c.args.other.now c.in_err-second.field-0.0 c.in_err-second.ensures.refused),
    )
