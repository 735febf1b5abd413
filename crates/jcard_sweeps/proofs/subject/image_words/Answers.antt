use Rattle.std.proofs.Common.{◌≡◌, ◌∙◌, List, [], ◌∷◌, Ok, Err, refl, ap, sym, subst, inl, inr}
use Rattle.std.proofs.lemmas.Result.{err_from_is_err_and}
use Rattle.jc_words.specs.Store.{store_value}
use Rattle.jcard_files.specs.FileDeeds.{FileDeed, ClosesImage, ReadsImage, untouched}
use Rattle.jcard_sweeps.specs.Subject.{IsImageRead}
use Rattle.jcard_files.proofs.Stores.{fresh_untouched}
use Rattle.jcard_sweeps.proofs.subject.image_words.Goals as goal

pub returns-in_err-store-clause-read : goal.returns-in_err-store-clause-read
returns-in_err-store-clause-read g c =
    let p = err_from_is_err_and c.from_residual.result c.from_residual.ensures.1 in
    rw (p.1, p.2) (ReadsImage c.args.image.now (Err c.in_err-store.field-0.0) ∷ [], c.in_err-store.ensures.does, inl (c.in_err-store.ensures.refused, refl))

pub returns-in-Ok-clause-read : goal.returns-in-Ok-clause-read
returns-in-Ok-clause-read g c =
    let image = c.args.image.now in
    let words = g.D.Image.WordStore.words c.in_ok-store.store in
    let I = g.D.Image.WordStore in
    let value = store_value I.words I.down I.passed I.refusals in
    let fresh : value c.new.result.store ≡ untouched words = ap value c.new.ensures
    ∙ fresh_untouched words _ _ _ c.in_ok-store.ensures.up c.in_ok-store.ensures.none_passed c.in_ok-store.ensures.none_refused in
    let closed = subst (λ s. g.D.Disk.does c.open_image_to_read.new.self (ClosesImage image s ∷ []) c.close_image.new.self) fresh
    c.close_image.ensures in
    let reads : List FileDeed = ReadsImage image (Ok words) ∷ [] in
    let deeds : List FileDeed = ReadsImage image (Ok words) ∷ ClosesImage image (untouched words) ∷ [] in (
      deeds,
      g.met.D.Disk.then _ _ _ reads _ c.in_ok-store.ensures.does closed,
      subst (λ w. IsImageRead image w deeds) (sym c.in-Ok.ensures.words) refl,
    )

pub returns-in-Err-clause-read : goal.returns-in-Err-clause-read
returns-in-Err-clause-read g c =
    let image = c.args.image.now in
    let words = g.D.Image.WordStore.words c.in_ok-store.store in
    let I = g.D.Image.WordStore in
    let value = store_value I.words I.down I.passed I.refusals in
    let fresh : value c.new.result.store ≡ untouched words = ap value c.new.ensures
    ∙ fresh_untouched words _ _ _ c.in_ok-store.ensures.up c.in_ok-store.ensures.none_passed c.in_ok-store.ensures.none_refused in
    let closed = subst (λ s. g.D.Disk.does c.open_image_to_read.new.self (ClosesImage image s ∷ []) c.close_image.new.self) fresh
    c.close_image.ensures in
    let reads : List FileDeed = ReadsImage image (Ok words) ∷ [] in (
      ReadsImage image (Ok words) ∷ ClosesImage image (untouched words) ∷ [],
      g.met.D.Disk.then _ _ _ reads _ c.in_ok-store.ensures.does closed,
      inr (words, refl, refl),
    )
