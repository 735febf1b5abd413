use Rattle.std.proofs.Common.{◌≡◌, ◌∙◌, inl, inr, List, [], ◌∷◌, Ok, Err, refl, ap, subst, sym}
use Rattle.std.proofs.lemmas.Result.{err_from_is_err_and}
use Rattle.jcard_texts.proofs.Known.{appends_same}
use Rattle.jc_words.specs.Count.{failures_after}
use Rattle.jc_words.specs.Store.{below_fuse, store_value}
use Rattle.jcard_files.specs.FileDeeds.{FileDeed, ClosesImage, OpensImage, ReadsText, fresh_store, untouched}
use Rattle.jcard_commands.specs.ScriptRun.{IsCarriedOut}
use Rattle.jcard_files.proofs.Stores.{fresh_under_fuse}
use Rattle.jcard_files.proofs.Effects.{not_opened_to_write_unwritten, unfailed, unopened_unwritten}
use Rattle.jcard_commands.proofs.script_run.run_file.Goals as goal

pub returns-in_err-open_image : goal.returns-in_err-open_image
returns-in_err-open_image g c =
    let p = err_from_is_err_and c.from_residual.result c.from_residual.ensures.1 in
    rw (p.1, p.2) (
      (
        [],
        OpensImage c.args.image.now (Err c.in_err-open_image.field-0.0) ∷ [],
        appends_same _,
        inl (c.in_err-open_image.field-0.0, refl, c.in_err-open_image.ensures.refused, refl, refl),
        c.in_err-open_image.ensures.does,
      ),
      unfailed _ c.in_err-open_image.field-0.0 (not_opened_to_write_unwritten c.args.image.now c.in_err-open_image.field-0.0 c.in_err-open_image.ensures.refused),
    )

pub returns-in-Ok : goal.returns-in-Ok
returns-in-Ok g c =
    let image = c.args.image.now in
    let script = c.args.script.now in
    let words = g.D.Image.WordStore.words c.in_ok-open_image.field-0 in
    let unread = g.D.Text.Read.remaining in
    let after = c.run_script_explained-store.result.0 in
    let carried = c.run_script_explained-store.result.1 in
    let ended = c.outcome_of.result in
    let left = unread c.run_script_explained-store.new.reader.inner in
    let fresh : c.new-store.result ≡ fresh_store words = c.new-store.ensures
    ∙ fresh_under_fuse words _ _ _ c.in_ok-open_image.ensures.up c.in_ok-open_image.ensures.none_passed c.in_ok-open_image.ensures.none_refused in
    let done = c.run_script_explained-store.ensures.script in
    let known = unread c.in-Ok.file in
    let over = subst (λ f. IsCarriedOut c.args.budget image script (unread f) left c.new-store.result after ended done.1) c.new-reader.ensures.inner
    (done.0, done.2, carried, done.3, done.5, done.6, c.outcome_of.ensures.outcome) in
    let run = subst (λ s. IsCarriedOut c.args.budget image script known left s after ended done.1) fresh over in
    let I = g.D.Image.WordStore in
    let value = store_value I.words I.down I.passed I.refusals in
    let below : value c.new.result.store ≡ below_fuse after = ap value c.new.ensures ∙ c.into_store.ensures in
    let closed = subst (λ s. g.D.Disk.does c.open_text.new.self (ClosesImage image s ∷ []) c.close_image.new.self) below c.close_image.ensures in
    let opens : List FileDeed = OpensImage image (Ok words) ∷ [] in
    let reads : List FileDeed = ReadsText script (Ok known) ∷ [] in (
      (
        done.1,
        OpensImage image (Ok words) ∷ ReadsText script (Ok known) ∷ ClosesImage image (below_fuse after) ∷ [],
        done.4,
        inr (inr (words, known, left, after, c.in_ok-open_image.ensures.size, run, refl)),
        g.met.D.Disk.then _ _ _ opens _ c.in_ok-open_image.ensures.does (g.met.D.Disk.then _ _ _ reads _ c.in-Ok.ensures.does closed),
      ),
      c.run_script_explained-store.ensures.writes ∙ ap (failures_after (g.W.TextOut.failures c.args.out.now)) (sym c.outcome_of.ensures.unwritten),
    )

pub returns-in-Err : goal.returns-in-Err
returns-in-Err g c =
    let image = c.args.image.now in
    let script = c.args.script.now in
    let words = g.D.Image.WordStore.words c.in_ok-open_image.field-0 in
    let fresh : c.new-store.result ≡ fresh_store words = c.new-store.ensures
    ∙ fresh_under_fuse words _ _ _ c.in_ok-open_image.ensures.up c.in_ok-open_image.ensures.none_passed c.in_ok-open_image.ensures.none_refused in
    let I = g.D.Image.WordStore in
    let value = store_value I.words I.down I.passed I.refusals in
    let below : value c.new-in-Err.result.store ≡ untouched words = ap value c.new-in-Err.ensures
    ∙ (c.into_store-in-Err.ensures ∙ ap below_fuse fresh) in
    let closed = subst (λ s. g.D.Disk.does c.open_text.new.self (ClosesImage image s ∷ []) c.close_image-in-Err.new.self) below
    c.close_image-in-Err.ensures in
    let opens : List FileDeed = OpensImage image (Ok words) ∷ [] in
    let reads : List FileDeed = ReadsText script (Err c.in-Err.fault) ∷ [] in (
      (
        [],
        OpensImage image (Ok words) ∷ ReadsText script (Err c.in-Err.fault) ∷ ClosesImage image (untouched words) ∷ [],
        appends_same _,
        inr (inl (words, c.in-Err.fault, refl, c.in-Err.ensures.refused, refl, refl)),
        g.met.D.Disk.then _ _ _ opens _ c.in_ok-open_image.ensures.does (g.met.D.Disk.then _ _ _ reads _ c.in-Err.ensures.does closed),
      ),
      unfailed _ c.in-Err.fault (unopened_unwritten script c.in-Err.fault c.in-Err.ensures.refused),
    )
