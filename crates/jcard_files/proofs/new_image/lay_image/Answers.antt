use Rattle.std.proofs.Common.{◌∙◌, Ok, Err, ap, length, refl, subst}
use Rattle.jc_words.specs.Count.{saturating_count}
use Rattle.jc_words.specs.Refusals.{Refusals}
use Rattle.jc_words.specs.Store.{store_value}
use Rattle.jc_words.proofs.Refusals.{count-refused_once}
use Rattle.jc_card.specs.Formatting.{Formats}
use Rattle.jcard_files.specs.FileDeeds.{untouched}
use Rattle.jcard_files.proofs.Stores.{fresh_untouched}
use Rattle.jcard_files.proofs.NewImages.{laid_new, laid_with, stopped_words}
use Rattle.jcard_files.proofs.new_image.lay_image.Goals as goal

pub returns-in-Ok : goal.returns-in-Ok
returns-in-Ok g c =
    let s = g.S.WordStore in
    let came : Formats s.words s.down s.passed s.refusals c.args.store c.args.room c.args.text.now c.format-store.result.0 (Ok tt)
    = subst (λ r. Formats s.words s.down s.passed s.refusals c.args.store c.args.room c.args.text.now c.format-store.result.0 r) c.in-Ok.is c.format-store.ensures in (
      laid_new s.words s.down s.passed s.refusals c.args.store c.format-store.result.0 c.args.room c.args.text.now came,
      came.2.is_up,
      ap (λ (r : Refusals). r.count) (came.2.none_refused ∙ c.requires.none_refused),
    )

pub returns-in-Err : goal.returns-in-Err
returns-in-Err g c =
    let s = g.S.WordStore in
    let words = s.words c.args.store in
    let after = c.format-store.result.0 in
    let came : Formats s.words s.down s.passed s.refusals c.args.store c.args.room c.args.text.now after (Err c.in-Err.cause)
    = subst (λ r. Formats s.words s.down s.passed s.refusals c.args.store c.args.room c.args.text.now after r) c.in-Err.is c.format-store.ensures in
    laid_with s.words s.down s.passed s.refusals c.args.store after c.args.room c.args.text.now c.args.image.now c.in-Err.cause c.format_fault.result
    (store_value s.words s.down s.passed s.refusals after) came c.requires.table c.requires.enough c.requires.journal c.requires.cells
    (λ same. ap (λ t. store_value s.words s.down s.passed s.refusals t) same
    ∙ (fresh_untouched words _ _ _ c.requires.up c.requires.none_passed c.requires.none_refused ∙ ap untouched c.requires.zeros))
    (λ stopped. (
      stopped.is_down,
      ap (λ (r : Refusals). r.count) stopped.one_refused ∙ (count-refused_once _ _ _ ∙ ap (λ (r : Refusals). saturating_count r.count 1) c.requires.none_refused),
      stopped_words (length words) words (s.words after) (s.words after) refl c.requires.zeros stopped.unmarked,
    ))
    c.format_fault.ensures
