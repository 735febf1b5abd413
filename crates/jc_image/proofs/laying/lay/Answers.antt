use Rattle.std.proofs.Common.{◌≡◌, ◌∙◌, sym, ap, subst, length, arith}
use Rattle.jc_words.specs.Count.{saturating_count}
use Rattle.jc_words.specs.Refusals.{refused_once}
use Rattle.jc_words.specs.Image.{heap_end}
use Rattle.jc_commit.proofs.Words.{heap_end_within}
use Rattle.jc_commit.specs.Image.{recovered_of, IsGoodLog}
use Rattle.jc_commit.specs.State.{State, recovered_journal}
use Rattle.jc_heap.specs.Image.{IsWellFormed}
use Rattle.jc_heap.specs.Heap.{heap_view}
use Rattle.jc_image.specs.Laying.{unsealed_view, first_free}
use Rattle.jc_image.proofs.LaidStores.{unmarked, is_stopped, good_all, moved_all, laid_all, limit_all, view_all, part_after}
use Rattle.jc_image.proofs.OpenImages.{long_recovered}
use Rattle.jc_image.proofs.laying.lay.Goals as goal

pub returns-in_default-clause-unmarked : goal.returns-in_default-clause-unmarked
returns-in_default-clause-unmarked g c = unmarked c.args.room c.args.text.now (g.S.WordStore.words c.args.store)
    (g.S.WordStore.words c.write_image.new.store) c.write_image.ensures.part

pub write_image-requires-clause-fits : goal.write_image-requires-clause-fits
write_image-requires-clause-fits g c = omega (arith, c.requires.fits, heap_end_within (length (g.S.WordStore.words c.args.store)) c.args.room.capacity)

pub of_journal-requires-clause-laid : goal.of_journal-requires-clause-laid
of_journal-requires-clause-laid g c =
    let laid : IsWellFormed (recovered_of (g.S.WordStore.words c.write_image.new.store)) =
    laid_all c.args.room c.args.text.now (g.S.WordStore.words c.args.store) (g.S.WordStore.words c.write_image.new.store) c.in-Ok.ensures.bytes
    c.requires.enough c.requires.capacity c.requires.fits c.in-Ok.ensures.done in
    let moved = moved_all c.args.room c.args.text.now (g.S.WordStore.words c.args.store) (g.S.WordStore.words c.write_image.new.store) c.in-Ok.ensures.bytes
    c.requires.enough c.requires.capacity c.requires.fits c.in-Ok.ensures.done in
    subst (λ (j : State). IsWellFormed j.plain) (sym c.in-Ok-open.ensures.recovered) (subst IsWellFormed (sym moved) laid)

pub returns-in-Ok-open-clause-done : goal.returns-in-Ok-open-clause-done
returns-in-Ok-open-clause-done g c =
    let w = g.S.WordStore.words c.write_image.new.store in
    let old = g.S.WordStore.words c.args.store in
    let r = g.S.WordStore.refusals c.write_image.new.store in
    let limit : c.limit-size.result ≡ heap_end (length old) c.args.room.capacity = c.limit-size.ensures ∙ ap (λ (j : State). length j.plain) c.in-Ok-open.ensures.recovered ∙ long_recovered w
    ∙ limit_all c.args.room c.args.text.now old w c.in-Ok.ensures.bytes c.requires.enough c.requires.capacity c.requires.fits c.in-Ok.ensures.done in
    c.of_journal.ensures
    ∙ ap (λ (j : State). heap_view j c.limit-size.result) c.in-Ok-open.ensures.recovered
    ∙ ap (heap_view (recovered_journal w (g.S.WordStore.passed c.write_image.new.store) r)) limit
    ∙ view_all c.args.room c.args.text.now old w c.in-Ok.ensures.bytes c.requires.enough c.requires.capacity c.requires.fits c.in-Ok.ensures.done
    (g.S.WordStore.passed c.write_image.new.store) r
    ∙ ap (λ p. unsealed_view (length old) c.args.room c.args.text.now p r) c.in-Ok.ensures.passed
    ∙ ap (unsealed_view (length old) c.args.room c.args.text.now (saturating_count (g.S.WordStore.passed c.args.store) (first_free (length c.args.text.now))))
    c.in-Ok.ensures.refusals

pub returns-in-Err-clause-down : goal.returns-in-Err-clause-down
returns-in-Err-clause-down g c =
    let good : IsGoodLog (g.S.WordStore.words c.write_image.new.store) = good_all c.args.room c.args.text.now (g.S.WordStore.words c.args.store)
    (g.S.WordStore.words c.write_image.new.store) c.in-Ok.ensures.bytes c.requires.enough c.requires.capacity c.requires.fits c.in-Ok.ensures.done in
    let stopped = is_stopped g.S.WordStore.words g.S.WordStore.down g.S.WordStore.passed g.S.WordStore.refusals c.write_image.new.store
    c.in-Err.field-0-0 c.in-Err.store good c.in-Err.ensures in
    stopped.is_down

pub returns-in-Err-clause-refused : goal.returns-in-Err-clause-refused
returns-in-Err-clause-refused g c =
    let good : IsGoodLog (g.S.WordStore.words c.write_image.new.store) = good_all c.args.room c.args.text.now (g.S.WordStore.words c.args.store)
    (g.S.WordStore.words c.write_image.new.store) c.in-Ok.ensures.bytes c.requires.enough c.requires.capacity c.requires.fits c.in-Ok.ensures.done in
    let stopped = is_stopped g.S.WordStore.words g.S.WordStore.down g.S.WordStore.passed g.S.WordStore.refusals c.write_image.new.store
    c.in-Err.field-0-0 c.in-Err.store good c.in-Err.ensures in
    stopped.was_up c.in-Ok.ensures.up
    ∙ (λ i. refused_once (sym c.in-Ok.ensures.was_up i) (g.S.WordStore.passed c.in-Err.store) (c.in-Ok.ensures.refusals i))

pub returns-in-Err-clause-part : goal.returns-in-Err-clause-part
returns-in-Err-clause-part g c =
    let good : IsGoodLog (g.S.WordStore.words c.write_image.new.store) = good_all c.args.room c.args.text.now (g.S.WordStore.words c.args.store)
    (g.S.WordStore.words c.write_image.new.store) c.in-Ok.ensures.bytes c.requires.enough c.requires.capacity c.requires.fits c.in-Ok.ensures.done in
    let stopped = is_stopped g.S.WordStore.words g.S.WordStore.down g.S.WordStore.passed g.S.WordStore.refusals c.write_image.new.store
    c.in-Err.field-0-0 c.in-Err.store good c.in-Err.ensures in
    part_after c.args.room c.args.text.now (g.S.WordStore.words c.args.store) (g.S.WordStore.words c.write_image.new.store) c.in-Ok.ensures.bytes
    c.requires.enough c.requires.capacity c.requires.fits c.in-Ok.ensures.done (g.S.WordStore.words c.in-Err.store) stopped.part.0 stopped.part.2

pub returns-in-Err-clause-unmarked : goal.returns-in-Err-clause-unmarked
returns-in-Err-clause-unmarked g c =
    let good : IsGoodLog (g.S.WordStore.words c.write_image.new.store) = good_all c.args.room c.args.text.now (g.S.WordStore.words c.args.store)
    (g.S.WordStore.words c.write_image.new.store) c.in-Ok.ensures.bytes c.requires.enough c.requires.capacity c.requires.fits c.in-Ok.ensures.done in
    let stopped = is_stopped g.S.WordStore.words g.S.WordStore.down g.S.WordStore.passed g.S.WordStore.refusals c.write_image.new.store
    c.in-Err.field-0-0 c.in-Err.store good c.in-Err.ensures in
    unmarked c.args.room c.args.text.now (g.S.WordStore.words c.args.store) (g.S.WordStore.words c.in-Err.store)
    (part_after c.args.room c.args.text.now (g.S.WordStore.words c.args.store) (g.S.WordStore.words c.write_image.new.store) c.in-Ok.ensures.bytes
    c.requires.enough c.requires.capacity c.requires.fits c.in-Ok.ensures.done (g.S.WordStore.words c.in-Err.store) stopped.part.0 stopped.part.2)

pub returns-in-Err-clause-size : goal.returns-in-Err-clause-size
returns-in-Err-clause-size g c =
    let good : IsGoodLog (g.S.WordStore.words c.write_image.new.store) = good_all c.args.room c.args.text.now (g.S.WordStore.words c.args.store)
    (g.S.WordStore.words c.write_image.new.store) c.in-Ok.ensures.bytes c.requires.enough c.requires.capacity c.requires.fits c.in-Ok.ensures.done in
    let stopped = is_stopped g.S.WordStore.words g.S.WordStore.down g.S.WordStore.passed g.S.WordStore.refusals c.write_image.new.store
    c.in-Err.field-0-0 c.in-Err.store good c.in-Err.ensures in
    stopped.still.size ∙ c.write_image.ensures.size
