use Rattle.jc_image.proofs.Sealing.{holds_sealed, holds_unsealed, settled_outside}
use Rattle.std.proofs.Common.{◌∙◌, ap}
use Rattle.jc_heap.specs.Heap.Store.{HoldsHeap}
use Rattle.jc_image.specs.Laying.{first_words_of, sealed_view}
use Rattle.jc_image.proofs.NewFronts.{front-words}
use Rattle.jc_image.proofs.laying.seal.Goals as goal

pub returns-in-Ok-clause-sealed : goal.returns-in-Ok-clause-sealed
returns-in-Ok-clause-sealed g c =
    let e = c.into_store.ensures in
    holds_sealed (g.S.WordStore.words c.into_store.result) _ _ _ c.write_both.new.self c.into_journal-journal.result c.args.heap c.args.heap.size
    (record {
      good = e.stands.good;
      plain = e.stands.plain;
      recovered = e.stands.recovered;
      size = e.size;
      down = e.down;
      passed = e.passed;
      refusals = e.refusals;
      closed = e.closed;
      current = e.current;
    })
    c.in-Ok.ensures.ok c.into_journal-journal.ensures.view c.into_journal-journal.ensures.sound c.requires.up c.requires.outside

pub returns-in-Ok-clause-front : goal.returns-in-Ok-clause-front
returns-in-Ok-clause-front g c =
    let S = g.S.WordStore in
    let s = c.into_store.result in
    let e = c.into_store.ensures in
    let held : HoldsHeap (S.words s) (S.down s) (S.passed s) (S.refusals s) (sealed_view c.args.heap) =
    holds_sealed (S.words s) _ _ _ c.write_both.new.self c.into_journal-journal.result c.args.heap c.args.heap.size
    (record {
      good = e.stands.good;
      plain = e.stands.plain;
      recovered = e.stands.recovered;
      size = e.size;
      down = e.down;
      passed = e.passed;
      refusals = e.refusals;
      closed = e.closed;
      current = e.current;
    })
    c.in-Ok.ensures.ok c.into_journal-journal.ensures.view c.into_journal-journal.ensures.sound c.requires.up c.requires.outside in
    front-words (S.words s) held.good held.laid (held.rests c.requires.up c.requires.outside).closed
    (held.rests c.requires.up c.requires.outside).current ∙ ap (λ h. first_words_of h) held.durable

pub returns-in-Ok-clause-settled : goal.returns-in-Ok-clause-settled
returns-in-Ok-clause-settled g c =
    settled_outside c.into_journal-journal.result c.args.heap c.args.heap.size c.into_journal-journal.ensures.view c.into_journal-journal.ensures.sound
    c.requires.up c.requires.outside

pub returns-in-Err-clause-stopped : goal.returns-in-Err-clause-stopped
returns-in-Err-clause-stopped g c =
    let e = c.into_store-in-Err.ensures in
    holds_unsealed (g.S.WordStore.words c.into_store-in-Err.result) _ _ _ c.write_both.new.self c.into_journal-journal.result c.args.heap c.args.heap.size
    (record {
      good = e.stands.good;
      plain = e.stands.plain;
      recovered = e.stands.recovered;
      size = e.size;
      down = e.down;
      passed = e.passed;
      refusals = e.refusals;
      closed = e.closed;
      current = e.current;
    })
    c.in-Err.ensures.err c.into_journal-journal.ensures.view c.into_journal-journal.ensures.sound

pub returns-in-Err-clause-settled : goal.returns-in-Err-clause-settled
returns-in-Err-clause-settled g c =
    settled_outside c.into_journal-journal.result c.args.heap c.args.heap.size c.into_journal-journal.ensures.view c.into_journal-journal.ensures.sound
    c.requires.up c.requires.outside
