use Rattle.std.proofs.Common.{◌≡◌, ◌+◌, length, take, get_or, sym, arith}
use Rattle.jc_heap.specs.Fresh.{Fills}
use Rattle.jc_heap.specs.Package.{part, parts, component_words, components_words}
use Rattle.jc_heap.proofs.Packing.{no_component, components-step, components-within, info_small}
use Rattle.jc_heap.proofs.Streams.{piece_below, piece_more, free_left}
use Rattle.jc_heap.proofs.FreshRuns.{anyway, torn_piece}
use Rattle.jc_heap.proofs.record.write_components.Goals as goal

pub write_component-requires-clause-free : goal.write_component-requires-clause-free
write_component-requires-clause-free g c = free_left c.args.at c.loop-component.next (length (components_words (parts c.args.components.now)))
    (length (component_words (part (get_or c.args.components.now c.loop-component.component-index no_component))))
    (components_words (parts (take c.loop-component.component-index c.args.components.now))) c.args.journal.now c.loop-component.journal c.requires.free
    c.loop-component.invariant.below c.loop-component.invariant.done c.loop-component.invariant.behind
    (components-within c.args.components.now c.loop-component.component-index c.loop-component-test.true)

pub write_component-requires-clause-small : goal.write_component-requires-clause-small
write_component-requires-clause-small g c = info_small c.args.components.now c.loop-component.component-index c.requires.small c.loop-component-test.true

pub returns-in_err-write_component-clause-below : goal.returns-in_err-write_component-clause-below
returns-in_err-write_component-clause-below g c = piece_below c.args.at c.loop-component.next
    (components_words (parts (take c.loop-component.component-index c.args.components.now))) c.args.journal.now c.loop-component.journal
    c.write_component.new.journal c.loop-component.invariant.below c.loop-component.invariant.behind c.write_component.ensures.below

pub loop-component-preserved : goal.loop-component-preserved
loop-component-preserved g c =
    let here = get_or c.args.components.now c.loop-component.component-index no_component in
    let done : Fills c.args.at (components_words (parts (take (c.loop-component.component-index + 1) c.args.components.now))) c.args.journal.now
    c.write_component.new.journal × (c.loop-component.next + length (component_words (part here)) ≡ c.args.at
    + length (components_words (parts (take (c.loop-component.component-index + 1) c.args.components.now)))) =
    piece_more c.args.at c.loop-component.next (components_words (parts (take c.loop-component.component-index c.args.components.now)))
    (component_words (part here)) (components_words (parts (take (c.loop-component.component-index + 1) c.args.components.now))) c.args.journal.now
    c.loop-component.journal c.write_component.new.journal
    c.loop-component.invariant.done c.loop-component.invariant.behind c.in_ok-write_component.ensures.done
    (sym (components-step c.args.components.now c.loop-component.component-index c.loop-component-test.true)) in
    record {
      behind = omega (arith, done.1, c.packed_size.ensures);
      below = piece_below c.args.at c.loop-component.next (components_words (parts (take c.loop-component.component-index c.args.components.now)))
          c.args.journal.now c.loop-component.journal c.write_component.new.journal c.loop-component.invariant.below c.loop-component.invariant.behind
          c.write_component.ensures.below;
      done = done.0;
    }

pub returns-in_err-write_component-clause-stopped : goal.returns-in_err-write_component-clause-stopped
returns-in_err-write_component-clause-stopped g c = anyway c.from_residual.result _
    (torn_piece c.args.at (length (components_words (parts c.args.components.now))) _
    (components_words (parts (take c.loop-component.component-index c.args.components.now))) c.args.journal.now c.loop-component.journal
    c.write_component.new.journal c.loop-component.invariant.done c.in_err-write_component.ensures.stopped
    (components-within c.args.components.now c.loop-component.component-index c.loop-component-test.true))
