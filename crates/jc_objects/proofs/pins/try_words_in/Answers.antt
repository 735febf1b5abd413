use Rattle.std.proofs.Common.{◌<◌, sym, subst, arith}
use Rattle.jc_packages.proofs.Order.{Walks, walks}
use Rattle.jc_objects.proofs.Walked.{found_all, found_more, found_none}
use Rattle.jc_objects.proofs.pins.try_words_in.Goals as goal

pub loop-object-init : goal.loop-object-init
loop-object-init g c = record {
  there = λ n. absurd (n c.null-at.ensures);
  found = rw (c.null-at.ensures, c.new-found.ensures.items) (found_none c.args.linked.now c.args.heap.now.now);
}

pub loop-object-smaller : goal.loop-object-smaller
loop-object-smaller g c =
    let w : Walks c.args.heap.now.now = subst Walks (sym c.requires.words.1) (walks c.requires.words.0) in
    let further : c.loop-object.at < c.in-Some.object = w.above c.loop-object.at c.in-Some.object (sym c.in-Some.ensures.next) in
    omega (arith, further)

pub loop-object-preserved : goal.loop-object-preserved
loop-object-preserved g c =
    let w : Walks c.args.heap.now.now = subst Walks (sym c.requires.words.1) (walks c.requires.words.0) in
    record {
      there = λ n. c.in-Some.ensures.object;
      found = found_more c.args.linked.now c.args.heap.now.now w c.loop-object.at c.in-Some.object (sym c.in-Some.ensures.next) c.in-Some.ensures.object
          c.loop-object.found.items c.note.new.found.items c.in_ok-note.ensures c.loop-object.invariant.found;
    }

pub returns : goal.returns
returns g c =
    let w : Walks c.args.heap.now.now = subst Walks (sym c.requires.words.1) (walks c.requires.words.0) in
    found_all c.args.linked.now c.args.heap.now.now w c.loop-object.at (sym c.in_default.ensures.next) c.loop-object.found.items c.loop-object.invariant.found
