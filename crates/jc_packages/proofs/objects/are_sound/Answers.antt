use Rattle.std.proofs.Common.{◌≡◌, ◌<◌, None, refl, sym, subst, arith, ◌∙◌}
use Rattle.std.proofs.lemmas.Bool.{false≢true}
use Rattle.jc_heap.specs.Heap.{next_object}
use Rattle.jc_packages.specs.Objects.{IsSoundObject}
use Rattle.jc_packages.proofs.Order.{Walks, walks, one_more, all_of_them}
use Rattle.jc_packages.proofs.objects.are_sound.Goals as goal

pub loop-object-init : goal.loop-object-init
loop-object-init g c = record { there = c.requires.own; behind = omega arith; sound = λ r above le o. absurd (omega (arith, above, le)) }

pub loop-object-smaller : goal.loop-object-smaller
loop-object-smaller g c =
    let w : Walks c.args.marked.now.now = subst Walks (sym c.requires.words.1) (walks c.requires.words.0) in
    let further : c.loop-object.at < c.in-Some.object = w.above c.loop-object.at c.in-Some.object (sym c.in-Some.ensures.next) in
    omega (arith, further)

pub loop-object-preserved : goal.loop-object-preserved
loop-object-preserved g c =
    let w : Walks c.args.marked.now.now = subst Walks (sym c.requires.words.1) (walks c.requires.words.0) in
    let further : c.loop-object.at < c.in-Some.object = w.above c.loop-object.at c.in-Some.object (sym c.in-Some.ensures.next) in
    record {
      there = λ n. c.in-Some.ensures.object;
      behind = omega (arith, further);
      sound = one_more c.args.marked.now.now w (IsSoundObject c.args.linked.now c.args.marked.now.now) c.args.own c.loop-object.at c.in-Some.object
          (sym c.in-Some.ensures.next) c.loop-object.invariant.sound (c.is_sound_object.ensures.0 c.if-not-is_sound_object.false);
    }

pub returns-then-not-is_sound_object : goal.returns-then-not-is_sound_object
returns-then-not-is_sound_object g c =
    let w : Walks c.args.marked.now.now = subst Walks (sym c.requires.words.1) (walks c.requires.words.0) in
    let further : c.loop-object.at < c.in-Some.object = w.above c.loop-object.at c.in-Some.object (sym c.in-Some.ensures.next) in (
      (λ t. absurd (false≢true t)),
      λ all. absurd (false≢true (sym c.if-not-is_sound_object.true ∙ c.is_sound_object.ensures.1
          (all c.in-Some.object (omega (arith, further, c.loop-object.invariant.behind)) c.in-Some.ensures.object))),
    )

pub returns : goal.returns
returns g c =
    let w : Walks c.args.marked.now.now = subst Walks (sym c.requires.words.1) (walks c.requires.words.0) in
    let last : next_object c.args.marked.now.now c.loop-object.at ≡ None = sym c.in_default.ensures.next in (
      (λ t. all_of_them c.args.marked.now.now w (IsSoundObject c.args.linked.now c.args.marked.now.now) c.args.own c.loop-object.at last
          c.loop-object.invariant.sound),
      λ all. refl,
    )
