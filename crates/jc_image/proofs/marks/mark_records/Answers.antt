use Rattle.std.proofs.Common.{arith, rules, ◌≡◌, ◌<◌, ◌||◌, ◌∙◌, true, [], ◌∷◌, ap, sym, subst, length, set}
use Rattle.std.proofs.lemmas.List.{length-set}
use Rattle.std.proofs.lemmas.Bool.{false≢true}
use Rattle.jc_transient.specs.declared.cell.ClearEvent.TheVariants.{Reset, Deselect}
use Rattle.jc_heap.specs.Heap.{heap_of, area_end, area_limit}
use Rattle.jc_heap.specs.Walk.{has_entry}
use Rattle.jc_image.specs.Steps.{items_from, item_from}
use Rattle.jc_heap.proofs.AreaRuns.{Run, run_of}
use Rattle.jc_image.proofs.Stepping.{first_items, first_missing, missing_from, cut_short, laid_at_top, step_missing, nothing_from}
use Rattle.jc_image.proofs.Marking.{Marks, marks_step, marks_end, names_are}
use Rattle.jc_image.proofs.Referring.{AllHold, all_of_list, list_of_all}
use Rattle.jc_image.proofs.Naming.{none_named, held_step}
use Rattle.jc_image.proofs.Running.{filled_at_end, end_of_filled, both_filled, run_step}
use Rattle.jc_image.proofs.marks.mark_records.Goals as goal

pub loop-at-init : goal.loop-at-init
loop-at-init g c =
    let items : (heap_of c.args.journal.now.plain).items ≡ items_from c.args.journal.now.plain c.first_record-at.result =
    first_items c.args.journal.now.plain ∙ ap (items_from c.args.journal.now.plain) (sym c.first_record-at.ensures) in
    record {
      low = omega (arith, c.first_record-at.ensures);
      high = omega (arith, c.first_record-at.ensures, c.requires.bounds.based);
      left = ap (missing_from c.args.journal.now.plain) c.first_record-at.ensures ∙ first_missing c.args.journal.now.plain;
      long = c.requires.long;
      named_long = search rules;
      marks = λ r. ap (λ b. b || has_entry (items_from c.args.journal.now.plain c.first_record-at.result) r) (c.requires.none r)
          ∙ ap (λ l. has_entry l r) (sym items);
      below = λ r le. c.requires.unnamed r;
      reset_room = omega arith;
      deselect_room = omega arith;
      reset = (
        (λ run. subst (λ l. Run Reset (area_limit (heap_of c.args.journal.now.plain) Reset) 0 l (area_end (heap_of c.args.journal.now.plain) Reset)) (sym items) run),
        λ run. subst (λ l. Run Reset (area_limit (heap_of c.args.journal.now.plain) Reset) 0 l (area_end (heap_of c.args.journal.now.plain) Reset)) items run,
      );
      deselect = (
        (λ run. subst (λ l. Run Deselect (area_limit (heap_of c.args.journal.now.plain) Deselect) 0 l (area_end (heap_of c.args.journal.now.plain) Deselect)) (sym items) run),
        λ run. subst (λ l. Run Deselect (area_limit (heap_of c.args.journal.now.plain) Deselect) 0 l (area_end (heap_of c.args.journal.now.plain) Deselect)) items run,
      );
      held = (
        (λ x. subst (AllHold (heap_of c.args.journal.now.plain)) (sym items) x.1),
        λ all. (
          none_named (heap_of c.args.journal.now.plain) c.args.named.now c.requires.unnamed,
          subst (AllHold (heap_of c.args.journal.now.plain)) items all,
        ),
      );
    }

pub returns-in_default-clause-broken : goal.returns-in_default-clause-broken
returns-in_default-clause-broken g c = λ u. λ laid f holds.
    cut_short c.args.journal.now.plain c.loop-at.at c.requires.bounds.fits (omega (arith, c.loop-at-test.true, c.read-top.ensures))
    (omega (arith, c.in_default.ensures.cut, c.read-top.ensures)) (c.loop-at.invariant.left ∙ laid.whole)

pub returns-in_default-visit-clause-broken : goal.returns-in_default-visit-clause-broken
returns-in_default-visit-clause-broken g c = λ u. λ laid f holds.
    let reset : Run Reset (area_limit (heap_of c.args.journal.now.plain) Reset) c.loop-at.places.reset ((c.loop-at.at, item_from c.args.journal.now.plain c.loop-at.at)
    ∷ items_from c.args.journal.now.plain c.in-Some.end) (area_end (heap_of c.args.journal.now.plain) Reset) =
    subst (λ l. Run Reset (area_limit (heap_of c.args.journal.now.plain) Reset) c.loop-at.places.reset l (area_end (heap_of c.args.journal.now.plain) Reset)) c.in-Some.ensures.items
    (c.loop-at.invariant.reset.1 (run_of (heap_of c.args.journal.now.plain) Reset (f Reset))) in
    let deselect : Run Deselect (area_limit (heap_of c.args.journal.now.plain) Deselect) c.loop-at.places.deselect ((c.loop-at.at, item_from c.args.journal.now.plain c.loop-at.at)
    ∷ items_from c.args.journal.now.plain c.in-Some.end) (area_end (heap_of c.args.journal.now.plain) Deselect) =
    subst (λ l. Run Deselect (area_limit (heap_of c.args.journal.now.plain) Deselect) c.loop-at.places.deselect l (area_end (heap_of c.args.journal.now.plain) Deselect)) c.in-Some.ensures.items
    (c.loop-at.invariant.deselect.1 (run_of (heap_of c.args.journal.now.plain) Deselect (f Deselect))) in
    let held : AllHold (heap_of c.args.journal.now.plain) ((c.loop-at.at, item_from c.args.journal.now.plain c.loop-at.at)
    ∷ items_from c.args.journal.now.plain c.in-Some.end) =
    subst (AllHold (heap_of c.args.journal.now.plain)) c.in-Some.ensures.items
    ((c.loop-at.invariant.held.1 (list_of_all c.args.journal.now.plain holds)).1) in
    c.in_default-visit.ensures.none reset.0 deselect.0 held.0

pub loop-at-preserved : goal.loop-at-preserved
loop-at-preserved g c =
    let within : c.loop-at.at < length c.loop-at.marks =
    omega (arith, c.loop-at.invariant.long, c.loop-at-test.true, c.read-top.ensures, c.requires.bounds.fits, c.requires.small) in
    record {
      low = omega (arith, c.loop-at.invariant.low, c.in-Some.ensures.on);
      high = omega (arith, c.in-Some.ensures.end, c.in-Some.ensures.here.whole);
      left = ap (missing_from c.args.journal.now.plain) c.in-Some.ensures.end
          ∙ step_missing c.args.journal.now.plain c.loop-at.at c.requires.bounds.fits c.in-Some.ensures.here
          ∙ c.loop-at.invariant.left;
      long = length-set c.loop-at.marks c.from.result true ∙ c.loop-at.invariant.long;
      named_long = c.visit.ensures.long;
      marks = subst (λ a. Marks (set c.loop-at.marks a true) (items_from c.args.journal.now.plain c.in-Some.end)
          ((heap_of c.args.journal.now.plain).items)) (sym c.from.ensures)
          (marks_step c.loop-at.marks c.loop-at.at (item_from c.args.journal.now.plain c.loop-at.at) (items_from c.args.journal.now.plain c.in-Some.end)
          ((heap_of c.args.journal.now.plain).items) within (subst (λ l. Marks c.loop-at.marks l ((heap_of c.args.journal.now.plain).items))
          c.in-Some.ensures.items c.loop-at.invariant.marks));
      below = λ r le. c.visit.ensures.below (λ q high. c.loop-at.invariant.below q (omega (arith, high, c.read-top.ensures))) r
          (omega (arith, le, c.read-top.ensures));
      reset_room = omega (arith, c.in-Some-visit.ensures.next.0, c.in-Some-visit.ensures.fits.0.ends);
      deselect_room = omega (arith, c.in-Some-visit.ensures.next.1, c.in-Some-visit.ensures.fits.1.ends);
      reset = run_step Reset (items_from c.args.journal.now.plain c.loop-at.at) (items_from c.args.journal.now.plain c.in-Some.end) c.loop-at.at
          (item_from c.args.journal.now.plain c.loop-at.at) (area_limit (heap_of c.args.journal.now.plain) Reset) c.loop-at.places.reset c.in-Some-visit.next.reset
          (area_end (heap_of c.args.journal.now.plain) Reset) _ c.in-Some.ensures.items c.in-Some-visit.ensures.fits.0 c.in-Some-visit.ensures.next.0
          c.loop-at.invariant.reset;
      deselect = run_step Deselect (items_from c.args.journal.now.plain c.loop-at.at) (items_from c.args.journal.now.plain c.in-Some.end) c.loop-at.at
          (item_from c.args.journal.now.plain c.loop-at.at) (area_limit (heap_of c.args.journal.now.plain) Deselect) c.loop-at.places.deselect c.in-Some-visit.next.deselect
          (area_end (heap_of c.args.journal.now.plain) Deselect) _ c.in-Some.ensures.items c.in-Some-visit.ensures.fits.1 c.in-Some-visit.ensures.next.1
          c.loop-at.invariant.deselect;
      held = held_step (heap_of c.args.journal.now.plain) (items_from c.args.journal.now.plain c.loop-at.at)
          (items_from c.args.journal.now.plain c.in-Some.end) c.loop-at.at (item_from c.args.journal.now.plain c.loop-at.at) _ _ _
          c.in-Some.ensures.items c.in-Some-visit.ensures.held c.loop-at.invariant.held;
    }

pub ends_at-requires : goal.ends_at-requires
ends_at-requires g c = record {
  laid = laid_at_top c.args.journal.now.plain c.loop-at.at c.requires.bounds (omega (arith, c.loop-at-test.false, c.read-top.ensures))
      c.loop-at.invariant.left;
}

pub ends_at-requires-then-ends_at : goal.ends_at-requires-then-ends_at
ends_at-requires-then-ends_at g c = record {
  laid = laid_at_top c.args.journal.now.plain c.loop-at.at c.requires.bounds (omega (arith, c.loop-at-test.false, c.read-top.ensures))
      c.loop-at.invariant.left;
}

pub returns-then-ends_at-clause-laid : goal.returns-then-ends_at-clause-laid
returns-then-ends_at-clause-laid g c = λ t. laid_at_top c.args.journal.now.plain c.loop-at.at c.requires.bounds
    (omega (arith, c.loop-at-test.false, c.read-top.ensures)) c.loop-at.invariant.left

pub returns-then-ends_at-clause-marks : goal.returns-then-ends_at-clause-marks
returns-then-ends_at-clause-marks g c = λ t. λ r.
    let nothing : items_from c.args.journal.now.plain c.loop-at.at ≡ [] = nothing_from c.args.journal.now.plain c.loop-at.at
    (omega (arith, c.loop-at-test.false, c.read-top.ensures)) in
    marks_end c.loop-at.marks ((heap_of c.args.journal.now.plain).items) (subst (λ l. Marks c.loop-at.marks l ((heap_of c.args.journal.now.plain).items))
    nothing c.loop-at.invariant.marks) r
    ∙ names_are c.args.journal.now.plain r

pub returns-then-ends_at-clause-held : goal.returns-then-ends_at-clause-held
returns-then-ends_at-clause-held g c = λ t.
    let nothing : items_from c.args.journal.now.plain c.loop-at.at ≡ [] = nothing_from c.args.journal.now.plain c.loop-at.at
    (omega (arith, c.loop-at-test.false, c.read-top.ensures)) in (
      (λ all. λ r. all_of_list (heap_of c.args.journal.now.plain)
          (c.loop-at.invariant.held.0 (all, subst (AllHold (heap_of c.args.journal.now.plain)) (sym nothing) tt)) r),
      λ holds. (c.loop-at.invariant.held.1 (list_of_all c.args.journal.now.plain holds)).0,
    )

pub returns-then-ends_at-clause-filled : goal.returns-then-ends_at-clause-filled
returns-then-ends_at-clause-filled g c = λ t.
    let nothing : items_from c.args.journal.now.plain c.loop-at.at ≡ [] = nothing_from c.args.journal.now.plain c.loop-at.at
    (omega (arith, c.loop-at-test.false, c.read-top.ensures)) in
    both_filled (heap_of c.args.journal.now.plain)
    (filled_at_end (heap_of c.args.journal.now.plain) Reset c.loop-at.places.reset (items_from c.args.journal.now.plain c.loop-at.at) nothing
    c.loop-at.invariant.reset c.loop-at.invariant.reset_room (c.ends_at.ensures.0 c.if-ends_at.true))
    (filled_at_end (heap_of c.args.journal.now.plain) Deselect c.loop-at.places.deselect (items_from c.args.journal.now.plain c.loop-at.at) nothing
    c.loop-at.invariant.deselect c.loop-at.invariant.deselect_room (c.ends_at-then-ends_at.ensures.0 t))

pub returns-then-ends_at-clause-broken : goal.returns-then-ends_at-clause-broken
returns-then-ends_at-clause-broken g c = λ u. λ laid f holds.
    let nothing : items_from c.args.journal.now.plain c.loop-at.at ≡ [] = nothing_from c.args.journal.now.plain c.loop-at.at
    (omega (arith, c.loop-at-test.false, c.read-top.ensures)) in
    false≢true (sym u ∙ c.ends_at-then-ends_at.ensures.1 (end_of_filled (heap_of c.args.journal.now.plain) Deselect c.loop-at.places.deselect
    (items_from c.args.journal.now.plain c.loop-at.at) nothing c.loop-at.invariant.deselect (f Deselect)))

pub returns-else-ends_at-clause-broken : goal.returns-else-ends_at-clause-broken
returns-else-ends_at-clause-broken g c = λ u. λ laid f holds.
    let nothing : items_from c.args.journal.now.plain c.loop-at.at ≡ [] = nothing_from c.args.journal.now.plain c.loop-at.at
    (omega (arith, c.loop-at-test.false, c.read-top.ensures)) in
    false≢true (sym c.if-ends_at.false ∙ c.ends_at.ensures.1 (end_of_filled (heap_of c.args.journal.now.plain) Reset c.loop-at.places.reset
    (items_from c.args.journal.now.plain c.loop-at.at) nothing c.loop-at.invariant.reset (f Reset)))
