use Rattle.std.proofs.Common.{arith, ◌<◌, ◌+◌, ◌-◌, ◌∙◌, ap, ap₂, subst, sym, List, ℕ, Bool, if◌then◌else◌}
use Rattle.std.proofs.lemmas.Bool.{le-leb}
use Rattle.jc_heap.specs.Object.{Item}
use Rattle.jc_commit.specs.Image.{top_of}
use Rattle.jc_objects.specs.Records.{is_whole_from, item_at, items_from, record_size}
use Rattle.jc_objects.specs.Places.{IsPlaceFor, standing_here, standing_in}
use Rattle.jc_objects.specs.declared.places.Standing.{Standing}
use Rattle.jc_objects.proofs.Sizes.{record_of, size_none, size_some}
use Rattle.jc_objects.proofs.Standing.{items_end, items_short, items_step}
use Rattle.jc_objects.proofs.PlaceSteps.{place_step}
use Rattle.jc_objects.proofs.places.standing_from.Goals as goal

pub loop-place-init : goal.loop-place-init
loop-place-init g c = record { place = c.requires.place }

pub returns-in_default-clause-standing : goal.returns-in_default-clause-standing
returns-in_default-clause-standing g c =
    let w : List ℕ = g.W.ImageWords.words c.args.words.now in
    let at : ℕ = c.loop-place.place in
    let short : top_of w - at < record_size w at = size_none w at c.in_default.ensures in
    let none = items_short w c.requires.bounds at (omega (arith, c.word-top.ensures)) (omega (arith, short)) in
    sym (ap₂ (λ (whole : Bool) (l : List (ℕ × Item)). standing_in whole l c.args.address) none.1 none.0)
    ∙ c.loop-place.invariant.place.tells c.args.address (omega arith)

pub returns-then-address-place-clause-standing : goal.returns-then-address-place-clause-standing
returns-then-address-place-clause-standing g c =
    let w : List ℕ = g.W.ImageWords.words c.args.words.now in
    let at : ℕ = c.loop-place.place in
    let size = size_some w at c.in-Some.size c.in-Some.ensures in
    let step = items_step w c.requires.bounds at (omega (arith, size.1, c.word-top.ensures)) in
    let behind : Standing = standing_in (is_whole_from w at) (items_from w (at + record_size w at)) c.args.address in
    c.standing_here.ensures.standing
    ∙ sym (ap (λ (b : Bool). if b then standing_here (at, item_at w at) c.args.address else behind) (le-leb c.args.address at (omega arith)))
    ∙ sym (ap (λ (l : List (ℕ × Item)). standing_in (is_whole_from w at) l c.args.address) step.0)
    ∙ c.loop-place.invariant.place.tells c.args.address (omega arith)

pub standing_here-requires-clause-record : goal.standing_here-requires-clause-record
standing_here-requires-clause-record g c =
    record_of (g.W.ImageWords.words c.args.words.now) c.loop-place.place c.in-Some.size c.loop-place.invariant.place.low (omega (arith, c.word-top.ensures)) c.in-Some.ensures

pub overflow_add-place : goal.overflow_add-place
overflow_add-place g c =
    let size = size_some (g.W.ImageWords.words c.args.words.now) c.loop-place.place c.in-Some.size c.in-Some.ensures in
    omega (arith, size.0, size.1, c.word-top.ensures)

pub loop-place-smaller : goal.loop-place-smaller
loop-place-smaller g c =
    let size = size_some (g.W.ImageWords.words c.args.words.now) c.loop-place.place c.in-Some.size c.in-Some.ensures in
    omega (arith, size.0, size.1, c.word-top.ensures)

pub loop-place-preserved : goal.loop-place-preserved
loop-place-preserved g c =
    let w : List ℕ = g.W.ImageWords.words c.args.words.now in
    let at : ℕ = c.loop-place.place in
    let size = size_some w at c.in-Some.size c.in-Some.ensures in
    record {
      place = subst (λ (n : ℕ). IsPlaceFor w (at + n) c.args.address) (sym size.0)
          (place_step w at c.args.address c.requires.bounds (omega (arith, size.1, c.word-top.ensures)) (omega arith) c.loop-place.invariant.place);
    }

pub returns-clause-standing : goal.returns-clause-standing
returns-clause-standing g c =
    let w : List ℕ = g.W.ImageWords.words c.args.words.now in
    let none = items_end w c.requires.bounds c.loop-place.place (omega (arith, c.word-top.ensures)) in
    sym (ap₂ (λ (whole : Bool) (l : List (ℕ × Item)). standing_in whole l c.args.address) none.1 none.0)
    ∙ c.loop-place.invariant.place.tells c.args.address (omega arith)
