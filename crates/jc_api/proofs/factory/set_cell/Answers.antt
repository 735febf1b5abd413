use Rattle.std.proofs.Common.{◌≡◌, false, [], ◌∷◌, refl, sym, subst, arith}
use Rattle.jc_heap.specs.Heap.{IsObject, facts, set_cell}
use Rattle.jc_heap.specs.Moves.{refusal_of_places}
use Rattle.jc_heap.specs.Place.{place_at}
use Rattle.jc_heap.specs.declared.place.Place.TheVariants as place
use Rattle.jc_heap.specs.declared.touch.Touch.TheVariants as touch
use Rattle.jc_heap.proofs.Laws.{facts-set_cell, top-set_cell}
use Rattle.jc_memory.specs.Cells.{word_of}
use Rattle.jc_memory.specs.CommitCapacity.{lacks_capacity}
use Rattle.jc_memory.proofs.Touched.{touches_left}
use Rattle.jc_api.proofs.EngineMaking.{cut_set, did_set}
use Rattle.jc_api.proofs.EngineRoom.{room_for_one}
use Rattle.jc_api.proofs.Standing.{object-set_cell}
use Rattle.jc_api.proofs.factory.set_cell.Goals as goal

pub returns-in-Ok-clause-left : goal.returns-in-Ok-clause-left
returns-in-Ok-clause-left g c more room =
    let s = c.args.memory.now in
    let r = c.args.instance in
    let w = word_of c.args.value in
    subst (λ v. lacks_capacity v more ≡ false)
    (sym (did_set (facts s.heap.now r).event (refusal_of_places s.heap (place.Cell r c.args.i ∷ [])) s c.set.new.self r c.args.i c.args.value
    c.requires.persistent c.in-Ok.ensures))
    (touches_left s.heap (set_cell s.heap.now r c.args.i w) (touch.Place (place.Cell r c.args.i) ∷ []) (place_at s.heap.now (place.Cell r c.args.i) ∷ []) 0 more
    refl (top-set_cell s.heap.now r c.args.i w) (facts-set_cell s.heap.now r c.args.i w) room)

pub returns-in-Ok-clause-there : goal.returns-in-Ok-clause-there
returns-in-Ok-clause-there g c =
    let s = c.args.memory.now in
    let r = c.args.instance in
    subst (λ v. IsObject v.heap.now r)
    (sym (did_set (facts s.heap.now r).event (refusal_of_places s.heap (place.Cell r c.args.i ∷ [])) s c.set.new.self r c.args.i c.args.value
    c.requires.persistent c.in-Ok.ensures))
    (object-set_cell s.heap.now r c.args.i (word_of c.args.value) r c.requires.there)

pub returns-in-Ok-clause-header : goal.returns-in-Ok-clause-header
returns-in-Ok-clause-header g c =
    let s = c.args.memory.now in
    let r = c.args.instance in
    subst (λ v. facts v.heap.now r ≡ facts s.heap.now r)
    (sym (did_set (facts s.heap.now r).event (refusal_of_places s.heap (place.Cell r c.args.i ∷ [])) s c.set.new.self r c.args.i c.args.value
    c.requires.persistent c.in-Ok.ensures))
    (facts-set_cell s.heap.now r c.args.i (word_of c.args.value) r)

pub returns-in-Err-clause-made : goal.returns-in-Err-clause-made
returns-in-Err-clause-made g c =
    let s = c.args.memory.now in
    let r = c.args.instance in
    cut_set (facts s.heap.now r).event (refusal_of_places s.heap (place.Cell r c.args.i ∷ [])) s c.set.new.self r c.args.i c.args.value c.in-Err.field-0
    c.requires.persistent (room_for_one s r c.args.i c.requires.room (omega (arith, c.commit_capacity.ensures.exact, c.commit_capacity.ensures.least)))
    c.in-Err.ensures
