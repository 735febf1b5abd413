use Rattle.std.proofs.Common.{◌≡◌, ◌∙◌, [], ◌∷◌, length, refl, subst, sym, ap, inl, inr, Err, true, List, ℕ, arith}
use Rattle.jc_commit.specs.Keep.{has_room_for as journal_room, writes_for as journal_writes}
use Rattle.jc_commit.specs.State.{Changes, keeping as journal_keeping}
use Rattle.jc_heap.specs.Heap.{IsSound, heap_view, has_room_for}
use Rattle.jc_heap.specs.Moves.{Write, refusal_at}
use Rattle.jc_heap.specs.Place.{place_at, cell_at}
use Rattle.jc_heap.specs.declared.place.Place.TheVariants.{Cell}
use Rattle.jc_heap.specs.Elements.{word_for}
use Rattle.jc_heap.proofs.Changing.{up_is, refusal_cases, journal_stopped_sound}
use Rattle.jc_heap.proofs.Calls.{ok_not_err, not_false, room_is, count_is, not_full, unless_done, change_refused}
use Rattle.jc_heap.proofs.Places.{PlaceSpot, place_spot, place_logged, place_view, place_sound}
use Rattle.jc_heap.proofs.Views.{cell_spot}
use Rattle.jc_heap.proofs.heap.Heap.set_known.Goals as goal

pub known_cell_word-word-requires : goal.known_cell_word-word-requires
known_cell_word-word-requires g c =
    let spot = cell_spot c.self.inside.journal c.args.self.now c.self.inside.size c.args.object c.args.i c.self.view_is c.requires.cell in
    omega (arith, ap (λ f. cell_at f c.args.object c.args.i) c.requires.header, spot.0, c.self.invariant.small, c.self.invariant.size_now (up_is c.self.inside.journal c.args.self.now c.self.inside.size c.self.view_is c.requires.up))

pub write-requires-clause-place : goal.write-requires-clause-place
write-requires-clause-place g c =
    let spot : PlaceSpot (length c.self.inside.journal.plain) (place_at c.args.self.now.now (Cell c.args.object c.args.i)) =
    place_spot c.self.inside.journal c.args.self.now c.self.inside.size (Cell c.args.object c.args.i) c.self.view_is
    (c.self.invariant.now (up_is c.self.inside.journal c.args.self.now c.self.inside.size c.self.view_is c.requires.up)) c.requires.cell in
    rw (c.known_cell_word-word.ensures ∙ ap (λ f. cell_at f c.args.object c.args.i) c.requires.header) (place_logged (length c.self.inside.journal.plain) (place_at c.args.self.now.now (Cell c.args.object c.args.i)) spot)

pub invariant_of-self : goal.invariant_of-self
invariant_of-self g c = elim (refusal_cases c.in_err-write.field-0.0) [
  | inl e ↦ journal_stopped_sound _ c.self.inside.journal c.write.new.self c.self.inside.size (c.in_err-write.ensures.stopped (ap Err e)) c.self.invariant
  | inr e ↦ subst (λ j. IsSound j c.self.inside.size) (sym (c.in_err-write.ensures.kept (ap Err e))) c.self.invariant
]

pub invariant_of-self-2 : goal.invariant_of-self-2
invariant_of-self-2 g c =
    let there : Changes ((place_at c.args.self.now.now (Cell c.args.object c.args.i), word_for c.self.inside.journal.plain (Cell c.args.object c.args.i) c.args.v) ∷ []) c.self.inside.journal c.write.new.self =
    subst (λ (x : ℕ). Changes ((place_at c.args.self.now.now (Cell c.args.object c.args.i), x) ∷ []) c.self.inside.journal c.write.new.self) c.known_word_for-value.ensures
    (subst (λ (a : ℕ). Changes ((a, c.known_word_for-value.result) ∷ []) c.self.inside.journal c.write.new.self) (c.known_cell_word-word.ensures ∙ ap (λ f. cell_at f c.args.object c.args.i) c.requires.header) c.in_ok-write.ensures.ok) in
    place_sound c.self.inside.journal c.write.new.self c.args.self.now c.self.inside.size (Cell c.args.object c.args.i) c.args.v c.self.view_is c.requires.cell c.requires.value
    (up_is c.self.inside.journal c.args.self.now c.self.inside.size c.self.view_is c.requires.up) c.self.invariant there

pub returns : goal.returns
returns g c =
    let there : Changes ((place_at c.args.self.now.now (Cell c.args.object c.args.i), word_for c.self.inside.journal.plain (Cell c.args.object c.args.i) c.args.v) ∷ []) c.self.inside.journal c.write.new.self =
    subst (λ (x : ℕ). Changes ((place_at c.args.self.now.now (Cell c.args.object c.args.i), x) ∷ []) c.self.inside.journal c.write.new.self) c.known_word_for-value.ensures
    (subst (λ (a : ℕ). Changes ((a, c.known_word_for-value.result) ∷ []) c.self.inside.journal c.write.new.self) (c.known_cell_word-word.ensures ∙ ap (λ f. cell_at f c.args.object c.args.i) c.requires.header) c.in_ok-write.ensures.ok) in
    let room : has_room_for c.args.self.now (place_at c.args.self.now.now (Cell c.args.object c.args.i) ∷ []) ≡ true =
    not_false _ (λ f. ok_not_err _ _ (c.in_ok-write.ensures.full.1 (ap (λ a. journal_room (journal_keeping c.self.inside.journal)
    (a ∷ [])) (c.known_cell_word-word.ensures ∙ ap (λ f. cell_at f c.args.object c.args.i) c.requires.header) ∙ sym (room_is c.self.inside.journal c.args.self.now c.self.inside.size
    (place_at c.args.self.now.now (Cell c.args.object c.args.i) ∷ []) c.self.invariant.back c.self.view_is) ∙ f))) in
    unless_done (refusal_at c.args.self.now (place_at c.args.self.now.now (Cell c.args.object c.args.i) ∷ [])) c.args.self.now (heap_view c.write.new.self c.self.inside.size)
    (Write (Cell c.args.object c.args.i) c.args.v) tt tt (not_full c.args.self.now (place_at c.args.self.now.now (Cell c.args.object c.args.i) ∷ []) room) refl
    (place_view c.self.inside.journal c.write.new.self c.args.self.now c.self.inside.size (Cell c.args.object c.args.i) c.args.v c.self.view_is
    (c.self.invariant.now (up_is c.self.inside.journal c.args.self.now c.self.inside.size c.self.view_is c.requires.up)) c.self.invariant.back c.requires.cell
    c.requires.value there)

pub returns-in_err-write : goal.returns-in_err-write
returns-in_err-write g c =
    let places : List ℕ = place_at c.args.self.now.now (Cell c.args.object c.args.i) ∷ [] in
    let e = c.in_err-write.ensures in
    let there : has_room_for c.args.self.now places ≡ journal_room (journal_keeping c.self.inside.journal) (c.known_cell_word-word.result ∷ []) =
    room_is c.self.inside.journal c.args.self.now c.self.inside.size places c.self.invariant.back c.self.view_is
    ∙ ap (λ a. journal_room (journal_keeping c.self.inside.journal) (a ∷ [])) (sym (c.known_cell_word-word.ensures ∙ ap (λ f. cell_at f c.args.object c.args.i) c.requires.header)) in
    change_refused c.from_residual.result (Write (Cell c.args.object c.args.i) c.args.v) c.args.self.now c.self.inside.journal c.write.new.self c.self.inside.size places
    (journal_room (journal_keeping c.self.inside.journal) (c.known_cell_word-word.result ∷ [])) c.in_err-write.field-0.0 _ (ap (λ a. journal_writes (journal_keeping c.self.inside.journal) (a ∷ [])) (c.known_cell_word-word.ensures ∙ ap (λ f. cell_at f c.args.object c.args.i) c.requires.header) ∙ count_is c.self.inside.journal c.args.self.now c.self.inside.size places c.self.invariant.back c.self.view_is) c.from_residual.ensures.1 c.self.view_is
    there e.full.0 e.full.1 e.kept e.stopped
