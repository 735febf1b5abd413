use Rattle.std.proofs.Common.{◌≡◌, ◌≤◌, ◌+◌, ◌∙◌, [], ◌∷◌, length, get_or, arith, refl, sym, ap, subst, true, Err}
use Rattle.jc_words.specs.Layout.{top_address}
use Rattle.jc_commit.specs.Keep.{has_room_for, writes_for as journal_writes}
use Rattle.jc_commit.specs.State.{keeping as journal_keeping}
use Rattle.jc_commit.specs.declared.refusal.WriteRefusal.TheVariants.{StoreDown}
use Rattle.jc_heap.specs.Fresh.{KeepsBelow, Fills}
use Rattle.jc_heap.specs.Object.{words_of_cells, object_size, new_object}
use Rattle.jc_heap.specs.Heap.{heap_view, end_address, heap_item_at, writes_for, IsTornChange}
use Rattle.jc_heap.proofs.Changing.{up_is}
use Rattle.jc_heap.proofs.Views.{nothing_at_top, view_top}
use Rattle.jc_heap.proofs.NewObjects.{fills_new, lacks_space, has_space, new_record, only_down, fresh_stopped_sound, fresh_stopped_view, top_stopped_sound}
use Rattle.jc_heap.proofs.NewObjects.{kept_alike, length-new_record, top_stopped_view, view_made, sound_made, made_object}
use Rattle.jc_heap.specs.declared.refusal.HeapRefusal.TheVariants.{HeapFull, CommitFull}
use Rattle.jc_heap.specs.Moves.{AddObject, refusal_of_space}
use Rattle.jc_heap.proofs.Calls.{unless_refused, unless_cut, unless_done, has_no_space, object_full, object_fits, end_room, count_is}
use Rattle.jc_heap.proofs.heap.Heap.new_persistent.Goals as goal

pub returns-then-end-from-clause-free : goal.returns-then-end-from-clause-free
returns-then-end-from-clause-free g c = nothing_at_top c.self.inside.journal c.args.self.now c.self.inside.size c.self.view_is
    (c.self.invariant.now (up_is c.self.inside.journal c.args.self.now c.self.inside.size c.self.view_is c.requires))

pub returns-then-not-fits-clause-free : goal.returns-then-not-fits-clause-free
returns-then-not-fits-clause-free g c = nothing_at_top c.self.inside.journal c.args.self.now c.self.inside.size c.self.view_is
    (c.self.invariant.now (up_is c.self.inside.journal c.args.self.now c.self.inside.size c.self.view_is c.requires))

pub invariant_of-self : goal.invariant_of-self
invariant_of-self g c =
    let below : KeepsBelow (get_or c.self.inside.journal.plain top_address 0) c.self.inside.journal c.write_record.new.journal =
    subst (λ t. KeepsBelow t c.self.inside.journal c.write_record.new.journal) c.read-top.ensures c.write_record.ensures.below in
    fresh_stopped_sound c.self.inside.journal c.write_record.new.journal c.self.inside.size c.self.invariant
    (up_is c.self.inside.journal c.args.self.now c.self.inside.size c.self.view_is c.requires) below c.in_default.ensures.stopped

pub returns-in_default-clause-free : goal.returns-in_default-clause-free
returns-in_default-clause-free g c = nothing_at_top c.self.inside.journal c.args.self.now c.self.inside.size c.self.view_is
    (c.self.invariant.now (up_is c.self.inside.journal c.args.self.now c.self.inside.size c.self.view_is c.requires))

pub invariant_of-self-in_default-write : goal.invariant_of-self-in_default-write
invariant_of-self-in_default-write g c =
    let below : KeepsBelow (get_or c.self.inside.journal.plain top_address 0) c.self.inside.journal c.write_record.new.journal =
    subst (λ t. KeepsBelow t c.self.inside.journal c.write_record.new.journal) c.read-top.ensures c.write_record.ensures.below in
    let fills : Fills (get_or c.self.inside.journal.plain top_address 0) (new_record c.args.kind c.args.class c.args.owner c.args.length)
    c.self.inside.journal c.write_record.new.journal =
    fills_new c.read-top.result (get_or c.self.inside.journal.plain top_address 0) c.header_number.result c.class.inside.0 c.owner.inside.0
    c.words_of_cells-zeros.result c.args.kind c.args.class c.args.owner c.args.length c.self.inside.journal c.write_record.new.journal c.read-top.ensures
    c.header_number.ensures c.class.view_is c.owner.view_is
    (c.words_of_cells-zeros.ensures ∙ ap (λ b. words_of_cells b c.args.length) c.has_bytes.ensures) c.in-Ok.ensures.done in
    let fit : has_room_for (journal_keeping c.self.inside.journal) (top_address ∷ []) ≡ true =
    (sym c.fits.ensures ∙ c.if-not-fits.false) in
    let down : c.in_default-write.field-0 ≡ StoreDown = only_down c.self.inside.journal c.write_record.new.journal
    c.self.inside.size c.self.invariant (up_is c.self.inside.journal c.args.self.now c.self.inside.size c.self.view_is c.requires) below (top_address ∷ []) fit
    c.in_default-write.field-0 (λ e. c.in_default-write.ensures.full.0 (ap Err e)) in
    top_stopped_sound c.self.inside.journal c.write_record.new.journal c.self.inside.size c.self.invariant
    (up_is c.self.inside.journal c.args.self.now c.self.inside.size c.self.view_is c.requires) below
    (new_record c.args.kind c.args.class c.args.owner c.args.length) fills c.write.new.self (c.in_default-write.ensures.stopped (ap Err down))

pub returns-in_default-write-clause-free : goal.returns-in_default-write-clause-free
returns-in_default-write-clause-free g c = nothing_at_top c.self.inside.journal c.args.self.now c.self.inside.size c.self.view_is
    (c.self.invariant.now (up_is c.self.inside.journal c.args.self.now c.self.inside.size c.self.view_is c.requires))

pub invariant_of-self-2 : goal.invariant_of-self-2
invariant_of-self-2 g c =
    let below : KeepsBelow (get_or c.self.inside.journal.plain top_address 0) c.self.inside.journal c.write_record.new.journal =
    subst (λ t. KeepsBelow t c.self.inside.journal c.write_record.new.journal) c.read-top.ensures c.write_record.ensures.below in
    let fills : Fills (get_or c.self.inside.journal.plain top_address 0) (new_record c.args.kind c.args.class c.args.owner c.args.length)
    c.self.inside.journal c.write_record.new.journal =
    fills_new c.read-top.result (get_or c.self.inside.journal.plain top_address 0) c.header_number.result c.class.inside.0 c.owner.inside.0
    c.words_of_cells-zeros.result c.args.kind c.args.class c.args.owner c.args.length c.self.inside.journal c.write_record.new.journal c.read-top.ensures
    c.header_number.ensures c.class.view_is c.owner.view_is
    (c.words_of_cells-zeros.ensures ∙ ap (λ b. words_of_cells b c.args.length) c.has_bytes.ensures) c.in-Ok.ensures.done in
    let end : (c.from.result + c.object_size.result) ≡ (get_or c.self.inside.journal.plain top_address 0) + (object_size c.args.kind c.args.length) = omega arith in
    let fits : (c.from.result + c.object_size.result) ≤ c.self.inside.size = omega arith in
    sound_made c.self.inside.journal c.write_record.new.journal c.write.new.self c.self.inside.size c.args.kind c.args.class c.args.owner c.args.length
    (c.from.result + c.object_size.result) c.self.invariant (up_is c.self.inside.journal c.args.self.now c.self.inside.size c.self.view_is
    c.requires) below fills end fits c.in-Ok-write.ensures.ok

pub returns-clause-free : goal.returns-clause-free
returns-clause-free g c = nothing_at_top c.self.inside.journal c.args.self.now c.self.inside.size c.self.view_is
    (c.self.invariant.now (up_is c.self.inside.journal c.args.self.now c.self.inside.size c.self.view_is c.requires))

pub returns-then-end-from-clause-moves : goal.returns-then-end-from-clause-moves
returns-then-end-from-clause-moves g c =
    unless_refused (refusal_of_space c.args.self.now (object_size c.args.kind c.args.length) (end_address ∷ [])) c.args.self.now c.args.self.now HeapFull
    (AddObject (new_object c.args.kind c.args.class c.args.owner c.args.length) (object_size c.args.kind c.args.length) ∷ []) c.args.self.now.now.top
    (has_no_space c.args.self.now (object_size c.args.kind c.args.length) (end_address ∷ []) (lacks_space c.self.inside.journal c.args.self.now c.self.inside.size
    (object_size c.args.kind c.args.length) c.self.view_is (c.self.invariant.now (up_is c.self.inside.journal c.args.self.now c.self.inside.size c.self.view_is c.requires))
    (omega arith))) refl

pub returns-then-not-fits-clause-moves : goal.returns-then-not-fits-clause-moves
returns-then-not-fits-clause-moves g c =
    unless_refused (refusal_of_space c.args.self.now (object_size c.args.kind c.args.length) (end_address ∷ [])) c.args.self.now c.args.self.now CommitFull
    (AddObject (new_object c.args.kind c.args.class c.args.owner c.args.length) (object_size c.args.kind c.args.length) ∷ []) c.args.self.now.now.top
    (object_full c.args.self.now (object_size c.args.kind c.args.length) (end_address ∷ []) (has_space c.self.inside.journal c.args.self.now c.self.inside.size
    (object_size c.args.kind c.args.length) c.self.view_is (c.self.invariant.now (up_is c.self.inside.journal c.args.self.now c.self.inside.size c.self.view_is c.requires))
    (omega arith)) (end_room c.self.inside.journal c.args.self.now c.self.inside.size c.self.invariant.back c.self.view_is ∙ sym c.fits.ensures
    ∙ c.if-not-fits.true)) refl

pub returns-in_default-clause-moves : goal.returns-in_default-clause-moves
returns-in_default-clause-moves g c =
    let below : KeepsBelow (get_or c.self.inside.journal.plain top_address 0) c.self.inside.journal c.write_record.new.journal =
    subst (λ t. KeepsBelow t c.self.inside.journal c.write_record.new.journal) c.read-top.ensures c.write_record.ensures.below in
    unless_cut (refusal_of_space c.args.self.now (object_size c.args.kind c.args.length) (end_address ∷ [])) c.args.self.now
    (heap_view c.write_record.new.journal c.self.inside.size) (AddObject (new_object c.args.kind c.args.class c.args.owner c.args.length)
    (object_size c.args.kind c.args.length)) c.args.self.now.now.top
    (object_fits c.args.self.now (object_size c.args.kind c.args.length) (end_address ∷ []) (has_space c.self.inside.journal c.args.self.now c.self.inside.size
    (object_size c.args.kind c.args.length) c.self.view_is (c.self.invariant.now (up_is c.self.inside.journal c.args.self.now c.self.inside.size c.self.view_is c.requires))
    (omega arith)) (end_room c.self.inside.journal c.args.self.now c.self.inside.size c.self.invariant.back c.self.view_is
    ∙ (sym c.fits.ensures ∙ c.if-not-fits.false)))
    (fresh_stopped_view c.self.inside.journal c.write_record.new.journal c.self.inside.size c.self.invariant
    (up_is c.self.inside.journal c.args.self.now c.self.inside.size c.self.view_is c.requires) below _ (omega (arith, c.words_of_cells-zeros.ensures ∙ ap (λ b. words_of_cells b c.args.length) c.has_bytes.ensures)) c.args.self.now c.self.view_is
    c.in_default.ensures.stopped)

pub returns-in_default-write-clause-moves : goal.returns-in_default-write-clause-moves
unfolding end_address
returns-in_default-write-clause-moves g c =
    let below : KeepsBelow (get_or c.self.inside.journal.plain top_address 0) c.self.inside.journal c.write_record.new.journal =
    subst (λ t. KeepsBelow t c.self.inside.journal c.write_record.new.journal) c.read-top.ensures c.write_record.ensures.below in
    let fills : Fills (get_or c.self.inside.journal.plain top_address 0) (new_record c.args.kind c.args.class c.args.owner c.args.length)
    c.self.inside.journal c.write_record.new.journal =
    fills_new c.read-top.result (get_or c.self.inside.journal.plain top_address 0) c.header_number.result c.class.inside.0 c.owner.inside.0
    c.words_of_cells-zeros.result c.args.kind c.args.class c.args.owner c.args.length c.self.inside.journal c.write_record.new.journal c.read-top.ensures
    c.header_number.ensures c.class.view_is c.owner.view_is
    (c.words_of_cells-zeros.ensures ∙ ap (λ b. words_of_cells b c.args.length) c.has_bytes.ensures) c.in-Ok.ensures.done in
    let fit : has_room_for (journal_keeping c.self.inside.journal) (top_address ∷ []) ≡ true =
    (sym c.fits.ensures ∙ c.if-not-fits.false) in
    let down : c.in_default-write.field-0 ≡ StoreDown = only_down c.self.inside.journal c.write_record.new.journal
    c.self.inside.size c.self.invariant (up_is c.self.inside.journal c.args.self.now c.self.inside.size c.self.view_is c.requires) below (top_address ∷ []) fit
    c.in_default-write.field-0 (λ e. c.in_default-write.ensures.full.0 (ap Err e)) in
    let count : length (new_record c.args.kind c.args.class c.args.owner c.args.length) + journal_writes (journal_keeping c.write_record.new.journal) (top_address ∷ [])
    ≡ object_size c.args.kind c.args.length + writes_for c.args.self.now (end_address ∷ []) =
    (λ i. length-new_record c.args.kind c.args.class c.args.owner c.args.length i + (ap (λ p. journal_writes p (top_address ∷ []))
    (kept_alike c.self.inside.journal c.write_record.new.journal c.self.inside.size c.self.invariant
    (up_is c.self.inside.journal c.args.self.now c.self.inside.size c.self.view_is c.requires) below)
    ∙ count_is c.self.inside.journal c.args.self.now c.self.inside.size (top_address ∷ []) c.self.invariant.back c.self.view_is) i) in
    unless_cut (refusal_of_space c.args.self.now (object_size c.args.kind c.args.length) (end_address ∷ [])) c.args.self.now (heap_view c.write.new.self c.self.inside.size)
    (AddObject (new_object c.args.kind c.args.class c.args.owner c.args.length) (object_size c.args.kind c.args.length)) c.args.self.now.now.top
    (object_fits c.args.self.now (object_size c.args.kind c.args.length) (end_address ∷ []) (has_space c.self.inside.journal c.args.self.now c.self.inside.size
    (object_size c.args.kind c.args.length) c.self.view_is (c.self.invariant.now (up_is c.self.inside.journal c.args.self.now c.self.inside.size c.self.view_is c.requires))
    (omega arith)) (end_room c.self.inside.journal c.args.self.now c.self.inside.size c.self.invariant.back c.self.view_is
    ∙ (sym c.fits.ensures ∙ c.if-not-fits.false)))
    (subst (λ w. IsTornChange w c.args.self.now (heap_view c.write.new.self c.self.inside.size)) count
    (top_stopped_view c.self.inside.journal c.write_record.new.journal c.self.inside.size c.self.invariant
    (up_is c.self.inside.journal c.args.self.now c.self.inside.size c.self.view_is c.requires) below
    (new_record c.args.kind c.args.class c.args.owner c.args.length) fills _ c.write.new.self c.args.self.now c.self.view_is
    (c.in_default-write.ensures.stopped (ap Err down))))

pub returns-clause-moves : goal.returns-clause-moves
returns-clause-moves g c =
    let below : KeepsBelow (get_or c.self.inside.journal.plain top_address 0) c.self.inside.journal c.write_record.new.journal =
    subst (λ t. KeepsBelow t c.self.inside.journal c.write_record.new.journal) c.read-top.ensures c.write_record.ensures.below in
    let fills : Fills (get_or c.self.inside.journal.plain top_address 0) (new_record c.args.kind c.args.class c.args.owner c.args.length)
    c.self.inside.journal c.write_record.new.journal =
    fills_new c.read-top.result (get_or c.self.inside.journal.plain top_address 0) c.header_number.result c.class.inside.0 c.owner.inside.0
    c.words_of_cells-zeros.result c.args.kind c.args.class c.args.owner c.args.length c.self.inside.journal c.write_record.new.journal c.read-top.ensures
    c.header_number.ensures c.class.view_is c.owner.view_is
    (c.words_of_cells-zeros.ensures ∙ ap (λ b. words_of_cells b c.args.length) c.has_bytes.ensures) c.in-Ok.ensures.done in
    let end : (c.from.result + c.object_size.result) ≡ (get_or c.self.inside.journal.plain top_address 0) + (object_size c.args.kind c.args.length) = omega arith in
    let fits : (c.from.result + c.object_size.result) ≤ c.self.inside.size = omega arith in
    unless_done (refusal_of_space c.args.self.now (object_size c.args.kind c.args.length) (end_address ∷ [])) c.args.self.now (heap_view c.write.new.self c.self.inside.size)
    (AddObject (new_object c.args.kind c.args.class c.args.owner c.args.length) (object_size c.args.kind c.args.length)) c.at.result c.args.self.now.now.top
    (object_fits c.args.self.now (object_size c.args.kind c.args.length) (end_address ∷ []) (has_space c.self.inside.journal c.args.self.now c.self.inside.size
    (object_size c.args.kind c.args.length) c.self.view_is (c.self.invariant.now (up_is c.self.inside.journal c.args.self.now c.self.inside.size c.self.view_is c.requires))
    (omega arith)) (end_room c.self.inside.journal c.args.self.now c.self.inside.size c.self.invariant.back c.self.view_is
    ∙ (sym c.fits.ensures ∙ c.if-not-fits.false)))
    (c.at.ensures ∙ c.read-top.ensures ∙ sym (view_top c.self.inside.journal c.args.self.now c.self.inside.size c.self.view_is
    (c.self.invariant.now (up_is c.self.inside.journal c.args.self.now c.self.inside.size c.self.view_is c.requires))))
    (view_made c.self.inside.journal c.write_record.new.journal c.write.new.self c.self.inside.size c.args.kind c.args.class c.args.owner
    c.args.length (c.from.result + c.object_size.result) c.self.invariant
    (up_is c.self.inside.journal c.args.self.now c.self.inside.size c.self.view_is c.requires) below fills end fits c.in-Ok-write.ensures.ok
    c.args.self.now c.self.view_is)

pub returns-clause-made : goal.returns-clause-made
returns-clause-made g c =
    let moves = returns-clause-moves g c in
    ap (heap_item_at ((heap_view c.write.new.self c.self.inside.size).now)) moves.1 ∙ ap (λ v. heap_item_at (v.now) c.args.self.now.now.top) moves.2
    ∙ made_object c.args.self.now (new_object c.args.kind c.args.class c.args.owner c.args.length) (object_size c.args.kind c.args.length) (object_size c.args.kind c.args.length) (end_address ∷ [])
    (returns-clause-free g c)
