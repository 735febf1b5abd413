use Rattle.std.proofs.Common.{◌≡◌, ◌≤◌, ◌+◌, ◌∙◌, [], ◌∷◌, get_or, arith, refl, sym, ap, subst, true, Err}
use Rattle.jc_words.specs.Layout.{top_address}
use Rattle.jc_commit.specs.Keep.{has_room_for, writes_for as journal_writes}
use Rattle.jc_commit.specs.State.{Changes, keeping as journal_keeping}
use Rattle.jc_commit.specs.declared.refusal.WriteRefusal.TheVariants.{StoreDown}
use Rattle.jc_heap.specs.Fresh.{KeepsBelow, Fills}
use Rattle.jc_heap.specs.Heap.{area_end_address, area_end, end_address, heap_view, writes_for, IsTornChange}
use Rattle.jc_heap.specs.Object.{transient_size}
use Rattle.jc_heap.proofs.Changing.{up_is}
use Rattle.jc_heap.proofs.Views.{nothing_at_top, view_top}
use Rattle.jc_heap.proofs.NewObjects.{fills_same, lacks_space, has_space, transient_record, only_down, fresh_stopped_sound, fresh_stopped_view}
use Rattle.jc_heap.proofs.NewObjects.{kept_alike, top_stopped_sound, top_stopped_view, transient_sound, transient_view, view_area, made_transient}
use Rattle.jc_heap.specs.declared.refusal.HeapRefusal.TheVariants.{HeapFull, CommitFull, NoTransientSpace}
use Rattle.jc_heap.specs.Moves.{AddTransient, refusal_of_transient}
use Rattle.jc_heap.proofs.Calls.{unless_refused, unless_cut, unless_done, has_no_cells, has_some_cells, has_no_space, object_full, object_fits, ends_room, count_is}
use Rattle.jc_heap.proofs.heap.Heap.new_transient.Goals as goal

pub returns-then-area_end-from-clause-free : goal.returns-then-area_end-from-clause-free
returns-then-area_end-from-clause-free g c = nothing_at_top c.self.inside.journal c.args.self.now c.self.inside.size c.self.view_is
    (c.self.invariant.now (up_is c.self.inside.journal c.args.self.now c.self.inside.size c.self.view_is c.requires))

pub returns-then-end-from-clause-free : goal.returns-then-end-from-clause-free
returns-then-end-from-clause-free g c = nothing_at_top c.self.inside.journal c.args.self.now c.self.inside.size c.self.view_is
    (c.self.invariant.now (up_is c.self.inside.journal c.args.self.now c.self.inside.size c.self.view_is c.requires))

pub returns-then-not-fits-clause-free : goal.returns-then-not-fits-clause-free
returns-then-not-fits-clause-free g c = nothing_at_top c.self.inside.journal c.args.self.now c.self.inside.size c.self.view_is
    (c.self.invariant.now (up_is c.self.inside.journal c.args.self.now c.self.inside.size c.self.view_is c.requires))

pub invariant_of-self : goal.invariant_of-self
invariant_of-self g c =
    let below : KeepsBelow (get_or c.self.inside.journal.plain top_address 0) c.self.inside.journal c.write_run.new.journal =
    subst (λ t. KeepsBelow t c.self.inside.journal c.write_run.new.journal) c.read-top.ensures c.write_run.ensures.below in
    fresh_stopped_sound c.self.inside.journal c.write_run.new.journal c.self.inside.size c.self.invariant
    (up_is c.self.inside.journal c.args.self.now c.self.inside.size c.self.view_is c.requires) below c.in_default.ensures.stopped

pub returns-in_default-clause-free : goal.returns-in_default-clause-free
returns-in_default-clause-free g c = nothing_at_top c.self.inside.journal c.args.self.now c.self.inside.size c.self.view_is
    (c.self.invariant.now (up_is c.self.inside.journal c.args.self.now c.self.inside.size c.self.view_is c.requires))

pub invariant_of-self-in_default-write_all : goal.invariant_of-self-in_default-write_all
invariant_of-self-in_default-write_all g c =
    let below : KeepsBelow (get_or c.self.inside.journal.plain top_address 0) c.self.inside.journal c.write_run.new.journal =
    subst (λ t. KeepsBelow t c.self.inside.journal c.write_run.new.journal) c.read-top.ensures c.write_run.ensures.below in
    let fills : Fills (get_or c.self.inside.journal.plain top_address 0) (transient_record c.args.kind c.args.event c.args.class c.args.owner c.args.length
    c.read-place.result) c.self.inside.journal c.write_run.new.journal = subst
    (λ w. Fills (get_or c.self.inside.journal.plain top_address 0) (w ∷ c.args.class ∷ c.args.owner ∷ c.args.length ∷ c.read-place.result ∷ [])
    c.self.inside.journal c.write_run.new.journal) c.header_of.ensures
    (subst (λ t. Fills t (c.header_of.result ∷ c.args.class ∷ c.args.owner ∷ c.args.length ∷ c.read-place.result ∷ []) c.self.inside.journal
    c.write_run.new.journal) c.read-top.ensures (fills_same c.read-top.result c.header_of.result c.class.inside.0 c.args.class c.owner.inside.0 c.args.owner
    (c.args.length ∷ c.read-place.result ∷ []) c.self.inside.journal c.write_run.new.journal c.class.view_is c.owner.view_is c.in-Ok.ensures.done)) in
    let fit : has_room_for (journal_keeping c.self.inside.journal) (top_address ∷ c.area_word-end_word.result ∷ []) ≡ true =
    (sym c.fits.ensures ∙ c.if-not-fits.false) in
    let down : c.in_default-write_all.field-0 ≡ StoreDown = only_down c.self.inside.journal c.write_run.new.journal
    c.self.inside.size c.self.invariant (up_is c.self.inside.journal c.args.self.now c.self.inside.size c.self.view_is c.requires) below
    (top_address ∷ c.area_word-end_word.result ∷ []) fit c.in_default-write_all.field-0
    (λ e. c.in_default-write_all.ensures.full.0 (ap Err e)) in
    top_stopped_sound c.self.inside.journal c.write_run.new.journal c.self.inside.size c.self.invariant
    (up_is c.self.inside.journal c.args.self.now c.self.inside.size c.self.view_is c.requires) below
    (transient_record c.args.kind c.args.event c.args.class c.args.owner c.args.length c.read-place.result) fills c.write_all.new.self
    (c.in_default-write_all.ensures.stopped (ap Err down))

pub returns-in_default-write_all-clause-free : goal.returns-in_default-write_all-clause-free
returns-in_default-write_all-clause-free g c = nothing_at_top c.self.inside.journal c.args.self.now c.self.inside.size c.self.view_is
    (c.self.invariant.now (up_is c.self.inside.journal c.args.self.now c.self.inside.size c.self.view_is c.requires))

pub invariant_of-self-2 : goal.invariant_of-self-2
invariant_of-self-2 g c =
    let below : KeepsBelow (get_or c.self.inside.journal.plain top_address 0) c.self.inside.journal c.write_run.new.journal =
    subst (λ t. KeepsBelow t c.self.inside.journal c.write_run.new.journal) c.read-top.ensures c.write_run.ensures.below in
    let fills : Fills (get_or c.self.inside.journal.plain top_address 0) (transient_record c.args.kind c.args.event c.args.class c.args.owner c.args.length
    c.read-place.result) c.self.inside.journal c.write_run.new.journal = subst
    (λ w. Fills (get_or c.self.inside.journal.plain top_address 0) (w ∷ c.args.class ∷ c.args.owner ∷ c.args.length ∷ c.read-place.result ∷ [])
    c.self.inside.journal c.write_run.new.journal) c.header_of.ensures
    (subst (λ t. Fills t (c.header_of.result ∷ c.args.class ∷ c.args.owner ∷ c.args.length ∷ c.read-place.result ∷ []) c.self.inside.journal
    c.write_run.new.journal) c.read-top.ensures (fills_same c.read-top.result c.header_of.result c.class.inside.0 c.args.class c.owner.inside.0 c.args.owner
    (c.args.length ∷ c.read-place.result ∷ []) c.self.inside.journal c.write_run.new.journal c.class.view_is c.owner.view_is c.in-Ok.ensures.done)) in
    let at : c.read-place.result ≡ get_or c.self.inside.journal.plain (area_end_address c.args.event) 0 = c.read-place.ensures
    ∙ ap (λ a. get_or c.self.inside.journal.plain a 0) c.area_word-end_word.ensures in
    let end : (c.from-4.result + c.from-5.result + 1) ≡ (get_or c.self.inside.journal.plain top_address 0) + transient_size = omega arith in
    let fits : (c.from-4.result + c.from-5.result + 1) ≤ c.self.inside.size = omega arith in
    let area : (c.from.result + c.from-2.result) ≡ c.read-place.result + c.args.length = omega arith in
    let both : Changes ((top_address, (c.from-4.result + c.from-5.result + 1)) ∷ (area_end_address c.args.event, c.read-place.result + c.args.length) ∷ [])
    c.write_run.new.journal c.write_all.new.self =
    subst (λ a. Changes ((top_address, (c.from-4.result + c.from-5.result + 1)) ∷ (a, c.read-place.result + c.args.length) ∷ []) c.write_run.new.journal
    c.write_all.new.self) c.area_word-end_word.ensures
    (subst (λ n. Changes ((top_address, (c.from-4.result + c.from-5.result + 1)) ∷ (c.area_word-end_word.result, n) ∷ []) c.write_run.new.journal
    c.write_all.new.self) area c.in-Ok-write_all.ensures.ok) in
    transient_sound c.self.inside.journal c.write_run.new.journal c.write_all.new.self c.self.inside.size c.args.kind c.args.event c.args.class c.args.owner
    c.args.length c.read-place.result (c.from-4.result + c.from-5.result + 1) c.self.invariant
    (up_is c.self.inside.journal c.args.self.now c.self.inside.size c.self.view_is c.requires) below fills at end fits both

pub returns-clause-free : goal.returns-clause-free
returns-clause-free g c = nothing_at_top c.self.inside.journal c.args.self.now c.self.inside.size c.self.view_is
    (c.self.invariant.now (up_is c.self.inside.journal c.args.self.now c.self.inside.size c.self.view_is c.requires))

pub returns-then-area_end-from-clause-moves : goal.returns-then-area_end-from-clause-moves
returns-then-area_end-from-clause-moves g c =
    let at : c.read-place.result ≡ get_or c.self.inside.journal.plain (area_end_address c.args.event) 0 = c.read-place.ensures
    ∙ ap (λ a. get_or c.self.inside.journal.plain a 0) c.area_word-end_word.ensures in
    let va : area_end c.args.self.now.now c.args.event ≡ get_or c.self.inside.journal.plain (area_end_address c.args.event) 0 =
    view_area c.self.inside.journal c.args.self.now c.self.inside.size c.args.event c.self.view_is
    (c.self.invariant.now (up_is c.self.inside.journal c.args.self.now c.self.inside.size c.self.view_is c.requires)) in
    unless_refused (refusal_of_transient c.args.self.now c.args.event c.args.length) c.args.self.now c.args.self.now NoTransientSpace
    (AddTransient c.args.kind c.args.event c.args.class c.args.owner c.args.length ∷ []) c.args.self.now.now.top
    (has_no_cells c.args.self.now c.args.event c.args.length (omega (arith, va, at, c.area_limit.ensures))) refl

pub returns-then-end-from-clause-moves : goal.returns-then-end-from-clause-moves
returns-then-end-from-clause-moves g c =
    let at : c.read-place.result ≡ get_or c.self.inside.journal.plain (area_end_address c.args.event) 0 = c.read-place.ensures
    ∙ ap (λ a. get_or c.self.inside.journal.plain a 0) c.area_word-end_word.ensures in
    let va : area_end c.args.self.now.now c.args.event ≡ get_or c.self.inside.journal.plain (area_end_address c.args.event) 0 =
    view_area c.self.inside.journal c.args.self.now c.self.inside.size c.args.event c.self.view_is
    (c.self.invariant.now (up_is c.self.inside.journal c.args.self.now c.self.inside.size c.self.view_is c.requires)) in
    unless_refused (refusal_of_transient c.args.self.now c.args.event c.args.length) c.args.self.now c.args.self.now HeapFull
    (AddTransient c.args.kind c.args.event c.args.class c.args.owner c.args.length ∷ []) c.args.self.now.now.top
    (has_some_cells c.args.self.now c.args.event c.args.length (λ l. omega (arith, l, va, at, c.area_limit.ensures))
    ∙ has_no_space c.args.self.now transient_size (end_address ∷ area_end_address c.args.event ∷ [])
    (lacks_space c.self.inside.journal c.args.self.now c.self.inside.size transient_size c.self.view_is
    (c.self.invariant.now (up_is c.self.inside.journal c.args.self.now c.self.inside.size c.self.view_is c.requires)) (omega arith))) refl

pub returns-then-not-fits-clause-moves : goal.returns-then-not-fits-clause-moves
returns-then-not-fits-clause-moves g c =
    let at : c.read-place.result ≡ get_or c.self.inside.journal.plain (area_end_address c.args.event) 0 = c.read-place.ensures
    ∙ ap (λ a. get_or c.self.inside.journal.plain a 0) c.area_word-end_word.ensures in
    let va : area_end c.args.self.now.now c.args.event ≡ get_or c.self.inside.journal.plain (area_end_address c.args.event) 0 =
    view_area c.self.inside.journal c.args.self.now c.self.inside.size c.args.event c.self.view_is
    (c.self.invariant.now (up_is c.self.inside.journal c.args.self.now c.self.inside.size c.self.view_is c.requires)) in
    unless_refused (refusal_of_transient c.args.self.now c.args.event c.args.length) c.args.self.now c.args.self.now CommitFull
    (AddTransient c.args.kind c.args.event c.args.class c.args.owner c.args.length ∷ []) c.args.self.now.now.top
    (has_some_cells c.args.self.now c.args.event c.args.length (λ l. omega (arith, l, va, at, c.area_limit.ensures))
    ∙ object_full c.args.self.now transient_size (end_address ∷ area_end_address c.args.event ∷ [])
    (has_space c.self.inside.journal c.args.self.now c.self.inside.size transient_size c.self.view_is
    (c.self.invariant.now (up_is c.self.inside.journal c.args.self.now c.self.inside.size c.self.view_is c.requires)) (omega arith))
    (ends_room c.self.inside.journal c.args.self.now c.self.inside.size c.args.event c.area_word-end_word.result c.self.invariant.back c.self.view_is
    c.area_word-end_word.ensures
    ∙ sym c.fits.ensures ∙ c.if-not-fits.true)) refl

pub returns-in_default-clause-moves : goal.returns-in_default-clause-moves
returns-in_default-clause-moves g c =
    let at : c.read-place.result ≡ get_or c.self.inside.journal.plain (area_end_address c.args.event) 0 = c.read-place.ensures
    ∙ ap (λ a. get_or c.self.inside.journal.plain a 0) c.area_word-end_word.ensures in
    let va : area_end c.args.self.now.now c.args.event ≡ get_or c.self.inside.journal.plain (area_end_address c.args.event) 0 =
    view_area c.self.inside.journal c.args.self.now c.self.inside.size c.args.event c.self.view_is
    (c.self.invariant.now (up_is c.self.inside.journal c.args.self.now c.self.inside.size c.self.view_is c.requires)) in
    let below : KeepsBelow (get_or c.self.inside.journal.plain top_address 0) c.self.inside.journal c.write_run.new.journal =
    subst (λ t. KeepsBelow t c.self.inside.journal c.write_run.new.journal) c.read-top.ensures c.write_run.ensures.below in
    unless_cut (refusal_of_transient c.args.self.now c.args.event c.args.length) c.args.self.now (heap_view c.write_run.new.journal c.self.inside.size)
    (AddTransient c.args.kind c.args.event c.args.class c.args.owner c.args.length) c.args.self.now.now.top
    (has_some_cells c.args.self.now c.args.event c.args.length (λ l. omega (arith, l, va, at, c.area_limit.ensures))
    ∙ object_fits c.args.self.now transient_size (end_address ∷ area_end_address c.args.event ∷ [])
    (has_space c.self.inside.journal c.args.self.now c.self.inside.size transient_size c.self.view_is
    (c.self.invariant.now (up_is c.self.inside.journal c.args.self.now c.self.inside.size c.self.view_is c.requires)) (omega arith))
    (ends_room c.self.inside.journal c.args.self.now c.self.inside.size c.args.event c.area_word-end_word.result c.self.invariant.back c.self.view_is
    c.area_word-end_word.ensures
    ∙ (sym c.fits.ensures ∙ c.if-not-fits.false))) (fresh_stopped_view c.self.inside.journal c.write_run.new.journal c.self.inside.size c.self.invariant
    (up_is c.self.inside.journal c.args.self.now c.self.inside.size c.self.view_is c.requires) below _ (omega arith) c.args.self.now c.self.view_is
    c.in_default.ensures.stopped)

pub returns-in_default-write_all-clause-moves : goal.returns-in_default-write_all-clause-moves
unfolding end_address
returns-in_default-write_all-clause-moves g c =
    let at : c.read-place.result ≡ get_or c.self.inside.journal.plain (area_end_address c.args.event) 0 = c.read-place.ensures
    ∙ ap (λ a. get_or c.self.inside.journal.plain a 0) c.area_word-end_word.ensures in
    let va : area_end c.args.self.now.now c.args.event ≡ get_or c.self.inside.journal.plain (area_end_address c.args.event) 0 =
    view_area c.self.inside.journal c.args.self.now c.self.inside.size c.args.event c.self.view_is
    (c.self.invariant.now (up_is c.self.inside.journal c.args.self.now c.self.inside.size c.self.view_is c.requires)) in
    let below : KeepsBelow (get_or c.self.inside.journal.plain top_address 0) c.self.inside.journal c.write_run.new.journal =
    subst (λ t. KeepsBelow t c.self.inside.journal c.write_run.new.journal) c.read-top.ensures c.write_run.ensures.below in
    let fills : Fills (get_or c.self.inside.journal.plain top_address 0) (transient_record c.args.kind c.args.event c.args.class c.args.owner c.args.length
    c.read-place.result) c.self.inside.journal c.write_run.new.journal = subst
    (λ w. Fills (get_or c.self.inside.journal.plain top_address 0) (w ∷ c.args.class ∷ c.args.owner ∷ c.args.length ∷ c.read-place.result ∷ [])
    c.self.inside.journal c.write_run.new.journal) c.header_of.ensures
    (subst (λ t. Fills t (c.header_of.result ∷ c.args.class ∷ c.args.owner ∷ c.args.length ∷ c.read-place.result ∷ []) c.self.inside.journal
    c.write_run.new.journal) c.read-top.ensures (fills_same c.read-top.result c.header_of.result c.class.inside.0 c.args.class c.owner.inside.0 c.args.owner
    (c.args.length ∷ c.read-place.result ∷ []) c.self.inside.journal c.write_run.new.journal c.class.view_is c.owner.view_is c.in-Ok.ensures.done)) in
    let fit : has_room_for (journal_keeping c.self.inside.journal) (top_address ∷ c.area_word-end_word.result ∷ []) ≡ true =
    (sym c.fits.ensures ∙ c.if-not-fits.false) in
    let down : c.in_default-write_all.field-0 ≡ StoreDown = only_down c.self.inside.journal c.write_run.new.journal
    c.self.inside.size c.self.invariant (up_is c.self.inside.journal c.args.self.now c.self.inside.size c.self.view_is c.requires) below
    (top_address ∷ c.area_word-end_word.result ∷ []) fit c.in_default-write_all.field-0
    (λ e. c.in_default-write_all.ensures.full.0 (ap Err e)) in
    let count : transient_size + journal_writes (journal_keeping c.write_run.new.journal) (top_address ∷ c.area_word-end_word.result ∷ [])
    ≡ transient_size + writes_for c.args.self.now (top_address ∷ area_end_address c.args.event ∷ []) =
    ap (λ n. transient_size + n) (ap (λ p. journal_writes p (top_address ∷ c.area_word-end_word.result ∷ []))
    (kept_alike c.self.inside.journal c.write_run.new.journal c.self.inside.size c.self.invariant
    (up_is c.self.inside.journal c.args.self.now c.self.inside.size c.self.view_is c.requires) below)
    ∙ ap (λ a. journal_writes (journal_keeping c.self.inside.journal) (top_address ∷ a ∷ [])) c.area_word-end_word.ensures
    ∙ count_is c.self.inside.journal c.args.self.now c.self.inside.size (top_address ∷ area_end_address c.args.event ∷ []) c.self.invariant.back c.self.view_is) in
    unless_cut (refusal_of_transient c.args.self.now c.args.event c.args.length) c.args.self.now (heap_view c.write_all.new.self c.self.inside.size)
    (AddTransient c.args.kind c.args.event c.args.class c.args.owner c.args.length) c.args.self.now.now.top
    (has_some_cells c.args.self.now c.args.event c.args.length (λ l. omega (arith, l, va, at, c.area_limit.ensures))
    ∙ object_fits c.args.self.now transient_size (end_address ∷ area_end_address c.args.event ∷ [])
    (has_space c.self.inside.journal c.args.self.now c.self.inside.size transient_size c.self.view_is
    (c.self.invariant.now (up_is c.self.inside.journal c.args.self.now c.self.inside.size c.self.view_is c.requires)) (omega arith))
    (ends_room c.self.inside.journal c.args.self.now c.self.inside.size c.args.event c.area_word-end_word.result c.self.invariant.back c.self.view_is
    c.area_word-end_word.ensures
    ∙ (sym c.fits.ensures ∙ c.if-not-fits.false))) (subst (λ w. IsTornChange w c.args.self.now (heap_view c.write_all.new.self c.self.inside.size)) count (top_stopped_view c.self.inside.journal c.write_run.new.journal c.self.inside.size c.self.invariant
    (up_is c.self.inside.journal c.args.self.now c.self.inside.size c.self.view_is c.requires) below
    (transient_record c.args.kind c.args.event c.args.class c.args.owner c.args.length c.read-place.result) fills _ c.write_all.new.self c.args.self.now
    c.self.view_is (c.in_default-write_all.ensures.stopped (ap Err down))))

pub returns-clause-moves : goal.returns-clause-moves
returns-clause-moves g c =
    let at : c.read-place.result ≡ get_or c.self.inside.journal.plain (area_end_address c.args.event) 0 = c.read-place.ensures
    ∙ ap (λ a. get_or c.self.inside.journal.plain a 0) c.area_word-end_word.ensures in
    let va : area_end c.args.self.now.now c.args.event ≡ get_or c.self.inside.journal.plain (area_end_address c.args.event) 0 =
    view_area c.self.inside.journal c.args.self.now c.self.inside.size c.args.event c.self.view_is
    (c.self.invariant.now (up_is c.self.inside.journal c.args.self.now c.self.inside.size c.self.view_is c.requires)) in
    let below : KeepsBelow (get_or c.self.inside.journal.plain top_address 0) c.self.inside.journal c.write_run.new.journal =
    subst (λ t. KeepsBelow t c.self.inside.journal c.write_run.new.journal) c.read-top.ensures c.write_run.ensures.below in
    let fills : Fills (get_or c.self.inside.journal.plain top_address 0) (transient_record c.args.kind c.args.event c.args.class c.args.owner c.args.length
    c.read-place.result) c.self.inside.journal c.write_run.new.journal = subst
    (λ w. Fills (get_or c.self.inside.journal.plain top_address 0) (w ∷ c.args.class ∷ c.args.owner ∷ c.args.length ∷ c.read-place.result ∷ [])
    c.self.inside.journal c.write_run.new.journal) c.header_of.ensures
    (subst (λ t. Fills t (c.header_of.result ∷ c.args.class ∷ c.args.owner ∷ c.args.length ∷ c.read-place.result ∷ []) c.self.inside.journal
    c.write_run.new.journal) c.read-top.ensures (fills_same c.read-top.result c.header_of.result c.class.inside.0 c.args.class c.owner.inside.0 c.args.owner
    (c.args.length ∷ c.read-place.result ∷ []) c.self.inside.journal c.write_run.new.journal c.class.view_is c.owner.view_is c.in-Ok.ensures.done)) in
    let end : (c.from-4.result + c.from-5.result + 1) ≡ (get_or c.self.inside.journal.plain top_address 0) + transient_size = omega arith in
    let fits : (c.from-4.result + c.from-5.result + 1) ≤ c.self.inside.size = omega arith in
    let area : (c.from.result + c.from-2.result) ≡ c.read-place.result + c.args.length = omega arith in
    let both : Changes ((top_address, (c.from-4.result + c.from-5.result + 1)) ∷ (area_end_address c.args.event, c.read-place.result + c.args.length) ∷ [])
    c.write_run.new.journal c.write_all.new.self =
    subst (λ a. Changes ((top_address, (c.from-4.result + c.from-5.result + 1)) ∷ (a, c.read-place.result + c.args.length) ∷ []) c.write_run.new.journal
    c.write_all.new.self) c.area_word-end_word.ensures
    (subst (λ n. Changes ((top_address, (c.from-4.result + c.from-5.result + 1)) ∷ (c.area_word-end_word.result, n) ∷ []) c.write_run.new.journal
    c.write_all.new.self) area c.in-Ok-write_all.ensures.ok) in
    unless_done (refusal_of_transient c.args.self.now c.args.event c.args.length) c.args.self.now (heap_view c.write_all.new.self c.self.inside.size)
    (AddTransient c.args.kind c.args.event c.args.class c.args.owner c.args.length) c.at.result c.args.self.now.now.top
    (has_some_cells c.args.self.now c.args.event c.args.length (λ l. omega (arith, l, va, at, c.area_limit.ensures))
    ∙ object_fits c.args.self.now transient_size (end_address ∷ area_end_address c.args.event ∷ [])
    (has_space c.self.inside.journal c.args.self.now c.self.inside.size transient_size c.self.view_is
    (c.self.invariant.now (up_is c.self.inside.journal c.args.self.now c.self.inside.size c.self.view_is c.requires)) (omega arith))
    (ends_room c.self.inside.journal c.args.self.now c.self.inside.size c.args.event c.area_word-end_word.result c.self.invariant.back c.self.view_is
    c.area_word-end_word.ensures
    ∙ (sym c.fits.ensures ∙ c.if-not-fits.false))) (c.at.ensures ∙ c.read-top.ensures
    ∙ sym (view_top c.self.inside.journal c.args.self.now c.self.inside.size c.self.view_is
    (c.self.invariant.now (up_is c.self.inside.journal c.args.self.now c.self.inside.size c.self.view_is c.requires))))
    (transient_view c.self.inside.journal c.write_run.new.journal c.write_all.new.self c.self.inside.size c.args.kind c.args.event c.args.class c.args.owner
    c.args.length c.read-place.result (c.from-4.result + c.from-5.result + 1) c.self.invariant
    (up_is c.self.inside.journal c.args.self.now c.self.inside.size c.self.view_is c.requires) below fills at end fits both c.args.self.now c.self.view_is)

pub returns-clause-made : goal.returns-clause-made
returns-clause-made g c =
    let moves = returns-clause-moves g c in
    made_transient c.args.self.now (heap_view c.write_all.new.self c.self.inside.size) c.at.result transient_size
    (end_address ∷ area_end_address c.args.event ∷ []) c.args.kind c.args.event c.args.class c.args.owner c.args.length
    moves.1 moves.2 (returns-clause-free g c)
