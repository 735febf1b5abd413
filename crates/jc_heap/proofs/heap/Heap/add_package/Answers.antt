use Rattle.std.proofs.Common.{◌≡◌, ◌≤◌, ◌<◌, ◌+◌, ◌∙◌, [], ◌∷◌, length, get_or, arith, refl, sym, ap, subst, true, Err}
use Rattle.jc_words.specs.Layout.{top_address, packages_address, addresses_start, most_packages}
use Rattle.jc_commit.specs.Keep.{has_room_for, writes_for as journal_writes}
use Rattle.jc_commit.specs.State.{Changes, keeping as journal_keeping}
use Rattle.jc_commit.specs.declared.refusal.WriteRefusal.TheVariants.{StoreDown}
use Rattle.jc_heap.specs.Fresh.{KeepsBelow, Fills}
use Rattle.jc_heap.specs.Object.{APackage}
use Rattle.jc_heap.specs.Heap.{heap_view, heap_after_change, heap_item_at, end_address, writes_for, IsTornChange}
use Rattle.jc_heap.specs.Package.{parts, array_inits, package_record, package_size, package_words, addresses_of_package, add_package}
use Rattle.jc_heap.proofs.Changing.{up_is}
use Rattle.jc_heap.proofs.Views.{nothing_at_top, view_top}
use Rattle.jc_heap.proofs.NewObjects.{kept_alike, lacks_space, has_space, only_down, fresh_stopped_sound, fresh_stopped_view, top_stopped_sound, top_stopped_view}
use Rattle.jc_heap.proofs.Calls.{unless_refused, unless_cut, unless_done, has_no_space, object_full, object_fits, count_is}
use Rattle.jc_heap.specs.Moves.{AddPackage, refusal_of_package}
use Rattle.jc_heap.specs.declared.refusal.HeapRefusal.TheVariants.{CommitFull, HeapFull}
use Rattle.jc_heap.proofs.NewPackages.{length-package_words, view_count, view_no_room, view_room, package_are_places, package_sound, package_view, item-package}
use Rattle.jc_heap.proofs.heap.Heap.add_package.Goals as goal

pub returns-then-end-from-clause-free : goal.returns-then-end-from-clause-free
returns-then-end-from-clause-free g c = nothing_at_top c.self.inside.journal c.args.self.now c.self.inside.size c.self.view_is
    (c.self.invariant.now (up_is c.self.inside.journal c.args.self.now c.self.inside.size c.self.view_is c.requires.up))

pub overflow_add-place : goal.overflow_add-place
overflow_add-place g c = omega (
  arith,
  c.requires.few,
  view_count c.self.inside.journal c.args.self.now c.self.inside.size c.self.view_is
      (c.self.invariant.now (up_is c.self.inside.journal c.args.self.now c.self.inside.size c.self.view_is c.requires.up)),
  c.read-count.ensures,
)

pub returns-then-not-fits-clause-free : goal.returns-then-not-fits-clause-free
returns-then-not-fits-clause-free g c = nothing_at_top c.self.inside.journal c.args.self.now c.self.inside.size c.self.view_is
    (c.self.invariant.now (up_is c.self.inside.journal c.args.self.now c.self.inside.size c.self.view_is c.requires.up))

pub overflow_add-number : goal.overflow_add-number
overflow_add-number g c = omega (
  arith,
  c.requires.few,
  view_count c.self.inside.journal c.args.self.now c.self.inside.size c.self.view_is
      (c.self.invariant.now (up_is c.self.inside.journal c.args.self.now c.self.inside.size c.self.view_is c.requires.up)),
  c.read-count.ensures,
)

pub write_package-written-requires-clause-number : goal.write_package-written-requires-clause-number
write_package-written-requires-clause-number g c = omega (
  arith,
  c.requires.few,
  view_count c.self.inside.journal c.args.self.now c.self.inside.size c.self.view_is
      (c.self.invariant.now (up_is c.self.inside.journal c.args.self.now c.self.inside.size c.self.view_is c.requires.up)),
  c.read-count.ensures,
)

pub invariant_of-self : goal.invariant_of-self
invariant_of-self g c =
    let below : KeepsBelow (get_or c.self.inside.journal.plain top_address 0) c.self.inside.journal c.write_package-written.new.journal =
    subst (λ t. KeepsBelow t c.self.inside.journal c.write_package-written.new.journal) c.read-top.ensures c.write_package-written.ensures.below in
    fresh_stopped_sound c.self.inside.journal c.write_package-written.new.journal c.self.inside.size c.self.invariant
    (up_is c.self.inside.journal c.args.self.now c.self.inside.size c.self.view_is c.requires.up) below c.in_default.ensures.stopped

pub returns-in_default-clause-free : goal.returns-in_default-clause-free
returns-in_default-clause-free g c = nothing_at_top c.self.inside.journal c.args.self.now c.self.inside.size c.self.view_is
    (c.self.invariant.now (up_is c.self.inside.journal c.args.self.now c.self.inside.size c.self.view_is c.requires.up))

pub write_all-requires-clause-places : goal.write_all-requires-clause-places
write_all-requires-clause-places g c =
    let few : c.read-count.result < most_packages = omega (
      arith,
      c.requires.few,
      view_count c.self.inside.journal c.args.self.now c.self.inside.size
          c.self.view_is (c.self.invariant.now (up_is c.self.inside.journal c.args.self.now c.self.inside.size c.self.view_is c.requires.up)),
      c.read-count.ensures,
    ) in
    let below : KeepsBelow (get_or c.self.inside.journal.plain top_address 0) c.self.inside.journal c.write_package-written.new.journal =
    subst (λ t. KeepsBelow t c.self.inside.journal c.write_package-written.new.journal) c.read-top.ensures c.write_package-written.ensures.below in
    package_are_places _ c.read-count.result c.read-top.result (c.from.result + c.size_of_record-size.result + c.size_of_arrays.result)
    (omega (
      arith,
      below.size,
      (c.self.invariant.now (up_is c.self.inside.journal c.args.self.now c.self.inside.size c.self.view_is c.requires.up)).based,
      (c.self.invariant.now (up_is c.self.inside.journal c.args.self.now c.self.inside.size c.self.view_is c.requires.up)).fits,
    )) few

pub invariant_of-self-in_default-write_all : goal.invariant_of-self-in_default-write_all
invariant_of-self-in_default-write_all g c =
    let below : KeepsBelow (get_or c.self.inside.journal.plain top_address 0) c.self.inside.journal c.write_package-written.new.journal =
    subst (λ t. KeepsBelow t c.self.inside.journal c.write_package-written.new.journal) c.read-top.ensures c.write_package-written.ensures.below in
    let fills : Fills (get_or c.self.inside.journal.plain top_address 0) (package_words (get_or c.self.inside.journal.plain top_address 0)
    (c.read-count.result + 1) (parts c.args.components.now) (array_inits c.args.arrays.now) c.args.image.now) c.self.inside.journal
    c.write_package-written.new.journal = subst (λ t. Fills t (package_words t (c.read-count.result + 1) (parts c.args.components.now)
    (array_inits c.args.arrays.now) c.args.image.now) c.self.inside.journal c.write_package-written.new.journal) c.read-top.ensures c.in-Ok.ensures.done
    in
    let fit : has_room_for (journal_keeping c.self.inside.journal)
    ((addresses_start + c.read-count.result) ∷ packages_address ∷ top_address ∷ []) ≡ true = (sym c.fits.ensures ∙ c.if-not-fits.false) in
    let down : c.in_default-write_all.field-0 ≡ StoreDown = only_down c.self.inside.journal c.write_package-written.new.journal
    c.self.inside.size c.self.invariant (up_is c.self.inside.journal c.args.self.now c.self.inside.size c.self.view_is c.requires.up) below
    ((addresses_start + c.read-count.result) ∷ packages_address ∷ top_address ∷ []) fit
    c.in_default-write_all.field-0 (λ e. c.in_default-write_all.ensures.full.0 (ap Err e)) in
    top_stopped_sound c.self.inside.journal c.write_package-written.new.journal c.self.inside.size c.self.invariant
    (up_is c.self.inside.journal c.args.self.now c.self.inside.size c.self.view_is c.requires.up) below
    (package_words (get_or c.self.inside.journal.plain top_address 0) (c.read-count.result + 1) (parts c.args.components.now)
    (array_inits c.args.arrays.now) c.args.image.now) fills c.write_all.new.self (c.in_default-write_all.ensures.stopped (ap Err down))

pub returns-in_default-write_all-clause-free : goal.returns-in_default-write_all-clause-free
returns-in_default-write_all-clause-free g c = nothing_at_top c.self.inside.journal c.args.self.now c.self.inside.size c.self.view_is
    (c.self.invariant.now (up_is c.self.inside.journal c.args.self.now c.self.inside.size c.self.view_is c.requires.up))

pub invariant_of-self-2 : goal.invariant_of-self-2
invariant_of-self-2 g c =
    let below : KeepsBelow (get_or c.self.inside.journal.plain top_address 0) c.self.inside.journal c.write_package-written.new.journal =
    subst (λ t. KeepsBelow t c.self.inside.journal c.write_package-written.new.journal) c.read-top.ensures c.write_package-written.ensures.below in
    let fills : Fills (get_or c.self.inside.journal.plain top_address 0) (package_words (get_or c.self.inside.journal.plain top_address 0)
    (c.read-count.result + 1) (parts c.args.components.now) (array_inits c.args.arrays.now) c.args.image.now) c.self.inside.journal
    c.write_package-written.new.journal = subst (λ t. Fills t (package_words t (c.read-count.result + 1) (parts c.args.components.now)
    (array_inits c.args.arrays.now) c.args.image.now) c.self.inside.journal c.write_package-written.new.journal) c.read-top.ensures c.in-Ok.ensures.done
    in
    let few : c.read-count.result < most_packages = omega (
      arith,
      c.requires.few,
      view_count c.self.inside.journal c.args.self.now c.self.inside.size
          c.self.view_is (c.self.invariant.now (up_is c.self.inside.journal c.args.self.now c.self.inside.size c.self.view_is c.requires.up)),
      c.read-count.ensures,
    ) in
    let end : (c.from.result + c.size_of_record-size.result + c.size_of_arrays.result) ≡ (get_or c.self.inside.journal.plain top_address 0)
    + (package_size (parts c.args.components.now) (array_inits c.args.arrays.now) c.args.image.now) =
    omega (arith, c.size_of_record-size.ensures.exact, c.size_of_arrays.ensures.exact, c.read-top.ensures) in
    let fits : (c.from.result + c.size_of_record-size.result + c.size_of_arrays.result) ≤ c.self.inside.size = omega arith in
    let change : Changes ((addresses_start + c.read-count.result, (get_or c.self.inside.journal.plain top_address 0))
    ∷ (packages_address, c.read-count.result + 1) ∷ (top_address, (c.from.result + c.size_of_record-size.result + c.size_of_arrays.result)) ∷ [])
    c.write_package-written.new.journal c.write_all.new.self = subst (λ t. Changes
    ((addresses_start + c.read-count.result, t) ∷ (packages_address, c.read-count.result + 1)
    ∷ (top_address, (c.from.result + c.size_of_record-size.result + c.size_of_arrays.result)) ∷ []) c.write_package-written.new.journal
    c.write_all.new.self) c.read-top.ensures c.in-Ok-write_all.ensures.ok in
    package_sound c.self.inside.journal c.write_package-written.new.journal c.write_all.new.self c.self.inside.size (parts c.args.components.now)
    (array_inits c.args.arrays.now) c.args.image.now c.read-count.result (c.from.result + c.size_of_record-size.result + c.size_of_arrays.result)
    c.in-Ok.ensures.bytes c.self.invariant (up_is c.self.inside.journal c.args.self.now c.self.inside.size c.self.view_is c.requires.up) below fills c.read-count.ensures few end
    fits change

pub returns-clause-free : goal.returns-clause-free
returns-clause-free g c = nothing_at_top c.self.inside.journal c.args.self.now c.self.inside.size c.self.view_is
    (c.self.invariant.now (up_is c.self.inside.journal c.args.self.now c.self.inside.size c.self.view_is c.requires.up))

pub returns-then-end-from-clause-moves : goal.returns-then-end-from-clause-moves
returns-then-end-from-clause-moves g c =
    unless_refused (refusal_of_package c.args.self.now (parts c.args.components.now) (array_inits c.args.arrays.now) c.args.image.now) c.args.self.now
    c.args.self.now HeapFull (AddPackage (parts c.args.components.now) (array_inits c.args.arrays.now) c.args.image.now ∷ []) c.args.self.now.now.top
    (has_no_space c.args.self.now (package_size (parts c.args.components.now) (array_inits c.args.arrays.now) c.args.image.now)
    (addresses_of_package c.args.self.now.now) (lacks_space c.self.inside.journal c.args.self.now c.self.inside.size
    (package_size (parts c.args.components.now) (array_inits c.args.arrays.now) c.args.image.now) c.self.view_is
    (c.self.invariant.now (up_is c.self.inside.journal c.args.self.now c.self.inside.size c.self.view_is c.requires.up))
    (omega (arith, c.size_of_record-size.ensures.exact, c.size_of_arrays.ensures.exact, c.read-top.ensures)))) refl

pub returns-then-not-fits-clause-moves : goal.returns-then-not-fits-clause-moves
returns-then-not-fits-clause-moves g c =
    unless_refused (refusal_of_package c.args.self.now (parts c.args.components.now) (array_inits c.args.arrays.now) c.args.image.now) c.args.self.now
    c.args.self.now CommitFull (AddPackage (parts c.args.components.now) (array_inits c.args.arrays.now) c.args.image.now ∷ []) c.args.self.now.now.top
    (object_full c.args.self.now (package_size (parts c.args.components.now) (array_inits c.args.arrays.now) c.args.image.now)
    (addresses_of_package c.args.self.now.now) (has_space c.self.inside.journal c.args.self.now c.self.inside.size
    (package_size (parts c.args.components.now) (array_inits c.args.arrays.now) c.args.image.now) c.self.view_is
    (c.self.invariant.now (up_is c.self.inside.journal c.args.self.now c.self.inside.size c.self.view_is c.requires.up))
    (omega (arith, c.size_of_record-size.ensures.exact, c.size_of_arrays.ensures.exact, c.read-top.ensures)))
    (view_no_room c.self.inside.journal c.args.self.now c.self.inside.size c.read-count.result c.self.view_is
    (c.self.invariant.now (up_is c.self.inside.journal c.args.self.now c.self.inside.size c.self.view_is c.requires.up)) c.self.invariant.back
    c.read-count.ensures
    (sym c.fits.ensures ∙ c.if-not-fits.true))) refl

pub returns-in_default-clause-moves : goal.returns-in_default-clause-moves
returns-in_default-clause-moves g c =
    let below : KeepsBelow (get_or c.self.inside.journal.plain top_address 0) c.self.inside.journal c.write_package-written.new.journal =
    subst (λ t. KeepsBelow t c.self.inside.journal c.write_package-written.new.journal) c.read-top.ensures c.write_package-written.ensures.below in
    let st : IsTornChange (package_size (parts c.args.components.now) (array_inits c.args.arrays.now) c.args.image.now + writes_for c.args.self.now (addresses_of_package c.args.self.now.now)) c.args.self.now (heap_view c.write_package-written.new.journal c.self.inside.size) =
    fresh_stopped_view c.self.inside.journal c.write_package-written.new.journal c.self.inside.size c.self.invariant
    (up_is c.self.inside.journal c.args.self.now c.self.inside.size c.self.view_is c.requires.up) below _ (omega arith) c.args.self.now c.self.view_is
    c.in_default.ensures.stopped in
    unless_cut (refusal_of_package c.args.self.now (parts c.args.components.now) (array_inits c.args.arrays.now) c.args.image.now) c.args.self.now
    (heap_view c.write_package-written.new.journal c.self.inside.size) (AddPackage (parts c.args.components.now)
    (array_inits c.args.arrays.now) c.args.image.now) c.args.self.now.now.top
    (object_fits c.args.self.now (package_size (parts c.args.components.now) (array_inits c.args.arrays.now) c.args.image.now)
    (addresses_of_package c.args.self.now.now) (has_space c.self.inside.journal c.args.self.now c.self.inside.size
    (package_size (parts c.args.components.now) (array_inits c.args.arrays.now) c.args.image.now) c.self.view_is
    (c.self.invariant.now (up_is c.self.inside.journal c.args.self.now c.self.inside.size c.self.view_is c.requires.up))
    (omega (arith, c.size_of_record-size.ensures.exact, c.size_of_arrays.ensures.exact, c.read-top.ensures)))
    (view_room c.self.inside.journal c.args.self.now c.self.inside.size c.read-count.result c.self.view_is
    (c.self.invariant.now (up_is c.self.inside.journal c.args.self.now c.self.inside.size c.self.view_is c.requires.up)) c.self.invariant.back
    c.read-count.ensures
    ((sym c.fits.ensures ∙ c.if-not-fits.false)))) st

pub returns-in_default-write_all-clause-moves : goal.returns-in_default-write_all-clause-moves
unfolding addresses_of_package end_address
returns-in_default-write_all-clause-moves g c =
    let below : KeepsBelow (get_or c.self.inside.journal.plain top_address 0) c.self.inside.journal c.write_package-written.new.journal =
    subst (λ t. KeepsBelow t c.self.inside.journal c.write_package-written.new.journal) c.read-top.ensures c.write_package-written.ensures.below in
    let fills : Fills (get_or c.self.inside.journal.plain top_address 0) (package_words (get_or c.self.inside.journal.plain top_address 0)
    (c.read-count.result + 1) (parts c.args.components.now) (array_inits c.args.arrays.now) c.args.image.now) c.self.inside.journal
    c.write_package-written.new.journal = subst (λ t. Fills t (package_words t (c.read-count.result + 1) (parts c.args.components.now)
    (array_inits c.args.arrays.now) c.args.image.now) c.self.inside.journal c.write_package-written.new.journal) c.read-top.ensures c.in-Ok.ensures.done
    in
    let fit : has_room_for (journal_keeping c.self.inside.journal)
    ((addresses_start + c.read-count.result) ∷ packages_address ∷ top_address ∷ []) ≡ true = (sym c.fits.ensures ∙ c.if-not-fits.false) in
    let down : c.in_default-write_all.field-0 ≡ StoreDown = only_down c.self.inside.journal c.write_package-written.new.journal
    c.self.inside.size c.self.invariant (up_is c.self.inside.journal c.args.self.now c.self.inside.size c.self.view_is c.requires.up) below
    ((addresses_start + c.read-count.result) ∷ packages_address ∷ top_address ∷ []) fit
    c.in_default-write_all.field-0 (λ e. c.in_default-write_all.ensures.full.0 (ap Err e)) in
    let counted : c.args.self.now.now.counts.0 ≡ c.read-count.result =
    view_count c.self.inside.journal c.args.self.now c.self.inside.size c.self.view_is
    (c.self.invariant.now (up_is c.self.inside.journal c.args.self.now c.self.inside.size c.self.view_is c.requires.up)) ∙ sym c.read-count.ensures in
    let count : length (package_words (get_or c.self.inside.journal.plain top_address 0) (c.read-count.result + 1) (parts c.args.components.now)
    (array_inits c.args.arrays.now) c.args.image.now) + journal_writes (journal_keeping c.write_package-written.new.journal)
    ((addresses_start + c.read-count.result) ∷ packages_address ∷ top_address ∷ []) ≡ (package_size (parts c.args.components.now) (array_inits c.args.arrays.now) c.args.image.now + writes_for c.args.self.now (addresses_of_package c.args.self.now.now)) =
    (λ i. length-package_words (get_or c.self.inside.journal.plain top_address 0) (c.read-count.result + 1) (parts c.args.components.now)
    (array_inits c.args.arrays.now) c.args.image.now i + (ap (λ p. journal_writes p ((addresses_start + c.read-count.result) ∷ packages_address ∷ top_address ∷ []))
    (kept_alike c.self.inside.journal c.write_package-written.new.journal c.self.inside.size c.self.invariant
    (up_is c.self.inside.journal c.args.self.now c.self.inside.size c.self.view_is c.requires.up) below)
    ∙ count_is c.self.inside.journal c.args.self.now c.self.inside.size ((addresses_start + c.read-count.result) ∷ packages_address ∷ top_address ∷ []) c.self.invariant.back c.self.view_is
    ∙ ap (λ k. writes_for c.args.self.now ((addresses_start + k) ∷ packages_address ∷ top_address ∷ [])) (sym counted)) i) in
    let st : IsTornChange (package_size (parts c.args.components.now) (array_inits c.args.arrays.now) c.args.image.now + writes_for c.args.self.now (addresses_of_package c.args.self.now.now)) c.args.self.now (heap_view c.write_all.new.self c.self.inside.size) =
    subst (λ w. IsTornChange w c.args.self.now (heap_view c.write_all.new.self c.self.inside.size)) count (top_stopped_view c.self.inside.journal c.write_package-written.new.journal c.self.inside.size c.self.invariant
    (up_is c.self.inside.journal c.args.self.now c.self.inside.size c.self.view_is c.requires.up) below
    (package_words (get_or c.self.inside.journal.plain top_address 0) (c.read-count.result + 1) (parts c.args.components.now)
    (array_inits c.args.arrays.now) c.args.image.now) fills _ c.write_all.new.self c.args.self.now c.self.view_is
    (c.in_default-write_all.ensures.stopped (ap Err down))) in
    unless_cut (refusal_of_package c.args.self.now (parts c.args.components.now) (array_inits c.args.arrays.now) c.args.image.now) c.args.self.now
    (heap_view c.write_all.new.self c.self.inside.size) (AddPackage (parts c.args.components.now) (array_inits c.args.arrays.now) c.args.image.now)
    c.args.self.now.now.top
    (object_fits c.args.self.now (package_size (parts c.args.components.now) (array_inits c.args.arrays.now) c.args.image.now)
    (addresses_of_package c.args.self.now.now) (has_space c.self.inside.journal c.args.self.now c.self.inside.size
    (package_size (parts c.args.components.now) (array_inits c.args.arrays.now) c.args.image.now) c.self.view_is
    (c.self.invariant.now (up_is c.self.inside.journal c.args.self.now c.self.inside.size c.self.view_is c.requires.up))
    (omega (arith, c.size_of_record-size.ensures.exact, c.size_of_arrays.ensures.exact, c.read-top.ensures)))
    (view_room c.self.inside.journal c.args.self.now c.self.inside.size c.read-count.result c.self.view_is
    (c.self.invariant.now (up_is c.self.inside.journal c.args.self.now c.self.inside.size c.self.view_is c.requires.up)) c.self.invariant.back
    c.read-count.ensures fit)) st

pub returns-clause-moves : goal.returns-clause-moves
returns-clause-moves g c =
    let below : KeepsBelow (get_or c.self.inside.journal.plain top_address 0) c.self.inside.journal c.write_package-written.new.journal =
    subst (λ t. KeepsBelow t c.self.inside.journal c.write_package-written.new.journal) c.read-top.ensures c.write_package-written.ensures.below in
    let fills : Fills (get_or c.self.inside.journal.plain top_address 0) (package_words (get_or c.self.inside.journal.plain top_address 0)
    (c.read-count.result + 1) (parts c.args.components.now) (array_inits c.args.arrays.now) c.args.image.now) c.self.inside.journal
    c.write_package-written.new.journal = subst (λ t. Fills t (package_words t (c.read-count.result + 1) (parts c.args.components.now)
    (array_inits c.args.arrays.now) c.args.image.now) c.self.inside.journal c.write_package-written.new.journal) c.read-top.ensures c.in-Ok.ensures.done
    in
    let few : c.read-count.result < most_packages = omega (
      arith,
      c.requires.few,
      view_count c.self.inside.journal c.args.self.now c.self.inside.size
          c.self.view_is (c.self.invariant.now (up_is c.self.inside.journal c.args.self.now c.self.inside.size c.self.view_is c.requires.up)),
      c.read-count.ensures,
    ) in
    let end : (c.from.result + c.size_of_record-size.result + c.size_of_arrays.result) ≡ (get_or c.self.inside.journal.plain top_address 0)
    + (package_size (parts c.args.components.now) (array_inits c.args.arrays.now) c.args.image.now) =
    omega (arith, c.size_of_record-size.ensures.exact, c.size_of_arrays.ensures.exact, c.read-top.ensures) in
    let fits : (c.from.result + c.size_of_record-size.result + c.size_of_arrays.result) ≤ c.self.inside.size = omega arith in
    let change : Changes ((addresses_start + c.read-count.result, (get_or c.self.inside.journal.plain top_address 0))
    ∷ (packages_address, c.read-count.result + 1) ∷ (top_address, (c.from.result + c.size_of_record-size.result + c.size_of_arrays.result)) ∷ [])
    c.write_package-written.new.journal c.write_all.new.self = subst (λ t. Changes
    ((addresses_start + c.read-count.result, t) ∷ (packages_address, c.read-count.result + 1)
    ∷ (top_address, (c.from.result + c.size_of_record-size.result + c.size_of_arrays.result)) ∷ []) c.write_package-written.new.journal
    c.write_all.new.self) c.read-top.ensures c.in-Ok-write_all.ensures.ok in
    let is : heap_view c.write_all.new.self c.self.inside.size ≡ heap_after_change c.args.self.now
    (add_package c.args.self.now.now (parts c.args.components.now) (array_inits c.args.arrays.now) c.args.image.now)
    (addresses_of_package c.args.self.now.now) (package_size (parts c.args.components.now) (array_inits c.args.arrays.now) c.args.image.now) =
    package_view c.self.inside.journal c.write_package-written.new.journal c.write_all.new.self c.self.inside.size (parts c.args.components.now)
    (array_inits c.args.arrays.now) c.args.image.now c.read-count.result (c.from.result + c.size_of_record-size.result + c.size_of_arrays.result)
    c.in-Ok.ensures.bytes c.self.invariant (up_is c.self.inside.journal c.args.self.now c.self.inside.size c.self.view_is c.requires.up) below fills c.read-count.ensures few
    end fits change c.args.self.now c.self.view_is in
    unless_done (refusal_of_package c.args.self.now (parts c.args.components.now) (array_inits c.args.arrays.now) c.args.image.now) c.args.self.now
    (heap_view c.write_all.new.self c.self.inside.size) (AddPackage (parts c.args.components.now) (array_inits c.args.arrays.now) c.args.image.now)
    c.at.result c.args.self.now.now.top
    (object_fits c.args.self.now (package_size (parts c.args.components.now) (array_inits c.args.arrays.now) c.args.image.now)
    (addresses_of_package c.args.self.now.now) (has_space c.self.inside.journal c.args.self.now c.self.inside.size
    (package_size (parts c.args.components.now) (array_inits c.args.arrays.now) c.args.image.now) c.self.view_is
    (c.self.invariant.now (up_is c.self.inside.journal c.args.self.now c.self.inside.size c.self.view_is c.requires.up))
    (omega (arith, c.size_of_record-size.ensures.exact, c.size_of_arrays.ensures.exact, c.read-top.ensures)))
    (view_room c.self.inside.journal c.args.self.now c.self.inside.size c.read-count.result c.self.view_is
    (c.self.invariant.now (up_is c.self.inside.journal c.args.self.now c.self.inside.size c.self.view_is c.requires.up)) c.self.invariant.back
    c.read-count.ensures
    ((sym c.fits.ensures ∙ c.if-not-fits.false))))
    (c.at.ensures ∙ c.read-top.ensures ∙ sym (view_top c.self.inside.journal c.args.self.now c.self.inside.size c.self.view_is
    (c.self.invariant.now (up_is c.self.inside.journal c.args.self.now c.self.inside.size c.self.view_is c.requires.up)))) is

pub returns-clause-record : goal.returns-clause-record
returns-clause-record g c =
    let below : KeepsBelow (get_or c.self.inside.journal.plain top_address 0) c.self.inside.journal c.write_package-written.new.journal =
    subst (λ t. KeepsBelow t c.self.inside.journal c.write_package-written.new.journal) c.read-top.ensures c.write_package-written.ensures.below in
    let fills : Fills (get_or c.self.inside.journal.plain top_address 0) (package_words (get_or c.self.inside.journal.plain top_address 0)
    (c.read-count.result + 1) (parts c.args.components.now) (array_inits c.args.arrays.now) c.args.image.now) c.self.inside.journal
    c.write_package-written.new.journal = subst (λ t. Fills t (package_words t (c.read-count.result + 1) (parts c.args.components.now)
    (array_inits c.args.arrays.now) c.args.image.now) c.self.inside.journal c.write_package-written.new.journal) c.read-top.ensures c.in-Ok.ensures.done
    in
    let few : c.read-count.result < most_packages = omega (
      arith,
      c.requires.few,
      view_count c.self.inside.journal c.args.self.now c.self.inside.size
          c.self.view_is (c.self.invariant.now (up_is c.self.inside.journal c.args.self.now c.self.inside.size c.self.view_is c.requires.up)),
      c.read-count.ensures,
    ) in
    let end : (c.from.result + c.size_of_record-size.result + c.size_of_arrays.result) ≡ (get_or c.self.inside.journal.plain top_address 0)
    + (package_size (parts c.args.components.now) (array_inits c.args.arrays.now) c.args.image.now) =
    omega (arith, c.size_of_record-size.ensures.exact, c.size_of_arrays.ensures.exact, c.read-top.ensures) in
    let fits : (c.from.result + c.size_of_record-size.result + c.size_of_arrays.result) ≤ c.self.inside.size = omega arith in
    let change : Changes ((addresses_start + c.read-count.result, (get_or c.self.inside.journal.plain top_address 0))
    ∷ (packages_address, c.read-count.result + 1) ∷ (top_address, (c.from.result + c.size_of_record-size.result + c.size_of_arrays.result)) ∷ [])
    c.write_package-written.new.journal c.write_all.new.self = subst (λ t. Changes
    ((addresses_start + c.read-count.result, t) ∷ (packages_address, c.read-count.result + 1)
    ∷ (top_address, (c.from.result + c.size_of_record-size.result + c.size_of_arrays.result)) ∷ []) c.write_package-written.new.journal
    c.write_all.new.self) c.read-top.ensures c.in-Ok-write_all.ensures.ok in
    let done : heap_view c.write_all.new.self c.self.inside.size ≡ heap_after_change c.args.self.now
    (add_package c.args.self.now.now (parts c.args.components.now) (array_inits c.args.arrays.now) c.args.image.now)
    (addresses_of_package c.args.self.now.now) (package_size (parts c.args.components.now) (array_inits c.args.arrays.now) c.args.image.now) =
    package_view c.self.inside.journal c.write_package-written.new.journal c.write_all.new.self c.self.inside.size (parts c.args.components.now)
    (array_inits c.args.arrays.now) c.args.image.now c.read-count.result (c.from.result + c.size_of_record-size.result + c.size_of_arrays.result)
    c.in-Ok.ensures.bytes c.self.invariant (up_is c.self.inside.journal c.args.self.now c.self.inside.size c.self.view_is c.requires.up) below fills c.read-count.ensures few
    end fits change c.args.self.now c.self.view_is in
    subst (λ r. heap_item_at ((heap_view c.write_all.new.self c.self.inside.size).now) r
    ≡ APackage (package_record r (parts c.args.components.now) (array_inits c.args.arrays.now) c.args.image.now))
    (sym (c.at.ensures ∙ c.read-top.ensures ∙ sym (view_top c.self.inside.journal c.args.self.now c.self.inside.size c.self.view_is
    (c.self.invariant.now (up_is c.self.inside.journal c.args.self.now c.self.inside.size c.self.view_is c.requires.up)))))
    (ap (λ v. heap_item_at (v.now) c.args.self.now.now.top) done ∙ item-package c.args.self.now.now (parts c.args.components.now)
    (array_inits c.args.arrays.now) c.args.image.now (nothing_at_top c.self.inside.journal c.args.self.now c.self.inside.size c.self.view_is
    (c.self.invariant.now (up_is c.self.inside.journal c.args.self.now c.self.inside.size c.self.view_is c.requires.up))))
