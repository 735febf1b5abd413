-- A new image fits its packages, of which there are none: nothing stands after the objects of the runtime environment.
use Rattle.std.proofs.Common.{◌≡◌, ℕ, zero, suc, ◌+◌, ◌<◌, false, List, [], ◌∷◌, ◌++◌, length, map, Some, None, refl, sym, ◌∙◌, ap, subst, arith}
use Rattle.std.specs.Prelude.{unwrap_or}
use Rattle.std.proofs.lemmas.Bool.{false≢true}
use Rattle.std.proofs.lemmas.List.{append_assoc}
use Rattle.jc_transient.specs.declared.cell.ClearEvent.TheVariants.{Reset}
use Rattle.jc_heap.specs.Component.{record_of}
use Rattle.jc_heap.specs.Object.{AnObject, Item, new_transient}
use Rattle.jc_heap.specs.Walk.{has_entry}
use Rattle.jc_heap.specs.Heap.{HeapState, IsObject, add_object, add_transient, area_end, first_above, heap_item_at, is_allocated, next_object}
use Rattle.jc_heap.proofs.Laws.{object_named}
use Rattle.jc_image.specs.declared.laying.ImageRoom.{ImageRoom}
use Rattle.jc_image.specs.Laying.{unsealed_heap, sealed_heap}
use Rattle.jc_platform.specs.Tokens.{Tokens}
use Rattle.jc_packages.specs.Reading.{packages_of, with_records}
use Rattle.jc_environment.specs.declared.objects.FixedObject.{FixedObject}
use Rattle.jc_environment.specs.Objects.{fixed_count}
use Rattle.jc_environment.proofs.ObjectCounts.{count_sized, least_count}
use Rattle.jc_transient.specs.State.{buffer_told}
use Rattle.jc_card.specs.Fixed.{class_number_of, last_fixed, next_or_null, object_number, with_objects}
use Rattle.jc_card.specs.ProductImages.{new_card_heap, objects_in}
use Rattle.jc_card.specs.PowerUp.{HasPackages}
use Rattle.jc_card.proofs.FixedObjects.{IsBelow, below-one, found-first, has_entry-push, items-all, items-one, next_is, next_sealed, none-push, top-add}
use Rattle.jc_card.proofs.FixedObjects.{with_one}

-- above the object that was made last nothing stands
above-one : (t : Tokens) (h : HeapState) (o : FixedObject) → IsBelow h → (x : ℕ) → h.top < x → IsObject (with_one t h o) x → ⊥
unfolding is_allocated
above-one t h o b x above object =
    let absent : has_entry ((with_one t h o).items) x ≡ false = ap (λ l. has_entry l x) (items-one t h o)
    ∙ has_entry-push h.items (h.top, AnObject (new_transient o.kind Reset (class_number_of t o.class) 0 o.cells (area_end h Reset))) x
    (b.absent x (omega arith)) (λ e. omega (arith, e)) in
    false≢true (sym absent ∙ object_named (with_one t h o) x object)

pub number_suc : (h : HeapState) (k : ℕ) → object_number h (suc k) ≡ next_or_null h (object_number h k)
unfolding object_number
number_suc h k = refl

-- the object after the one with a number
next_made : (t : Tokens) (h : HeapState) (j : ℕ) (o : FixedObject) (os : List FixedObject) → IsBelow h
    → first_above h.items (object_number (with_objects t h (o ∷ os)) j) ≡ None →
    object_number (with_objects t h (o ∷ os)) j < h.top → object_number (with_objects t h (o ∷ os)) (suc j) ≡ h.top
next_made t h j o os b none below =
    let all : HeapState = with_objects t h (o ∷ os) in
    let one = AnObject (new_transient o.kind Reset (class_number_of t o.class) 0 o.cells (area_end h Reset)) in
    let rest : (rest : List (ℕ × Item)) × (all.items ≡ (with_one t h o).items ++ rest) = items-all t (with_one t h o) os in
    let items : all.items ≡ h.items ++ (h.top, one) ∷ rest.0 = rest.1 ∙ ap (λ l. l ++ rest.0) (items-one t h o)
    ∙ append_assoc h.items ((h.top, one) ∷ []) rest.0 in
    let next : next_object all (object_number all j) ≡ Some h.top =
    next_is all (object_number all j) ∙ ap (λ l. first_above l (object_number all j)) items
    ∙ found-first h.items (h.top, one) rest.0 (object_number all j) none below refl in
    number_suc all j ∙ ap (λ q. unwrap_or q 0) next

-- nothing stands above the last one
last_made : (t : Tokens) (h : HeapState) (j k : ℕ) (o : FixedObject) (os : List FixedObject) → k ≡ suc j + length os → IsBelow h →
    first_above h.items (object_number (with_objects t h (o ∷ os)) j) ≡ None → object_number (with_objects t h (o ∷ os)) j < h.top →
    (x : ℕ) → object_number (with_objects t h (o ∷ os)) k < x → IsObject (with_objects t h (o ∷ os)) x → ⊥
last_made t h j k o [] e b none below x above object =
    let last : k ≡ suc j = omega (arith, e) in
    let there : object_number (with_one t h o) k ≡ h.top = ap (object_number (with_one t h o)) last ∙ next_made t h j o [] b none below in
    above-one t h o b x (omega (arith, there, above)) object
last_made t h j k o (p ∷ os) e b none below x above object =
    let there : object_number (with_objects t h (o ∷ p ∷ os)) (suc j) ≡ h.top = next_made t h j o (p ∷ os) b none below in
    let one = AnObject (new_transient o.kind Reset (class_number_of t o.class) 0 o.cells (area_end h Reset)) in
    last_made t (with_one t h o) (suc j) k p os (omega (arith, e)) (below-one t h o b)
    (subst (λ r. first_above (with_one t h o).items r ≡ None) (sym there)
    (ap (λ l. first_above l h.top) (items-one t h o) ∙ none-push h.items (h.top, one) h.top (b.none h.top (omega arith)) (omega arith)))
    (omega (arith, there, top-add h o.kind (class_number_of t o.class) 0 o.cells)) x above object

-- a seal changes no object
pub number_sealed : (h : HeapState) (k : ℕ) → object_number (sealed_heap h) k ≡ object_number h k
unfolding object_number
number_sealed h zero = refl
number_sealed h (suc k) = ap (next_or_null (sealed_heap h)) (number_sealed h k) ∙ ap (λ q. unwrap_or q 0) (next_sealed h (object_number h k))

object_sealed : (h : HeapState) (x : ℕ) → IsObject (sealed_heap h) x → IsObject h x
unfolding heap_item_at
object_sealed h x object = object

number_zero : (h : HeapState) → object_number h 0 ≡ 0
unfolding object_number
number_zero h = refl

last_all : (t : Tokens) (h : HeapState) (os : List FixedObject) (k : ℕ) → k ≡ length os → 0 < k → IsBelow h → first_above h.items 0 ≡ None → 0 < h.top →
    (x : ℕ) → object_number (with_objects t h os) k < x → IsObject (with_objects t h os) x → ⊥
last_all t h [] k e some b none below x above object = absurd (omega (arith, e, some))
last_all t h (o ∷ os) k e some b none below x above object =
    let zeroth : object_number (with_objects t h (o ∷ os)) 0 ≡ 0 = number_zero (with_objects t h (o ∷ os)) in
    last_made t h 0 k o os (omega (arith, e)) b (subst (λ r. first_above h.items r ≡ None) (sym zeroth) none) (omega (arith, zeroth, below)) x above object

pub alone : (n : ℕ) (room : ImageRoom) (text : List ℕ) (t : Tokens) (x : ℕ) → last_fixed t (new_card_heap n room text t) < x → IsObject (new_card_heap n room text t) x → ⊥
alone n room text t x above object =
    let h : HeapState = with_objects t (unsealed_heap n room text) (objects_in room t) in
    last_all t (unsealed_heap n room text) (objects_in room t) (fixed_count t) (sym (count_sized t (buffer_told room.buffer))) (omega (arith, least_count t)) (record { absent = λ q le. refl; none = λ q le. refl }) refl (omega arith)
    x (omega (arith, number_sealed h (fixed_count t), above)) (object_sealed h x object)

pub packages_add : (t : Tokens) (h : HeapState) (os : List FixedObject) → (with_objects t h os).packages ≡ h.packages
unfolding add_transient add_object
packages_add t h [] = refl
packages_add t h (o ∷ os) = packages_add t (with_one t h o) os

pub counts_add : (t : Tokens) (h : HeapState) (os : List FixedObject) → (with_objects t h os).counts ≡ h.counts
unfolding add_transient add_object
counts_add t h [] = refl
counts_add t h (o ∷ os) = counts_add t (with_one t h o) os

-- where there are no packages, they all link
pub no_packages : (t : Tokens) (h : HeapState) → h.packages ≡ [] → packages_of t h ≡ Some (record { platform = t; loaded = [] })
unfolding packages_of
no_packages t h none = ap (λ ps. with_records (record { platform = t; loaded = [] }) (map (record_of h) ps)) none

pub fits-new_card_heap : (n : ℕ) (room : ImageRoom) (text : List ℕ) (t : Tokens) → HasPackages t (new_card_heap n room text t)
fits-new_card_heap n room text t =
    let none : (new_card_heap n room text t).packages ≡ [] = packages_add t (unsealed_heap n room text) (objects_in room t) in
    let counts : (new_card_heap n room text t).counts ≡ (0, 0) = counts_add t (unsealed_heap n room text) (objects_in room t) in (
      record { platform = t; loaded = [] },
      no_packages t (new_card_heap n room text t) none,
      record {
        objects = λ r above object. absurd (alone n room text t r above object);
        statics = λ k below. absurd (omega (arith, ap length none));
        applets = λ a below. absurd (omega (arith, ap (λ c. c.1) counts));
        distinct = λ b below. absurd (omega (arith, ap (λ c. c.1) counts));
      },
    )
