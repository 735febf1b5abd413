-- The heap of a new image fits its packages.
use Rattle.std.proofs.Common.{◌≡◌, ℕ, zero, suc, ◌+◌, ◌<◌, ◌≤◌, ◌&&◌, ◌==◌, not, Bool, true, false, inl, inr, List, [], ◌∷◌, ◌++◌, length, map, Option, Some, None, Ok}
use Rattle.std.proofs.Common.{refl, sym, ◌∙◌, ap, subst, arith, if◌then◌else◌}
use Rattle.std.specs.Prelude.{is_some, slice_index, unwrap_or}
use Rattle.std.proofs.lemmas.List.FromFn.{get_or-map-range_with_len, length-map-range_with_len}
use Rattle.std.proofs.lemmas.Option.{none-some}
use Rattle.std.proofs.lemmas.Bool.{and_from, cases_lt, false≢true}
use Rattle.std.proofs.lemmas.List.{length-replicate}
use Rattle.jc_words.specs.Layout.{least_size, registry_length}
use Rattle.jc_transient.specs.declared.cell.ClearEvent.TheVariants.{Reset}
use Rattle.jc_transient.specs.State.{AreSizes, buffer_told}
use Rattle.jc_heap.specs.declared.object.Kind.{Kind}
use Rattle.jc_heap.specs.Object.{AnObject, APackage, Item, facts_of, is_object, new_transient}
use Rattle.jc_heap.specs.Walk.{entry_or}
use Rattle.jc_heap.specs.Heap.{HeapState, IsObject, add_object, add_transient, area_end, heap_item_at, is_allocated, next_object}
use Rattle.jc_heap.specs.HeapLaws.{IsConsistentHeap}
use Rattle.jc_image.specs.declared.laying.ImageRoom.{ImageRoom}
use Rattle.jc_image.specs.Laying.{unsealed_heap}
use Rattle.jc_platform.specs.declared.names.PlatformClass.{PlatformClass}
use Rattle.jc_platform.specs.Hierarchy.{is_interface}
use Rattle.jc_platform.specs.Table.{Reads}
use Rattle.jc_platform.specs.Tokens.{Tokens, token_of_class}
use Rattle.jc_platform.proofs.Lists.{and_true}
use Rattle.jc_linker.specs.Values.{Packages}
use Rattle.jc_packages.specs.Objects.{is_instance, is_persistent_instance}
use Rattle.jc_environment.specs.declared.objects.FixedObject.{FixedObject}
use Rattle.jc_environment.specs.Objects.{first_objects, fixed_count, fixed_objects, is_first, own_instance, own_instances, sized, sized_objects}
use Rattle.jc_environment.proofs.ObjectCounts.{all_further, count_sized, is_thrown_further, least_count}
use Rattle.jc_platform.specs.Names.{ClassEntry, classes}
use Rattle.jc_card.specs.Fixed.{BeginsWithFixed, buffer_cells, class_number_of, fixed_facts, fixed_of, last_fixed, next_or_null, object_number, with_objects}
use Rattle.jc_image.specs.Beginning.{HeadersFollow, HeapBeginsWith}
use Rattle.jc_image.proofs.Referring.{not_true}
use Rattle.jc_card.specs.ProductImages.{new_card_heap, objects_in}
use Rattle.jc_card.proofs.FittingImages.{alone, counts_add, no_packages, number_suc, packages_add}
use Rattle.jc_card.proofs.FixedObjects.{IsBelow, begins-new_card_heap, below-one, head-new_card_heap, items-one, next_is, text-new_card_heap, top-add}
use Rattle.jc_card.proofs.FixedObjects.{whole-new_card_heap, with_one}
use Rattle.jc_card.proofs.Objects.{zeroth}
use Rattle.law_soundness.specs.MemoryLaws.Environment.{AreEnvironmentObjects}
use Rattle.law_soundness.specs.MemoryLaws.Fit.{IsPlatformClass}
use Rattle.law_soundness.specs.MemoryLaws.State.{IsSoundUpTo}
use Rattle.law_theorems.specs.Heaps.{HasBeginning, IsOwnHeap}
use Rattle.law_theorems.specs.NewImages.{NewImagesFit}
use Rattle.law_theorems.proofs.FirstObjects.{found_there}

-- the platform alone
abbrev alone_with : Tokens → Packages
alone_with t = record { platform = t; loaded = [] }

-- ---- what stands in a new image's heap

-- an item is no object, or one of the runtime environment's that is cleared at an event
record IsFixed (t : Tokens) (x : Item) : Type 0 where
  owner : (facts_of x).owner ≡ 0
  kept : is_object x ≡ true → is_persistent_instance (facts_of x) ≡ false
  class : is_object x ≡ true → is_instance (facts_of x).kind ≡ true → IsPlatformClass (alone_with t) (facts_of x).class

and_false : (b : Bool) → (b && false) ≡ false
and_false true = refl
and_false false = refl

-- an instance has a class of the platform that is no interface
abbrev fits_kind : Kind → Option PlatformClass → Bool
fits_kind kind None = not (is_instance kind)
fits_kind kind (Some of) = not (is_interface of)

abbrev all_fit : List FixedObject → Bool
all_fit [] = true
all_fit (o ∷ os) = fits_kind o.kind o.class && all_fit os

fit-append : (xs ys : List FixedObject) → all_fit xs ≡ true → all_fit ys ≡ true → all_fit (xs ++ ys) ≡ true
fit-append [] ys first second = second
fit-append (o ∷ xs) ys first second =
    let both : (fits_kind o.kind o.class ≡ true) × (all_fit xs ≡ true) = and_true (fits_kind o.kind o.class) (all_fit xs) first in
    and_from (fits_kind o.kind o.class) _ both.0 (fit-append xs ys both.1 second)

-- those of the classes that a table has are among those of all the classes
fit-own : (t : Tokens) (es : List ClassEntry) → all_fit (all_further es) ≡ true → all_fit (own_instances t es) ≡ true
fit-own t [] fit = refl
fit-own t (e ∷ es) fit = go (is_thrown_further e) (is_some (token_of_class t e.class)) fit (λ f. fit-own t es f)
  where
    fits : Bool
    fits = fits_kind (own_instance e.class).kind (own_instance e.class).class

    go : (x y : Bool) → all_fit (if x then own_instance e.class ∷ all_further es else all_further es) ≡ true
        → (all_fit (all_further es) ≡ true → all_fit (own_instances t es) ≡ true)
        → all_fit (if x && y then own_instance e.class ∷ own_instances t es else own_instances t es) ≡ true
    go true true f rest = let both : (fits ≡ true) × (all_fit (all_further es) ≡ true) = and_true fits (all_fit (all_further es)) f in
        and_from fits _ both.0 (rest both.1)
    go true false f rest = let both : (fits ≡ true) × (all_fit (all_further es) ≡ true) = and_true fits (all_fit (all_further es)) f in rest both.1
    go false y f rest = rest f

first_fit : all_fit first_objects ≡ true
unfolding first_objects is_interface classes
first_fit = refl

further_fit : all_fit (all_further classes) ≡ true
unfolding first_objects is_first is_interface classes
further_fit = refl

fixed_fit : (t : Tokens) → all_fit (fixed_objects t) ≡ true
unfolding fixed_objects
fixed_fit t = fit-append first_objects (own_instances t classes) first_fit (fit-own t classes further_fit)

-- and of those with a buffer of n cells
sized_fit : (n : ℕ) (os : List FixedObject) → all_fit os ≡ true → all_fit (map (sized n) os) ≡ true
sized_fit n [] f = refl
sized_fit n (o ∷ os) f = let both = and_true (fits_kind o.kind o.class) (all_fit os) f in
    and_from (fits_kind o.kind o.class) _ both.0 (sized_fit n os both.1)

class_fits : (t : Tokens) (kind : Kind) (class : Option PlatformClass) → fits_kind kind class ≡ true → is_instance kind ≡ true
    → IsPlatformClass (alone_with t) (class_number_of t class)
class_fits t kind None fits instance = absurd (false≢true (sym (ap not instance) ∙ fits))
class_fits t kind (Some of) fits instance = (of, not_true (is_interface of) fits, refl)

absent_fixed : (t : Tokens) → IsFixed t (APackage [])
absent_fixed t = record { owner = refl; kept = λ there. absurd (false≢true there); class = λ there instance. absurd (false≢true there) }

object_fixed : (t : Tokens) (o : FixedObject) (place : ℕ) → fits_kind o.kind o.class ≡ true
    → IsFixed t (AnObject (new_transient o.kind Reset (class_number_of t o.class) 0 o.cells place))
object_fixed t o place fits = record {
  owner = refl;
  kept = λ there. and_false (is_instance o.kind);
  class = λ there instance. class_fits t o.kind o.class fits instance;
}

-- after items of which this is so, one more
pushed_fixed : (t : Tokens) (es : List (ℕ × Item)) (q : ℕ) (x : Item) (r : ℕ) → IsFixed t (entry_or (APackage []) es r) → IsFixed t x
    → IsFixed t (entry_or (APackage []) (es ++ (q, x) ∷ []) r)
pushed_fixed t [] q x r old new = go (q == r)
  where
    go : (b : Bool) → IsFixed t (if b then x else APackage [])
    go true = new
    go false = old
pushed_fixed t (d ∷ es) q x r old new = go (d.0 == r) old (λ f. pushed_fixed t es q x r f new)
  where
    go : (b : Bool) → IsFixed t (if b then d.1 else entry_or (APackage []) es r) →
        (IsFixed t (entry_or (APackage []) es r) → IsFixed t (entry_or (APackage []) (es ++ (q, x) ∷ []) r)) →
        IsFixed t (if b then d.1 else entry_or (APackage []) (es ++ (q, x) ∷ []) r)
    go true f rest = f
    go false f rest = rest f

all_fixed : (t : Tokens) (h : HeapState) (os : List FixedObject) → all_fit os ≡ true → ((r : ℕ) → IsFixed t (entry_or (APackage []) h.items r)) → (r : ℕ)
    → IsFixed t (entry_or (APackage []) (with_objects t h os).items r)
all_fixed t h [] fit old r = old r
all_fixed t h (o ∷ os) fit old r =
    let both : (fits_kind o.kind o.class ≡ true) × (all_fit os ≡ true) = and_true (fits_kind o.kind o.class) (all_fit os) fit in
    all_fixed t (with_one t h o) os both.1
    (λ q. subst (λ l. IsFixed t (entry_or (APackage []) l q)) (sym (items-one t h o))
    (pushed_fixed t h.items h.top _ q (old q) (object_fixed t o (area_end h Reset) both.0))) r

-- ---- where it ends

below_all : (t : Tokens) (h : HeapState) (os : List FixedObject) → IsBelow h → IsBelow (with_objects t h os)
below_all t h [] b = b
below_all t h (o ∷ os) b = below_all t (with_one t h o) os (below-one t h o b)

top_all : (t : Tokens) (h : HeapState) (os : List FixedObject) → h.top ≤ (with_objects t h os).top
top_all t h [] = omega arith
top_all t h (o ∷ os) = let more = top_all t (with_one t h o) os in omega (arith, more, top-add h o.kind (class_number_of t o.class) 0 o.cells)

applets_all : (t : Tokens) (h : HeapState) (os : List FixedObject) → (with_objects t h os).applets ≡ h.applets
unfolding add_transient add_object
applets_all t h [] = refl
applets_all t h (o ∷ os) = applets_all t (with_one t h o) os

next_below : (h : HeapState) (r : ℕ) → IsBelow h → 0 < h.top → next_or_null h r < h.top
next_below h r b some = go (next_object h r) refl
  where
    go : (o : Option ℕ) → next_object h r ≡ o → unwrap_or o 0 < h.top
    go None e = some
    go (Some q) e = elim (cases_lt q h.top) [
      | inl low ↦ low
      | inr high ↦ absurd (false≢true (sym (b.absent q high) ∙ found_there h.items r q (sym (next_is h r) ∙ e)))
    ]

number_below : (h : HeapState) (k : ℕ) → IsBelow h → 0 < h.top → object_number h (suc k) < h.top
number_below h k b some = subst (λ q. q < h.top) (sym (number_suc h k)) (next_below h (object_number h k) b some)

-- ---- the objects that it begins with are there

-- a header with an event is an object's
of_object : (x : Item) → (facts_of x).event ≡ Some Reset → is_object x ≡ true
of_object (AnObject o) e = refl
of_object (APackage ws) e = absurd (none-some Reset e)

follow_there : (h : HeapState) (t : Tokens) (place : ℕ) (os : List FixedObject) (j k n : ℕ) → HeadersFollow h (object_number h j) (fixed_facts t place os)
    → k < length os → n ≡ j + suc k → IsObject h (object_number h n)
follow_there h t place [] j k n follow lt is = absurd (omega (arith, lt))
follow_there h t place (o ∷ os) j zero n follow lt is =
    let next : object_number h (suc j) ≡ follow.0 = number_suc h j ∙ ap (λ x. unwrap_or x 0) follow.1 in
    let at : suc j ≡ n = omega (arith, is) in
    subst (λ q. IsObject h (object_number h q)) at (subst (IsObject h) (sym next) (of_object (heap_item_at h follow.0) (ap (λ f. f.event) follow.2)))
follow_there h t place (o ∷ os) j (suc i) n follow lt is =
    let next : object_number h (suc j) ≡ follow.0 = number_suc h j ∙ ap (λ x. unwrap_or x 0) follow.1 in
    follow_there h t (place + o.cells) os (suc j) i n (subst (λ q. HeadersFollow h q (fixed_facts t (place + o.cells) os)) (sym next) follow.3)
    (omega (arith, lt)) (omega (arith, is))

begin_there : (h : HeapState) (t : Tokens) → BeginsWithFixed t h → (k : ℕ) → k < length (fixed_of t h) → IsObject h (slice_index (fixed_of t h) k)
unfolding HeapBeginsWith
begin_there h t begins k low =
    let os : List FixedObject = sized_objects t (buffer_cells h) in
    let all = count_sized t (buffer_cells h) in
    let lt : k < fixed_count t = omega (arith, low, length-map-range_with_len (object_number h) 1 (fixed_count t)) in
    let at : slice_index (fixed_of t h) k ≡ object_number h (1 + k) =
    get_or-map-range_with_len (object_number h) 1 (fixed_count t) k (1 + k) 0 lt refl in
    subst (IsObject h) (sym at) (follow_there h t 0 os 0 k (1 + k)
    (subst (λ q. HeadersFollow h q (fixed_facts t 0 os)) (sym (zeroth h)) begins) (omega (arith, lt, all)) (omega arith))

module _ (n : ℕ) (room : ImageRoom) (text : List ℕ) (t : Tokens) where
  abbrev made : HeapState
  made = with_objects t (unsealed_heap n room text) (objects_in room t)

  below : IsBelow (new_card_heap n room text t)
  below =
      let b : IsBelow made = below_all t (unsealed_heap n room text) (objects_in room t) (record { absent = λ q le. refl; none = λ q le. refl }) in
      record { absent = b.absent; none = b.none }

  some : 0 < (new_card_heap n room text t).top
  some = let more = top_all t (unsealed_heap n room text) (objects_in room t) in omega (arith, more)

  stands_whole : AreSizes room.cells room.buffer → IsConsistentHeap (new_card_heap n room text t)
  unfolding is_allocated
  stands_whole sizes = record { whole = whole-new_card_heap n room text t sizes; end = λ r high. below.absent r high; some = some }

  fixed_items : (r : ℕ) → IsFixed t (heap_item_at (new_card_heap n room text t) r)
  unfolding heap_item_at
  fixed_items r = all_fixed t (unsealed_heap n room text) (objects_in room t) (sized_fit (buffer_told room.buffer) (fixed_objects t) (fixed_fit t)) (λ q. absent_fixed t) r

  no_package : (new_card_heap n room text t).packages ≡ []
  no_package = packages_add t (unsealed_heap n room text) (objects_in room t)

  no_applet : (new_card_heap n room text t).counts ≡ (0, 0)
  no_applet = counts_add t (unsealed_heap n room text) (objects_in room t)

  nothing_above : IsSoundUpTo (new_card_heap n room text t).counts.1 (alone_with t) (new_card_heap n room text t) (last_fixed t (new_card_heap n room text t))
  nothing_above = record {
    objects = λ r above object. absurd (alone n room text t r above object);
    statics = λ k low. absurd (omega (arith, low, ap length no_package));
    applets = λ a low. absurd (omega (arith, low, ap (λ c. c.1) no_applet));
    distinct = λ b low. absurd (omega (arith, low, ap (λ c. c.1) no_applet));
    aids = λ a low. absurd (omega (arith, low, ap (λ c. c.1) no_applet));
  }

  environments : AreEnvironmentObjects (alone_with t) (new_card_heap n room text t) (fixed_of t (new_card_heap n room text t))
  environments = record {
    long = omega (arith, least_count t, length-map-range_with_len (object_number (new_card_heap n room text t)) 1 (fixed_count t));
    there = begin_there (new_card_heap n room text t) t (begins-new_card_heap n room text t);
    first = λ r low. (fixed_items r).owner;
    classes = λ r there instance zero. (fixed_items r).class there instance;
  }

  begins : least_size ≤ n → Reads text (Ok t) → HasBeginning n t (new_card_heap n room text t)
  begins enough reads = record {
    head = head-new_card_heap n room text t;
    enough = enough;
    table = subst (λ l. Reads l (Ok t)) (sym (text-new_card_heap n room text t)) reads;
    begins = begins-new_card_heap n room text t;
  }

  last_below : (k : ℕ) → 17 ≤ k → object_number (new_card_heap n room text t) k < (new_card_heap n room text t).top
  last_below zero some_there = absurd (omega (arith, some_there))
  last_below (suc k) some_there = number_below (new_card_heap n room text t) k below some

  own_heap : least_size ≤ n → AreSizes room.cells room.buffer → Reads text (Ok t) → IsOwnHeap n t (alone_with t) (new_card_heap n room text t)
  own_heap enough sizes reads = record {
    beginning = begins enough reads;
    packages = no_packages t (new_card_heap n room text t) no_package;
    stands = stands_whole sizes;
    registry = ap length (applets_all t (unsealed_heap n room text) (objects_in room t)) ∙ length-replicate {A = ℕ} registry_length 0;
    loaded = ap length no_package;
    fits = nothing_above;
    environment = environments;
    behind = last_below (fixed_count t) (least_count t);
    own = λ r low there. (fixed_items r).kept there;
  }

pub new_images : NewImagesFit
new_images = λ n room text t enough sizes reads. own_heap n room text t enough sizes reads
