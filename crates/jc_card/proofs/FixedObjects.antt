-- The objects of the runtime environment, as they are made.
use Rattle.std.proofs.Common.{◌≡◌, ℕ, Bool, ◌+◌, ◌<◌, ◌≤◌, ◌&&◌, ◌||◌, ◌==◌, nat_lt, false, true, List, [], ◌∷◌, ◌++◌, Option, Some, None, Err, inl, inr}
use Rattle.std.proofs.Common.{refl, sym, slice_index, ◌∙◌, ap}
use Rattle.std.proofs.Common.{subst, arith, if◌then◌else◌}
use Rattle.std.proofs.lemmas.Bool.{lt-ltb, le-ltb, eq-eqb, ne_eqb, true≢false}
use Rattle.std.proofs.lemmas.List.{append-nil, append_assoc}
use Rattle.std.proofs.lemmas.Option.{none-some}
use Rattle.jc_words.specs.Layout.{magic}
use Rattle.jc_transient.specs.State.{AreSizes, buffer_told, ram_sizes}
use Rattle.jc_transient.specs.declared.cell.ClearEvent.{ClearEvent}
use Rattle.jc_transient.specs.declared.cell.ClearEvent.TheVariants.{Reset, Deselect}
use Rattle.jc_heap.specs.declared.object.Kind.{Kind}
use Rattle.jc_heap.specs.Walk.{entry_or, has_entry}
use Rattle.jc_commit.proofs.WhatIsKept.{keeps_old_values}
use Rattle.jc_heap.specs.Completions.{after_making}
use Rattle.jc_heap.specs.Moves.{Move, AreTornMoves, PerformsMovesUnless, refusal_of_transient}
use Rattle.jc_heap.specs.declared.refusal.HeapRefusal.{HeapRefusal}
use Rattle.jc_heap.specs.declared.refusal.HeapRefusal.TheVariants as refusal
use Rattle.jc_heap.specs.Object.{Item, AnObject, APackage, is_object, facts_of, new_transient, transient_size}
use Rattle.jc_heap.specs.Heap.{HeapState, HeapView, add_transient, add_object, area_end, area_limit, first_above, next_object, heap_item_at, facts, is_allocated}
use Rattle.jc_heap.specs.Heap.{area_end_address, end_address, keeping, limit}
use Rattle.jc_heap.specs.WholeHeap.{IsConsistent, IsFilledArea}
use Rattle.jc_heap.proofs.Calls.{has_some_cells, object_fits}
use Rattle.jc_heap.proofs.Keeping.{empty_whole, transient_whole}
use Rattle.jc_image.specs.declared.laying.ImageRoom.{ImageRoom}
use Rattle.jc_image.specs.Laying.{unsealed_heap, sealed_heap}
use Rattle.jc_image.specs.Beginning.{HeadersFollow, HeapBeginsWith}
use Rattle.jc_heap.specs.declared.object.Facts.{Facts}
use Rattle.jc_platform.specs.Tokens.{Tokens}
use Rattle.jc_environment.specs.declared.objects.FixedObject.{FixedObject}
use Rattle.jc_environment.specs.Objects.{cells_of_all, sized_objects}
use Rattle.jc_environment.proofs.ObjectCounts.{cells_sized, most_cells}
use Rattle.jc_card.specs.Fixed.{buffer_cells, class_number_of, fixed_facts, BeginsWithFixed, with_objects}
use Rattle.jc_card.specs.ProductImages.{new_card_heap, objects_in}

-- what a new transient object changes
pub head-add : (h : HeapState) (kind : Kind) (class owner n : ℕ) → (add_transient h kind Reset class owner n).head ≡ h.head
unfolding add_transient add_object
head-add h kind class owner n = refl

pub top-add : (h : HeapState) (kind : Kind) (class owner n : ℕ) → (add_transient h kind Reset class owner n).top ≡ h.top + 5
unfolding add_transient add_object
top-add h kind class owner n = refl

pub end-add : (h : HeapState) (kind : Kind) (class owner n : ℕ) → area_end (add_transient h kind Reset class owner n) Reset ≡ area_end h Reset + n
unfolding add_transient add_object
end-add h kind class owner n = refl

pub limit-add : (h : HeapState) (kind : Kind) (class owner n : ℕ) → area_limit (add_transient h kind Reset class owner n) Reset ≡ area_limit h Reset
unfolding add_transient add_object
limit-add h kind class owner n = refl

-- outside a transaction the durable heap is the new one
pub durable-changed : (v : HeapView) (kind : Kind) (class owner n : ℕ) → v.begun ≡ false → v.durable ≡ v.now →
    (if v.begun then v.durable else add_transient v.now kind Reset class owner n).head ≡ v.durable.head
durable-changed v kind class owner n out settled =
    ap (λ b. (if b then v.durable else add_transient v.now kind Reset class owner n).head) out ∙ head-add v.now kind class owner n
    ∙ ap (λ h. h.head) (sym settled)

-- outside a transaction there is room, so that the store alone refuses
pub transient_allowed : (v : HeapView) (n : ℕ) → v.begun ≡ false → v.now.top + transient_size ≤ limit v → area_end v.now Reset + n ≤ area_limit v.now Reset
    → 2 ≤ v.durable.capacity → refusal_of_transient v Reset n ≡ None
transient_allowed v n out space area two =
    let places : List ℕ = end_address ∷ area_end_address Reset ∷ [] in
    has_some_cells v Reset n (λ lacks. omega (arith, lacks, area))
    ∙ object_fits v transient_size places (λ lacks. omega (arith, lacks, space)) (keeps_old_values.alone (keeping v) places out two)

pub only_torn : (reason : Option HeapRefusal) (e : HeapRefusal) (old new : HeapView) (m : Move) (a : ℕ) → reason ≡ None
    → PerformsMovesUnless reason old (after_making {A = ℕ} (Err e) new) (m ∷ []) a → AreTornMoves (m ∷ []) old new
only_torn reason refusal.StoreDown old new m a none did = did.1
only_torn reason refusal.CommitFull old new m a none did = absurd (none-some refusal.CommitFull (sym none ∙ did.0))
only_torn reason refusal.HeapFull old new m a none did = absurd (none-some refusal.HeapFull (sym none ∙ did.0))
only_torn reason refusal.NoTransientSpace old new m a none did = absurd (none-some refusal.NoTransientSpace (sym none ∙ did.0))

pub torn_head : (m : Move) (old new : HeapView) → AreTornMoves (m ∷ []) old new → new.durable.head ≡ old.durable.head
torn_head m old new torn = elim torn.left [ inl cut ↦ ap (λ (h : HeapState). h.head) cut.0 | inr none ↦ absurd none ]

-- ---- what is made stands there

pub found-first : (es : List (ℕ × Item)) (e : ℕ × Item) (rest : List (ℕ × Item)) (r : ℕ) → first_above es r ≡ None → r < e.0 → is_object e.1 ≡ true
    → first_above (es ++ e ∷ rest) r ≡ Some e.0
found-first [] e rest r none below object = ap (λ b. if b && is_object e.1 then Some e.0 else first_above rest r) (lt-ltb r e.0 below)
    ∙ ap (λ b. if b then Some e.0 else first_above rest r) object
found-first (d ∷ es) e rest r none below object = go (nat_lt r d.0 && is_object d.1) refl none (λ f. found-first es e rest r f below object)
  where
    go : (b : Bool) → (nat_lt r d.0 && is_object d.1) ≡ b → (if b then Some d.0 else first_above es r) ≡ None
        → (first_above es r ≡ None → first_above (es ++ e ∷ rest) r ≡ Some e.0) → (if nat_lt r d.0 && is_object d.1 then Some d.0 else first_above
        (es ++ e ∷ rest) r) ≡ Some e.0
    go true is f more = absurd (none-some d.0 (sym f))
    go false is f more = rw is (more f)

looked-up : (es : List (ℕ × Item)) (q : ℕ) (x : Item) (rest : List (ℕ × Item)) → has_entry es q ≡ false → entry_or (APackage []) (es ++ (q, x) ∷ rest) q ≡ x
looked-up [] q x rest f = ap (λ b. if b then x else entry_or (APackage []) rest q) (eq-eqb q q refl)
looked-up (d ∷ es) q x rest f = go (d.0 == q) refl f (looked-up es q x rest)
  where
    go : (b : Bool) → (d.0 == q) ≡ b → (b || has_entry es q) ≡ false → (has_entry es q ≡ false → entry_or (APackage []) (es ++ (q, x) ∷ rest) q ≡ x)
        → (if d.0 == q then d.1 else entry_or (APackage []) (es ++ (q, x) ∷ rest) q) ≡ x
    go true is g more = absurd (true≢false g)
    go false is g more = rw is (more g)

-- nothing stands at or above the top
pub record IsBelow (h : HeapState) : Type 0 where
  pub absent : (q : ℕ) → h.top ≤ q → has_entry h.items q ≡ false
  pub none : (q : ℕ) → h.top ≤ q → first_above h.items q ≡ None

pub has_entry-push : (es : List (ℕ × Item)) (e : ℕ × Item) (q : ℕ) → has_entry es q ≡ false → (e.0 ≡ q → ⊥) → has_entry (es ++ e ∷ []) q ≡ false
has_entry-push [] e q f n = rw (ne_eqb e.0 q n) refl
has_entry-push (d ∷ es) e q f n = go (d.0 == q) refl f (λ g. has_entry-push es e q g n)
  where
    go : (b : Bool) → (d.0 == q) ≡ b → (b || has_entry es q) ≡ false → (has_entry es q ≡ false → has_entry (es ++ e ∷ []) q ≡ false)
        → ((d.0 == q) || has_entry (es ++ e ∷ []) q) ≡ false
    go true is g more = absurd (true≢false g)
    go false is g more = rw is (more g)

pub none-push : (es : List (ℕ × Item)) (e : ℕ × Item) (q : ℕ) → first_above es q ≡ None → e.0 ≤ q → first_above (es ++ e ∷ []) q ≡ None
none-push [] e q f le = ap (λ b. if b && is_object e.1 then Some e.0 else None) (le-ltb q e.0 le)
none-push (d ∷ es) e q f le = go (nat_lt q d.0 && is_object d.1) refl f (λ g. none-push es e q g le)
  where
    go : (b : Bool) → (nat_lt q d.0 && is_object d.1) ≡ b → (if b then Some d.0 else first_above es q) ≡ None
        → (first_above es q ≡ None → first_above (es ++ e ∷ []) q ≡ None) → (if nat_lt q d.0 && is_object d.1 then Some d.0 else first_above
        (es ++ e ∷ []) q) ≡ None
    go true is g more = absurd (none-some d.0 (sym g))
    go false is g more = rw is (more g)

-- the heap with one object of the list more
abbrev pub with_one : Tokens → HeapState → FixedObject → HeapState
with_one t h o = add_transient h o.kind Reset (class_number_of t o.class) 0 o.cells

pub items-one : (t : Tokens) (h : HeapState) (o : FixedObject) → (with_one t h o).items ≡ h.items
    ++ (h.top, AnObject (new_transient o.kind Reset (class_number_of t o.class) 0 o.cells (area_end h Reset))) ∷ []
unfolding add_transient add_object
items-one t h o = refl

pub below-one : (t : Tokens) (h : HeapState) (o : FixedObject) → IsBelow h → IsBelow (with_one t h o)
below-one t h o b = record {
  absent = λ q le. ap (λ l. has_entry l q) (items-one t h o) ∙ has_entry-push h.items
      (h.top, AnObject (new_transient o.kind Reset (class_number_of t o.class) 0 o.cells (area_end h Reset))) q
      (b.absent q (omega (arith, top-add h o.kind (class_number_of t o.class) 0 o.cells)))
      (λ e. omega (arith, top-add h o.kind (class_number_of t o.class) 0 o.cells));
  none = λ q le. ap (λ l. first_above l q) (items-one t h o) ∙ none-push h.items (
    h.top,
    AnObject (new_transient o.kind Reset (class_number_of t o.class) 0 o.cells (area_end h Reset)),
  ) q
      (b.none q (omega (arith, top-add h o.kind (class_number_of t o.class) 0 o.cells)))
      (omega (arith, top-add h o.kind (class_number_of t o.class) 0 o.cells));
}

-- the others only come after
pub items-all : (t : Tokens) (h : HeapState) (os : List FixedObject) → (rest : List (ℕ × Item)) × ((with_objects t h os).items ≡ h.items ++ rest)
items-all t h [] = ([], sym (append-nil h.items))
items-all t h (o ∷ os) =
    let more : (rest : List (ℕ × Item)) × ((with_objects t (with_one t h o) os).items ≡ (with_one t h o).items ++ rest) = items-all t (with_one t h o) os in (
      (h.top, AnObject (new_transient o.kind Reset (class_number_of t o.class) 0 o.cells (area_end h Reset))) ∷ more.0,
      more.1 ∙ ap (λ l. l ++ more.0) (items-one t h o) ∙ append_assoc h.items ((
        h.top,
        AnObject (new_transient o.kind Reset (class_number_of t o.class) 0 o.cells (area_end h Reset)),
      ) ∷ []) more.0,
    )

pub next_is : (k : HeapState) (q : ℕ) → next_object k q ≡ first_above k.items q
unfolding next_object
next_is k q = refl

facts_are : (k : HeapState) (q : ℕ) → facts k q ≡ facts_of (entry_or (APackage []) k.items q)
unfolding heap_item_at
facts_are k q = refl

follow-made : (t : Tokens) (h : HeapState) (r : ℕ) (os : List FixedObject) → IsBelow h → first_above h.items r ≡ None → r < h.top
    → HeadersFollow (with_objects t h os) r (fixed_facts t (area_end h Reset) os)
follow-made t h r [] b none below = tt
follow-made t h r (o ∷ os) b none below =
    let rest : (rest : List (ℕ × Item)) × ((with_objects t h (o ∷ os)).items ≡ (with_one t h o).items ++ rest) = items-all t (with_one t h o) os in
    let items : (with_objects t h (o ∷ os)).items ≡ h.items ++ (
      h.top,
      AnObject (new_transient o.kind Reset (class_number_of t o.class) 0 o.cells
          (area_end h Reset)),
    ) ∷ rest.0 =
    rest.1 ∙ ap (λ l. l ++ rest.0) (items-one t h o) ∙ append_assoc h.items ((
      h.top,
      AnObject (new_transient o.kind Reset (class_number_of t o.class) 0 o.cells (area_end h Reset)),
    ) ∷ []) rest.0 in (
      h.top,
      next_is (with_objects t h (o ∷ os)) r ∙ ap (λ l. first_above l r) items ∙ found-first h.items
          (h.top, AnObject (new_transient o.kind Reset (class_number_of t o.class) 0 o.cells (area_end h Reset))) rest.0 r none below refl,
      facts_are (with_objects t h (o ∷ os)) h.top ∙ ap (λ l. facts_of (entry_or (APackage []) l h.top)) items
          ∙ ap facts_of (looked-up h.items h.top (AnObject (new_transient o.kind Reset (class_number_of t o.class) 0 o.cells (area_end h Reset))) rest.0
          (b.absent h.top (omega arith))),
      subst (λ p. HeadersFollow (with_objects t h (o ∷ os)) h.top (fixed_facts t p os)) (end-add h o.kind (class_number_of t o.class) 0 o.cells)
          (follow-made t (with_one t h o) h.top os (below-one t h o b)
          (ap (λ l. first_above l h.top) (items-one t h o) ∙ none-push h.items (
            h.top,
            AnObject (new_transient o.kind Reset (class_number_of t o.class) 0 o.cells (area_end h Reset)),
          ) h.top (b.none h.top (omega arith)) (omega arith))
          (omega (arith, top-add h o.kind (class_number_of t o.class) 0 o.cells))),
    )

-- ---- a new image's heap

is_allocated-top : (h : HeapState) → IsBelow h → is_allocated h h.top ≡ false
unfolding is_allocated
is_allocated-top h b = b.absent h.top (omega arith)

all_whole : (t : Tokens) (h : HeapState) (os : List FixedObject) → IsBelow h → area_end h Reset + cells_of_all os ≤ area_limit h Reset → IsConsistent h
    → IsConsistent (with_objects t h os)
all_whole t h [] b room w = w
all_whole t h (o ∷ os) b room w = all_whole t (with_one t h o) os (below-one t h o b) (omega (arith, end-add h o.kind (class_number_of t o.class) 0 o.cells, limit-add h o.kind (class_number_of t o.class) 0 o.cells))
    (transient_whole h o.kind Reset (class_number_of t o.class) 0 o.cells (is_allocated-top h b) (λ lacks. omega arith) w)

filled-sealed_heap : (h : HeapState) (event : ClearEvent) → IsFilledArea h event → IsFilledArea (sealed_heap h) event
filled-sealed_heap h Reset f = record { places = f.places; end = f.end; fits = f.fits }
filled-sealed_heap h Deselect f = record { places = f.places; end = f.end; fits = f.fits }

whole-sealed_heap : (h : HeapState) → IsConsistent h → IsConsistent (sealed_heap h)
unfolding heap_item_at is_allocated
whole-sealed_heap h w = record {
  few_packages = w.few_packages;
  few_applets = w.few_applets;
  met = w.met;
  records = w.records;
  distinct = w.distinct;
  references = w.references;
  sizes = w.sizes;
  areas = λ event. filled-sealed_heap h event (w.areas event);
}

-- its first area has room for the objects of the runtime environment
least_limit : (t : Tokens) (cells buffer : ℕ) → AreSizes cells buffer → cells_of_all (sized_objects t (buffer_told buffer)) ≤ (ram_sizes cells buffer).reset
unfolding ram_sizes
least_limit t cells buffer sizes =
    let least = sizes.cells_least in let above = sizes.buffer_least in let below = sizes.buffer_most in
    let sum = cells_sized t (buffer_told buffer) in let most = most_cells t in
    omega (arith, least, above, below, sum, most)

pub room_limit : (n : ℕ) (room : ImageRoom) (text : List ℕ) (t : Tokens) → AreSizes room.cells room.buffer
    → cells_of_all (objects_in room t) ≤ area_limit (unsealed_heap n room text) Reset
room_limit n room text t sizes = least_limit t room.cells room.buffer sizes

pub whole-new_card_heap : (n : ℕ) (room : ImageRoom) (text : List ℕ) (t : Tokens) → AreSizes room.cells room.buffer
    → IsConsistent (new_card_heap n room text t)
whole-new_card_heap n room text t sizes = whole-sealed_heap (with_objects t (unsealed_heap n room text) (objects_in room t))
    (all_whole t (unsealed_heap n room text) (objects_in room t) (record { absent = λ q le. refl; none = λ q le. refl })
    (omega (arith, room_limit n room text t sizes))
    (empty_whole (unsealed_heap n room text) refl refl refl refl sizes))

-- the words of the front that no change touches stay
lasting-add : (h : HeapState) (kind : Kind) (class owner n : ℕ) → (add_transient h kind Reset class owner n).lasting ≡ h.lasting
unfolding add_transient add_object
lasting-add h kind class owner n = refl

pub lasting-all : (t : Tokens) (h : HeapState) (os : List FixedObject) → (with_objects t h os).lasting ≡ h.lasting
lasting-all t h [] = refl
lasting-all t h (o ∷ os) = lasting-all t (with_one t h o) os ∙ lasting-add h o.kind (class_number_of t o.class) 0 o.cells

pub head-all : (t : Tokens) (h : HeapState) (os : List FixedObject) → (with_objects t h os).head ≡ h.head
head-all t h [] = refl
head-all t h (o ∷ os) = head-all t (with_one t h o) os ∙ head-add h o.kind (class_number_of t o.class) 0 o.cells

text-add : (h : HeapState) (kind : Kind) (class owner n : ℕ) → (add_transient h kind Reset class owner n).text ≡ h.text
unfolding add_transient add_object
text-add h kind class owner n = refl

text-all : (t : Tokens) (h : HeapState) (os : List FixedObject) → (with_objects t h os).text ≡ h.text
text-all t h [] = refl
text-all t h (o ∷ os) = text-all t (with_one t h o) os ∙ text-add h o.kind (class_number_of t o.class) 0 o.cells

pub next_sealed : (k : HeapState) (q : ℕ) → next_object (sealed_heap k) q ≡ next_object k q
unfolding next_object
next_sealed k q = refl

facts_sealed : (k : HeapState) (q : ℕ) → facts (sealed_heap k) q ≡ facts k q
unfolding heap_item_at
facts_sealed k q = refl

sealed_heap-follow : (h : HeapState) (r : ℕ) (fs : List Facts) → HeadersFollow h r fs → HeadersFollow (sealed_heap h) r fs
sealed_heap-follow h r [] f = tt
sealed_heap-follow h r (d ∷ fs) f = (f.0, next_sealed h r ∙ f.1, facts_sealed h f.0 ∙ f.2, sealed_heap-follow h f.0 fs f.3)

pub begins-new_card_heap : (n : ℕ) (room : ImageRoom) (text : List ℕ) (t : Tokens) → BeginsWithFixed t (new_card_heap n room text t)
unfolding HeapBeginsWith
begins-new_card_heap n room text t =
    let buffer : buffer_cells (new_card_heap n room text t) ≡ buffer_told room.buffer = ap (λ (l : List ℕ). buffer_told (slice_index l 2))
    (lasting-all t (unsealed_heap n room text) (objects_in room t)) in
    subst (λ k. HeadersFollow (new_card_heap n room text t) 0 (fixed_facts t 0 (sized_objects t k))) (sym buffer)
    (sealed_heap-follow (with_objects t (unsealed_heap n room text) (objects_in room t)) 0 (fixed_facts t 0 (objects_in room t))
    (follow-made t (unsealed_heap n room text) 0 (objects_in room t) (record { absent = λ q le. refl; none = λ q le. refl }) refl (omega arith)))

pub head-new_card_heap : (n : ℕ) (room : ImageRoom) (text : List ℕ) (t : Tokens) → (new_card_heap n room text t).head ≡ (magic, n)
head-new_card_heap n room text t = ap (λ (h : ℕ × ℕ). (magic, h.1)) (head-all t (unsealed_heap n room text) (objects_in room t))

pub text-new_card_heap : (n : ℕ) (room : ImageRoom) (text : List ℕ) (t : Tokens) → (new_card_heap n room text t).text ≡ text
text-new_card_heap n room text t = text-all t (unsealed_heap n room text) (objects_in room t)
