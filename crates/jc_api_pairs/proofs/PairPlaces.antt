-- The places that a call sets which makes new keys of a pair: they are there, and none stands twice. And what stays where they are set.
use Rattle.std.proofs.Common.{◌≡◌, ◌∙◌, ◌+◌, ◌≤◌, ◌&&◌, ℕ, suc, Bool, true, false, List, [], ◌∷◌, ◌++◌, length, Option, Some, None, Ok, refl, ap, sym, subst}
use Rattle.std.proofs.Common.{arith}
use Rattle.std.proofs.lemmas.Bool.{true≢false}
use Rattle.jc_transient.specs.declared.cell.ClearEvent.{ClearEvent}
use Rattle.jc_heap.specs.Completions.{Done}
use Rattle.jc_heap.specs.declared.object.Facts.{Facts}
use Rattle.jc_heap.specs.declared.object.Kind.{Kind}
use Rattle.jc_heap.specs.declared.object.Kind.TheVariants.{Instance, ByteArray, ReferenceArray}
use Rattle.jc_heap.specs.declared.place.Place.{Place}
use Rattle.jc_heap.specs.declared.place.Place.TheVariants.{Cell}
use Rattle.jc_heap.specs.declared.refusal.HeapRefusal.{HeapRefusal}
use Rattle.jc_heap.specs.Heap.{HeapState, IsObject, cells, facts, heap_item_at}
use Rattle.jc_heap.specs.HeapLaws.{AreLegalValues}
use Rattle.jc_heap.specs.Moves.{SetPlaces}
use Rattle.jc_heap.specs.Object.{has_bytes, is_object}
use Rattle.jc_heap.specs.Place.{AreApart, ArePlain, AreThere, IsBeside, cell_changes, places_of, set_place, set_places}
use Rattle.jc_heap.proofs.Keeping.{object-header_only}
use Rattle.jc_heap.proofs.Places.{bare_stays}
use Rattle.jc_memory.specs.Cells.{IsHeaderOf}
use Rattle.jc_memory.specs.Programs.{Completes, Finish, Perform, unless_refused}
use Rattle.jc_memory.specs.State.{HeapMove, MemoryState}
use Rattle.jc_memory.proofs.Room.{facts-places}
use Rattle.jc_environment.proofs.PinWrites.{puts_apart, puts_stand}
use Rattle.jc_world.specs.declared.arrays.Stretch.{Stretch}
use Rattle.jc_world.specs.Objects.{check_or_fault}
use Rattle.jc_api.proofs.Reaching.{err_not_ok}
use Rattle.jc_api.proofs.States.{done_refused}
use Rattle.jc_api_pairs.specs.KeyPair.Changes.{HasElements, HasPersistentElements, IsTransient, both_changes, counts_once, public_changes}
use Rattle.jc_api_pairs.specs.KeyPair.Keys.{IsPair}

-- ---- kinds

no_bytes : (k : Kind) → k ≡ Instance → has_bytes k ≡ true → ⊥
no_bytes k is bytes = true≢false (sym bytes ∙ ap has_bytes is)

no_references : (k : Kind) → k ≡ Instance → k ≡ ReferenceArray → ⊥
no_references k i r = cc

no_array : (k : Kind) → k ≡ Instance → k ≡ ByteArray → ⊥
no_array k i b = cc

-- ---- the number of a pair

module _ (m : MemoryState) (own : ℕ) (pair : IsPair m own) where
  pub count_there : AreThere m.heap.now (counts_once m own)
  count_there = let three = pair.cells in (omega (arith, three), (λ e. absurd (no_bytes _ ((pair.there).instance) e)), tt)

  pub count_plain : ArePlain m.heap.now (places_of (counts_once m own))
  count_plain = (ap (λ k. has_bytes k && (facts m.heap.now own).packed) ((pair.there).instance), tt)

  count_stands : AreLegalValues m.heap.now (counts_once m own)
  count_stands = ((λ e. absurd (no_references _ ((pair.there).instance) e)), tt)

  count_apart : AreApart (places_of (counts_once m own))
  count_apart = (tt, tt)

  -- an array is another object
  other_object : (array : ℕ) → (facts m.heap.now array).kind ≡ ByteArray → array ≡ own → ⊥
  other_object array is e = no_array _ (ap (λ q. (facts m.heap.now q).kind) e ∙ ((pair.there).instance)) is

  beside_count : (array k : ℕ) → (facts m.heap.now array).kind ≡ ByteArray → IsBeside (Cell array k) (places_of (counts_once m own))
  beside_count array k is = (λ e. other_object array is cc, tt)

  -- ---- after elements of an array

  module _ (to : Stretch) (bytes : List ℕ) (is : HasElements m to bytes) where
    pub public_stands : AreLegalValues m.heap.now (public_changes m own to bytes)
    public_stands = puts_stand m.heap.now to.array (is.there).bytes (counts_once m own) to.start bytes count_stands

    pub public_apart : AreApart (places_of (public_changes m own to bytes))
    public_apart = puts_apart m.heap.now to.array (is.there).bytes (counts_once m own) to.start bytes (λ k. beside_count to.array k (is.there).bytes) count_apart

  -- a cell of another array is beside these
  beside_elements : (array k : ℕ) → (facts m.heap.now array).kind ≡ ByteArray → (other i : ℕ) (bytes : List ℕ) → (array ≡ other → ⊥)
      → IsBeside (Cell array k) (places_of (cell_changes other i bytes ++ counts_once m own))
  beside_elements array k is other i [] apart = beside_count array k is
  beside_elements array k is other i (b ∷ bs) apart = (λ e. apart cc, beside_elements array k is other (suc i) bs apart)

  -- ---- and of another one

  module _ (to : Stretch) (bytes : List ℕ) (is : HasElements m to bytes) (last : Stretch) (number : List ℕ) (next : HasElements m last number)
      (apart : to.array ≡ last.array → ⊥) where
    pub both_stand : AreLegalValues m.heap.now (both_changes m own to bytes last number)
    both_stand = puts_stand m.heap.now to.array (is.there).bytes (public_changes m own last number) to.start bytes (public_stands last number next)

    pub both_apart : AreApart (places_of (both_changes m own to bytes last number))
    both_apart = puts_apart m.heap.now to.array (is.there).bytes (public_changes m own last number) to.start bytes
        (λ k. beside_elements to.array k (is.there).bytes last.array last.start number apart) (public_apart last number next)

-- ---- what is known of elements

-- a check that does not fail
pub checked : (b : Bool) → check_or_fault b ≡ Ok tt → b ≡ true
checked true e = refl
checked false e = absurd (err_not_ok e)

-- those of a persistent array are cells
pub persistent_elements : (m : MemoryState) (to : Stretch) (bytes : List ℕ) → HasElements m to bytes
    → length (cells m.heap.now to.array) ≡ (facts m.heap.now to.array).length → HasPersistentElements m to bytes
persistent_elements m to bytes is long = record { elements = is; cells = let within = (is.there).within in omega (arith, within, long) }

pub persistent_by_header : (m : MemoryState) (to : Stretch) (bytes : List ℕ) (header : Facts) → HasElements m to bytes → IsHeaderOf m to.array header
    → header.event ≡ None → HasPersistentElements m to bytes
persistent_by_header m to bytes header is of none = persistent_elements m to bytes is (of.persistent none ∙ ap (λ (f : Facts). f.length) of.is)

pub transient_by_header : (m : MemoryState) (r : ℕ) (header : Facts) (event : ClearEvent) → IsHeaderOf m r header → header.event ≡ Some event
    → IsTransient m r
transient_by_header m r header event of is = record { event = event; is = ap (λ (f : Facts). f.event) (sym of.is) ∙ is }

-- ---- what stays

object-places : (h : HeapState) (cs : List (Place × ℕ)) (q : ℕ) → IsObject h q → IsObject (set_places h cs) q
object-places h [] q there = there
object-places h (c ∷ cs) q there = object-places (set_place h c.0 c.1) cs q
    (sym (object-header_only (heap_item_at (set_place h c.0 c.1) q)) ∙ ap is_object (bare_stays h c.0 c.1 q) ∙ object-header_only (heap_item_at h q) ∙ there)

module _ (reason : Option HeapRefusal) (m new : MemoryState) (cs : List (Place × ℕ))
    (did : Completes (unless_refused reason (Perform (HeapMove (SetPlaces cs)) (Finish (Done (tt {0}))))) m (Done (tt {0})) new) where
  same_facts : (q : ℕ) → facts new.heap.now q ≡ facts m.heap.now q
  same_facts q = by reason did
    where
      by : (o : Option HeapRefusal) → Completes (unless_refused o (Perform (HeapMove (SetPlaces cs)) (Finish (Done (tt {0}))))) m (Done (tt {0})) new
          → facts new.heap.now q ≡ facts m.heap.now q
      by None done = ap (λ (v : MemoryState). facts v.heap.now q) done.1 ∙ facts-places m.heap.now cs q
      by (Some why) done = absurd (done_refused tt why done.0)

  object_stays : (q : ℕ) → IsObject m.heap.now q → IsObject new.heap.now q
  object_stays q there = by reason did
    where
      by : (o : Option HeapRefusal) → Completes (unless_refused o (Perform (HeapMove (SetPlaces cs)) (Finish (Done (tt {0}))))) m (Done (tt {0})) new
          → IsObject new.heap.now q
      by None done = subst (λ (v : MemoryState). IsObject v.heap.now q) (sym done.1) (object-places m.heap.now cs q there)
      by (Some why) done = absurd (done_refused tt why done.0)

  pub elements_stay : (to : Stretch) (bytes : List ℕ) → HasElements m to bytes → HasElements new to bytes
  elements_stay to bytes is = record {
    there = record {
      there = object_stays to.array (is.there).there;
      bytes = ap (λ (f : Facts). f.kind) (same_facts to.array) ∙ (is.there).bytes;
      within = subst (λ (f : Facts). to.start + to.count ≤ f.length) (sym (same_facts to.array)) (is.there).within;
      ends = (is.there).ends;
    };
    all = is.all;
  }

  pub transient_stays : (r : ℕ) → IsTransient m r → IsTransient new r
  transient_stays r is = record { event = is.event; is = ap (λ (f : Facts). f.event) (same_facts r) ∙ is.is }
