-- Tries of PINs, and elements of arrays of bytes, that outlast a transaction.
use Rattle.std.specs.Prelude.{ℕ, ◌≡◌, ◌<◌, ◌==◌, ◌&&◌, ◌⊎◌, Bool, true, false, List, [], ◌∷◌, length, is_none, slice_index, if◌then◌else◌}
use Rattle.jc_heap.specs.declared.place.Place.{Place}
use Rattle.jc_heap.specs.declared.place.Place.TheVariants.{Cell}
use Rattle.jc_heap.specs.Object.{header_only, with_cell}
use Rattle.jc_heap.specs.Heap.{HeapState, cells, facts, goes_back, heap_item_at, is_allocated}
use Rattle.jc_heap.specs.Moves.{SetPlaces, WriteNonAtomic}
use Rattle.jc_heap.specs.Place.{place_at}
use Rattle.jc_memory.specs.State.{MemoryState, Effect, HeapMove, apply_effect}
use Rattle.jc_linker.specs.Values.{Packages}
use Rattle.jc_environment.specs.Pins.{counter_cell, record_of}
use Rattle.jc_environment.specs.Pins.PinInit.{first_record}
use Rattle.jc_environment.specs.Pins.Updates.{changes_of_update}
use Rattle.jc_platform.specs.declared.names.PlatformClass.TheVariants.{OwnerPin}
use Rattle.jc_packages.specs.Objects.{is_bytes, is_object_address, is_persistent_instance}
use Rattle.jc_linker.specs.Classes.{is_a}

-- a persistent instance of OwnerPIN, or of a class below it
abbrev pub is_owner_pin : Packages → HeapState → ℕ → Bool
is_owner_pin p h r = is_object_address h r && (is_persistent_instance (facts h r) && is_a p (facts h r).class OwnerPin)

-- its tries
abbrev pub tries_in : HeapState → ℕ → ℕ
tries_in h r = slice_index (cells h r) counter_cell

-- these changes are an update of the PIN
pub record IsUpdate (q : ℕ) (changes : List (Place × ℕ)) (m : MemoryState) : Type 0 where
  pub bytes : List ℕ
  pub is : changes ≡ changes_of_update (record_of m q) q bytes

-- these changes are those of the PIN's constructor
pub record IsSettingUp (q : ℕ) (changes : List (Place × ℕ)) : Type 0 where
  pub limit : ℕ
  pub maximum : ℕ
  pub value : ℕ
  pub is : changes ≡ first_record q limit maximum value

-- an effect updates the PIN, or sets it up
abbrev pub SetsAnew : ℕ → Effect → MemoryState → Type 0
SetsAnew q (HeapMove (SetPlaces changes)) m = IsUpdate q changes m ⊎ IsSettingUp q changes
SetsAnew q e m = ⊥

-- what a cell holds after an effect that sets it for good, and else what it held
abbrev pub value_after : ℕ → ℕ → Effect → ℕ → ℕ
value_after r i (HeapMove (WriteNonAtomic (Cell q j) v)) before = if (q == r) && (j == i) then v else before
value_after r i e before = before

-- an effect is the transaction's first to change the word of a cell: from then on that goes back
abbrev pub ChangesFirst : ℕ → ℕ → Effect → MemoryState → Type 0
ChangesFirst r i e m = (goes_back m.heap (place_at m.heap.now (Cell r i)) ≡ false)
    × (goes_back (apply_effect e m).heap (place_at m.heap.now (Cell r i)) ≡ true)

-- of a cell that held this before these effects, this stays where they are taken back: what was set for good before its word was first changed
abbrev pub PlaceStays : ℕ → ℕ → List Effect → MemoryState → ℕ → ℕ → Type 0
PlaceStays r i [] m before left = left ≡ before
PlaceStays r i (e ∷ es) m before left =
    (ChangesFirst r i e m × (left ≡ before)) ⊎ ((ChangesFirst r i e m → ⊥) × PlaceStays r i es (apply_effect e m) (value_after r i e before) left)

-- of this many before these effects, this many tries of the PIN stay where they are taken back: those that were counted before the first of
-- them that updates the PIN or sets it up
abbrev pub TriesStay : ℕ → List Effect → MemoryState → ℕ → ℕ → Type 0
TriesStay q [] m before left = left ≡ before
TriesStay q (e ∷ es) m before left =
    (SetsAnew q e m × (left ≡ before)) ⊎ ((SetsAnew q e m → ⊥) × TriesStay q es (apply_effect e m) (value_after q counter_cell e before) left)

-- a persistent array of bytes
abbrev pub is_persistent_bytes : HeapState → ℕ → Bool
is_persistent_bytes h r = is_object_address h r && (is_bytes (facts h r).kind && is_none (facts h r).event)

-- what is left of a heap where these effects are taken back: the same, but for the tries of its PINs, and for elements of arrays of bytes
pub record IsAsFound (p : Packages) (during : List Effect) (m : MemoryState) (found left : HeapState) : Type 0 where
  pub rest : record left { items = found.items } ≡ found
  pub stands : (r : ℕ) → is_allocated left r ≡ is_allocated found r
  pub others : (r : ℕ) → is_owner_pin p found r ≡ false → is_persistent_bytes found r ≡ false → heap_item_at left r ≡ heap_item_at found r
  pub arrays : (r : ℕ) → is_persistent_bytes found r ≡ true → (header_only (heap_item_at left r) ≡ header_only (heap_item_at found r))
      × ((i : ℕ) → i < length (cells found r) → PlaceStays r i during m (slice_index (cells found r) i) (slice_index (cells left r) i))
  pub pins : (r : ℕ) → is_owner_pin p found r ≡ true
      → (tries : ℕ) × TriesStay r during m (tries_in found r) tries × (heap_item_at left r ≡ with_cell (heap_item_at found r) counter_cell tries)
