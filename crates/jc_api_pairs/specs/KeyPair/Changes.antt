-- What a call sets that makes new keys of a pair: the data of both keys, and how many times keys were made.
use Rattle.std.specs.Prelude.{ℕ, pos, ◌≡◌, ◌≤◌, ◌+◌, ◌%◌, ◌^◌, ◌==◌, ◌&&◌, is_none, not, Bool, List, [], ◌∷◌, ◌++◌, length, map, Option, Some, None, Result}
use Rattle.jc_transient.specs.Cell.{number_of}
use Rattle.jc_transient.specs.declared.cell.ClearEvent.{ClearEvent}
use Rattle.jc_heap.specs.Heap.{cells, facts}
use Rattle.jc_heap.specs.Moves.{SetPlaces, refusal_of_places}
use Rattle.jc_heap.specs.Place.{cell_changes, places_of}
use Rattle.jc_heap.specs.declared.place.Place.{Place}
use Rattle.jc_heap.specs.declared.place.Place.TheVariants as place
use Rattle.jc_frames.specs.declared.cell.Cell.{Cell}
use Rattle.jc_frames.specs.declared.outcome.FrameExit.{FrameExit}
use Rattle.jc_memory.specs.Cells.{word_at}
use Rattle.jc_memory.specs.Programs.{Perform}
use Rattle.jc_memory.specs.State.{HeapMove, MemoryState, SetTransient}
use Rattle.jc_linker.specs.Values.{Packages}
use Rattle.jc_world.specs.Arrays.{IsInArray}
use Rattle.jc_world.specs.NativeCalls.{NativeProgram, if_ok, return_value, unless}
use Rattle.jc_world.specs.Objects.{check_or_fault}
use Rattle.jc_world.specs.declared.arrays.Stretch.{Stretch}
use Rattle.jc_world.specs.declared.native_result.NativeResult.TheVariants.{ReturnVoid}
use Rattle.jc_api.specs.Arguments.{elements_at}
use Rattle.jc_api.specs.Exits.{plainly}
use Rattle.jc_api.specs.Forms.{Output}
use Rattle.jc_api_pairs.specs.KeyPair.Keys.{own_pair, times_cell}
use Rattle.jc_api_pairs.specs.declared.key_pair.changes.NewElements.{NewElements}

-- ---- what a call answers

-- bytes for elements of the data of the public key, and of the private one
pub record PairChange : Type 0 where
  pub public : Output
  pub private : Output

-- bytes for elements
abbrev pub output_of : NewElements → Output
output_of e = record { array = e.array; start = pos e.start; bytes = e.bytes.now }

abbrev pub change_of : NewElements → NewElements → PairChange
change_of public private = record { public = output_of public; private = output_of private }

-- ---- the form

-- the elements of an output
abbrev pub elements_of_output : Packages → MemoryState → Output → Result Stretch FrameExit
elements_of_output p m o = elements_at p m o.array o.start (pos (length o.bytes))

-- two arrays, of which the first one is persistent
abbrev pub are_two : MemoryState → ℕ → ℕ → Bool
are_two m first second = not (first == second) && is_none (facts m.heap.now first).event

-- keys of the pair were made once more
abbrev pub next_times : MemoryState → ℕ → ℕ
next_times m own = (word_at m own times_cell + 1) % 2 ^ 16

abbrev pub counts_once : MemoryState → ℕ → List (Place × ℕ)
counts_once m own = (place.Cell own times_cell, next_times m own) ∷ []

-- the places of elements with their bytes
abbrev pub places_in : Stretch → List ℕ → List (Place × ℕ)
places_in e bytes = cell_changes e.array e.start bytes

-- all are set as one change
abbrev pub both_changes : MemoryState → ℕ → Stretch → List ℕ → Stretch → List ℕ → List (Place × ℕ)
both_changes m own public bytes private number = places_in public bytes ++ (places_in private number ++ counts_once m own)

-- all but those of a transient private key, which then are set by themselves
abbrev pub public_changes : MemoryState → ℕ → Stretch → List ℕ → List (Place × ℕ)
public_changes m own public bytes = places_in public bytes ++ counts_once m own

-- places are set as one change, and then it goes on; where there is no room for all it throws
abbrev pub sets_places : MemoryState → List (Place × ℕ) → NativeProgram → NativeProgram
sets_places m changes rest = unless (refusal_of_places m.heap (places_of changes)) (Perform (HeapMove (SetPlaces changes)) rest)

-- persistent keys
abbrev pub sets_both : MemoryState → ℕ → Stretch → List ℕ → Stretch → List ℕ → NativeProgram
sets_both m own public bytes private number = sets_places m (both_changes m own public bytes private number) (return_value ReturnVoid)

-- a transient private key
abbrev pub sets_one_by_one : MemoryState → ℕ → Stretch → List ℕ → Stretch → List ℕ → NativeProgram
sets_one_by_one m own public bytes private number = sets_places m (public_changes m own public bytes)
    (Perform (SetTransient private.array private.start (map number_of number)) (return_value ReturnVoid))

abbrev pub sets_keys_in : Option ClearEvent → MemoryState → ℕ → Stretch → List ℕ → Stretch → List ℕ → NativeProgram
sets_keys_in None m own public bytes private number = sets_both m own public bytes private number
sets_keys_in (Some event) m own public bytes private number = sets_one_by_one m own public bytes private number

abbrev pub sets_keys : MemoryState → ℕ → Stretch → List ℕ → Stretch → List ℕ → NativeProgram
sets_keys m own public bytes private number = sets_keys_in (facts m.heap.now private.array).event m own public bytes private number

-- ---- what the functions that set them take for granted

-- these bytes are for elements that are there
pub record HasElements (m : MemoryState) (to : Stretch) (bytes : List ℕ) : Type 0 where
  pub there : IsInArray m to
  pub all : length bytes ≡ to.count

-- they are persistent
pub record HasPersistentElements (m : MemoryState) (to : Stretch) (bytes : List ℕ) : Type 0 where
  pub elements : HasElements m to bytes
  pub cells : to.start + to.count ≤ length (cells m.heap.now to.array)

-- or transient
pub record IsTransient (m : MemoryState) (r : ℕ) : Type 0 where
  pub event : ClearEvent
  pub is : (facts m.heap.now r).event ≡ Some event

-- ---- all

-- what such a call does: the pair and the elements of both keys are asked for, then room; then all are set. One array for both keys, and a transient
-- public one, are code faults
abbrev pub generating_call : Result PairChange FrameExit → List Cell → Packages → MemoryState → NativeProgram
generating_call answer args p m = if_ok (plainly answer) (λ a. if_ok (own_pair args p m) (λ own. if_ok (elements_of_output p m a.public) (λ public.
    if_ok (elements_of_output p m a.private) (λ private. if_ok (check_or_fault (are_two m public.array private.array))
    (λ u. sets_keys m own public a.public.bytes private a.private.bytes)))))
