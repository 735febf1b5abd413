-- Moves of a heap as data: what a power loss within some of them leaves.
use Rattle.std.specs.Prelude.{ℕ, ◌+◌, ◌≤◌, ◌==◌, ◌≡◌, ◌⊎◌, if◌then◌else◌, true, List, [], ◌∷◌, Option, Some, None, nat_lt, length}
use Rattle.jc_words.specs.Refusals.{refused_once}
use Rattle.jc_commit.specs.State.{undo_writes, IsShort}
use Rattle.jc_transient.specs.declared.cell.ClearEvent.{ClearEvent}
use Rattle.jc_heap.specs.declared.object.Kind.{Kind}
use Rattle.jc_heap.specs.Object.{Object, new_object, object_size, transient_size}
use Rattle.jc_heap.specs.Heap.{HeapState, HeapView, limit, set_cells, add_object, add_transient, area_end_address, area_end, area_limit, goes_back, has_room_for, writes_for}
use Rattle.jc_heap.specs.Heap.{heap_after_change, heap_after_begin, heap_after_commit, heap_after_abort, end_address}
use Rattle.jc_heap.specs.declared.place.Place.{Place}
use Rattle.jc_heap.specs.declared.place.AppletEntry.{AppletEntry}
use Rattle.jc_heap.specs.Place.{place_at, words_at, cells_from, set_place, write_place, write_nonatomic, places_of, set_places, applet_changes}
use Rattle.jc_heap.specs.Package.{add_package, addresses_of_package, package_size}
use Rattle.jc_heap.specs.Completions.{Completion, Completed, Torn, Attempt, Done, Refused}
use Rattle.jc_heap.specs.declared.refusal.HeapRefusal.{HeapRefusal}
use Rattle.jc_heap.specs.declared.refusal.HeapRefusal.TheVariants.{CommitFull, HeapFull, NoTransientSpace}

-- one change of the heap, or one step of its transaction. A new object names its address, which is the
-- one free choice, and how many words it takes
pub data Move : Type 0 where
  Write : Place → ℕ → Move
  SetPlaces : List (Place × ℕ) → Move
  WriteNonAtomic : Place → ℕ → Move
  SetCells : ℕ → ℕ → List ℕ → Move
  AddObject : Object → ℕ → Move
  AddTransient : Kind → ClearEvent → ℕ → ℕ → ℕ → Move
  AddPackage : List (ℕ × List ℕ) → List (Kind × List ℕ) → List ℕ → Move
  Begin : Move
  Commit : Move
  Abort : Move

-- the heap after a move
abbrev pub apply_move : Move → HeapView → HeapView
apply_move (Write p v) h = write_place h p v
apply_move (SetPlaces changes) h = heap_after_change h (set_places h.now changes) (words_at h.now (places_of changes)) 0
apply_move (WriteNonAtomic p v) h = write_nonatomic h p v
apply_move (SetCells r i vs) h = heap_after_change h (set_cells h.now r i vs) (words_at h.now (cells_from r i (length vs))) 0
apply_move (AddTransient kind event class owner long) h = heap_after_change h (add_transient h.now kind event class owner long)
    (end_address ∷ area_end_address event ∷ []) transient_size
apply_move (AddPackage components arrays rest) h = heap_after_change h (add_package h.now components arrays rest) (addresses_of_package h.now)
    (package_size components arrays rest)
apply_move (AddObject o size) h = heap_after_change h (add_object h.now o size) (end_address ∷ []) size
apply_move Begin h = heap_after_begin h
apply_move Commit h = heap_after_commit h
apply_move Abort h = heap_after_abort h

-- how many word writes a move is, in the heap that it finds: the words of what is new, and those of its change. A change of n words is n
-- writes where n is 0 or 1 and no transaction is open, and else 3n + 2: an entry of two words for each, the count, the words, and the
-- count 0. In a transaction it is n, and 2m + 1 more where the old values of m words, not 0, are kept by it first: their entries, and the count
abbrev pub writes_of : Move → HeapView → ℕ
writes_of (Write p v) h = writes_for h (place_at h.now p ∷ [])
writes_of (SetPlaces changes) h = writes_for h (words_at h.now (places_of changes))
writes_of (WriteNonAtomic p v) h = 1
writes_of (SetCells r i vs) h = writes_for h (words_at h.now (cells_from r i (length vs)))
writes_of (AddObject o size) h = size + writes_for h (end_address ∷ [])
writes_of (AddTransient kind event class owner long) h = transient_size + writes_for h (end_address ∷ area_end_address event ∷ [])
writes_of (AddPackage components arrays rest) h = package_size components arrays rest + writes_for h (addresses_of_package h.now)
writes_of Begin h = 0
writes_of Commit h = if length h.touched == 0 then 0 else 1
writes_of Abort h = undo_writes (length h.touched)

-- the store refused a write of this move when n writes had passed in all: fewer of the move's own than it is
abbrev pub IsCutIn : Move → HeapView → ℕ → Type 0
IsCutIn m h passed = (h.passed ≤ passed) × IsShort (writes_of m h) h.passed passed

-- the heap after these moves
abbrev pub apply_moves : List Move → HeapView → HeapView
apply_moves [] h = h
apply_moves (m ∷ ms) h = apply_moves ms (apply_move m h)

-- these moves stay within the open transaction
abbrev pub IsInside : List Move → Type 0
IsInside [] = Unit {0}
IsInside (Begin ∷ ms) = ⊥
IsInside (Commit ∷ ms) = ⊥
IsInside (Abort ∷ ms) = ⊥
IsInside (m ∷ ms) = IsInside ms

-- what the places set for good among these moves make of a durable heap: those whose words no earlier change touched
abbrev pub with_nonatomic_writes : List Move → HeapView → HeapState → HeapState
with_nonatomic_writes [] h d = d
with_nonatomic_writes (WriteNonAtomic p v ∷ ms) h d = with_nonatomic_writes ms (apply_move (WriteNonAtomic p v) h)
    (if goes_back h (place_at h.now p) then d else set_place d p v)
with_nonatomic_writes (m ∷ ms) h d = with_nonatomic_writes ms (apply_move m h) d

-- inside a transaction the durable heap stays as it is but for places set for good, whatever the moves are
abbrev pub KeepsDurable : Type 0
KeepsDurable = (moves : List Move) (h : HeapView) → h.begun ≡ true → IsInside moves → (apply_moves moves h).durable ≡ with_nonatomic_writes moves h h.durable

-- a loss of power within these moves, when n writes had passed, leaves this durable heap: that before the move in which it falls
abbrev pub TornMovesLeave : List Move → HeapView → ℕ → HeapState → Type 0
TornMovesLeave [] h passed d = ⊥
TornMovesLeave (m ∷ ms) h passed d = ((d ≡ h.durable) × IsCutIn m h passed) ⊎ TornMovesLeave ms (apply_move m h) passed d

-- the store, which keeps its size, refused a write, and the durable heap that it left is the one that may be left when this number had passed
pub record IsTorn (May : ℕ → HeapState → Type 0) (old new : HeapView) : Type 0 where
  pub left : May new.passed new.durable
  pub down : new.down ≡ true
  pub refusals : new.refusals ≡ refused_once old.down new.passed old.refusals
  pub size : new.size ≡ old.size

-- the store refused a write within these moves
abbrev pub AreTornMoves : List Move → HeapView → HeapView → Type 0
AreTornMoves moves old new = IsTorn (TornMovesLeave moves old) old new

-- all these moves were made and the answer is this one; or the call was cut within them
abbrev pub PerformsMoves : {A : Type 0} → HeapView → Completion HeapView A → List Move → A → Type 0
PerformsMoves old (Completed a new) moves answer = (a ≡ answer) × (new ≡ apply_moves moves old)
PerformsMoves old (Torn new) moves answer = AreTornMoves moves old new

-- why a change of the words at these addresses is refused before anything is written: there is no room
abbrev pub refusal_at : HeapView → List ℕ → Option HeapRefusal
refusal_at v addresses = if has_room_for v addresses then None else Some CommitFull

-- why a change of these places is
abbrev pub refusal_of_places : HeapView → List Place → Option HeapRefusal
refusal_of_places v places = refusal_at v (words_at v.now places)

-- why a change of a run of cells is
abbrev pub refusal_of_cells : HeapView → ℕ → ℕ → List ℕ → Option HeapRefusal
refusal_of_cells v r i values = refusal_at v (words_at v.now (cells_from r i (length values)))

-- why something new of n words is: first there is no space
abbrev pub refusal_of_space : HeapView → ℕ → List ℕ → Option HeapRefusal
refusal_of_space v size addresses = if nat_lt (limit v) (v.now.top + size) then Some HeapFull else refusal_at v addresses

-- why a new persistent object of a kind with n cells is
abbrev pub refusal_of_object : HeapView → Kind → ℕ → Option HeapRefusal
refusal_of_object v kind long = refusal_of_space v (object_size kind long) (end_address ∷ [])

-- why a new transient object with n cells is: first its area has no space
abbrev pub refusal_of_transient : HeapView → ClearEvent → ℕ → Option HeapRefusal
refusal_of_transient v event long = if nat_lt (area_limit v.now event) (area_end v.now event + long) then Some NoTransientSpace else refusal_of_space v transient_size
    (end_address ∷ area_end_address event ∷ [])

-- why a new package is
abbrev pub refusal_of_package : HeapView → List (ℕ × List ℕ) → List (Kind × List ℕ) → List ℕ → Option HeapRefusal
refusal_of_package v components arrays rest = refusal_of_space v (package_size components arrays rest) (addresses_of_package v.now)

-- the move that makes a new persistent object
abbrev pub new_move : Kind → ℕ → ℕ → ℕ → Move
new_move kind class owner long = AddObject (new_object kind class owner long) (object_size kind long)

-- the move that adds an applet
abbrev pub applet_move : HeapState → AppletEntry → Move
applet_move h entry = SetPlaces (applet_changes h entry)

-- why it is refused
abbrev pub refusal_of_applet : HeapView → AppletEntry → Option HeapRefusal
refusal_of_applet v entry = refusal_of_places v (places_of (applet_changes v.now entry))

-- how a call ends that makes these moves and answers this, unless there is a reason against it. It was done: there is none, all moves
-- were made and the answer is this one. It was refused: that is the reason, and the heap is as it was. Or it was cut: there is none, and
-- the store refused a write within the moves
abbrev pub PerformsMovesUnless : {A : Type 0} → Option HeapRefusal → HeapView → Completion HeapView (Attempt A) → List Move → A → Type 0
PerformsMovesUnless reason old (Completed (Done a) new) moves answer = (reason ≡ None) × (a ≡ answer) × (new ≡ apply_moves moves old)
PerformsMovesUnless reason old (Completed (Refused r) new) moves answer = (reason ≡ Some r) × (new ≡ old)
PerformsMovesUnless reason old (Torn new) moves answer = (reason ≡ None) × AreTornMoves moves old new
