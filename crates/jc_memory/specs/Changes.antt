-- Changes of places, of counters, and by packages and applets.
use Rattle.std.specs.Prelude.{ℕ, suc, List, [], ◌∷◌, map, Option, Some, None}
use Rattle.jc_transient.specs.Cell.{number_of}
use Rattle.jc_transient.specs.declared.cell.ClearEvent.{ClearEvent}
use Rattle.jc_heap.specs.declared.object.Kind.{Kind}
use Rattle.jc_heap.specs.declared.place.Place.{Place}
use Rattle.jc_heap.specs.declared.place.Place.TheVariants.{Cell}
use Rattle.jc_heap.specs.declared.place.AppletEntry.{AppletEntry}
use Rattle.jc_heap.specs.Heap.{facts}
use Rattle.jc_heap.specs.Place.{places_of}
use Rattle.jc_heap.specs.Moves.{Write, SetPlaces, WriteNonAtomic, AddPackage, Commit, Abort, refusal_of_places, refusal_of_package, refusal_of_applet}
use Rattle.jc_heap.specs.Moves.{applet_move}
use Rattle.jc_heap.specs.Completions.{Attempt, Done}
use Rattle.jc_memory.specs.State.{MemoryState, HeapMove, SetTransient}
use Rattle.jc_memory.specs.Programs.{Program, Finish, Perform, Choose, unless_refused}

-- what writing a place may do
abbrev pub place_write : MemoryState → Place → ℕ → Program (Attempt (Unit {0}))
place_write s place v = unless_refused (refusal_of_places s.heap (place ∷ [])) (Perform (HeapMove (Write place v)) (Finish (Done tt)))

-- what writing several places as one change may do
abbrev pub places_write : MemoryState → List (Place × ℕ) → Program (Attempt (Unit {0}))
places_write s changes = unless_refused (refusal_of_places s.heap (places_of changes)) (Perform (HeapMove (SetPlaces changes)) (Finish (Done tt)))

-- what setting a cell of a persistent object for good does: nothing but the store refuses it
abbrev pub nonatomic_write : ℕ → ℕ → ℕ → Program (Unit {0})
nonatomic_write r i v = Perform (HeapMove (WriteNonAtomic (Cell r i) v)) (Finish tt)

-- what setting cells of one from an index on does, one after another, each for good
abbrev pub nonatomic_writes : ℕ → ℕ → List ℕ → Program (Unit {0})
nonatomic_writes r i [] = Finish tt
nonatomic_writes r i (v ∷ vs) = Perform (HeapMove (WriteNonAtomic (Cell r i) v)) (nonatomic_writes r (suc i) vs)

-- what setting cells of an object that is kept so does: those of a transient one are set together
abbrev pub nonatomic_store_in : Option ClearEvent → ℕ → ℕ → List ℕ → Program (Unit {0})
nonatomic_store_in None r i words = nonatomic_writes r i words
nonatomic_store_in (Some event) r i words = Perform (SetTransient r i (map number_of words)) (Finish tt)

-- what setting cells of an object from an index on does, in a transaction or not, where no abort is to take them back
abbrev pub nonatomic_store : MemoryState → ℕ → ℕ → List ℕ → Program (Unit {0})
nonatomic_store s r i words = nonatomic_store_in (facts s.heap.now r).event r i words

-- what the end of a transaction does, one way and the other
abbrev pub commit : Program (Unit {0})
commit = Perform (HeapMove Commit) (Finish tt)

abbrev pub abort : Program (Unit {0})
abort = Perform (HeapMove Abort) (Finish tt)

-- what adding a package may do: its record gets a new reference
abbrev pub package_addition : MemoryState → List (ℕ × List ℕ) → List (Kind × List ℕ) → List ℕ → Program (Attempt ℕ)
package_addition s components arrays image = unless_refused (refusal_of_package s.heap components arrays image)
    (Choose (λ r. Perform (HeapMove (AddPackage components arrays image)) (Finish (Done r))))

-- what registering an applet may do: it gets the next number
abbrev pub applet_addition : MemoryState → AppletEntry → Program (Attempt ℕ)
applet_addition s entry = unless_refused (refusal_of_applet s.heap entry) (Perform (HeapMove (applet_move s.heap.now entry))
    (Finish (Done s.heap.now.counts.1)))
