-- Effects that fit leave the packages that are read.
use Rattle.std.proofs.Common.{◌≡◌, ℕ, false, List, [], ◌∷◌, inl, inr, sym, ◌∙◌, subst, arith, Some}
use Rattle.jc_transient.specs.State.{RamState}
use Rattle.jc_heap.specs.declared.place.Place.{Place}
use Rattle.jc_heap.specs.declared.place.Place.TheVariants.{Cell, Static, Registry, AppletCount}
use Rattle.jc_heap.specs.Heap.{HeapState, add_object, add_transient, heap_after_change, goes_back, is_allocated, set_cell, set_cells}
use Rattle.jc_heap.specs.Moves.{Move, Write, SetPlaces, WriteNonAtomic, SetCells, AddObject, AddTransient, AddPackage, Begin, Commit, Abort}
use Rattle.jc_heap.specs.Place.{place_at, set_place, set_places}
use Rattle.jc_memory.specs.State.{MemoryState, Effect, HeapMove, SetTransient, SetFlag, ClearTransient, SetRegisters, BeginCommand, SendBytes}
use Rattle.jc_memory.specs.State.{apply_effect}
use Rattle.jc_memory.proofs.KeptImages.{AreAllThere, IsThere, cells_there}
use Rattle.jc_linker.specs.Values.{Packages}
use Rattle.jc_platform.specs.Tokens.{Tokens}
use Rattle.jc_packages.specs.Reading.{packages_of}
use Rattle.law_soundness.specs.MemoryLaws.State.{IsSoundMemory}
use Rattle.law_soundness.specs.MemoryLaws.Fit.{FitPlaces, FitsChange, FitsMove, FitsPlace, IsFit, OfPin, OfPlaces, OfRegistry, OfValue}
use Rattle.law_soundness.proofs.Memories.{choose}
use Rattle.law_soundness.specs.StableReading.{IsReadAs, KeepsReading}
use Rattle.law_soundness.proofs.ReadingHeaps.{TellSame, object_tells, place_tells, places_tell, read_same, run_tells, transient_tells}

-- ---- what fits is there

place_there : (p : Packages) (h : HeapState) (place : Place) (v : ℕ) → FitsPlace p h place v → IsThere h place
place_there p h (Cell r i) v fits = tt
place_there p h (Static r j) v fits = fits.there
place_there p h (Registry i) v fits = absurd fits
place_there p h AppletCount v fits = absurd fits

places_there : (p : Packages) (h : HeapState) (cs : List (Place × ℕ)) → FitPlaces p h cs → AreAllThere h cs
places_there p h [] fits = tt
places_there p h (c ∷ cs) fits = (place_there p h c.0 c.1 fits.0, places_there p h cs fits.1)

change_there : (p : Packages) (m : MemoryState) (cs : List (Place × ℕ)) → FitsChange p m cs → AreAllThere m.heap.now cs
change_there p m cs (OfPlaces fits) = places_there p m.heap.now cs fits
change_there p m cs (OfPin f) = subst (AreAllThere m.heap.now) (sym f.is) (tt, (tt, (tt, (tt, (tt, tt)))))
change_there p m cs (OfValue f) = subst (AreAllThere m.heap.now) (sym f.is) (cells_there m.heap.now _ 0 f.bytes _ (tt, (tt, tt)))
change_there p m cs (OfRegistry f) = subst (AreAllThere m.heap.now) (sym f.is) (tt, (tt, (tt, (tt, tt))))

-- ---- moves

module _ (t : Tokens) (p : Packages) (m : MemoryState) (s : IsSoundMemory p m) (r : IsReadAs t p m) where
  changed_read : (h : HeapState) (places : List ℕ) (fresh : ℕ) (ram : RamState) → TellSame m.heap.now h
      → IsReadAs t p (record m { heap = heap_after_change m.heap h places fresh; ram = ram })
  changed_read h places fresh ram same =
      let now : packages_of t h ≡ Some p = read_same t m.heap.now h same ∙ r.now in
      record { now = now; durable = choose (λ d. packages_of t d ≡ Some p) m.heap.begun m.heap.durable h (λ on. r.durable) (λ off. now) }

  cell_read : (place : Place) (at i v : ℕ) → place ≡ Cell at i → IsReadAs t p (apply_effect (HeapMove (WriteNonAtomic place v)) m)
  cell_read place at i v is = subst (λ c. IsReadAs t p (apply_effect (HeapMove (WriteNonAtomic c v)) m)) (sym is) (record {
    now = read_same t m.heap.now (set_cell m.heap.now at i v) (place_tells m.heap.now (Cell at i) v tt) ∙ r.now;
    durable = choose (λ d. packages_of t d ≡ Some p) (goes_back m.heap (place_at m.heap.now (Cell at i))) m.heap.durable (set_cell m.heap.durable at i v)
        (λ on. r.durable)
        (λ off. read_same t m.heap.durable (set_cell m.heap.durable at i v) (place_tells m.heap.durable (Cell at i) v tt) ∙ r.durable);
  })

  free : is_allocated m.heap.now m.heap.now.top ≡ false
  free = s.whole.now.end m.heap.now.top (omega arith)

  move_read : (move : Move) → FitsMove p move m → IsReadAs t p (apply_effect (HeapMove move) m)
  move_read (Write place v) fits = changed_read (set_place m.heap.now place v) _ 0 m.ram (place_tells m.heap.now place v (place_there p m.heap.now place v fits))
  move_read (SetPlaces changes) fits = changed_read (set_places m.heap.now changes) _ 0 m.ram (places_tell m.heap.now changes (change_there p m changes fits))
  move_read (WriteNonAtomic place v) (inl counter) = cell_read place counter.0 2 v counter.1
  move_read (WriteNonAtomic place v) (inr element) = cell_read place element.array element.index v element.is
  move_read (SetCells at i words) fits = changed_read (set_cells m.heap.now at i words) _ 0 m.ram (run_tells m.heap.now at i words)
  move_read (AddObject o size) fits = changed_read (add_object m.heap.now o size) _ size _ (object_tells m.heap.now o size s.whole.now.whole.met free)
  move_read (AddTransient kind event class owner long) fits = changed_read (add_transient m.heap.now kind event class owner long) _ _ _
      (transient_tells m.heap.now kind event class owner long s.whole.now.whole.met free)
  move_read (AddPackage components arrays image) fits = absurd fits
  move_read Begin fits = record { now = r.now; durable = r.now }
  move_read Commit fits = record { now = r.now; durable = r.now }
  move_read Abort fits = record { now = r.durable; durable = r.durable }

effect_read : (t : Tokens) (p : Packages) (e : Effect) (m : MemoryState) → IsFit p e m → IsSoundMemory p m → IsReadAs t p m → IsReadAs t p (apply_effect e m)
effect_read t p (HeapMove move) m fits s r = move_read t p m s r move fits
effect_read t p (SetTransient at i values) m fits s r = record { now = r.now; durable = r.durable }
effect_read t p (SetFlag at flag) m fits s r = record { now = r.now; durable = r.durable }
effect_read t p (ClearTransient event) m fits s r = record { now = r.now; durable = r.durable }
effect_read t p (SetRegisters registers) m fits s r = record { now = r.now; durable = r.durable }
effect_read t p (BeginCommand bytes) m fits s r = record { now = r.now; durable = r.durable }
effect_read t p (SendBytes bytes) m fits s r = record { now = r.now; durable = r.durable }

pub keeps_reading : KeepsReading
keeps_reading = effect_read
