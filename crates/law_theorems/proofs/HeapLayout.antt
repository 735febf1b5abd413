-- Heaps stay laid out: they count their packages, and what stands in them stands apart.
use Rattle.std.proofs.Common.{◌≡◌, ℕ, suc, ◌+◌, Bool, List, [], ◌∷◌, sym, subst, if◌then◌else◌}
use Rattle.jc_transient.specs.declared.cell.ClearEvent.{ClearEvent}
use Rattle.jc_transient.specs.declared.cell.ClearEvent.TheVariants.{Reset, Deselect}
use Rattle.jc_heap.specs.declared.object.Kind.{Kind}
use Rattle.jc_heap.specs.declared.place.Place.{Place}
use Rattle.jc_heap.specs.declared.place.Place.TheVariants.{Cell, Static, Registry, AppletCount}
use Rattle.jc_heap.specs.Heap.{HeapState, add_object, add_transient, area_end, goes_back, set_cell, set_cells, with_area_end}
use Rattle.jc_heap.specs.Moves.{Move, Write, SetPlaces, WriteNonAtomic, SetCells, AddObject, AddTransient, AddPackage, Begin, Commit, Abort, new_move}
use Rattle.jc_heap.specs.Object.{new_object, new_transient, object_size}
use Rattle.jc_heap.specs.Place.{place_at, set_place, set_places}
use Rattle.jc_heap.specs.Statics.{set_word}
use Rattle.jc_memory.specs.State.{Effect, HeapMove, SetTransient, SetFlag, ClearTransient, SetRegisters, BeginCommand, SendBytes, MemoryState}
use Rattle.jc_memory.specs.State.{apply_effect}
use Rattle.jc_linker.specs.Values.{Packages}
use Rattle.law_soundness.specs.MachineLaws.Commands.{IsServed}
use Rattle.law_soundness.specs.MemoryLaws.State.{IsSoundMemory}
use Rattle.law_soundness.proofs.Memories.{choose}
use Rattle.law_soundness.specs.Loads.{AreLaidOut, CountsPackages, EffectsKeepLayout, IsLaidOut}
use Rattle.law_theorems.proofs.Separation.{new_object_apart, place_apart, places_apart, run_apart, transient_apart}

cell_counts : (h : HeapState) (r i v : ℕ) → CountsPackages h → CountsPackages (set_cell h r i v)
unfolding set_cell
cell_counts h r i v is = is

place_counts : (h : HeapState) (place : Place) (v : ℕ) → CountsPackages h → CountsPackages (set_place h place v)
unfolding set_word
place_counts h (Cell r i) v is = cell_counts h r i v is
place_counts h (Static r j) v is = is
place_counts h (Registry i) v is = is
place_counts h AppletCount v is = is

places_count : (changes : List (Place × ℕ)) (h : HeapState) → CountsPackages h → CountsPackages (set_places h changes)
places_count [] h is = is
places_count (c ∷ cs) h is = places_count cs (set_place h c.0 c.1) (place_counts h c.0 c.1 is)

run_counts : (vs : List ℕ) (h : HeapState) (r i : ℕ) → CountsPackages h → CountsPackages (set_cells h r i vs)
run_counts [] h r i is = is
run_counts (v ∷ vs) h r i is = run_counts vs (set_cell h r i v) r (suc i) (cell_counts h r i v is)

object_counts : (h : HeapState) (o : _) (n : ℕ) → CountsPackages h → CountsPackages (add_object h o n)
unfolding add_object
object_counts h o n is = is

end_counts : (h : HeapState) (event : ClearEvent) (n : ℕ) → CountsPackages h → CountsPackages (with_area_end h event n)
end_counts h Reset n is = is
end_counts h Deselect n is = is

transient_counts : (h : HeapState) (kind : Kind) (event : ClearEvent) (class owner long : ℕ) → CountsPackages h
    → CountsPackages (add_transient h kind event class owner long)
unfolding add_transient
transient_counts h kind event class owner long is =
    end_counts (add_object h (new_transient kind event class owner long (area_end h event)) 5) event (area_end h event + long)
    (object_counts h (new_transient kind event class owner long (area_end h event)) 5 is)

place_laid : (h : HeapState) (place : Place) (v : ℕ) → IsLaidOut h → IsLaidOut (set_place h place v)
place_laid h place v is = record { counted = place_counts h place v is.counted; apart = place_apart h place v is.apart }

module _ (p : Packages) (m : MemoryState) (sound : IsSoundMemory p m) (is : AreLaidOut m) where
  -- a change
  changed : (h : HeapState) (b : Bool) → IsLaidOut h → IsLaidOut (if b then m.heap.durable else h)
  changed h b so = choose IsLaidOut b m.heap.durable h (λ on. is.durable) (λ off. so)

  object_laid : (move : Move) (kind : Kind) (class owner long : ℕ) → move ≡ new_move kind class owner long → AreLaidOut (apply_effect (HeapMove move) m)
  object_laid move kind class owner long made = subst (λ x. AreLaidOut (apply_effect (HeapMove x) m)) (sym made)
      (let so : IsLaidOut (add_object m.heap.now (new_object kind class owner long) (object_size kind long)) = record {
        counted = object_counts m.heap.now (new_object kind class owner long) (object_size kind long) is.now.counted;
        apart = new_object_apart m.heap.now kind class owner long sound.whole.now.end is.now.apart;
      } in
      record { now = so; durable = changed _ m.heap.begun so })

  move_laid : (move : Move) → IsServed p (HeapMove move) m → AreLaidOut (apply_effect (HeapMove move) m)
  move_laid (Write place v) fits = let so = place_laid m.heap.now place v is.now in record { now = so; durable = changed _ m.heap.begun so }
  move_laid (SetPlaces changes) fits =
      let so : IsLaidOut (set_places m.heap.now changes) = record {
        counted = places_count changes m.heap.now is.now.counted;
        apart = places_apart changes m.heap.now is.now.apart;
      } in
      record { now = so; durable = changed _ m.heap.begun so }
  move_laid (WriteNonAtomic place v) fits = record {
    now = place_laid m.heap.now place v is.now;
    durable = changed (set_place m.heap.durable place v) (goes_back m.heap (place_at m.heap.now place)) (place_laid m.heap.durable place v is.durable);
  }
  move_laid (SetCells r i words) fits =
      let so : IsLaidOut (set_cells m.heap.now r i words) = record {
        counted = run_counts words m.heap.now r i is.now.counted;
        apart = run_apart words m.heap.now r i is.now.apart;
      } in
      record { now = so; durable = changed _ m.heap.begun so }
  move_laid (AddObject o size) fits = object_laid (AddObject o size) fits.kind fits.class fits.owner fits.long fits.is
  move_laid (AddTransient kind event class owner long) fits =
      let so : IsLaidOut (add_transient m.heap.now kind event class owner long) = record {
        counted = transient_counts m.heap.now kind event class owner long is.now.counted;
        apart = transient_apart m.heap.now kind event class owner long sound.whole.now.end is.now.apart;
      } in
      record { now = so; durable = changed _ m.heap.begun so }
  move_laid (AddPackage components arrays rest) fits = absurd fits
  move_laid Begin fits = record { now = is.now; durable = is.now }
  move_laid Commit fits = record { now = is.now; durable = is.now }
  move_laid Abort fits = record { now = is.durable; durable = is.durable }

  effect_laid : (e : Effect) → IsServed p e m → AreLaidOut (apply_effect e m)
  effect_laid (HeapMove move) fits = move_laid move fits
  effect_laid (SetTransient r i values) fits = record { now = is.now; durable = is.durable }
  effect_laid (SetFlag r flag) fits = record { now = is.now; durable = is.durable }
  effect_laid (ClearTransient event) fits = record { now = is.now; durable = is.durable }
  effect_laid (SetRegisters registers) fits = record { now = is.now; durable = is.durable }
  effect_laid (BeginCommand bytes) fits = record { now = is.now; durable = is.durable }
  effect_laid (SendBytes bytes) fits = record { now = is.now; durable = is.durable }

pub effects_keep_layout : EffectsKeepLayout
effects_keep_layout = λ p e m fits sound is. effect_laid p m sound is e fits
