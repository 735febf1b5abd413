-- No effect changes how a heap begins.
use Rattle.std.proofs.Common.{ℕ, Bool, true, false, List, sym, ◌∙◌, if◌then◌else◌}
use Rattle.jc_heap.specs.Heap.{HeapState, goes_back}
use Rattle.jc_heap.specs.Moves.{Move, Write, SetPlaces, WriteNonAtomic, SetCells, AddObject, AddTransient, AddPackage, Begin, Commit, Abort}
use Rattle.jc_heap.specs.Place.{place_at, set_place}
use Rattle.jc_memory.specs.State.{MemoryState, Effect, HeapMove, SetTransient, SetFlag, ClearTransient, SetRegisters, BeginCommand, SendBytes}
use Rattle.jc_memory.specs.State.{apply_effect}
use Rattle.jc_platform.specs.Tokens.{Tokens}
use Rattle.law_theorems.specs.NewImages.{EffectsKeepBeginnings, KeepsBeginning}
use Rattle.law_theorems.proofs.Beginnings.{Begins, Stays, begins_still, object_stays, package_stays, set_cells_stays, set_place_stays, set_places_stays}
use Rattle.law_theorems.proofs.Beginnings.{transient_stays}

module _ (n : ℕ) (t : Tokens) where
  either : (fixed : List ℕ) (b : Bool) (x y : HeapState) → Begins n t fixed x → Begins n t fixed y → Begins n t fixed (if b then x else y)
  either fixed true x y on off = on
  either fixed false x y on off = off

  -- of a memory both heaps begin with the objects that it knows
  keeps : (m : MemoryState) → Begins n t m.fixed m.heap.now → Begins n t m.fixed m.heap.durable → KeepsBeginning n t m
  keeps m now durable = record { now = now.has; durable = durable.has; fixed = sym durable.are; same = now.are ∙ sym durable.are }

  module _ (m : MemoryState) (k : KeepsBeginning n t m) where
    now : Begins n t m.fixed m.heap.now
    now = record { has = k.now; are = k.same ∙ sym k.fixed }

    durable : Begins n t m.fixed m.heap.durable
    durable = record { has = k.durable; are = sym k.fixed }

    after : (h : HeapState) → Stays m.heap.now h → Begins n t m.fixed h
    after h s = begins_still n t m.fixed m.heap.now h s now

    change : (h : HeapState) → Stays m.heap.now h → Begins n t m.fixed (if m.heap.begun then m.heap.durable else h)
    change h s = either m.fixed m.heap.begun m.heap.durable h durable (after h s)

    move_keeps : (move : Move) → KeepsBeginning n t (apply_effect (HeapMove move) m)
    move_keeps (Write place v) = let s = set_place_stays m.heap.now place v in keeps (apply_effect (HeapMove (Write place v)) m) (after _ s) (change _ s)
    move_keeps (SetPlaces changes) =
        let s = set_places_stays changes m.heap.now in keeps (apply_effect (HeapMove (SetPlaces changes)) m) (after _ s) (change _ s)
    move_keeps (WriteNonAtomic place v) = keeps (apply_effect (HeapMove (WriteNonAtomic place v)) m) (after _ (set_place_stays m.heap.now place v))
        (either m.fixed (goes_back m.heap (place_at m.heap.now place)) m.heap.durable (set_place m.heap.durable place v) durable
        (begins_still n t m.fixed m.heap.durable (set_place m.heap.durable place v) (set_place_stays m.heap.durable place v) durable))
    move_keeps (SetCells r i words) =
        let s = set_cells_stays words m.heap.now r i in keeps (apply_effect (HeapMove (SetCells r i words)) m) (after _ s) (change _ s)
    move_keeps (AddObject o size) = let s = object_stays m.heap.now o size in keeps (apply_effect (HeapMove (AddObject o size)) m) (after _ s) (change _ s)
    move_keeps (AddTransient kind event class owner long) = let s = transient_stays m.heap.now kind event class owner long in
        keeps (apply_effect (HeapMove (AddTransient kind event class owner long)) m) (after _ s) (change _ s)
    move_keeps (AddPackage components arrays rest) = let s = package_stays m.heap.now components arrays rest in
        keeps (apply_effect (HeapMove (AddPackage components arrays rest)) m) (after _ s) (change _ s)
    move_keeps Begin = keeps (apply_effect (HeapMove Begin) m) now now
    move_keeps Commit = keeps (apply_effect (HeapMove Commit) m) now now
    move_keeps Abort = keeps (apply_effect (HeapMove Abort) m) durable durable

    effect_keeps : (e : Effect) → KeepsBeginning n t (apply_effect e m)
    effect_keeps (HeapMove move) = move_keeps move
    effect_keeps (SetTransient r i values) = keeps (apply_effect (SetTransient r i values) m) now durable
    effect_keeps (SetFlag r flag) = keeps (apply_effect (SetFlag r flag) m) now durable
    effect_keeps (ClearTransient event) = keeps (apply_effect (ClearTransient event) m) now durable
    effect_keeps (SetRegisters registers) = keeps (apply_effect (SetRegisters registers) m) now durable
    effect_keeps (BeginCommand bytes) = keeps (apply_effect (BeginCommand bytes) m) now durable
    effect_keeps (SendBytes bytes) = keeps (apply_effect (SendBytes bytes) m) now durable

pub effects_keep : EffectsKeepBeginnings
effects_keep = λ n t e m k. effect_keeps n t m k e
