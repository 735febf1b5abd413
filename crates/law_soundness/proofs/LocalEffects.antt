-- What calm effects leave as it was.
use Rattle.std.proofs.Common.{◌≡◌, ℕ, ◌+◌, Bool, true, false, List, [], ◌∷◌, refl, sym, ◌∙◌, ap, subst, arith, if◌then◌else◌}
use Rattle.jc_transient.specs.State.{RamState}
use Rattle.jc_heap.specs.declared.place.Place.{Place}
use Rattle.jc_heap.specs.declared.place.Place.TheVariants.{Cell, Static, Registry, AppletCount}
use Rattle.jc_heap.specs.Heap.{HeapState, heap_after_change, goes_back}
use Rattle.jc_heap.specs.Moves.{Write, SetPlaces, WriteNonAtomic, SetCells, AddObject, AddTransient, AddPackage, Begin, Commit, Abort}
use Rattle.jc_heap.specs.HeapLaws.{IsConsistentHeap}
use Rattle.jc_heap.specs.Place.{place_at, set_place, set_places}
use Rattle.jc_heap.proofs.Keeping.{reference-add}
use Rattle.jc_transient.specs.Owners.{owner_number}
use Rattle.jc_memory.specs.State.{MemoryState, Effect, HeapMove, SetTransient, SetFlag, ClearTransient, SetRegisters, BeginCommand, SendBytes}
use Rattle.jc_memory.specs.State.{apply_effect}
use Rattle.jc_frames.specs.Frames.{Caller}
use Rattle.law_soundness.specs.MemoryLaws.State.{IsSteady, is_open, is_owner_up_to, most_owner}
use Rattle.law_soundness.proofs.Frames.{cell_frames, object_frames, place_headers, places_headers, run_frames, run_headers, transient_frames, word_frames}
use Rattle.law_soundness.proofs.References.{headers_keep, transient_keeps}
use Rattle.law_soundness.specs.LivingReferences.{KeepsReferences}
use Rattle.law_soundness.specs.MachineLaws.LocalEffects.{AreElsewhere, LocalEffectsStay, IsLocalEffect, IsElsewhere}
use Rattle.law_soundness.specs.Machines.{KnowOwners}

-- two heaps have the same numbers and packages
record Same (h g : HeapState) : Type 0 where
  counts : g.counts ≡ h.counts
  packages : g.packages ≡ h.packages

-- and two memories, with the same transaction and installation
record Stays (m v : MemoryState) : Type 0 where
  now : Same m.heap.now v.heap.now
  durable : v.heap.durable.counts ≡ m.heap.durable.counts
  begun : v.heap.begun ≡ m.heap.begun
  installation : v.registers.installation ≡ m.registers.installation

same_place : (h : HeapState) (place : Place) (v : ℕ) → IsElsewhere place → Same h (set_place h place v)
same_place h (Cell r i) v calm = let f = cell_frames h r i v in record { counts = f.counts; packages = f.packages }
same_place h (Static r j) v calm = let f = word_frames h r j v in record { counts = f.counts; packages = f.packages }
same_place h (Registry i) v calm = absurd calm
same_place h AppletCount v calm = absurd calm

same_places : (changes : List (Place × ℕ)) (h : HeapState) → AreElsewhere changes → Same h (set_places h changes)
same_places [] h calm = record { counts = refl; packages = refl }
same_places (c ∷ cs) h calm =
    let one = same_place h c.0 c.1 calm.0 in
    let more = same_places cs (set_place h c.0 c.1) calm.1 in
    record { counts = more.counts ∙ one.counts; packages = more.packages ∙ one.packages }

module _ (m : MemoryState) (settled : m.heap.begun ≡ false → m.heap.now ≡ m.heap.durable) where
  left : (h : HeapState) → Same m.heap.now h → (b : Bool) → m.heap.begun ≡ b → (if b then m.heap.durable else h).counts ≡ m.heap.durable.counts
  left h same true is = refl
  left h same false is = same.counts ∙ ap (λ g. g.counts) (settled is)

  stays_changed : (h : HeapState) (places : List ℕ) (fresh : ℕ) (ram : RamState) → Same m.heap.now h
      → Stays m (record m { heap = heap_after_change m.heap h places fresh; ram = ram })
  stays_changed h places fresh ram same = record { now = same; durable = left h same m.heap.begun refl; begun = refl; installation = refl }

  counted_left : (place : Place) (v : ℕ) → IsElsewhere place → (b : Bool) → (if b then m.heap.durable else set_place m.heap.durable place v).counts
      ≡ m.heap.durable.counts
  counted_left place v calm true = refl
  counted_left place v calm false = (same_place m.heap.durable place v calm).counts

  itself : Same m.heap.now m.heap.now
  itself = record { counts = refl; packages = refl }

  stays : (e : Effect) → IsLocalEffect e m → Stays m (apply_effect e m)
  stays (HeapMove (Write place v)) calm = stays_changed _ _ _ _ (same_place m.heap.now place v calm)
  stays (HeapMove (SetPlaces changes)) calm = stays_changed _ _ _ _ (same_places changes m.heap.now calm)
  stays (HeapMove (WriteNonAtomic place v)) calm = record {
    now = same_place m.heap.now place v calm;
    durable = counted_left place v calm (goes_back m.heap (place_at m.heap.now place));
    begun = refl;
    installation = refl;
  }
  stays (HeapMove (SetCells r i words)) calm = (let f = run_frames words m.heap.now r i in stays_changed _ _ _ _
      (record { counts = f.counts; packages = f.packages }))
  stays (HeapMove (AddObject o size)) calm = (let f = object_frames m.heap.now o size in stays_changed _ _ _ _
      (record { counts = f.counts; packages = f.packages }))
  stays (HeapMove (AddTransient kind event class owner long)) calm = (let f = transient_frames m.heap.now kind event class owner long in stays_changed _ _ _ _
      (record { counts = f.counts; packages = f.packages }))
  stays (HeapMove (AddPackage components arrays rest)) calm = absurd calm
  stays (HeapMove Begin) calm = absurd calm
  stays (HeapMove Commit) calm = absurd calm
  stays (HeapMove Abort) calm = absurd calm
  stays (SetTransient r i values) calm = record { now = itself; durable = refl; begun = refl; installation = refl }
  stays (SetFlag r flag) calm = record { now = itself; durable = refl; begun = refl; installation = refl }
  stays (ClearTransient event) calm = record { now = itself; durable = refl; begun = refl; installation = refl }
  stays (SetRegisters registers) calm = record { now = itself; durable = refl; begun = refl; installation = calm }
  stays (BeginCommand bytes) calm = record { now = itself; durable = refl; begun = refl; installation = refl }
  stays (SendBytes bytes) calm = record { now = itself; durable = refl; begun = refl; installation = refl }

still_steady : (m v : MemoryState) → Stays m v → IsSteady m → IsSteady v
still_steady m v s steady = record {
  counts = s.now.counts ∙ steady.counts ∙ sym s.durable;
  begun = λ opened. s.begun ∙ steady.begun (ap is_open (sym s.installation) ∙ opened);
}

same_most : (m v : MemoryState) → Stays m v → most_owner v ≡ most_owner m
same_most m v s =
    ap (λ i. if is_open i then v.heap.durable.counts.1 + 1 else v.heap.now.counts.1) s.installation
    ∙ ap (λ c. if is_open m.registers.installation then c.1 + 1 else v.heap.now.counts.1) s.durable
    ∙ ap (λ c. if is_open m.registers.installation then m.heap.durable.counts.1 + 1 else c.1) s.now.counts

pub same_known : (most : ℕ) (h g : HeapState) (n : ℕ) → g.packages ≡ h.packages → is_owner_up_to most h n ≡ true → is_owner_up_to most g n ≡ true
same_known most h g n same known = subst (λ l. is_owner_up_to most (record h { packages = l }) n ≡ true) (sym same) known

still_known : (m v : MemoryState) (callers : List Caller) → Stays m v → KnowOwners callers m → KnowOwners callers v
still_known m v [] s known = tt
still_known m v (c ∷ callers) s known = (
  same_known (most_owner v) m.heap.now v.heap.now (owner_number c.resume.active) s.now.packages
      (subst (λ n. is_owner_up_to n m.heap.now (owner_number c.resume.active) ≡ true) (sym (same_most m v s)) known.0),
  known.1,
  still_known m v callers s known.2,
)

-- ---- references

place_keeps : (h : HeapState) (place : Place) (v : ℕ) → KeepsReferences h (set_place h place v)
place_keeps h place v = headers_keep h (set_place h place v) (place_headers h place v)

keeps_calm : (e : Effect) (m : MemoryState) → IsLocalEffect e m → IsConsistentHeap m.heap.now → KeepsReferences m.heap.now (apply_effect e m).heap.now
keeps_calm (HeapMove (Write place v)) m calm s = place_keeps m.heap.now place v
keeps_calm (HeapMove (SetPlaces changes)) m calm s = headers_keep m.heap.now _ (places_headers changes m.heap.now)
keeps_calm (HeapMove (WriteNonAtomic place v)) m calm s = place_keeps m.heap.now place v
keeps_calm (HeapMove (SetCells r i words)) m calm s = headers_keep m.heap.now _ (run_headers words m.heap.now r i)
keeps_calm (HeapMove (AddObject o size)) m calm s = reference-add m.heap.now o size (s.end m.heap.now.top (omega arith))
keeps_calm (HeapMove (AddTransient kind event class owner long)) m calm s = transient_keeps m.heap.now kind event class owner long
    (s.end m.heap.now.top (omega arith))
keeps_calm (HeapMove (AddPackage components arrays rest)) m calm s = absurd calm
keeps_calm (HeapMove Begin) m calm s = absurd calm
keeps_calm (HeapMove Commit) m calm s = absurd calm
keeps_calm (HeapMove Abort) m calm s = absurd calm
keeps_calm _ m calm s = λ r refers. refers

pub calm_stays : LocalEffectsStay
calm_stays = record {
  references = keeps_calm;
  steady = λ e m calm settled steady. still_steady m (apply_effect e m) (stays m settled e calm) steady;
  owners = λ e m callers calm settled known. still_known m (apply_effect e m) callers (stays m settled e calm) known;
}
