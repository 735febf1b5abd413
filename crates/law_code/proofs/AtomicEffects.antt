-- The first law of atomicity, effect by effect.
use Rattle.std.proofs.Common.{◌≡◌, Bool, true, false, List, [], ◌∷◌, refl, sym, subst, ap, ◌∙◌, inl, inr, if◌then◌else◌}
use Rattle.std.specs.Prelude.{ℕ, ◌⊎◌}
use Rattle.std.proofs.lemmas.Bool.{true≢false, cases_Bool}
use Rattle.jc_heap.specs.Heap.{HeapState, goes_back}
use Rattle.jc_heap.specs.Place.{place_at, set_place}
use Rattle.jc_heap.proofs.KeptWords.{outside_none_goes_back}
use Rattle.jc_heap.specs.Moves.{Write, SetPlaces, WriteNonAtomic, SetCells, AddObject, AddTransient, AddPackage, Begin, Commit, Abort, IsInside}
use Rattle.jc_memory.specs.State.{MemoryState, Effect, HeapMove, SetTransient, SetFlag, ClearTransient, SetRegisters, BeginCommand, SendBytes}
use Rattle.jc_memory.specs.State.{apply_effect, apply_effects, moves_of}
use Rattle.jc_memory.specs.Programs.{Program, Finish, Perform, Choose, Either, TearLeaves}
use Rattle.jc_memory.specs.Reading.{AllDue, AllEffectsDue, HasTracePrefix}
use Rattle.jc_memory.specs.State.{IsNew}
use Rattle.jc_memory.proofs.ProgramLemmas.{took, due_taken}
use Rattle.law_code.specs.Orderly.{KeepsTransactionOrder}
use Rattle.law_code.specs.TransactionLaws.{SavedHeapAfter, IsHeapFound, IsHeapSaved, TearLeavesAfter, IsDurableOutside, TransactionsAreAtomic}

-- ---- where no transaction is open a loss leaves the heap as it is

fresh : (b : Bool) (d x : HeapState) → b ≡ false → (if b then d else x) ≡ x
fresh true d x e = absurd (true≢false e)
fresh false d x e = refl

pub kept : (b : Bool) (d x : HeapState) → b ≡ true → (if b then d else x) ≡ d
kept true d x e = refl
kept false d x e = absurd (true≢false (sym e))

untouched : (s : MemoryState) (word : ℕ) → s.heap.begun ≡ false → goes_back s.heap word ≡ false
untouched s word e = outside_none_goes_back s.heap word e

pub settled_effect : (e : Effect) (s : MemoryState) → IsDurableOutside s → IsDurableOutside (apply_effect e s)
settled_effect (HeapMove (Write p v)) s settled = λ b. fresh s.heap.begun s.heap.durable _ b
settled_effect (HeapMove (SetPlaces cs)) s settled = λ b. fresh s.heap.begun s.heap.durable _ b
settled_effect (HeapMove (WriteNonAtomic p v)) s settled = λ b.
    ap (λ t. if t then s.heap.durable else set_place s.heap.durable p v) (untouched s (place_at s.heap.now p) b) ∙ ap (λ d. set_place d p v) (settled b)
settled_effect (HeapMove (SetCells r i vs)) s settled = λ b. fresh s.heap.begun s.heap.durable _ b
settled_effect (HeapMove (AddObject o size)) s settled = λ b. fresh s.heap.begun s.heap.durable _ b
settled_effect (HeapMove (AddTransient kind event class owner long)) s settled = λ b. fresh s.heap.begun s.heap.durable _ b
settled_effect (HeapMove (AddPackage components arrays rest)) s settled = λ b. fresh s.heap.begun s.heap.durable _ b
settled_effect (HeapMove Begin) s settled = λ b. absurd (true≢false b)
settled_effect (HeapMove Commit) s settled = λ b. refl
settled_effect (HeapMove Abort) s settled = λ b. refl
settled_effect _ s settled = settled

-- ---- effects within an open transaction leave it open

pub begun_inside : (es : List Effect) (s : MemoryState) → IsInside (moves_of es) → (apply_effects es s).heap.begun ≡ s.heap.begun
begun_inside [] s inside = refl
begun_inside (HeapMove (Write p v) ∷ es) s inside = begun_inside es (apply_effect (HeapMove (Write p v)) s) inside
begun_inside (HeapMove (SetPlaces cs) ∷ es) s inside = begun_inside es (apply_effect (HeapMove (SetPlaces cs)) s) inside
begun_inside (HeapMove (WriteNonAtomic p v) ∷ es) s inside = begun_inside es (apply_effect (HeapMove (WriteNonAtomic p v)) s) inside
begun_inside (HeapMove (SetCells r i vs) ∷ es) s inside = begun_inside es (apply_effect (HeapMove (SetCells r i vs)) s) inside
begun_inside (HeapMove (AddObject o size) ∷ es) s inside = begun_inside es (apply_effect (HeapMove (AddObject o size)) s) inside
begun_inside (HeapMove (AddTransient kind event class owner long) ∷ es) s inside =
    begun_inside es (apply_effect (HeapMove (AddTransient kind event class owner long)) s) inside
begun_inside (HeapMove (AddPackage components arrays rest) ∷ es) s inside = begun_inside es
    (apply_effect (HeapMove (AddPackage components arrays rest)) s) inside
begun_inside (HeapMove Begin ∷ es) s inside = absurd inside
begun_inside (HeapMove Commit ∷ es) s inside = absurd inside
begun_inside (HeapMove Abort ∷ es) s inside = absurd inside
begun_inside (SetTransient r i values ∷ es) s inside = begun_inside es (apply_effect (SetTransient r i values) s) inside
begun_inside (SetFlag r flag ∷ es) s inside = begun_inside es (apply_effect (SetFlag r flag) s) inside
begun_inside (ClearTransient event ∷ es) s inside = begun_inside es (apply_effect (ClearTransient event) s) inside
begun_inside (SetRegisters registers ∷ es) s inside = begun_inside es (apply_effect (SetRegisters registers) s) inside
begun_inside (BeginCommand bytes ∷ es) s inside = begun_inside es (apply_effect (BeginCommand bytes) s) inside
begun_inside (SendBytes bytes ∷ es) s inside = begun_inside es (apply_effect (SendBytes bytes) s) inside

-- ---- and what it found stays, but for tries

from_change : (es : List Effect) (s v : MemoryState) (h x : HeapState) → s.heap.begun ≡ true
    → SavedHeapAfter es v (if s.heap.begun then s.heap.durable else x) h → SavedHeapAfter es v s.heap.durable h
from_change es s v h x stands saved = subst (λ d. SavedHeapAfter es v d h) (kept s.heap.begun s.heap.durable x stands) saved

pub saved_within : (es : List Effect) (s : MemoryState) → AllEffectsDue KeepsTransactionOrder es s → s.heap.begun ≡ true → IsInside (moves_of es)
    → SavedHeapAfter es s s.heap.durable (apply_effects es s).heap.durable
saved_within [] s due stands inside = refl
saved_within (HeapMove (Write p v) ∷ es) s due stands inside =
    let next = apply_effect (HeapMove (Write p v)) s in from_change es s next _ _ stands (saved_within es next due.1 stands inside)
saved_within (HeapMove (SetPlaces cs) ∷ es) s due stands inside =
    let next = apply_effect (HeapMove (SetPlaces cs)) s in from_change es s next _ _ stands (saved_within es next due.1 stands inside)
saved_within (HeapMove (WriteNonAtomic p v) ∷ es) s due stands inside = (
  due.0,
  saved_within es
      (apply_effect (HeapMove (WriteNonAtomic p v)) s) due.1 stands inside,
)
saved_within (HeapMove (SetCells r i vs) ∷ es) s due stands inside =
    let next = apply_effect (HeapMove (SetCells r i vs)) s in from_change es s next _ _ stands (saved_within es next due.1 stands inside)
saved_within (HeapMove (AddObject o size) ∷ es) s due stands inside =
    let next = apply_effect (HeapMove (AddObject o size)) s in from_change es s next _ _ stands (saved_within es next due.1 stands inside)
saved_within (HeapMove (AddTransient kind event class owner long) ∷ es) s due stands inside =
    let next = apply_effect (HeapMove (AddTransient kind event class owner long)) s in
    from_change es s next _ _ stands (saved_within es next due.1 stands inside)
saved_within (HeapMove (AddPackage components arrays rest) ∷ es) s due stands inside =
    let next = apply_effect (HeapMove (AddPackage components arrays rest)) s in from_change es s next _ _ stands (saved_within es next due.1 stands inside)
saved_within (HeapMove Begin ∷ es) s due stands inside = absurd inside
saved_within (HeapMove Commit ∷ es) s due stands inside = absurd inside
saved_within (HeapMove Abort ∷ es) s due stands inside = absurd inside
saved_within (SetTransient r i values ∷ es) s due stands inside = saved_within es (apply_effect (SetTransient r i values) s) due.1 stands inside
saved_within (SetFlag r flag ∷ es) s due stands inside = saved_within es (apply_effect (SetFlag r flag) s) due.1 stands inside
saved_within (ClearTransient event ∷ es) s due stands inside = saved_within es (apply_effect (ClearTransient event) s) due.1 stands inside
saved_within (SetRegisters registers ∷ es) s due stands inside = saved_within es (apply_effect (SetRegisters registers) s) due.1 stands inside
saved_within (BeginCommand bytes ∷ es) s due stands inside = saved_within es (apply_effect (BeginCommand bytes) s) due.1 stands inside
saved_within (SendBytes bytes ∷ es) s due stands inside = saved_within es (apply_effect (SendBytes bytes) s) due.1 stands inside

-- ---- one effect more in front

-- the heap that was saved stays after a change in the open transaction
module _ (es : List Effect) (s v : MemoryState) (h x : HeapState) where
  behind_change : v.heap.begun ≡ s.heap.begun → (apply_effects es v).heap.begun ≡ true → IsInside (moves_of es) →
      SavedHeapAfter es v (if s.heap.begun then s.heap.durable else x) h → SavedHeapAfter es v s.heap.durable h
  behind_change same stands inside saved =
      from_change es s v h x (sym same ∙ (sym (begun_inside es v inside) ∙ stands)) saved

  ended : v.heap.begun ≡ false → (apply_effects es v).heap.begun ≡ true → IsInside (moves_of es) → ⊥
  ended end stands inside = true≢false (sym stands ∙ (begun_inside es v inside ∙ end))

saved_more : (e : Effect) (es : List Effect) (s : MemoryState) (h : HeapState) → KeepsTransactionOrder e s → (apply_effects (e ∷ es) s).heap.begun ≡ true →
    IsHeapSaved es (apply_effect e s) h → IsHeapSaved (e ∷ es) s h ⊎ IsHeapFound (e ∷ es) s h
saved_more (HeapMove (Write p v)) es s h due stands saved = inl (
  saved.0,
  behind_change es s
      (apply_effect (HeapMove (Write p v)) s) h _ refl stands saved.0 saved.1,
)
saved_more (HeapMove (SetPlaces cs)) es s h due stands saved = inl (
  saved.0,
  behind_change es s
      (apply_effect (HeapMove (SetPlaces cs)) s) h _ refl stands saved.0 saved.1,
)
saved_more (HeapMove (WriteNonAtomic p v)) es s h due stands saved = inl (saved.0, (due, saved.1))
saved_more (HeapMove (SetCells r i vs)) es s h due stands saved = inl (
  saved.0,
  behind_change es s
      (apply_effect (HeapMove (SetCells r i vs)) s) h _ refl stands saved.0 saved.1,
)
saved_more (HeapMove (AddObject o size)) es s h due stands saved = inl (
  saved.0,
  behind_change es s (apply_effect (HeapMove (AddObject o size)) s) h _ refl stands saved.0 saved.1,
)
saved_more (HeapMove (AddTransient kind event class owner long)) es s h due stands saved =
    inl (saved.0, behind_change es s (apply_effect (HeapMove (AddTransient kind event class owner long)) s) h _ refl stands saved.0 saved.1)
saved_more (HeapMove (AddPackage components arrays rest)) es s h due stands saved =
    inl (saved.0, behind_change es s (apply_effect (HeapMove (AddPackage components arrays rest)) s) h _ refl stands saved.0 saved.1)
saved_more (HeapMove Begin) es s h due stands saved = inr ([], es, refl, saved.0, due, saved.1)
saved_more (HeapMove Commit) es s h due stands saved = absurd (ended es s (apply_effect (HeapMove Commit) s) h h refl stands saved.0)
saved_more (HeapMove Abort) es s h due stands saved = absurd (ended es s (apply_effect (HeapMove Abort) s) h h refl stands saved.0)
saved_more _ es s h due stands saved = inl saved

behind_more : (e : Effect) (es : List Effect) (s : MemoryState) (h : HeapState) → KeepsTransactionOrder e s → TearLeavesAfter es (apply_effect e s) h
    → TearLeavesAfter (e ∷ es) s h
behind_more e es s h due (inl now) = inl now
behind_more e es s h due (inr (stands, inl saved)) = inr (stands, saved_more e es s h due stands saved)
behind_more e es s h due (inr (stands, inr found)) = inr (stands, inr (e ∷ found.0, found.1, ap (λ l. e ∷ l) found.2, found.3, found.4, found.5))

pub behind : (es : List Effect) (s : MemoryState) → AllEffectsDue KeepsTransactionOrder es s → IsDurableOutside s
    → TearLeavesAfter es s (apply_effects es s).heap.durable
behind [] s due settled = elim (cases_Bool s.heap.begun) as (λ q. TearLeavesAfter [] s s.heap.durable) [
  | inl stands ↦ inr (stands, inl (tt, refl))
  | inr shut ↦ inl (shut, settled shut)
]
behind (e ∷ es) s due settled = behind_more e es s _ due.0 (behind es (apply_effect e s) due.1 (settled_effect e s settled))

-- ---- beginnings of what is done

begins_chosen : {A : Type 0} (choose : ℕ → Program A) (s : MemoryState) (r : ℕ) (es : List Effect) → IsNew s.heap.now r → HasTracePrefix (choose r) s es
    → HasTracePrefix (Choose choose) s es
begins_chosen choose s r [] new begins = tt
begins_chosen choose s r (e ∷ es) new begins = (r, new, begins)

begins_first : {A : Type 0} (x y : Program A) (s : MemoryState) (es : List Effect) → HasTracePrefix x s es → HasTracePrefix (Either x y) s es
begins_first x y s [] begins = tt
begins_first x y s (e ∷ es) begins = inl begins

begins_second : {A : Type 0} (x y : Program A) (s : MemoryState) (es : List Effect) → HasTracePrefix y s es → HasTracePrefix (Either x y) s es
begins_second x y s [] begins = tt
begins_second x y s (e ∷ es) begins = inr begins

pub due_begun : {A : Type 0} (P : Effect → MemoryState → Type 0) (d : Program A) (s : MemoryState) (es : List Effect) → AllDue P d s → HasTracePrefix d s es
    → AllEffectsDue P es s
due_begun P d s [] due begins = tt
due_begun P (Finish a) s (e ∷ es) due begins = absurd begins
due_begun P (Perform first rest) s (e ∷ es) due begins = subst (λ x. AllEffectsDue P (x ∷ es) s) (sym begins.0)
    (due.0, due_begun P rest (apply_effect first s) es due.1 begins.1)
due_begun P (Choose choose) s (e ∷ es) due begins = due_begun P (choose begins.0) s (e ∷ es) (due begins.0 begins.1) begins.2
due_begun P (Either x y) s (e ∷ es) due (inl begins) = due_begun P x s (e ∷ es) due.0 begins
due_begun P (Either x y) s (e ∷ es) due (inr begins) = due_begun P y s (e ∷ es) due.1 begins

-- a loss comes after a beginning
abbrev pub LostAt : {A : Type 0} → Program A → MemoryState → HeapState → Type 0
LostAt d s h = (es : List Effect) × HasTracePrefix d s es × (h ≡ (apply_effects es s).heap.durable)

pub lost_at : {A : Type 0} (d : Program A) (s : MemoryState) (p : ℕ) (h : HeapState) → TearLeaves d s p h → LostAt d s h
lost_at (Finish x) s p h left = absurd left
lost_at (Perform (HeapMove m) rest) s p h (inl e) = ([], tt, e.0)
lost_at (Perform (HeapMove m) rest) s p h (inr left) =
    let q = lost_at rest (apply_effect (HeapMove m) s) p h left in (HeapMove m ∷ q.0, (refl, q.1), q.2)
lost_at (Perform e rest) s p h left = let q = lost_at rest (apply_effect e s) p h left in (e ∷ q.0, (refl, q.1), q.2)
lost_at (Choose choose) s p h left = let q = lost_at (choose left.0) s p h left.2 in (q.0, begins_chosen choose s left.0 q.0 left.1 q.1, q.2)
lost_at (Either x y) s p h (inl left) = let q = lost_at x s p h left in (q.0, begins_first x y s q.0 q.1, q.2)
lost_at (Either x y) s p h (inr left) = let q = lost_at y s p h left in (q.0, begins_second x y s q.0 q.1, q.2)

-- ---- the law

pub torn : {A : Type 0} → TransactionsAreAtomic A
torn {A = A} = record {
  within = λ d s es due stands begins inside. saved_within es s (due_begun KeepsTransactionOrder d s es due begins) stands inside;
  behind = λ d s es due settled begins. behind es s (due_begun KeepsTransactionOrder d s es due begins) settled;
  aborted = λ s. refl;
  lost = λ d s passed h due settled left.
      let p = lost_at d s passed h left in
      (p.0, p.1, subst (λ x. TearLeavesAfter p.0 s x) (sym p.2) (behind p.0 s (due_begun KeepsTransactionOrder d s p.0 due p.1) settled));
  done = λ d s new a due settled did.
      let t = took d s new a did in
      (t.0, t.1, t.2, subst (λ v. TearLeavesAfter t.0 s v.heap.durable) (sym t.2) (behind t.0 s (due_taken KeepsTransactionOrder d s t.0 a due t.1) settled));
}
