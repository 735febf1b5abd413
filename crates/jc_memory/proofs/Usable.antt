-- What calls of the heap keep, and what they need for it.
use Rattle.std.proofs.Common.{◌≡◌, ℕ, ◌+◌, ◌<◌, ◌≤◌, Bool, true, false, [], ◌∷◌, refl, sym, ◌∙◌, ap, subst, arith, Option, Some, None, Result, Ok, Err}
use Rattle.std.proofs.Common.{if◌then◌else◌, length, slice_index, inl, inr}
use Rattle.std.proofs.lemmas.Bool.{true≢false, ltb-false, cases_lt}
use Rattle.std.proofs.lemmas.Option.{none-some}
use Rattle.std.proofs.lemmas.Grind.{common_steps}
use Rattle.std.specs.Prelude.{replicate, nat_lt}
use Rattle.jc_words.specs.Layout.{most_applets}
use Rattle.jc_transient.specs.declared.cell.ClearEvent.{ClearEvent}
use Rattle.jc_transient.specs.declared.cell.ClearEvent.TheVariants.{Reset, Deselect}
use Rattle.jc_transient.specs.declared.sizes.RamSizes.{RamSizes}
use Rattle.jc_transient.specs.State.{AreSizes, RamState, area_size, ram_sizes, size_in}
use Rattle.jc_heap.specs.declared.object.Kind.{Kind}
use Rattle.jc_heap.specs.declared.object.Kind.TheVariants.{Instance, ByteArray, ReferenceArray}
use Rattle.jc_heap.specs.declared.object.Facts.{Facts}
use Rattle.jc_heap.specs.declared.place.AppletEntry.{AppletEntry}
use Rattle.jc_heap.specs.declared.place.Place.TheVariants.{Cell}
use Rattle.jc_heap.specs.declared.refusal.ChangeRefusal.{ChangeRefusal}
use Rattle.jc_heap.specs.declared.refusal.ChangeRefusal.TheVariants as change
use Rattle.jc_heap.specs.declared.refusal.HeapRefusal.{HeapRefusal}
use Rattle.jc_heap.specs.declared.refusal.HeapRefusal.TheVariants as making
use Rattle.jc_heap.specs.Object.{facts_of}
use Rattle.jc_heap.specs.Heap.{HeapState, HeapView, SameShape, HasEnd, heap_item_at, cells, facts, area_end, area_limit, area_sizes, buffer_word, cells_word}
use Rattle.jc_heap.specs.WholeHeap.{IsConsistent}
use Rattle.jc_heap.specs.Moves.{Move, WriteNonAtomic, AddTransient, PerformsMoves, PerformsMovesUnless, apply_move, new_move, refusal_of_transient, applet_move}
use Rattle.jc_heap.specs.Completions.{Completion, Completed, Torn, Attempt, Done, Refused, after_making, after_change, after_step}
use Rattle.jc_heap.specs.HeapLaws.{MoveIsLegal, IsConsistentHeap, AreConsistent}
use Rattle.jc_heap.proofs.Laws.{heap_item_at-absent, same_facts}
use Rattle.jc_heap.proofs.OwnCells.{owns_cells}
use Rattle.jc_memory.specs.State.{MemoryState}
use Rattle.jc_memory.specs.Cells.{IsHeaderOf}

-- a heap at rest that is whole is whole after a loss of power
pub at_rest : (v : HeapView) → IsConsistent v.now → HasEnd v.now → 0 < v.now.top → v.durable ≡ v.now → AreConsistent v
at_rest v whole end some settled =
    let now : IsConsistentHeap v.now = record { whole = whole; end = end; some = some } in
    record {
      now = now;
      durable = subst IsConsistentHeap (sym settled) now;
      shape = subst (λ d. SameShape d v.now) (sym settled) (record { items = λ r below. refl; names = λ r below. refl; lasting = refl });
      order = omega (arith, ap (λ h. h.top) settled);
    }

not_both : (b : Bool) → b ≡ true → b ≡ false → ⊥
not_both b t f = true≢false (sym t ∙ f)

-- the heap that a call left
abbrev heap_of : {A : Type 0} → Completion HeapView A → HeapView
heap_of (Completed a v) = v
heap_of (Torn v) = v

making_heap : {A : Type 0} (result : Result A HeapRefusal) (v : HeapView) → heap_of (after_making result v) ≡ v
making_heap (Ok a) v = refl
making_heap (Err making.StoreDown) v = refl
making_heap (Err making.CommitFull) v = refl
making_heap (Err making.HeapFull) v = refl
making_heap (Err making.NoTransientSpace) v = refl

change_heap : {A : Type 0} (result : Result A ChangeRefusal) (v : HeapView) → heap_of (after_change result v) ≡ v
change_heap (Ok a) v = refl
change_heap (Err change.StoreDown) v = refl
change_heap (Err change.CommitFull) v = refl

step_heap : {A E : Type 0} (result : Result A E) (v : HeapView) → heap_of (after_step result v) ≡ v
step_heap (Ok a) v = refl
step_heap (Err e) v = refl

-- what holds of a heap and of it after the one move that a call makes, holds after the call, unless the store went down
made_so : {A : Type 0} (P : HeapView → Type 0) (old : HeapView) (after : Completion HeapView A) (m : Move) (a : A) → PerformsMoves old after (m ∷ []) a
    → P (apply_move m old) → (heap_of after).down ≡ false → P (heap_of after)
made_so P old (Completed x new) m a made so up = subst P (sym made.1) so
made_so P old (Torn new) m a made so up = absurd (not_both new.down made.down up)

unless_so : {A : Type 0} (P : HeapView → Type 0) (reason : Option HeapRefusal) (old : HeapView) (after : Completion HeapView (Attempt A)) (m : Move) (a : A)
    → PerformsMovesUnless reason old after (m ∷ []) a →
    (reason ≡ None → P (apply_move m old)) → P old → (heap_of after).down ≡ false → P (heap_of after)
unless_so P reason old (Completed (Done x) new) m a made so before up = subst P (sym made.2) (so made.0)
unless_so P reason old (Completed (Refused why) new) m a made so before up = subst P (sym made.1) before
unless_so P reason old (Torn new) m a made so before up = absurd (not_both new.down made.1.down up)

pub made_by : {A : Type 0} (P : HeapView → Type 0) (reason : Option HeapRefusal) (old new : HeapView) (result : Result A HeapRefusal) (m : Move) (a : A) →
    PerformsMovesUnless reason old (after_making result new) (m ∷ []) a → (reason ≡ None → P (apply_move m old)) → P old → new.down ≡ false → P new
made_by P reason old new result m a made so before = subst (λ v. v.down ≡ false → P v) (making_heap result new)
    (unless_so P reason old (after_making result new) m a made so before)

pub changed_by : {A : Type 0} (P : HeapView → Type 0) (reason : Option HeapRefusal) (old new : HeapView) (result : Result A ChangeRefusal) (m : Move) (a : A) →
    PerformsMovesUnless reason old (after_change result new) (m ∷ []) a → (reason ≡ None → P (apply_move m old)) → P old → new.down ≡ false → P new
changed_by P reason old new result m a made so before = subst (λ v. v.down ≡ false → P v) (change_heap result new)
    (unless_so P reason old (after_change result new) m a made so before)

pub stepped_by : {A E : Type 0} (P : HeapView → Type 0) (old new : HeapView) (result : Result A E) (m : Move) (a : A) →
    PerformsMoves old (after_step result new) (m ∷ []) a → P (apply_move m old) → P old → new.down ≡ false → P new
stepped_by P old new result m a made so before = subst (λ v. v.down ≡ false → P v) (step_heap result new) (made_so P old (after_step result new) m a made so)

-- a new object's cells are zero
zero_cell : (long i : ℕ) → i < length {A = ℕ} (replicate long 0) → slice_index (replicate long 0) i ≡ 0
zero_cell long i lt = grind (arith, common_steps)

pub object_suits : (v : HeapView) (kind : Kind) (class owner long : ℕ) → MoveIsLegal v (new_move kind class owner long)
object_suits v kind class owner long = (omega arith, (refl, λ k i lt. inl (zero_cell long i lt)))

either_size : (b : Bool) (rest : Option HeapRefusal) → (if b then Some making.NoTransientSpace else rest) ≡ None → b ≡ false
either_size true rest e = absurd (none-some making.NoTransientSpace (sym e))
either_size false rest e = refl

pub transient_suits : (v : HeapView) (kind : Kind) (event : ClearEvent) (class owner long : ℕ) → refusal_of_transient v event long ≡ None
    → MoveIsLegal v (AddTransient kind event class owner long)
transient_suits v kind event class owner long none lacks =
    let le = ltb-false (area_limit v.now event) (area_end v.now event + long)
    (either_size (nat_lt (area_limit v.now event) (area_end v.now event + long)) _ none) in omega (arith, le, lacks)

no_array : (k : Kind) → k ≡ Instance → k ≡ ReferenceArray → ⊥
no_array k i r = cc

-- what is no array of references is none in the durable heap, too
durable_none : (d h : HeapState) (r : ℕ) → SameShape d h → HasEnd d → ((facts h r).kind ≡ ReferenceArray → ⊥) → (facts d r).kind ≡ ReferenceArray → ⊥
durable_none d h r shape end none is = elim (cases_lt r d.top) [
  | inl below ↦ none (ap (λ f. f.kind) (same_facts (heap_item_at h r) (heap_item_at d r) (shape.items r below)) ∙ is)
  | inr above ↦ no_array Instance refl (sym (ap (λ t. (facts_of t).kind) (heap_item_at-absent d r (end r above))) ∙ is)
]

-- a cell of it is no reference
number_suits : (v : HeapView) (r i x : ℕ) → AreConsistent v → ((facts v.now r).kind ≡ ReferenceArray → ⊥) → MoveIsLegal v (WriteNonAtomic (Cell r i) x)
number_suits v r i x whole none = (λ e. absurd (none e), λ e. absurd (durable_none v.durable v.now r whole.shape whole.durable.end none e))

-- nor is a counter of an instance, or an element of an array of bytes
pub counter_suits : (v : HeapView) (r i x : ℕ) → AreConsistent v → (facts v.now r).kind ≡ Instance → MoveIsLegal v (WriteNonAtomic (Cell r i) x)
counter_suits v r i x whole is = number_suits v r i x whole (no_array (facts v.now r).kind is)

no_references : (k : Kind) → k ≡ ByteArray → k ≡ ReferenceArray → ⊥
no_references k b r = cc

pub byte_suits : (v : HeapView) (r i x : ℕ) → AreConsistent v → (facts v.now r).kind ≡ ByteArray → MoveIsLegal v (WriteNonAtomic (Cell r i) x)
byte_suits v r i x whole is = number_suits v r i x whole (no_references (facts v.now r).kind is)

pub applet_suits : (v : HeapView) (entry : AppletEntry) → v.now.counts.1 < most_applets → MoveIsLegal v (applet_move v.now entry)
applet_suits v entry few = (tt, (tt, (tt, (omega (arith, few), tt))))

-- the places of an area are words
limit_small : (cells buffer : ℕ) → AreSizes cells buffer → (event : ClearEvent) → size_in (ram_sizes cells buffer) event < 65536
unfolding ram_sizes
limit_small cells buffer is Reset = omega arith
limit_small cells buffer is Deselect = let few = is.cells_most in omega (arith, few)

-- what a header says of the cells
pub header_of : (s : MemoryState) (r : ℕ) (f : Facts) → AreConsistent s.heap → s.ram.sizes ≡ area_sizes s.heap.now → f ≡ facts s.heap.now r
    → (f.event ≡ None → length (cells s.heap.now r) ≡ f.length) → IsHeaderOf s r f
header_of s r f whole sizes is persistent = record {
  is = is;
  persistent = persistent;
  transient = λ event e. subst (λ g. g.place + g.length ≤ area_size s.ram event) (sym is) (within event (ap (λ g. g.event) (sym is) ∙ e));
  small = λ event e. subst (λ g. g.place + g.length < 65536) (sym is)
      (let fits = within event (ap (λ g. g.event) (sym is) ∙ e) in let few = small_area event in omega (arith, fits, few));
}
  where
    small_area : (event : ClearEvent) → area_size s.ram event < 65536
    small_area event = subst (λ (z : RamSizes). size_in z event < 65536) (sym sizes)
        (limit_small (cells_word s.heap.now) (buffer_word s.heap.now) whole.now.whole.sizes event)

    within : (event : ClearEvent) → (facts s.heap.now r).event ≡ Some event → (facts s.heap.now r).place + (facts s.heap.now r).length ≤ area_size s.ram event
    within event is =
        let below = (owns_cells s.heap.now whole.now.whole).below r event is in let fits = (whole.now.whole.areas event).fits in
        let same : area_size s.ram event ≡ area_limit s.heap.now event = ap (λ (z : RamSizes). size_in z event) sizes in omega (arith, below, fits, same)

-- so cells of a transient object lie within its area, whatever names the contents
pub within_area : (s : MemoryState) (ram : RamState) (r i n : ℕ) (f : Facts) (event : ClearEvent) → ram ≡ s.ram → IsHeaderOf s r f → f.event ≡ Some event
    → i + n ≤ (facts s.heap.now r).length → f.place + i + n ≤ area_size ram event
within_area s ram r i n f event same header kept fits =
    let within = header.transient event kept in
    let long = ap (λ (g : Facts). g.length) header.is in
    let size = ap (λ (a : RamState). area_size a event) same in omega (arith, within, long, size, fits)
