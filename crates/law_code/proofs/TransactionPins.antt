-- What is done to PINs keeps the order of transactions.
use Rattle.std.proofs.Common.{◌≡◌, Bool, true, false, refl, sym, ap, ◌∙◌, inl, inr, if◌then◌else◌, get_or, arith}
use Rattle.std.specs.Prelude.{ℕ, ◌==◌, ◌&&◌, nat_le, is_none, slice_index, Option, Some, None}
use Rattle.std.proofs.lemmas.Bool.{false≢true, cases_Bool}
use Rattle.std.proofs.lemmas.List.{get_or-set_other}
use Rattle.jc_transient.specs.declared.cell.ClearEvent.{ClearEvent}
use Rattle.jc_heap.specs.declared.object.Facts.{Facts}
use Rattle.jc_heap.specs.declared.object.Kind.TheVariants.{Instance, ByteArray}
use Rattle.jc_heap.specs.Object.{header_only, cells_of, is_object}
use Rattle.jc_heap.specs.Heap.{HeapState, cells, facts, heap_item_at, is_allocated, set_cell}
use Rattle.jc_heap.specs.Moves.{WriteNonAtomic}
use Rattle.jc_heap.proofs.Laws.{same_facts, set_cell-absent, heap_item_at-set_cell, header_only-set_cell, cells-with_cell}
use Rattle.jc_heap.proofs.Keeping.{object-header_only}
use Rattle.jc_memory.specs.State.{MemoryState, HeapMove, SetFlag, apply_effect}
use Rattle.jc_memory.specs.Cells.{header_at, word_at}
use Rattle.jc_environment.specs.Pins.{counter, is_persistent_with, is_pin}
use Rattle.jc_environment.proofs.KeptPins.{word_kept}

-- ---- a PIN is one as long as the headers stay, and its own cells but for the counter

event_of : (k l x : Bool) (event : Option ClearEvent) → (if k && (is_none event && l) then x else false) ≡ true → event ≡ None
event_of k l x None e = refl
event_of true l x (Some c) e = absurd (false≢true e)
event_of false l x (Some c) e = absurd (false≢true e)

event_behind : (there : Bool) (f : Facts) (x : Bool) → (if is_persistent_with Instance 5 (if there then Some f else None) then x else false) ≡ true
    → f.event ≡ None
event_behind false f x e = absurd (false≢true e)
event_behind true f x e = event_of _ _ x f.event e

-- how a PIN is recognised from its header, its cells and the header of its value
abbrev is_so : Option Facts → ℕ → ℕ → Option Facts → Bool
is_so own long maximum value = if is_persistent_with Instance 5 own then nat_le long maximum &&
    (if maximum == 0 then true else is_persistent_with ByteArray maximum value) else false

told : (s : MemoryState) (r : ℕ) → is_pin s r ≡ is_so (header_at s r) (word_at s r 3) (word_at s r 1) (header_at s (word_at s r 4))
unfolding is_pin
told s r = refl

persistent : (s : MemoryState) (r : ℕ) → is_pin s r ≡ true → (facts s.heap.now r).event ≡ None
persistent s r pin = event_behind (is_object (heap_item_at s.heap.now r)) (facts s.heap.now r) _ (sym (told s r) ∙ pin)

module _ (s v : MemoryState) (r : ℕ) (headers : (q : ℕ) → header_at v q ≡ header_at s q) (same : facts v.heap.now r ≡ facts s.heap.now r)
    (others : (j : ℕ) → (j ≡ 2 → ⊥) → slice_index (cells v.heap.now r) j ≡ slice_index (cells s.heap.now r) j) (pin : is_pin s r ≡ true) where
  word : (j : ℕ) → (j ≡ 2 → ⊥) → word_at v r j ≡ word_at s r j
  word j other =
      let none = persistent s r pin in
      word_kept v r j (ap (λ f. f.event) same ∙ none) ∙ others j other ∙ sym (word_kept s r j none)

  still_pin : is_pin v r ≡ true
  still_pin =
      let long = word 3 (λ e. absurd (omega (arith, e))) in
      let maximum = word 1 (λ e. absurd (omega (arith, e))) in
      let value = word 4 (λ e. absurd (omega (arith, e))) in
      told v r
      ∙ ap (λ h. is_so h (word_at v r 3) (word_at v r 1) (header_at v (word_at v r 4))) (headers r)
      ∙ ap (λ n. is_so (header_at s r) n (word_at v r 1) (header_at v (word_at v r 4))) long
      ∙ ap (λ n. is_so (header_at s r) (word_at s r 3) n (header_at v (word_at v r 4))) maximum
      ∙ ap (λ q. is_so (header_at s r) (word_at s r 3) (word_at s r 1) (header_at v q)) value
      ∙ ap (λ h. is_so (header_at s r) (word_at s r 3) (word_at s r 1) h) (headers (word_at s r 4))
      ∙ sym (told s r)
      ∙ pin

header_same : (h g : HeapState) (q : ℕ) → header_only (heap_item_at g q) ≡ header_only (heap_item_at h q) →
    (if is_object (heap_item_at g q) then Some (facts g q) else None) ≡ (if is_object (heap_item_at h q) then Some (facts h q) else None)
header_same h g q same =
    let object : is_object (heap_item_at g q) ≡ is_object (heap_item_at h q) = sym (object-header_only (heap_item_at g q))
    ∙ (ap is_object same ∙ object-header_only (heap_item_at h q)) in
    ap (λ b. if b then Some (facts g q) else None) object ∙ ap (λ f. if is_object (heap_item_at h q) then Some f else None)
    (same_facts (heap_item_at g q) (heap_item_at h q) same)

other_cell : (h : HeapState) (r x j : ℕ) → (j ≡ 2 → ⊥) → slice_index (cells (set_cell h r 2 x) r) j ≡ slice_index (cells h r) j
other_cell h r x j other = elim (cases_Bool (is_allocated h r)) [
  | inl there ↦
      ap (λ t. get_or (cells_of t) j 0) (heap_item_at-set_cell h r 2 x there) ∙ (ap (λ l. get_or l j 0) (cells-with_cell (heap_item_at h r) 2 x)
      ∙ get_or-set_other (cells h r) 2 j x 0 other)
  | inr gone ↦ ap (λ g. get_or (cells g r) j 0) (set_cell-absent h r 2 x gone)
]

pub pin_counted : (s : MemoryState) (r x : ℕ) → is_pin s r ≡ true → is_pin (apply_effect (HeapMove (WriteNonAtomic (counter r) x)) s) r ≡ true
pin_counted s r x pin =
    let now = s.heap.now in
    still_pin s (apply_effect (HeapMove (WriteNonAtomic (counter r) x)) s) r (λ q. header_same now (set_cell now r 2 x) q (header_only-set_cell now r 2 x q))
    (same_facts (heap_item_at (set_cell now r 2 x) r) (heap_item_at now r) (header_only-set_cell now r 2 x r)) (λ j other. other_cell now r x j other) pin

pub pin_flagged : (s : MemoryState) (r : ℕ) (flag : Bool) → is_pin s r ≡ true → is_pin (apply_effect (SetFlag r flag) s) r ≡ true
pin_flagged s r flag pin = still_pin s (apply_effect (SetFlag r flag) s) r (λ q. refl) refl (λ j other. refl) pin
