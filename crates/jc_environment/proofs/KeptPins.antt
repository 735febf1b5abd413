-- What a change of a cell leaves of a PIN.
use Rattle.std.proofs.Common.{◌≡◌, ℕ, ◌<◌, ◌≤◌, length, get_or, sym, ◌∙◌, ap, subst, arith}
use Rattle.std.specs.Prelude.{None, slice_index}
use Rattle.std.proofs.lemmas.List.{get_or-set_other}
use Rattle.jc_heap.specs.declared.object.Kind.{Kind}
use Rattle.jc_heap.specs.declared.object.Kind.TheVariants.{Instance, ByteArray}
use Rattle.jc_heap.specs.Object.{header_only, is_object}
use Rattle.jc_heap.specs.Heap.{heap_item_at, cells, facts, set_cell}
use Rattle.jc_heap.proofs.Laws.{same_length, same_facts, header_only-set_cell, cells-set_cell}
use Rattle.jc_heap.proofs.Keeping.{object-header_only}
use Rattle.jc_memory.specs.State.{MemoryState}
use Rattle.jc_memory.specs.Cells.{word_at, word_in}
use Rattle.jc_environment.specs.Pins.{IsPersistentWith, IsPin}

-- an object whose header stays
pub kept_along : (s v : MemoryState) (kind : Kind) (n q : ℕ) → header_only (heap_item_at v.heap.now q) ≡ header_only (heap_item_at s.heap.now q)
    → IsPersistentWith s kind n q → IsPersistentWith v kind n q
kept_along s v kind n q same k =
    let header : facts v.heap.now q ≡ facts s.heap.now q = same_facts (heap_item_at v.heap.now q) (heap_item_at s.heap.now q) same in
    record {
      there = sym (object-header_only (heap_item_at v.heap.now q)) ∙ ap is_object same ∙ object-header_only (heap_item_at s.heap.now q) ∙ k.there;
      kind = ap (λ f. f.kind) header ∙ k.kind;
      event = ap (λ f. f.event) header ∙ k.event;
      cells = subst (λ m. n ≤ m) (sym (same_length (heap_item_at v.heap.now q) (heap_item_at s.heap.now q) same)) k.cells;
      declared = subst (λ f. n ≤ f.length) (sym header) k.declared;
    }

-- the words of a persistent object are its cells
pub word_kept : (s : MemoryState) (r i : ℕ) → (facts s.heap.now r).event ≡ None → word_at s r i ≡ slice_index (cells s.heap.now r) i
word_kept s r i none = ap (λ e. word_in e s r i) none

-- another cell of the object is set
other_word : (s v : MemoryState) (r i j x : ℕ) → v.heap.now ≡ set_cell s.heap.now r i x → i < length (cells s.heap.now r) → (j ≡ i → ⊥) →
    (facts s.heap.now r).event ≡ None → (facts v.heap.now r).event ≡ None → word_at v r j ≡ word_at s r j
other_word s v r i j x is there other none still =
    word_kept v r j still ∙ ap (λ h. get_or (cells h r) j 0) is ∙ ap (λ l. get_or l j 0) (cells-set_cell s.heap.now r i x there)
    ∙ get_or-set_other (cells s.heap.now r) i j x 0 other
    ∙ sym (word_kept s r j none)

-- a counter that is set leaves a PIN
pub counted_pin : (s v : MemoryState) (r x : ℕ) → v.heap.now ≡ set_cell s.heap.now r 2 x → IsPin s r → IsPin v r
counted_pin s v r x is pin = record {
  itself = itself;
  long = subst (λ m. m ≤ word_at v r 1) (sym (word 3 (λ e. absurd (omega (arith, e))))) (subst (λ m. word_at s r 3 ≤ m) (sym maximum) pin.long);
  value = λ some. subst (λ q. IsPersistentWith v ByteArray (word_at v r 1) q) (sym (word 4 (λ e. absurd (omega (arith, e)))))
      (subst (λ n. IsPersistentWith v ByteArray n (word_at s r 4)) (sym maximum) (along ByteArray (word_at s r 1) (word_at s r 4)
      (pin.value (subst (λ m. 0 < m) maximum some))));
}
  where
    along : (kind : Kind) (n q : ℕ) → IsPersistentWith s kind n q → IsPersistentWith v kind n q
    along kind n q = kept_along s v kind n q (ap (λ h. header_only (heap_item_at h q)) is ∙ header_only-set_cell s.heap.now r 2 x q)

    itself : IsPersistentWith v Instance 5 r
    itself = along Instance 5 r pin.itself

    word : (j : ℕ) → (j ≡ 2 → ⊥) → word_at v r j ≡ word_at s r j
    word j other = let five = pin.itself.cells in other_word s v r 2 j x is (omega (arith, five)) other pin.itself.event itself.event

    maximum : word_at v r 1 ≡ word_at s r 1
    maximum = word 1 (λ e. absurd (omega (arith, e)))
