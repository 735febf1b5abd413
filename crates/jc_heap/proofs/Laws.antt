-- What a heap answers after a change.
use Rattle.std.proofs.Common.{◌≡◌, ℕ, ◌+◌, ◌<◌, ◌≤◌, true, false, inl, inr, List, [], length, drop, set, replicate, refl, sym, ◌∙◌, ap, subst, arith}
use Rattle.std.proofs.Common.{if◌then◌else◌}
use Rattle.std.proofs.lemmas.List.{length-set, length-replicate, length-drop}
use Rattle.std.proofs.lemmas.Bool.{cases_Bool, cases_eq, cases_lt, lt-ltb, le-ltb, false≢true}
use Rattle.jc_heap.specs.Walk.{entry_or, has_entry}
use Rattle.jc_heap.specs.Object.{Object, Item, AnObject, APackage, is_object, cells_of, with_cell, header_only, facts_of}
use Rattle.jc_heap.specs.Image.{image, base, package_addresses, sizes, records, item}
use Rattle.jc_heap.specs.Heap.{HeapState, IsObject, read_image, heap_of, heap_item_at, cells, facts, is_allocated, set_cell, add_object, SameShape}
use Rattle.jc_heap.specs.Heap.{KeepsBelowTop}
use Rattle.jc_heap.proofs.Tables.{at_or-put_same, at_or-put_other, has-put, at_or-push_same, at_or-push_other, has-push, has-map, at_or-absent, put-absent}
use Rattle.jc_heap.proofs.Records.{has_entry-cut_below}

header_only-with_cell : (t : Item) (i v : ℕ) → header_only (with_cell t i v) ≡ header_only t
header_only-with_cell (AnObject o) i v = ap (λ n. AnObject (record o { cells = replicate n 0 })) (length-set o.cells i v)
header_only-with_cell (APackage ws) i v = refl

-- an item has as many cells as its bare form
length-header_only : (t : Item) → length (cells_of (header_only t)) ≡ length (cells_of t)
length-header_only (AnObject o) = length-replicate {A = ℕ} (length o.cells) 0
length-header_only (APackage ws) = refl

facts-header_only : (t : Item) → facts_of (header_only t) ≡ facts_of t
facts-header_only (AnObject o) = refl
facts-header_only (APackage ws) = refl

pub same_length : (a b : Item) → header_only a ≡ header_only b → length (cells_of a) ≡ length (cells_of b)
same_length a b e = sym (length-header_only a) ∙ ap (λ t. length (cells_of t)) e ∙ length-header_only b

pub same_facts : (a b : Item) → header_only a ≡ header_only b → facts_of a ≡ facts_of b
same_facts a b e = sym (facts-header_only a) ∙ ap facts_of e ∙ facts-header_only b

-- a name with cells stands for something
pub names_cells : (h : HeapState) (r i : ℕ) → i < length (cells h r) → is_allocated h r ≡ true
unfolding heap_item_at is_allocated
names_cells h r i le = elim (cases_Bool (has_entry h.items r)) [
  | inl e ↦ e
  | inr e ↦ let none : i < 0 = subst (λ t. i < length (cells_of t)) (at_or-absent (APackage []) h.items r e) le in absurd (omega arith)
]

pub heap_item_at-absent : (h : HeapState) (r : ℕ) → is_allocated h r ≡ false → heap_item_at h r ≡ APackage []
unfolding heap_item_at is_allocated
heap_item_at-absent h r e = at_or-absent (APackage []) h.items r e

pub set_cell-absent : (h : HeapState) (r i v : ℕ) → is_allocated h r ≡ false → set_cell h r i v ≡ h
unfolding is_allocated set_cell
set_cell-absent h r i v e = ap (λ l. record h { items = l }) (put-absent h.items r (with_cell (heap_item_at h r) i v) e)

pub heap_item_at-set_cell : (h : HeapState) (r i v : ℕ) → is_allocated h r ≡ true → heap_item_at (set_cell h r i v) r ≡ with_cell (heap_item_at h r) i v
unfolding heap_item_at is_allocated set_cell
heap_item_at-set_cell h r i v e = at_or-put_same (APackage []) h.items r (with_cell (entry_or (APackage []) h.items r) i v) e

pub heap_item_at-set_other : (h : HeapState) (r i v q : ℕ) → (r ≡ q → ⊥) → heap_item_at (set_cell h r i v) q ≡ heap_item_at h q
unfolding heap_item_at set_cell
heap_item_at-set_other h r i v q n = at_or-put_other (APackage []) h.items r q (with_cell (entry_or (APackage []) h.items r) i v) n

pub is_allocated-set_cell : (h : HeapState) (r i v q : ℕ) → is_allocated (set_cell h r i v) q ≡ is_allocated h q
unfolding is_allocated set_cell
is_allocated-set_cell h r i v q = has-put h.items r q (with_cell (heap_item_at h r) i v)

pub top-set_cell : (h : HeapState) (r i v : ℕ) → (set_cell h r i v).top ≡ h.top
unfolding set_cell
top-set_cell h r i v = refl

pub header_only-set_cell : (h : HeapState) (r i v q : ℕ) → header_only (heap_item_at (set_cell h r i v) q) ≡ header_only (heap_item_at h q)
header_only-set_cell h r i v q = elim (cases_eq r q) [
  | inl is ↦ elim (cases_Bool (is_allocated h r)) [
    | inl e ↦ ap (λ p. header_only (heap_item_at (set_cell h r i v) p)) (sym is) ∙ ap header_only (heap_item_at-set_cell h r i v e)
        ∙ header_only-with_cell (heap_item_at h r) i v ∙ ap (λ p. header_only (heap_item_at h p)) is
    | inr e ↦ ap (λ g. header_only (heap_item_at g q)) (set_cell-absent h r i v e)
  ]
  | inr n ↦ ap header_only (heap_item_at-set_other h r i v q n)
]

pub cells-with_cell : (t : Item) (i v : ℕ) → cells_of (with_cell t i v) ≡ set (cells_of t) i v
cells-with_cell (AnObject o) i v = refl
cells-with_cell (APackage ws) i v = refl

-- the laws for the layers above: a cell that is set, the other objects, the headers
pub cells-set_cell : (h : HeapState) (r i v : ℕ) → i < length (cells h r) → cells (set_cell h r i v) r ≡ set (cells h r) i v
cells-set_cell h r i v le = ap cells_of (heap_item_at-set_cell h r i v (names_cells h r i le)) ∙ cells-with_cell (heap_item_at h r) i v

pub cells-set_other : (h : HeapState) (r i v q : ℕ) → (r ≡ q → ⊥) → cells (set_cell h r i v) q ≡ cells h q
cells-set_other h r i v q n = ap cells_of (heap_item_at-set_other h r i v q n)

pub length-cells-set_cell : (h : HeapState) (r i v q : ℕ) → length (cells (set_cell h r i v) q) ≡ length (cells h q)
length-cells-set_cell h r i v q = same_length _ _ (header_only-set_cell h r i v q)

pub facts-set_cell : (h : HeapState) (r i v q : ℕ) → facts (set_cell h r i v) q ≡ facts h q
facts-set_cell h r i v q = same_facts _ _ (header_only-set_cell h r i v q)

-- a new object, where nothing stands at the top
pub heap_item_at-add_object : (h : HeapState) (o : Object) (n : ℕ) → is_allocated h h.top ≡ false → heap_item_at (add_object h o n) h.top ≡ AnObject o
unfolding heap_item_at is_allocated add_object
heap_item_at-add_object h o n e = at_or-push_same (APackage []) h.items h.top (AnObject o) e

pub heap_item_at-add_other : (h : HeapState) (o : Object) (n q : ℕ) → (h.top ≡ q → ⊥) → heap_item_at (add_object h o n) q ≡ heap_item_at h q
unfolding heap_item_at add_object
heap_item_at-add_other h o n q ne = at_or-push_other (APackage []) h.items h.top q (AnObject o) ne

pub top-add_object : (h : HeapState) (o : Object) (n : ℕ) → (add_object h o n).top ≡ h.top + n
unfolding add_object
top-add_object h o n = refl

-- nothing stands at or above the top
pub is_allocated-heap_of : (ws : List ℕ) (r : ℕ) → base (image ws) ≤ length (image ws) → length (image ws) ≤ r → is_allocated (heap_of ws) r ≡ false
unfolding is_allocated read_image
is_allocated-heap_of ws r based le =
    has-map (item (package_addresses (image ws))) (records (image ws)) r
    ∙ has_entry-cut_below (sizes (package_addresses (image ws))) 0 (base (image ws)) (drop (base (image ws)) (image ws)) r
    (omega (arith, length-drop (base (image ws)) (image ws)))

pub is_allocated-add_other : (h : HeapState) (o : Object) (n q : ℕ) → (h.top ≡ q → ⊥) → is_allocated (add_object h o n) q ≡ is_allocated h q
unfolding is_allocated add_object
is_allocated-add_other h o n q ne = has-push h.items h.top q (AnObject o) ne

-- so do the words that no change touches
lasting-set_cell : (h : HeapState) (r i v : ℕ) → (set_cell h r i v).lasting ≡ h.lasting
unfolding set_cell
lasting-set_cell h r i v = refl

lasting-add_object : (h : HeapState) (o : Object) (n : ℕ) → (add_object h o n).lasting ≡ h.lasting
unfolding add_object
lasting-add_object h o n = refl

-- shapes stay
pub shape-set : (d h : HeapState) (r i v : ℕ) → SameShape d h → SameShape d (set_cell h r i v)
shape-set d h r i v s = record {
  items = λ q le. header_only-set_cell h r i v q ∙ s.items q le;
  names = λ q le. is_allocated-set_cell h r i v q ∙ s.names q le;
  lasting = lasting-set_cell h r i v ∙ s.lasting;
}

pub shape-set_both : (d h : HeapState) (r i v : ℕ) → SameShape d h → SameShape (set_cell d r i v) (set_cell h r i v)
shape-set_both d h r i v s = record {
  items = λ q le. header_only-set_cell h r i v q ∙ s.items q (subst (λ n. q < n) (top-set_cell d r i v) le) ∙ sym (header_only-set_cell d r i v q);
  names = λ q le. is_allocated-set_cell h r i v q ∙ s.names q (subst (λ n. q < n) (top-set_cell d r i v) le) ∙ sym (is_allocated-set_cell d r i v q);
  lasting = lasting-set_cell h r i v ∙ s.lasting ∙ sym (lasting-set_cell d r i v);
}

pub shape-add : (d h : HeapState) (o : Object) (n : ℕ) → d.top ≤ h.top → SameShape d h → SameShape d (add_object h o n)
shape-add d h o n le s = record {
  items = λ q lt. ap header_only (heap_item_at-add_other h o n q (λ e. omega arith)) ∙ s.items q lt;
  names = λ q lt. is_allocated-add_other h o n q (λ e. omega arith) ∙ s.names q lt;
  lasting = lasting-add_object h o n ∙ s.lasting;
}

-- what an abort leaves of the names
pub keeps_below_top : (old : HeapState) (ws : List ℕ) → SameShape (heap_of ws) old → base (image ws) ≤ length (image ws) → KeepsBelowTop old (heap_of ws)
unfolding read_image
keeps_below_top old ws s based r = elim (cases_lt r (length (image ws))) [
  | inl below ↦ sym (s.names r below) ∙ ap (λ b. if b then is_allocated old r else false) (sym (lt-ltb r (length (image ws)) below))
  | inr above ↦ is_allocated-heap_of ws r based above ∙ ap (λ b. if b then is_allocated old r else false) (sym (le-ltb r (length (image ws)) above))
]

-- an object is what stands at an address and is no package
pub object_named : (h : HeapState) (r : ℕ) → IsObject h r → is_allocated h r ≡ true
object_named h r there = elim (cases_Bool (is_allocated h r)) [
  | inl e ↦ e
  | inr e ↦ absurd (false≢true (ap is_object (sym (heap_item_at-absent h r e)) ∙ there))
]

-- for `grind` in the layers above
pub ruleset heap_laws = (cells-set_cell, cells-set_other, facts-set_cell, length-cells-set_cell)
