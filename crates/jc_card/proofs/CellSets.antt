-- What powering up found of a heap, once a cell of it is set.
use Rattle.std.proofs.Common.{◌≡◌, ◌∙◌, ℕ, zero, suc, Bool, List, [], ◌∷◌, Option, Some, length, map, refl, sym, ap, subst, if◌then◌else◌, ◌&&◌, ◌==◌, true, false, nat_lt}
use Rattle.std.specs.Prelude.{unwrap_or, Ok}
use Rattle.std.specs.List.{range_with_len}
use Rattle.std.proofs.Math.Path.{fun_ext}
use Rattle.jc_transient.specs.declared.sizes.RamSizes.{RamSizes}
use Rattle.jc_heap.specs.declared.object.Facts.{Facts}
use Rattle.jc_heap.specs.Object.{AnObject, APackage, Item, is_object, with_cell}
use Rattle.jc_heap.specs.Walk.{entry_or, with_entry}
use Rattle.jc_heap.specs.Heap.{HeapState, area_sizes, facts, first_above, heap_item_at, next_object, set_cell}
use Rattle.jc_heap.proofs.Laws.{facts-set_cell}
use Rattle.jc_heap.proofs.Keeping.{cell_whole}
use Rattle.jc_image.specs.Beginning.{HeadersFollow, HeapBeginsWith}
use Rattle.jc_linker.specs.Values.{Packages}
use Rattle.jc_packages.specs.Objects.{IsSoundObject}
use Rattle.jc_packages.specs.Sound.{IsSound}
use Rattle.jc_packages.proofs.SetCells.{linked_same, marks_same, still_sound}
use Rattle.jc_platform.specs.Table.{Reads}
use Rattle.jc_platform.specs.Tokens.{Tokens}
use Rattle.jc_environment.specs.Objects.{fixed_count, sized_objects}
use Rattle.jc_card.specs.Fixed.{BeginsWithFixed, buffer_cells, fixed_facts, fixed_of, last_fixed, next_or_null, object_number}
use Rattle.jc_card.specs.PoweredImage.{IsFoundIn, MayHold}

-- an object in place of an object changes nothing of what is found
found_put : (z : Item) (es : List (ℕ × Item)) (p : ℕ) (x : Item) (r : ℕ) → is_object x ≡ is_object (entry_or z es p)
    → first_above (with_entry es p x) r ≡ first_above es r
found_put z [] p x r e = refl
found_put z (d ∷ es) p x r e = go (d.0 == p) e (λ f. found_put z es p x r f)
  where
    go : (b : Bool) → is_object x ≡ is_object (if b then d.1 else entry_or z es p)
        → (is_object x ≡ is_object (entry_or z es p) → first_above (with_entry es p x) r ≡ first_above es r) →
        first_above (if b then (d.0, x) ∷ es else d ∷ with_entry es p x) r ≡ (if nat_lt r d.0 && is_object d.1 then Some d.0 else first_above es r)
    go true f rest = ap (λ o. if nat_lt r d.0 && o then Some d.0 else first_above es r) f
    go false f rest = ap (λ l. if nat_lt r d.0 && is_object d.1 then Some d.0 else l) (rest f)

object-with_cell : (t : Item) (i v : ℕ) → is_object (with_cell t i v) ≡ is_object t
object-with_cell (AnObject o) i v = refl
object-with_cell (APackage ws) i v = refl

module _ (h : HeapState) (r i v : ℕ) where
  abbrev g : HeapState
  g = set_cell h r i v

  next_same : (q : ℕ) → next_object g q ≡ next_object h q
  unfolding next_object set_cell heap_item_at
  next_same q = found_put (APackage []) h.items r (with_cell (heap_item_at h r) i v) q (object-with_cell (heap_item_at h r) i v)

  number_same : (k : ℕ) → object_number g k ≡ object_number h k
  unfolding object_number
  number_same zero = refl
  number_same (suc k) = ap (λ (o : Option ℕ). unwrap_or o 0) (next_same (object_number g k)) ∙ ap (next_or_null h) (number_same k)

  follow_same : (q : ℕ) (fs : List Facts) → HeadersFollow h q fs → HeadersFollow g q fs
  follow_same q [] is = tt
  follow_same q (f ∷ fs) is = (is.0, next_same q ∙ is.1, facts-set_cell h r i v is.0 ∙ is.2, follow_same is.0 fs is.3)

  cells_same : buffer_cells g ≡ buffer_cells h
  unfolding set_cell
  cells_same = refl

  begins_same : (t : Tokens) → BeginsWithFixed t h → BeginsWithFixed t g
  unfolding HeapBeginsWith
  begins_same t is = subst (λ (n : ℕ). HeadersFollow g 0 (fixed_facts t 0 (sized_objects t n))) (sym cells_same)
      (follow_same 0 (fixed_facts t 0 (sized_objects t (buffer_cells h))) is)

  fixed_same : (t : Tokens) → fixed_of t g ≡ fixed_of t h
  fixed_same t = ap (λ (f : ℕ → ℕ). map f (range_with_len 1 (fixed_count t))) (fun_ext number_same)

  -- what is said of the words that no change of a cell touches
  text_same : (t : Tokens) → Reads h.text (Ok t) → Reads g.text (Ok t)
  unfolding set_cell
  text_same t is = is

  head_same : (n : ℕ) → h.head.0 ≡ n → g.head.0 ≡ n
  unfolding set_cell
  head_same n is = is

  sizes_same : (sizes : RamSizes) → sizes ≡ area_sizes h → sizes ≡ area_sizes g
  unfolding set_cell
  sizes_same sizes is = is

  pub found_still : (marks : List Bool) (p : Packages) (fixed : List ℕ) (sizes : RamSizes) → MayHold p h r i v → IsSoundObject p g r
      → IsFoundIn h marks p fixed sizes → IsFoundIn g marks p fixed sizes
  found_still marks p fixed sizes may new is = record {
    magic = head_same _ is.magic;
    whole = cell_whole h r i v may.reference is.whole;
    tokens = is.tokens;
    reads = text_same is.tokens is.reads;
    begins = begins_same is.tokens is.begins;
    linked = linked_same h r i v is.tokens ∙ is.linked;
    sound = subst (IsSound p g) (sym (number_same (fixed_count is.tokens))) (still_sound h r i v p may.other (last_fixed is.tokens h) new is.sound);
    fixed = is.fixed ∙ sym (fixed_same is.tokens);
    sizes = sizes_same sizes is.sizes;
    long = is.long;
    marked = marks_same h r i v marks is.marked;
  }
