-- A cell of an object is set.
use Rattle.std.proofs.Common.{◌≡◌, ℕ, ◌<◌, ◌≤◌, ◌||◌, true, inl, inr, length, set, get_or, refl, sym, ◌∙◌, ap, subst, arith, nat_le}
use Rattle.std.specs.Prelude.{not}
use Rattle.std.proofs.lemmas.List.{get_or-set_same, get_or-set_other}
use Rattle.std.proofs.lemmas.Bool.{and_parts, cases_Bool, cases_eq, or_left, or_right, not_from_false, leb-true, le-leb}
use Rattle.jc_platform.specs.declared.names.PlatformClass.TheVariants.{Aid, OwnerPin}
use Rattle.jc_heap.specs.Object.{cells_of, is_object}
use Rattle.jc_heap.specs.Heap.{HeapState, IsObject, cells, facts, heap_item_at, set_cell}
use Rattle.jc_heap.proofs.Laws.{header_only-set_cell, cells-set_other, cells-with_cell, facts-set_cell, heap_item_at-set_cell}
use Rattle.jc_heap.proofs.Laws.{length-cells-set_cell, object_named}
use Rattle.jc_heap.proofs.Keeping.{object-header_only}
use Rattle.jc_memory.proofs.KeptImages.{record-set_cell}
use Rattle.jc_linker.specs.Classes.{reference_cell, is_a}
use Rattle.jc_linker.specs.Values.{Packages}
use Rattle.jc_packages.specs.Objects.{HoldsReferences, fits_aid, fits_pin, is_persistent_instance, is_reference, is_object_address}
use Rattle.jc_packages.specs.Sound.{entry_word}
use Rattle.jc_packages.proofs.Lists.{first_set}
use Rattle.law_soundness.proofs.HeapChanges.{AidsStay, Carries, HoldsBut, IsFitBut, IsSoundBut, object_kept, object_new, pin_kept, pin_same, records_kept}
use Rattle.law_soundness.proofs.HeapChanges.{reference_kept, sound_kept}
use Rattle.law_code.proofs.SparedObjects.{applets-set_cell}

-- what is set in a cell fits it; of one object, a PIN's cells need not say the right thing of one another
pub record CellFits (x : ℕ) (p : Packages) (h : HeapState) (r i v : ℕ) : Type 0 where
  pub reference : is_persistent_instance (facts h r) ≡ true → reference_cell p (facts h r).class i ≡ true → is_reference h v ≡ true
  pub first : is_persistent_instance (facts h r) ≡ true → is_a p (facts h r).class Aid ≡ true → i ≡ 0 → v ≤ 16
  pub pin : is_persistent_instance (facts h r) ≡ true → is_a p (facts h r).class OwnerPin ≡ true → (r ≡ x → ⊥) → 5 ≤ i
  pub apart : (a : ℕ) → a < h.counts.1 → entry_word h a 0 ≡ r → 9 ≤ i

packages-set_cell : (h : HeapState) (r i v : ℕ) → (set_cell h r i v).packages ≡ h.packages
unfolding set_cell
packages-set_cell h r i v = refl

module _ (h : HeapState) (r i v : ℕ) where
  stood : (q : ℕ) → IsObject (set_cell h r i v) q → IsObject h q
  stood q o = sym (object-header_only (heap_item_at h q)) ∙ ap is_object (sym (header_only-set_cell h r i v q))
      ∙ object-header_only (heap_item_at (set_cell h r i v) q) ∙ o

  pub cell_carries : Carries h (set_cell h r i v)
  cell_carries = record {
    there = λ q o. sym (object-header_only (heap_item_at (set_cell h r i v) q)) ∙ ap is_object (header_only-set_cell h r i v q)
        ∙ object-header_only (heap_item_at h q) ∙ o;
    same = λ q o. facts-set_cell h r i v q;
    packages = packages-set_cell h r i v;
  }

  pub cells_set : IsObject h r → cells (set_cell h r i v) r ≡ set (cells h r) i v
  cells_set there = ap cells_of (heap_item_at-set_cell h r i v (object_named h r there)) ∙ cells-with_cell (heap_item_at h r) i v

  module _ (x most own : ℕ) (p : Packages) (fits : CellFits x p h r i v) where
    abbrev g : HeapState
    g = set_cell h r i v

    held : IsObject h r → HoldsBut x p h r → is_persistent_instance (facts h r) ≡ true → HoldsBut x p g r
    held there old kept = record { references = references; aid = aid; pin = pin }
      where
        references : HoldsReferences p g r
        references k lt is =
            let refers : reference_cell p (facts h r).class k ≡ true = ap (λ f. reference_cell p f.class k) (sym (facts-set_cell h r i v r)) ∙ is in
            let within : k < length (cells h r) = omega (arith, lt, length-cells-set_cell h r i v r) in
            elim (cases_eq k i) [
              | inl e ↦
                  let value : get_or (cells g r) k 0 ≡ v = ap (λ l. get_or l k 0) (cells_set there) ∙ ap (λ n. get_or (set (cells h r) n v) k 0) (sym e)
                  ∙ get_or-set_same (cells h r) k v 0 within in
                  ap (is_reference g) value ∙ reference_kept p h g cell_carries v (fits.reference kept
                  (ap (reference_cell p (facts h r).class) (sym e) ∙ refers))
              | inr ne ↦
                  let value : get_or (cells g r) k 0 ≡ get_or (cells h r) k 0 = ap (λ l. get_or l k 0) (cells_set there)
                  ∙ get_or-set_other (cells h r) i k v 0 ne in
                  ap (is_reference g) value ∙ reference_kept p h g cell_carries (get_or (cells h r) k 0) (old.references k within refers)
            ]

        aid_held : is_a p (facts h r).class Aid ≡ true → get_or (set (cells h r) i v) 0 0 ≤ 16
        aid_held is = elim (cases_eq 0 i) [
          | inl e ↦ subst (λ n. get_or (set (cells h r) n v) 0 0 ≤ 16) e (first_set (cells h r) v 16 (fits.first kept is (sym e)))
          | inr ne ↦ subst (λ n. n ≤ 16) (sym (get_or-set_other (cells h r) i 0 v 0 ne)) (leb-true (get_or (cells h r) 0 0) 16 (short is old.aid))
        ]
          where
            short : is_a p (facts h r).class Aid ≡ true → (not (is_a p (facts h r).class Aid) || nat_le (get_or (cells h r) 0 0) 16) ≡ true
                → nat_le (get_or (cells h r) 0 0) 16 ≡ true
            short is e = rw is at e

        aid : fits_aid p (facts g r).class (cells g r) ≡ true
        aid = (λ t. fits_aid p (facts-set_cell h r i v r t).class (cells_set there t)) ∙ elim (cases_Bool (is_a p (facts h r).class Aid)) [
          | inl is ↦ or_right (not (is_a p (facts h r).class Aid)) _ (le-leb (get_or (set (cells h r) i v) 0 0) 16 (aid_held is))
          | inr none ↦ or_left (not (is_a p (facts h r).class Aid)) _ (not_from_false (is_a p (facts h r).class Aid) none)
        ]

        other : (k : ℕ) → k < 5 → 5 ≤ i → get_or (set (cells h r) i v) k 0 ≡ get_or (cells h r) k 0
        other k lt le = get_or-set_other (cells h r) i k v 0 (λ e. omega (arith, lt, le, e))

        pin : (r ≡ x → ⊥) → fits_pin p g (facts g r).class (cells g r) ≡ true
        pin ne = (λ t. fits_pin p g (facts-set_cell h r i v r t).class (cells_set there t)) ∙ elim (cases_Bool (is_a p (facts h r).class OwnerPin)) [
          | inl is ↦
              let behind : 5 ≤ i = fits.pin kept is ne in
              pin_same p g (facts h r).class (set (cells h r) i v) (cells h r) (other 1 (omega arith) behind) (other 3 (omega arith) behind)
              (other 4 (omega arith) behind)
              ∙ pin_kept p h g cell_carries (facts h r).class (cells h r) (old.pin ne)
          | inr none ↦ or_left (not (is_a p (facts h r).class OwnerPin)) _ (not_from_false (is_a p (facts h r).class OwnerPin) none)
        ]

    cell_objects : IsSoundBut x most p h own → (q : ℕ) → own < q → IsObject g q → IsFitBut x most p g q
    cell_objects s q above there =
        let old : IsObject h q = stood q there in
        elim (cases_eq r q) [
          | inl e ↦ subst (IsFitBut x most p g) e
              (object_new p h g cell_carries x most r (subst (IsObject h) (sym e) old) (length-cells-set_cell h r i v r)
              (subst (IsFitBut x most p h) (sym e) (s.objects q above old)) (held (subst (IsObject h) (sym e) old)))
          | inr ne ↦ object_kept p h g cell_carries x most q old (cells-set_other h r i v q ne) (s.objects q above old)
        ]

    cell_aids : IsSoundBut x most p h own → AidsStay h g
    cell_aids s a lt k low = elim (cases_eq r (entry_word h a 0)) [
      | inl e ↦
          let there : IsObject h r = subst (IsObject h) (sym e) (and_parts (is_object_address h (entry_word h a 0)) _ (s.applets a lt).aid).0 in
          let behind : 9 ≤ i = fits.apart a lt (sym e) in
          subst (λ n. get_or (cells g n) k 0 ≡ get_or (cells h n) k 0) e (ap (λ l. get_or l k 0) (cells_set there)
          ∙ get_or-set_other (cells h r) i k v 0 (λ same. omega (arith, same, low, behind)))
      | inr ne ↦ ap (λ l. get_or l k 0) (cells-set_other h r i v (entry_word h a 0) ne)
    ]

    pub cell_kept : IsSoundBut x most p h own → IsSoundBut x most p (set_cell h r i v) own
    cell_kept s = sound_kept p h g cell_carries (applets-set_cell h r i v) (cell_aids s) x most own (cell_objects s)
        (records_kept p h g cell_carries s.statics (λ k lt. record-set_cell h r i v (get_or h.packages k 0))) s
