-- Values that are set in cells of arrays, of instances and of AID objects.
use Rattle.std.proofs.Common.{◌≡◌, ℕ, suc, ◌+◌, ◌*◌, ◌<◌, ◌≤◌, ◌==◌, true, false, List, [], ◌∷◌, length, get_or, refl, sym, ◌∙◌, ap, subst, arith, Option}
use Rattle.std.proofs.Common.{Some, None}
use Rattle.std.specs.Prelude.{is_none, slice_index}
use Rattle.std.proofs.lemmas.Bool.{and_parts, false≢true, eqb-true}
use Rattle.jc_transient.specs.declared.cell.ClearEvent.{ClearEvent}
use Rattle.jc_platform.specs.declared.names.PlatformClass.TheVariants.{Aid, OwnerPin}
use Rattle.jc_platform.specs.NamePlaces.{class_word}
use Rattle.jc_heap.specs.declared.object.Kind.{Kind}
use Rattle.jc_heap.specs.declared.object.Kind.TheVariants.{Instance}
use Rattle.jc_heap.specs.Heap.{HeapState, facts, set_cell, set_cells}
use Rattle.jc_heap.proofs.Laws.{facts-set_cell}
use Rattle.jc_linker.specs.Classes.{is_below, reference_cell, is_a}
use Rattle.jc_linker.specs.Values.{Packages}
use Rattle.jc_packages.specs.Objects.{is_bytes, is_instance, is_persistent_instance, is_object_address}
use Rattle.jc_packages.specs.Sound.{IsRegistered, entry_word}
use Rattle.law_soundness.specs.MemoryLaws.State.{IsSoundUpTo}
use Rattle.law_soundness.specs.MemoryLaws.Fit.{FitsCell}
use Rattle.law_soundness.proofs.HeapChanges.{Carries, IsSoundBut, but_one, reference_kept, with_one}
use Rattle.law_soundness.proofs.Cells.{CellFits, cell_carries, cell_kept}
use Rattle.law_code.proofs.SparedObjects.{SameApplets, applets-set_cell}
use Rattle.jc_world.proofs.Below.{below_itself}

-- the object of a registered AID
pub kept_aid : (p : Packages) (h : HeapState) (a r : ℕ) → IsRegistered p h a → entry_word h a 0 ≡ r
    → (is_persistent_instance (facts h r) ≡ true) × (is_a p (facts h r).class Aid ≡ true)
kept_aid p h a r old is =
    let at : ℕ = entry_word h a 0 in
    let aid = and_parts (is_object_address h at) _ old.aid in
    let holds = and_parts (is_persistent_instance (facts h at)) _ aid.1 in
    let class = and_parts ((facts h at).class == class_word p.platform Aid) _ holds.1 in
    let same : (facts h at).class ≡ class_word p.platform Aid = eqb-true _ _ class.0 in (
      subst (λ n. is_persistent_instance (facts h n) ≡ true) is holds.0,
      subst (λ n. is_a p (facts h n).class Aid ≡ true) is (ap (λ c. is_below p c (class_word p.platform Aid)) same
          ∙ below_itself p (class_word p.platform Aid)),
    )

-- a value that fits a cell goes on fitting it where every object stays, with the same header
pub fits_later : (p : Packages) (h g : HeapState) → Carries h g → (r i v : ℕ) → facts g r ≡ facts h r → FitsCell p h r i v → FitsCell p g r i v
fits_later p h g carries r i v same fits = record {
  reference = λ holds. reference_kept p h g carries v (fits.reference (sym (ap (λ f. reference_cell p f.class i) same) ∙ holds));
  aid = λ is. fits.aid (sym (ap (λ f. is_a p f.class Aid) same) ∙ is);
  pin = λ is. fits.pin (sym (ap (λ f. is_a p f.class OwnerPin) same) ∙ is);
}

module _ (x most own : ℕ) (p : Packages) where
  -- one value
  pub value_fits : (h : HeapState) (r i v : ℕ) → (is_persistent_instance (facts h r) ≡ true → FitsCell p h r i v) → IsSoundBut x most p h own
      → CellFits x p h r i v
  value_fits h r i v fits s = record {
    reference = λ kept is. (fits kept).reference is;
    first = λ kept is z. absurd (let n = (fits kept).aid is in omega (arith, n, z));
    pin = λ kept is ne. (fits kept).pin is;
    apart = λ a lt is. let aid = kept_aid p h a r (s.applets a lt) is in (fits aid.0).aid aid.1;
  }

  pub value_kept : (h : HeapState) (r i v : ℕ) → (is_persistent_instance (facts h r) ≡ true → FitsCell p h r i v) → IsSoundBut x most p h own
      → IsSoundBut x most p (set_cell h r i v) own
  value_kept h r i v fits s = cell_kept h r i v x most own p (value_fits h r i v fits s) s

  -- numbers of an array
  pub run_kept : (vs : List ℕ) (h : HeapState) (r i : ℕ) → is_persistent_instance (facts h r) ≡ false → IsSoundBut x most p h own
      → IsSoundBut x most p (set_cells h r i vs) own
  run_kept [] h r i none s = s
  run_kept (v ∷ vs) h r i none s = run_kept vs (set_cell h r i v) r (suc i) (ap is_persistent_instance (facts-set_cell h r i v r) ∙ none)
      (value_kept h r i v (λ kept. absurd (false≢true (sym none ∙ kept))) s)

  -- words of an instance, each of which fits
  pub fields_kept : (vs : List ℕ) (h : HeapState) (r i : ℕ) → ((k : ℕ) → k < length vs → FitsCell p h r (i + k) (slice_index vs k)) → IsSoundBut x most p h own
      → IsSoundBut x most p (set_cells h r i vs) own
  fields_kept [] h r i fits s = s
  fields_kept (v ∷ vs) h r i fits s = fields_kept vs (set_cell h r i v) r (suc i) (λ k lt. fits_later p h (set_cell h r i v) (cell_carries h r i v) r (suc i + k)
      (slice_index vs k) (facts-set_cell h r i v r) (subst (λ j. FitsCell p h r j (slice_index vs k)) (omega arith) (fits (suc k) (omega (arith, lt)))))
      (value_kept h r i v (λ kept. subst (λ j. FitsCell p h r j v) (omega arith) (fits 0 (omega arith))) s)

  -- the words of an AID, in an AID object that is no applet's
  pub aid_run_kept : (vs : List ℕ) (h : HeapState) (r i : ℕ) → i + length vs ≤ 9 → (i ≡ 0 → get_or vs 0 0 ≤ 16)
      → ((k : ℕ) → k < 9 → reference_cell p (facts h r).class k ≡ false) → is_a p (facts h r).class OwnerPin ≡ false →
      ((a : ℕ) → a < h.counts.1 → entry_word h a 0 ≡ r → ⊥) → IsSoundBut x most p h own → IsSoundBut x most p (set_cells h r i vs) own
  aid_run_kept [] h r i long first numbers pin apart s = s
  aid_run_kept (v ∷ vs) h r i long first numbers pin apart s =
      aid_run_kept vs (set_cell h r i v) r (suc i) (omega (arith, long)) (λ e. absurd (omega (arith, e)))
      (λ k lt. ap (λ f. reference_cell p f.class k) (facts-set_cell h r i v r) ∙ numbers k lt)
      (ap (λ f. is_a p f.class OwnerPin) (facts-set_cell h r i v r) ∙ pin)
      (λ a lt is. apart a (subst (λ n. a < n) same.0 lt) (sym (ap (λ l. get_or l (3 * a + 0) 0) same.1) ∙ is))
      (cell_kept h r i v x most own p (record {
        reference = λ kept is. absurd (false≢true (sym (numbers i (omega (arith, long))) ∙ is));
        first = λ kept is e. first e;
        pin = λ kept is ne. absurd (false≢true (sym pin ∙ is));
        apart = λ a lt is. absurd (apart a lt is);
      }) s)
    where
      same : SameApplets h (set_cell h r i v)
      same = applets-set_cell h r i v

-- where the right thing is said of all objects
module _ (most own : ℕ) (p : Packages) (h g : HeapState) where
  pub of_all : (IsSoundBut own most p h own → IsSoundBut own most p g own) → IsSoundUpTo most p h own → IsSoundUpTo most p g own
  of_all go s = with_one own most p g own (λ lt. absurd (omega (arith, lt))) (go (but_one own most p h own s))

pub none_of : (o : Option ClearEvent) → is_none o ≡ true → o ≡ None
none_of None e = refl
none_of (Some event) e = absurd (false≢true e)

pub bytes_other : (k : Kind) → is_bytes k ≡ true → is_instance k ≡ false
bytes_other Instance e = absurd (false≢true e)
bytes_other _ e = refl
