-- Places of which each gets a value that fits.
use Rattle.std.proofs.Common.{◌≡◌, ℕ, suc, ◌+◌, ◌<◌, ◌≤◌, ◌++◌, true, List, [], ◌∷◌, length, get_or, sym, ◌∙◌, ap, subst, arith}
use Rattle.std.proofs.lemmas.Bool.{and_parts, false≢true}
use Rattle.jc_heap.specs.declared.place.Place.{Place}
use Rattle.jc_heap.specs.declared.place.Place.TheVariants.{Cell, Static, Registry, AppletCount}
use Rattle.jc_heap.specs.Heap.{HeapState, facts, heap_item_at, set_cell}
use Rattle.jc_heap.specs.HeapLaws.{AreLegalValues}
use Rattle.jc_heap.specs.Place.{cell_changes, set_place, set_places}
use Rattle.jc_heap.specs.Statics.{IsStatic, set_word, statics_of}
use Rattle.jc_heap.proofs.Laws.{facts-set_cell, same_facts}
use Rattle.jc_heap.proofs.RecordWords.{header_only-set_word}
use Rattle.jc_memory.proofs.KeptImages.{record-set_cell}
use Rattle.jc_linker.specs.Values.{Packages}
use Rattle.jc_packages.specs.Objects.{is_bytes, is_instance, is_persistent_instance}
use Rattle.law_soundness.specs.MemoryLaws.Fit.{AreCellsOf, FitPlaces, FitsPlace, FitsStatic}
use Rattle.law_soundness.proofs.Cells.{cell_carries}
use Rattle.law_soundness.proofs.HeapChanges.{Carries, IsSoundBut, reference_kept}
use Rattle.law_soundness.proofs.Statics.{static_kept, static_stays, word_carries}
use Rattle.law_soundness.proofs.Transients.{names_object}
use Rattle.law_soundness.proofs.Values.{bytes_other, fits_later, value_kept}

module _ (p : Packages) (h : HeapState) where
  cell_later : (g : HeapState) → Carries h g → ((r : ℕ) → facts g r ≡ facts h r) → (r i v : ℕ) → FitsPlace p h (Cell r i) v → FitsPlace p g (Cell r i) v
  cell_later g carries same r i v fits = (
    (ap (λ f. f.event) (same r) ∙ fits.0.0, subst (λ n. i + 1 ≤ n) (sym (ap (λ f. f.length) (same r))) fits.0.1),
    (
      λ kept. fits_later p h g carries r i v (same r) (fits.1.0 (sym (ap is_persistent_instance (same r)) ∙ kept)),
      λ array. reference_kept p h g carries v (fits.1.1 (sym (ap (λ f. f.kind) (same r)) ∙ array)),
    ),
  )

  static_later : (r i v q j w : ℕ) → FitsStatic p h q j w → FitsStatic p (set_cell h r i v) q j w
  static_later r i v q j w fits =
      let carries : Carries h (set_cell h r i v) = cell_carries h r i v in
      record {
        there = subst (λ ws. IsStatic ws j) (sym (record-set_cell h r i v q)) fits.there;
        reference = λ k begin lt is image le. reference_kept p h (set_cell h r i v) carries w
            (fits.reference k begin (subst (λ l. k < length l) carries.packages lt) (sym (ap (λ l. get_or l k 0) carries.packages) ∙ is)
            (sym (ap statics_of (record-set_cell h r i v q)) ∙ image) le);
      }

  -- what fits a place still does once another place has got a value that fits
  place_later : (place : Place) (v : ℕ) (other : Place) (w : ℕ) → FitsPlace p h place v → FitsPlace p h other w → FitsPlace p (set_place h place v) other w
  place_later (Cell r i) v (Cell q k) w fits more = cell_later (set_cell h r i v) (cell_carries h r i v) (facts-set_cell h r i v) q k w more
  place_later (Cell r i) v (Static q j) w fits more = static_later r i v q j w more
  place_later (Static r j) v (Cell q k) w fits more = cell_later (set_word h r j v) (word_carries h r j v fits.there)
      (λ n. same_facts (heap_item_at (set_word h r j v) n) (heap_item_at h n) (header_only-set_word h r j v n)) q k w more
  place_later (Static r j) v (Static q i) w fits more = static_stays h r j v fits.there p q i w more
  place_later (Registry i) v other w fits more = absurd fits
  place_later AppletCount v other w fits more = absurd fits
  place_later place v (Registry i) w fits more = absurd more
  place_later place v AppletCount w fits more = absurd more

  places_later : (place : Place) (v : ℕ) (cs : List (Place × ℕ)) → FitsPlace p h place v → FitPlaces p h cs → FitPlaces p (set_place h place v) cs
  places_later place v [] fits more = tt
  places_later place v (c ∷ cs) fits more = (place_later place v c.0 c.1 fits more.0, places_later place v cs fits more.1)

  -- values that are elements of arrays of references refer
  pub places_suit : (cs : List (Place × ℕ)) → FitPlaces p h cs → AreLegalValues h cs
  places_suit [] fits = tt
  places_suit ((Cell r i, v) ∷ cs) fits = (λ array. names_object h v (fits.0.1.1 array), places_suit cs fits.1)
  places_suit ((Static r j, v) ∷ cs) fits = (tt, places_suit cs fits.1)
  places_suit ((Registry i, v) ∷ cs) fits = absurd fits.0
  places_suit ((AppletCount, v) ∷ cs) fits = absurd fits.0

  -- bytes fit elements of an array of bytes
  pub bytes_fit : (bytes : List ℕ) (array i : ℕ) (cs : List (Place × ℕ)) → is_bytes (facts h array).kind ≡ true → AreCellsOf h array (i + length bytes)
      → FitPlaces p h cs → FitPlaces p h (cell_changes array i bytes ++ cs)
  bytes_fit [] array i cs kind of more = more
  bytes_fit (b ∷ bytes) array i cs kind of more =
      let end = of.1 in (
        (
          (of.0, omega (arith, end)),
          (
            λ kept. absurd (false≢true (sym (bytes_other (facts h array).kind kind) ∙ (and_parts (is_instance (facts h array).kind) _ kept).0)),
            λ references. absurd (false≢true (sym (ap is_bytes references) ∙ kind)),
          ),
        ),
        bytes_fit bytes array (suc i) cs kind (of.0, omega (arith, end)) more,
      )

-- and leaves a heap that fits the packages fitting them
module _ (x most own : ℕ) (p : Packages) where
  place_kept : (h : HeapState) (place : Place) (v : ℕ) → FitsPlace p h place v → IsSoundBut x most p h own → IsSoundBut x most p (set_place h place v) own
  place_kept h (Cell r i) v fits s = value_kept x most own p h r i v fits.1.0 s
  place_kept h (Static r j) v fits s = static_kept x most own p h r j v fits s
  place_kept h (Registry i) v fits s = absurd fits
  place_kept h AppletCount v fits s = absurd fits

  pub places_kept : (h : HeapState) (cs : List (Place × ℕ)) → FitPlaces p h cs → IsSoundBut x most p h own → IsSoundBut x most p (set_places h cs) own
  places_kept h [] fits s = s
  places_kept h (c ∷ cs) fits s =
      places_kept (set_place h c.0 c.1) cs (places_later p h c.0 c.1 cs fits.0 fits.1) (place_kept h c.0 c.1 fits.0 s)
