-- Why no image is made: each cause shuts out the others, so that a fault comes exactly where its cause is.
use Rattle.std.proofs.Common.{arith, ◌≡◌, ◌↔◌, ◌+◌, ◌<◌, ℕ, List, Ok, Err, length, refl, ap, subst, sym}
use Rattle.std.specs.Prelude.{Bool, Result}
use Rattle.jc_words.specs.Refusals.{Refusals}
use Rattle.jc_platform.specs.Table.{Reads}
use Rattle.jc_platform.specs.Tokens.{Tokens}
use Rattle.jc_platform.specs.declared.fault.TableFault.{TableFault}
use Rattle.jc_platform.specs.declared.fault.TableFault.TheVariants.{BadTable as BadLine}
use Rattle.jc_environment.specs.Objects.{fixed_size}
use Rattle.jc_image.specs.declared.laying.ImageRoom.{ImageRoom}
use Rattle.jc_image.specs.Laying.{first_free}
use Rattle.jc_words.specs.Image.{heap_end}
use Rattle.jc_platform.proofs.OneAnswer.{no_fault, one_fault, one_table}
use Rattle.jc_card.specs.Formatting.{FitsImage, FormatRefuses, Formats}
use Rattle.jc_card.specs.declared.formatting.FormatFault.{FormatFault}
use Rattle.jc_card.specs.declared.formatting.FormatFault.TheVariants.{StoreDown, BadSize, BadCapacity, BadCells, BadTable, TooSmall}

-- the line of a table's fault
pub line_refused : (line_of : TableFault → ℕ) → ((k : ℕ) → line_of (BadLine k) ≡ k) → (fault : TableFault) → (text : List ℕ) → Reads text (Err fault)
    → Reads text (Err (BadLine (line_of fault)))
line_refused line_of is (BadLine k) text refused = subst (λ m. Reads text (Err (BadLine m))) (sym (is k)) refused

module _ (n : ℕ) (room : ImageRoom) (text : List ℕ) where
  -- what fits has no cause
  fits_all : (fault : FormatFault) → (fault ≡ StoreDown → ⊥) → (t : Tokens) → FitsImage n room text t → FormatRefuses fault n room text → ⊥
  fits_all StoreDown other t fits cause = other refl
  fits_all BadSize other t fits cause = omega (arith, fits.enough, cause)
  fits_all BadCapacity other t fits cause = cause.1 fits.entries
  fits_all BadCells other t fits cause = cause.2 fits.sizes
  fits_all (BadTable line) other t fits cause = no_fault text t (BadLine line) fits.reads cause.3
  fits_all TooSmall other t fits cause =
      let same : cause.3.0 ≡ t = one_table text cause.3.0 t cause.3.1 fits.reads in
      let small : heap_end n room.capacity < first_free (length text) + fixed_size t =
      subst (λ u. heap_end n room.capacity < first_free (length text) + fixed_size u) same cause.3.2 in
      omega (arith, fits.space, small)

  one_cause : (f g : FormatFault) → (g ≡ StoreDown → ⊥) → FormatRefuses f n room text → FormatRefuses g n room text → f ≡ g
  one_cause StoreDown g other a b = absurd (fits_all g other a.0 a.1 b)
  one_cause BadSize StoreDown other a b = absurd (other refl)
  one_cause BadSize BadSize other a b = refl
  one_cause BadSize BadCapacity other a b = absurd (omega (arith, a, b.0))
  one_cause BadSize BadCells other a b = absurd (omega (arith, a, b.0))
  one_cause BadSize (BadTable line) other a b = absurd (omega (arith, a, b.0))
  one_cause BadSize TooSmall other a b = absurd (omega (arith, a, b.0))
  one_cause BadCapacity StoreDown other a b = absurd (other refl)
  one_cause BadCapacity BadSize other a b = absurd (omega (arith, a.0, b))
  one_cause BadCapacity BadCapacity other a b = refl
  one_cause BadCapacity BadCells other a b = absurd (a.1 b.1)
  one_cause BadCapacity (BadTable line) other a b = absurd (a.1 b.1)
  one_cause BadCapacity TooSmall other a b = absurd (a.1 b.1)
  one_cause BadCells StoreDown other a b = absurd (other refl)
  one_cause BadCells BadSize other a b = absurd (omega (arith, a.0, b))
  one_cause BadCells BadCapacity other a b = absurd (b.1 a.1)
  one_cause BadCells BadCells other a b = refl
  one_cause BadCells (BadTable line) other a b = absurd (a.2 b.2)
  one_cause BadCells TooSmall other a b = absurd (a.2 b.2)
  one_cause (BadTable k) StoreDown other a b = absurd (other refl)
  one_cause (BadTable k) BadSize other a b = absurd (omega (arith, a.0, b))
  one_cause (BadTable k) BadCapacity other a b = absurd (b.1 a.1)
  one_cause (BadTable k) BadCells other a b = absurd (b.2 a.2)
  one_cause (BadTable k) (BadTable line) other a b =
      let one : BadLine k ≡ BadLine line = one_fault text (BadLine k) (BadLine line) a.3 b.3 in
      let same : k ≡ line = cc in
      ap BadTable same
  one_cause (BadTable k) TooSmall other a b = absurd (no_fault text b.3.0 (BadLine k) b.3.1 a.3)
  one_cause TooSmall StoreDown other a b = absurd (other refl)
  one_cause TooSmall BadSize other a b = absurd (omega (arith, a.0, b))
  one_cause TooSmall BadCapacity other a b = absurd (b.1 a.1)
  one_cause TooSmall BadCells other a b = absurd (b.2 a.2)
  one_cause TooSmall (BadTable line) other a b = absurd (no_fault text a.3.0 (BadLine line) a.3.1 b.3)
  one_cause TooSmall TooSmall other a b = refl

-- any fault but a refused write comes exactly where its cause is
pub told : {S : Type 0} (words : S → List ℕ) (down : S → Bool) (passed : S → ℕ) (refusals : S → Refusals) (old : S) (room : ImageRoom) (text : List ℕ) (new : S)
    (r : Result (Unit {0}) FormatFault) (fault : FormatFault) → (fault ≡ StoreDown → ⊥) → Formats words down passed refusals old room text new r
    → (r ≡ Err fault) ↔ FormatRefuses fault (length (words old)) room text
told words down passed refusals old room text new (Ok done) fault other came =
    (λ e. absurd (cc), λ cause. absurd (fits_all (length (words old)) room text fault other came.0 came.1 cause))
told words down passed refusals old room text new (Err found) fault other came = (
  λ e. let same : found ≡ fault = cc in subst (λ f. FormatRefuses f (length (words old)) room text) same came.0,
  λ cause. ap Err (one_cause (length (words old)) room text found fault other came.0 cause),
)
