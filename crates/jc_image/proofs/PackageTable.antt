-- The packages' addresses as words.
use Rattle.std.proofs.Common.{◌≡◌, ℕ, ◌+◌, ◌<◌, ◌≤◌, List, length, get_or, max, true, refl, sym, subst, arith, min, inl, inr}
use Rattle.std.proofs.lemmas.Bool.{cases_eq}
use Rattle.jc_words.specs.Layout.{packages_address, addresses_start, most_packages, text_start}
use Rattle.jc_commit.specs.Image.{IsReadable}
use Rattle.jc_heap.specs.Image.{IsWellFormed}
use Rattle.jc_heap.specs.Component.{record_of}
use Rattle.jc_commit.specs.State.{State}
use Rattle.jc_heap.specs.Heap.{heap_of, heap_view, is_allocated, read_image}
use Rattle.jc_heap.proofs.RecordReading.{length_record, package_there, record_low, record_within}
use Rattle.jc_heap.proofs.Walks.{length-packages, package_read}
use Rattle.jc_image.proofs.Wholes.{counts_read}

module _ (ws : List ℕ) (laid : IsWellFormed ws) where
  long_min : length ((heap_of ws).packages) ≡ min (get_or ws packages_address 0) most_packages
  unfolding read_image
  long_min = length-packages ws (omega (arith, laid.based)) laid.fits

  pub table_long : (heap_of ws).counts.0 ≤ most_packages → length ((heap_of ws).packages) ≡ get_or ws packages_address 0
  table_long few = omega (arith, long_min, (counts_read ws laid).0)

  pub table_short : length ((heap_of ws).packages) ≤ most_packages
  table_short = omega (arith, long_min)

  pub table_word : (k : ℕ) → k < length ((heap_of ws).packages) → get_or ((heap_of ws).packages) k 0 ≡ get_or ws (addresses_start + k) 0
  unfolding read_image
  table_word k h = package_read ws k (omega (arith, laid.based)) laid.fits (omega (arith, long_min))

  pub table_readable : (k : ℕ) → k < length ((heap_of ws).packages) → IsReadable (length ws) (addresses_start + k)
  table_readable k h = record { below = omega (arith, table_short, laid.based, laid.fits); not_count = λ e. omega arith; beside = λ _. omega arith }

-- the record of a package that is there
module _ (j : State) (k : ℕ) (laid : IsWellFormed j.plain) (below : k < length ((heap_of j.plain).packages))
    (there : is_allocated (heap_of j.plain) (get_or ((heap_of j.plain).packages) k 0) ≡ true) where
  abbrev address : ℕ
  address = get_or ((heap_of j.plain).packages) k 0

  some : 0 < length (record_of (heap_of j.plain) address)
  some = package_there j (heap_view j 0) 0 k refl laid below there

  pub record_long : length (record_of (heap_of j.plain) address) ≡ max (get_or j.plain address 0) 1
  record_long = length_record j (heap_view j 0) 0 address refl laid some

  pub record_readable : IsReadable (length j.plain) address
  record_readable =
      let low : text_start ≤ address = record_low j.plain address laid some in
      record { below = omega (arith, record_within j.plain address laid some); not_count = λ e. omega (arith, low); beside = λ _. omega (arith, low) }

-- what holds of the numbers below one, and of that one
pub below_or_at : (P : ℕ → Type 0) (n : ℕ) → ((j : ℕ) → j < n → P j) → P n → (j : ℕ) → j < n + 1 → P j
below_or_at P n below here j h = elim (cases_eq j n) [
  | inl e ↦ subst P (sym e) here
  | inr ne ↦ below j (omega arith)
]
