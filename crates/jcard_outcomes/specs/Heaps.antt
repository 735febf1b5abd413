-- How the heaps of two images compare. The words that hold the tries of PINs are spared: a try counts before the PIN is compared.
use Rattle.std.specs.Prelude.{ℕ, ◌≡◌, ◌<◌, ◌≤◌, ◌-◌, ◌==◌, ◌&&◌, not, Bool, false, List, EachIndex, slice_index}
use Rattle.std.specs.List.{list_any}
use Rattle.jc_words.specs.Layout.{addresses_start, packages_address, reset_end_address, text_length_address, top_address}
use Rattle.jcard_outcomes.specs.declared.heaps.Difference.{Difference}

-- the word at an address is one of those that are spared
abbrev pub is_spared : List ℕ → ℕ → Bool
is_spared spared i = list_any (λ y. y == i) spared

-- two images have another word at an address, and it is not spared
abbrev pub differ_at : List ℕ → List ℕ → List ℕ → ℕ → Bool
differ_at spared a b i = not (slice_index a i == slice_index b i) && not (is_spared spared i)

-- they have the same words, but for those that are spared, from the first address up to the end
abbrev pub AgreeBetween : ℕ → ℕ → List ℕ → List ℕ → List ℕ → Type 0
AgreeBetween first end spared a b = (i : ℕ) → first ≤ i → i < end → differ_at spared a b i ≡ false

-- all that stood before stands: the packages and the applets, their registry, and every record below the top; what was made since
-- stands above it, and nothing names it
pub record StandsAsBefore (spared before heap : List ℕ) : Type 0 where
  pub counts : AgreeBetween packages_address reset_end_address spared before heap
  pub records : AgreeBetween addresses_start (slice_index before top_address) spared before heap
  pub top : slice_index before top_address ≤ slice_index heap top_address

-- the heap is the one after: its counts, the registry, and every record
pub record StandsAsAfter (spared after heap : List ℕ) : Type 0 where
  pub counts : AgreeBetween top_address text_length_address spared after heap
  pub records : AgreeBetween addresses_start (slice_index after top_address) spared after heap

-- a word of the heap before has become another, and so it is not as before
pub record IsDifference (spared before heap : List ℕ) (d : Difference) : Type 0 where
  pub was : d.before ≡ slice_index before d.address
  pub is : d.now ≡ slice_index heap d.address
  pub changed : StandsAsBefore spared before heap → ⊥

-- the words that are spared, as far as they stand below the top of the first, are the same: those of a PIN that is made later do not count
abbrev pub AgreeAtSpared : List ℕ → List ℕ → List ℕ → Type 0
AgreeAtSpared spared a b = EachIndex spared (λ k. slice_index spared k < slice_index a top_address
    → slice_index a (slice_index spared k) ≡ slice_index b (slice_index spared k))

-- how many words stand above what stood before
abbrev pub words_above : List ℕ → List ℕ → ℕ
words_above before heap = slice_index heap top_address - slice_index before top_address
