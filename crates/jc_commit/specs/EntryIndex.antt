-- The entries that a change writes, and their index.
use Rattle.std.specs.Prelude.{◌≡◌, ℕ, ◌+◌, ◌*◌, ◌<◌, ◌≤◌, true, false, not, List, [], ◌∷◌, length, map, filter, slice_index, slice_index_or, slice_set, IsSome, ◌⊎◌}
use Rattle.std.specs.Prelude.{Option, None, Some}
use Rattle.std.specs.List.{range_with_len}
use Rattle.jc_commit.specs.Image.{address_at, entries, old_value}
use Rattle.jc_commit.specs.Keep.{is_taken_back}
use Rattle.jc_words.specs.declared.log.Log.{Log}

-- the addresses that the first n entries name
unfoldable pub named_by : Log → List ℕ → ℕ → List ℕ
named_by l w n = map (address_at l w) (range_with_len 0 n)

-- of these changes, those whose words' old values have to be kept
abbrev pub needing : List ℕ → ℕ → List (ℕ × ℕ) → List (ℕ × ℕ)
needing touched born changes = filter (λ change. not (is_taken_back touched born change.0)) changes

-- the numbers of the first n entries in the order of the addresses that they name: each is there, and the addresses rise, so that no
-- address stands twice
pub record IsIndexOf (l : Log) (w : List ℕ) (n : ℕ) (numbers : List ℕ) : Type 0 where
  pub long : length numbers ≡ n
  pub counted : (i : ℕ) → i < length numbers → slice_index numbers i < n
  pub rising : (i j : ℕ) → i < j → j < length numbers → address_at l w (slice_index numbers i) < address_at l w (slice_index numbers j)
  pub all : (k : ℕ) → k < n → (i : ℕ) × (i < length numbers) × (slice_index numbers i ≡ k)

-- an entry that names the address stands at this place of the index
pub record StandsAt (l : Log) (w numbers : List ℕ) (a i : ℕ) : Type 0 where
  pub within : i < length numbers
  pub names : address_at l w (slice_index numbers i) ≡ a

-- one would belong there: the entries before it name lower addresses, those after it higher ones
pub record IsGapFor (l : Log) (w numbers : List ℕ) (a i : ℕ) : Type 0 where
  pub within : i ≤ length numbers
  pub lower : (k : ℕ) → k < i → address_at l w (slice_index numbers k) < a
  pub higher : (k : ℕ) → i ≤ k → k < length numbers → a < address_at l w (slice_index numbers k)

-- where the index of the first n entries has to have one more before this address is written: at this place, or nowhere, where an abort takes the word
-- back as it is
abbrev pub IsPlaceFor : Log → List ℕ → ℕ → List ℕ → ℕ → ℕ → Option ℕ → Type 0
IsPlaceFor l w n numbers born a None = is_taken_back (named_by l w n) born a ≡ true
IsPlaceFor l w n numbers born a (Some i) = (is_taken_back (named_by l w n) born a ≡ false) × IsGapFor l w numbers a i

-- entries of these words are written, from entry k on, each with the word as it is
abbrev pub with_entries : Log → List ℕ → ℕ → List (ℕ × ℕ) → List ℕ
with_entries l w k [] = w
with_entries l w k (change ∷ changes) = with_entries l (slice_set (slice_set w (l.start + 2 * k) change.0) (l.start + 2 * k + 1) (slice_index w change.0))
    (k + 1) changes

-- of each of these words an entry keeps the old value, or it lies from this address on
abbrev pub GoBack : List ℕ → ℕ → List (ℕ × ℕ) → Type 0
GoBack w born changes = (k : ℕ) → k < length changes → IsSome (old_value (entries w) (slice_index_or changes k (0, 0)).0) ⊎
    (born ≤ (slice_index_or changes k (0, 0)).0)
