-- Texts in the order of the numbers with which their first lines begin, after a label.
use Rattle.std.specs.Prelude.{ℕ, ◌≡◌, ◌<◌, List, [], ◌++◌, length}
use Rattle.std.specs.List.{slice_index_or}
use Rattle.jcard_outcomes.specs.Part.{numbered}
use Rattle.jcard_outcomes.specs.declared.join_fault.JoinFault.{JoinFault}
use Rattle.jcard_outcomes.specs.declared.join_fault.JoinFault.TheVariants.{Missing, NoMemory, Twice}

-- a text begins with the line about number k
abbrev pub BeginsAt : List ℕ → ℕ → List ℕ → Type 0
BeginsAt label k text = (rest : List ℕ) × (text ≡ numbered label k ++ rest)

-- of these texts the one at this place, and no other one, begins so
pub record IsOnlyAt (label : List ℕ) (texts : List (List ℕ)) (k i : ℕ) : Type 0 where
  pub within : i < length texts
  pub begins : BeginsAt label k (slice_index_or texts i [])
  pub alone : (j : ℕ) → j < length texts → BeginsAt label k (slice_index_or texts j []) → j ≡ i

-- none of them begins so, or two do; or memory was refused
abbrev pub IsUnplaced : List ℕ → List (List ℕ) → ℕ → JoinFault → Type 0
IsUnplaced label texts k NoMemory = Unit {0}
IsUnplaced label texts k (Missing m) = (m ≡ k) × ((j : ℕ) → j < length texts → BeginsAt label k (slice_index_or texts j []) → ⊥)
IsUnplaced label texts k (Twice m) = (m ≡ k) × (i j : ℕ) × (i < j) × (j < length texts) × BeginsAt label k (slice_index_or texts i [])
    × BeginsAt label k (slice_index_or texts j [])
IsUnplaced label texts k other = ⊥

-- for one of as many numbers as there are texts it is so
abbrev pub AreUnplaced : List ℕ → List (List ℕ) → JoinFault → Type 0
AreUnplaced label texts fault = (k : ℕ) × (k < length texts) × IsUnplaced label texts k fault

-- these are the texts, in the order of the lines with which they begin
pub record AreInOrder (label : List ℕ) (texts ordered : List (List ℕ)) : Type 0 where
  pub all : length ordered ≡ length texts
  pub each : (k : ℕ) → k < length texts → (i : ℕ) × IsOnlyAt label texts k i × (slice_index_or ordered k [] ≡ slice_index_or texts i [])

-- these are the places of n texts, each once
pub record ArePlaces (n : ℕ) (place : ℕ → ℕ) : Type 0 where
  pub within : (k : ℕ) → k < n → place k < n
  pub all : (i : ℕ) → i < n → (k : ℕ) × (k < n) × (place k ≡ i)
