-- A list of words as records, one after another, each named by the address of its first word.
use Rattle.std.specs.Prelude.{ℕ, zero, suc, List, [], ◌∷◌, take, Bool, false, ◌||◌, ◌==◌, if◌then◌else◌}

-- how many words a record has after its first one, by its address and the words from there on
abbrev pub Sizes : Type 0
Sizes = ℕ → List ℕ → ℕ

-- the records of words that begin at an address; the first n words still belong to an earlier record
abbrev pub records_from : Sizes → ℕ → ℕ → List ℕ → List (ℕ × List ℕ)
records_from more skip at [] = []
records_from more (suc skip) at (w ∷ ws) = records_from more skip (suc at) ws
records_from more zero at (w ∷ ws) = (at, w ∷ take (more at (w ∷ ws)) ws) ∷ records_from more (more at (w ∷ ws)) (suc at) ws

-- how many words the last record lacks
abbrev pub missing_words : Sizes → ℕ → ℕ → List ℕ → ℕ
missing_words more skip at [] = skip
missing_words more (suc skip) at (w ∷ ws) = missing_words more skip (suc at) ws
missing_words more zero at (w ∷ ws) = missing_words more (more at (w ∷ ws)) (suc at) ws

-- ---- A finite map from addresses, as the list of its entries in their order

-- the value at an address, or another value where it has none
abbrev pub entry_or : {X : Type 0} → X → List (ℕ × X) → ℕ → X
entry_or d [] q = d
entry_or d (e ∷ es) q = if e.0 == q then e.1 else entry_or d es q

-- it has a value at the address
abbrev pub has_entry : {X : Type 0} → List (ℕ × X) → ℕ → Bool
has_entry [] q = false
has_entry (e ∷ es) q = (e.0 == q) || has_entry es q

-- another value at an address that has one
abbrev pub with_entry : {X : Type 0} → List (ℕ × X) → ℕ → X → List (ℕ × X)
with_entry [] q x = []
with_entry (e ∷ es) q x = if e.0 == q then (e.0, x) ∷ es else e ∷ with_entry es q x
