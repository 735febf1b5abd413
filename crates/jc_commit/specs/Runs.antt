-- Words that are written one after the other.
use Rattle.std.specs.Prelude.{ℕ, suc, ◌≡◌, ◌≤◌, List, [], ◌∷◌, Bool, true, Result, length, slice_index, take, is_ok}
use Rattle.jc_words.specs.Refusals.{Refusals}
use Rattle.jc_commit.specs.Image.{with_words}
use Rattle.jc_commit.specs.Writing.{Wrote}

-- these words from an address on, each with its address
abbrev pub run_words : ℕ → List ℕ → List (ℕ × ℕ)
run_words at [] = []
run_words at (v ∷ vs) = (at, v) ∷ run_words (suc at) vs

-- the words of entries that keep the values of these words as they are
abbrev pub entry_words : List ℕ → List (ℕ × ℕ) → List ℕ
entry_words w [] = []
entry_words w (change ∷ changes) = change.0 ∷ slice_index w change.0 ∷ entry_words w changes

-- of these words, as many were written, in their order: all, or those before the one that was refused
pub record WroteWords {S : Type 0} (words_of : S → List ℕ) (is_down : S → Bool) (count : S → ℕ) (refused : S → Refusals) (changes : List (ℕ × ℕ)) (many : ℕ)
    (done : Bool) (old new : S) : Type 0 where
  pub within : many ≤ length changes
  pub all : done ≡ true → many ≡ length changes
  pub written : words_of new ≡ with_words (words_of old) (take many changes)
  pub wrote : Wrote is_down count refused (length changes) done old new

-- what became of a store to which these words were to be written
abbrev pub WritesWords : {S E : Type 0} → (S → List ℕ) → (S → Bool) → (S → ℕ) → (S → Refusals) → List (ℕ × ℕ) → Result Unit E → S → S → Type 0
WritesWords words down passed refusals changes result old new =
    (many : ℕ) × WroteWords words down passed refusals changes many (is_ok result) old new
