-- Words that are written one after the other, each to a place of its own.
use Rattle.std.specs.Prelude.{ℕ, ◌≡◌, ◌<◌, List, [], ◌∷◌, Bool, true, false, Result, Ok, Err, length, take, slice_set, if◌then◌else◌}
use Rattle.jc_words.specs.Count.{saturating_count}
use Rattle.jc_words.specs.Refusals.{Refusals, refused_once}
use Rattle.jc_words.specs.Store.{FuseStoreValue, write_passed}
use Rattle.jc_words.specs.WordPairs.{RefusedThrough}
use Rattle.jc_words.specs.declared.store.RunRefusal.{RunRefusal}

-- these words, with others at their places
abbrev pub with_placed : List ℕ → List (ℕ × ℕ) → List ℕ
with_placed w [] = w
with_placed w (c ∷ cs) = with_placed (slice_set w c.0 c.1) cs

-- of words that were to be written to their places, k were; and they were all, or the next one was refused
pub record WrotePlaced {S : Type 0} (words_of : S → List ℕ) (is_down : S → Bool) (count : S → ℕ) (refused : S → Refusals) (changes : List (ℕ × ℕ)) (k : ℕ)
    (done : Bool) (old new : S) : Type 0 where
  pub written : words_of new ≡ with_placed (words_of old) (take k changes)
  pub was_up : 0 < k → is_down old ≡ false
  pub down : is_down new ≡ (if done then is_down old else true)
  pub passed : count new ≡ saturating_count (count old) k
  pub refusals : refused new ≡ (if done then refused old else refused_once (is_down old) (count new) (refused old))

-- what became of a store to which these words were to be written, by its ghost members
abbrev pub WritesPlaced : {S : Type 0} → (S → List ℕ) → (S → Bool) → (S → ℕ) → (S → Refusals) → List (ℕ × ℕ) → Result Unit RunRefusal → S → S → Type 0
WritesPlaced words down passed refusals changes (Ok done) old new = WrotePlaced words down passed refusals changes (length changes) true old new
WritesPlaced words down passed refusals changes (Err refusal) old new =
    (refusal.written < length changes) × WrotePlaced words down passed refusals changes refusal.written false old new

-- these writes passed, each by one write below
abbrev pub placed_passed : List (ℕ × ℕ) → FuseStoreValue → FuseStoreValue
placed_passed [] f = f
placed_passed (c ∷ cs) f = placed_passed cs (write_passed c.0 c.1 f)

-- what these writes did to a store with a fuse, and to the store below
abbrev pub IsPlacedThrough : List (ℕ × ℕ) → Result Unit RunRefusal → FuseStoreValue → FuseStoreValue → Type 0
IsPlacedThrough changes (Ok done) old new = new ≡ placed_passed changes old
IsPlacedThrough changes (Err refusal) old new = RefusedThrough (placed_passed (take refusal.written changes) old) new
