-- Two words that are written one after the other.
use Rattle.std.specs.Prelude.{ℕ, ◌≡◌, ◌≢◌, ◌+◌, ◌*◌, ◌<◌, ◌⊎◌, List, Bool, true, false, Option, Some, Result, Ok, Err, IfSome, MatchResult, length, slice_index, slice_set}
use Rattle.jc_words.specs.Count.{saturating_count}
use Rattle.jc_words.specs.Refusals.{Refusals, refused_once}
use Rattle.jc_words.specs.File.{with_word}
use Rattle.jc_words.specs.Store.{FuseStoreValue, store_after_refusal, fuse_burnt, store_below_refused, write_passed}
use Rattle.jc_words.specs.declared.store.PairRefusal.{PairRefusal}
use Rattle.jc_words.specs.declared.store.PairRefusal.TheVariants.{First, Second}

-- both writes passed
pub record BothPassed {S : Type 0} (words_of : S → List ℕ) (is_down : S → Bool) (count : S → ℕ) (refused : S → Refusals) (i a b : ℕ) (old new : S) : Type 0 where
  pub written : words_of new ≡ slice_set (slice_set (words_of old) i a) (i + 1) b
  pub was_up : is_down old ≡ false
  pub up : is_down new ≡ false
  pub passed : count new ≡ saturating_count (count old) 2
  pub refusals : refused new ≡ refused old
  pub spared : (refused old).fuse ≢ Some (count old)

-- the first write was refused, and the second not asked for
pub record FirstRefused {S : Type 0} (words_of : S → List ℕ) (is_down : S → Bool) (count : S → ℕ) (refused : S → Refusals) (old new : S) : Type 0 where
  pub kept : words_of new ≡ words_of old
  pub down : is_down new ≡ true
  pub passed : count new ≡ count old
  pub refusals : refused new ≡ refused_once (is_down old) (count old) (refused old)

-- the first write passed, and the second was refused
pub record SecondRefused {S : Type 0} (words_of : S → List ℕ) (is_down : S → Bool) (count : S → ℕ) (refused : S → Refusals) (i a : ℕ) (old new : S) : Type 0 where
  pub written : words_of new ≡ slice_set (words_of old) i a
  pub was_up : is_down old ≡ false
  pub down : is_down new ≡ true
  pub passed : count new ≡ saturating_count (count old) 1
  pub refusals : refused new ≡ refused_once false (saturating_count (count old) 1) (refused old)
  pub spared : (refused old).fuse ≢ Some (count old)

-- what became of a store whose word i and the next were to be a and b, by two writes, by its ghost members
abbrev pub WritesPair : {S : Type 0} → (S → List ℕ) → (S → Bool) → (S → ℕ) → (S → Refusals) → ℕ → ℕ → ℕ → Result Unit PairRefusal → S → S → Type 0
WritesPair words down passed refusals i a b (Ok done) old new = BothPassed words down passed refusals i a b old new
WritesPair words down passed refusals i a b (Err First) old new = FirstRefused words down passed refusals old new
WritesPair words down passed refusals i a b (Err Second) old new = SecondRefused words down passed refusals i a old new

-- as many bytes, and those beside word i and the next are the same
pub record SameBesidePair (i : ℕ) (old new : List ℕ) : Type 0 where
  pub size : length new ≡ length old
  pub each : (k : ℕ) → (k < 2 * i ⊎ 2 * i + 3 < k) → slice_index new k ≡ slice_index old k

-- word i and the next were written to known bytes that have them, and no other byte changed; where that failed, these two may have
abbrev pub PutsPair : {E : Type 0} → ℕ → ℕ → ℕ → Result Unit E → Option (List ℕ) → Option (List ℕ) → Type 0
PutsPair i a b result old new = IfSome old (λ bytes. 2 * i + 3 < length bytes
    → MatchResult result (λ _. new ≡ Some (with_word (i + 1) b (with_word i a bytes)))
    (λ _. (left : List ℕ) × (new ≡ Some left) × SameBesidePair i bytes left))

-- a store with a fuse refused a write: it was down; or its fuse did, and is burnt out; or else the store below did
pub record RefusedThrough (old new : FuseStoreValue) : Type 0 where
  pub stays_down : old.down ≡ true → new ≡ store_after_refusal old
  pub blows : old.down ≡ false → old.refusals.fuse ≡ Some old.passed → new ≡ fuse_burnt old
  pub below : old.down ≡ false → old.refusals.fuse ≢ Some old.passed → new ≡ store_below_refused old

-- what two writes of a pair did to a store with a fuse, and to the store below
abbrev pub IsPairThrough : ℕ → ℕ → ℕ → Result Unit PairRefusal → FuseStoreValue → FuseStoreValue → Type 0
IsPairThrough i a b (Ok done) old new = new ≡ write_passed (i + 1) b (write_passed i a old)
IsPairThrough i a b (Err First) old new = RefusedThrough old new
IsPairThrough i a b (Err Second) old new = RefusedThrough (write_passed i a old) new
