-- Words that are written one after the other, from one on.
use Rattle.std.specs.Prelude.{ℕ, suc, ◌≡◌, ◌+◌, ◌*◌, ◌<◌, ◌≤◌, List, [], ◌∷◌, Bool, true, false, Option, Some, Result, Ok, Err, IfSome, MatchResult}
use Rattle.std.specs.Prelude.{length, take, slice_set, if◌then◌else◌}
use Rattle.jc_words.specs.Count.{saturating_count}
use Rattle.jc_words.specs.Refusals.{Refusals, refused_once}
use Rattle.jc_words.specs.File.{SameBeside, with_word}
use Rattle.jc_words.specs.Store.{FuseStoreValue, write_passed}
use Rattle.jc_words.specs.WordPairs.{RefusedThrough}
use Rattle.jc_words.specs.declared.store.RunRefusal.{RunRefusal}

-- these words, with others from word i on
abbrev pub with_run : List ℕ → ℕ → List ℕ → List ℕ
with_run w i [] = w
with_run w i (v ∷ vs) = with_run (slice_set w i v) (suc i) vs

-- of words that were to be written from word i on, k were; and they were all, or the next one was refused
pub record WroteRun {S : Type 0} (words_of : S → List ℕ) (is_down : S → Bool) (count : S → ℕ) (refused : S → Refusals) (i : ℕ) (run : List ℕ) (k : ℕ)
    (done : Bool) (old new : S) : Type 0 where
  pub written : words_of new ≡ with_run (words_of old) i (take k run)
  pub was_up : 0 < k → is_down old ≡ false
  pub down : is_down new ≡ (if done then is_down old else true)
  pub passed : count new ≡ saturating_count (count old) k
  pub refusals : refused new ≡ (if done then refused old else refused_once (is_down old) (count new) (refused old))

-- what became of a store whose words from word i on were to be these, by its ghost members
abbrev pub WritesRun : {S : Type 0} → (S → List ℕ) → (S → Bool) → (S → ℕ) → (S → Refusals) → ℕ → List ℕ → Result Unit RunRefusal → S → S → Type 0
WritesRun words down passed refusals i run (Ok done) old new = WroteRun words down passed refusals i run (length run) true old new
WritesRun words down passed refusals i run (Err refusal) old new =
    (refusal.written < length run) × WroteRun words down passed refusals i run refusal.written false old new

-- known bytes with these words from word i on
abbrev pub bytes_with_run : ℕ → List ℕ → List ℕ → List ℕ
bytes_with_run i [] bytes = bytes
bytes_with_run i (v ∷ vs) bytes = bytes_with_run (suc i) vs (with_word i v bytes)

-- the words from word i on were written to known bytes that have them, and no other byte changed; where that failed, the first n of them were, and the
-- next one may have changed
abbrev pub PutsRun : {E : Type 0} → ℕ → List ℕ → Result Unit E → Option (List ℕ) → Option (List ℕ) → Type 0
PutsRun i run result old new = IfSome old (λ bytes. 2 * (i + length run) ≤ length bytes
    → MatchResult result (λ _. new ≡ Some (bytes_with_run i run bytes))
    (λ _. (n : ℕ) × (left : List ℕ) × (n < length run) × (new ≡ Some left) × SameBeside (i + n) (bytes_with_run i (take n run) bytes) left))

-- the writes of a run passed, each by one write below
abbrev pub writes_passed : ℕ → List ℕ → FuseStoreValue → FuseStoreValue
writes_passed i [] f = f
writes_passed i (v ∷ vs) f = writes_passed (suc i) vs (write_passed i v f)

-- what the writes of a run did to a store with a fuse, and to the store below
abbrev pub IsRunThrough : ℕ → List ℕ → Result Unit RunRefusal → FuseStoreValue → FuseStoreValue → Type 0
IsRunThrough i run (Ok done) old new = new ≡ writes_passed i run old
IsRunThrough i run (Err refusal) old new = RefusedThrough (writes_passed i (take refusal.written run) old) new
