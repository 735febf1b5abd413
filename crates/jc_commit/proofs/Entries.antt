-- Entries that are written, and then counted.
use Rattle.std.proofs.Common.{◌≡◌, ℕ, zero, suc, ◌+◌, ◌*◌, ◌<◌, ◌≤◌, List, [], ◌∷◌, length, get_or, set, slice_index, sym, ◌∙◌, subst, arith, get_or-set_other}
use Rattle.std.proofs.lemmas.List.{length-set}
use Rattle.jc_words.specs.Image.{log_of}
use Rattle.jc_words.specs.declared.log.Log.{Log}
use Rattle.jc_commit.specs.Image.{address_at, old_at, limit_of, IsGoodLog, IsPlace}
use Rattle.jc_commit.specs.Entries.{ArePlaces, IsBeside, AreBeside, SameBefore}
use Rattle.jc_commit.proofs.Words.{place_spot, spot_within}

pub same_after : (l : Log) (old w v : List ℕ) (first slot x y : ℕ) → l.start + 2 * first ≤ slot → slot + 1 < l.start + 2 * l.capacity → v ≡ set (set w slot x) (slot + 1) y
    → SameBefore l first old w → SameBefore l first old v
same_after l old w v first slot x y above below is same =
    let after : SameBefore l first old (set (set w slot x) (slot + 1) y) = (
      length-set (set w slot x) (slot + 1) y ∙ length-set w slot x ∙ same.0,
      λ a free. get_or-set_other (set w slot x) (slot + 1) a y 0 (λ e. absurd (omega arith)) ∙ get_or-set_other w slot a x 0 (λ e. absurd (omega arith))
          ∙ same.1 a free,
    ) in
    subst (λ (u : List ℕ). SameBefore l first old u) (sym is) after

-- the address of a change
abbrev pub target : List (ℕ × ℕ) → ℕ → ℕ
target changes k = (get_or changes k (0, 0)).0

-- places are no words of the journal
pub place_beside : (w : List ℕ) (a : ℕ) → IsGoodLog w → IsPlace (limit_of w) a → IsBeside (log_of w) (length w) a
place_beside w a good place =
    let spot = place_spot w a good place in
    record { below = spot_within w a good spot; beside = spot.beside }

pub places_beside : (w : List ℕ) (changes : List (ℕ × ℕ)) → IsGoodLog w → ArePlaces (limit_of w) changes → AreBeside (log_of w) (length w) changes
places_beside w changes good places k below = place_beside w (target changes k) good (places k below)

-- one word at a place
pub place_one : (n a x : ℕ) → IsPlace n a → ArePlaces n ((a, x) ∷ [])
place_one n a x place zero below = place
place_one n a x place (suc k) below = absurd (omega (arith, below))

-- entry `first` and the next ones have these words' addresses and values
abbrev pub HasEntries : Log → ℕ → List (ℕ × ℕ) → List ℕ → List ℕ → Type 0
HasEntries l first changes old new = (k : ℕ) → k < length changes → (address_at l new (first + k) ≡ target changes k) × (old_at l new (first + k) ≡ slice_index old (target changes k))
