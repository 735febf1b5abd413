-- Recoveries that are cut, one after the other, after a cut of a command.
use Rattle.std.specs.Prelude.{ℕ, ◌≡◌, ◌≢◌, ◌<◌, ◌^◌, All, MatchOption, List, [], ◌∷◌, length}
use Rattle.jc_words.specs.Image.{log_of}
use Rattle.jc_commit.specs.Image.{address_at, count_of}
use Rattle.jc_commit.specs.Replay.{after_replays, replay_writes, torn_replay}
use Rattle.jcard_outcomes.specs.Recoveries.{recoveries_of}
use Rattle.jcard_outcomes.specs.declared.recoveries.Depth.{Depth}
use Rattle.jcard_outcomes.specs.declared.recoveries.Recoveries.{Recoveries}
use Rattle.jcard_outcomes.specs.declared.standing.Left.{Left}
use Rattle.jcard_sweeps.specs.Runs.{IsLeft}

-- recoveries, one after the other from these words on, are cut after this many writes each, which are fewer than they would make
unfoldable pub AreCutAfter : List ℕ → List ℕ → Type 0
AreCutAfter words [] = Unit {0}
AreCutAfter words (n ∷ more) = (n < length (replay_writes words)) × AreCutAfter (torn_replay n words) more

-- the same words are left, and the same answers given
abbrev pub IsSameLeft : Left → Left → Type 0
IsSameLeft a b = (a.words.items ≡ b.words.items) × (a.answers.items ≡ b.answers.items)

-- a recovery over these words, and a probe, come to the same as is left
abbrev pub ComesToTheSame : ℕ → List ℕ → List ℕ → Left → Type 0
ComesToTheSame budget words probe left = (found : Left) × IsLeft budget words probe found × IsSameLeft left found

-- they come to something else
abbrev pub ComesToAnother : ℕ → List ℕ → List ℕ → Left → Type 0
ComesToAnother budget words probe left = (found : Left) × IsLeft budget words probe found × (IsSameLeft left found → ⊥)

-- of each recovery of these words that is cut earlier than after n writes this holds
abbrev pub AreTheSame : ℕ → List ℕ → List ℕ → Left → ℕ → Type 0
AreTheSame budget words probe left n = (m : ℕ) → m < n → ComesToTheSame budget (torn_replay m words) probe left

-- wherever this many recoveries are cut, one after the other, the next comes to the same
abbrev pub MakeNoDifference : ℕ → ℕ → List ℕ → List ℕ → Left → Type 0
MakeNoDifference depth budget words probe left = (stops : List ℕ) → length stops ≡ depth → AreCutAfter words stops
    → ComesToTheSame budget (after_replays stops words) probe left

-- the recovery that is cut after n writes makes a difference, and none that are cut earlier, one after the other, do
pub record IsFirstDifference (depth budget : ℕ) (words probe : List ℕ) (left : Left) (n : ℕ) : Type 0 where
  pub cut : n < length (replay_writes words)
  pub other : ComesToAnother budget (torn_replay n words) probe left
  pub earlier : (stops : List ℕ) → length stops ≡ depth → AreCutAfter words stops → All (λ m. m < n) stops
      → ComesToTheSame budget (after_replays stops words) probe left

-- in how many ways recoveries of these words were cut, as deep as this, and whether one made a difference
abbrev pub AreRecoveries : Depth → ℕ → List ℕ → List ℕ → Left → Recoveries → Type 0
AreRecoveries depth budget words probe left r = (r.ways ≡ length (replay_writes words) ^ recoveries_of depth)
    × MatchOption r.difference (MakeNoDifference (recoveries_of depth) budget words probe left) (λ n. IsFirstDifference (recoveries_of depth) budget words probe left n)

-- no two entries that count name the same word
abbrev pub NamesEachOnce : List ℕ → Type 0
NamesEachOnce words = (j k : ℕ) → j < k → k < count_of words → address_at (log_of words) words j ≢ address_at (log_of words) words k
