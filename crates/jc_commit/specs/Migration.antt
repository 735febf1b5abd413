-- How an image of the first version becomes one of the version that is written, and what is left where that is stopped.
use Rattle.std.specs.Prelude.{◌≡◌, ◌<◌, ◌≤◌, ℕ, List, [], ◌∷◌, ◌++◌, length, take, slice_index, if◌then◌else◌, ◌==◌}
use Rattle.jc_words.specs.Count.{saturating_count}
use Rattle.jc_words.specs.Layout.{first_version, version, version_address, capacity_address, journal_address, front_capacity, log_start}
use Rattle.jc_commit.specs.Image.{with_words, recovered_of, IsGoodLog}
use Rattle.jc_commit.specs.Replay.{replay_writes}

-- the writes: how many entries the journal can have, where they begin, and last the version, from which on these words count
abbrev pub migration : List ℕ → List (ℕ × ℕ)
migration w = if slice_index w version_address == first_version
    then (capacity_address, front_capacity) ∷ (journal_address, log_start) ∷ (version_address, version) ∷ [] else []

-- the words after n of these writes
abbrev pub migrated : ℕ → List ℕ → List ℕ
migrated n w = with_words w (take n (migration w))

-- the new words are what the first n of these writes leave, but not all, and n have passed
abbrev pub IsPartOfMigration : List ℕ → List ℕ → ℕ → ℕ → Type 0
IsPartOfMigration old new passed_before passed_after =
    (n : ℕ) × (n < length (migration old)) × (new ≡ migrated n old) × (passed_after ≡ saturating_count passed_before n)

-- the writes of an opening: it recovers, and then migrates
abbrev pub opening_writes : List ℕ → List (ℕ × ℕ)
opening_writes w = replay_writes w ++ migration w

-- the new words are what an opening of the old ones leaves that is stopped after n of its writes, and n writes have passed
abbrev pub IsPartOfOpening : List ℕ → List ℕ → ℕ → ℕ → Type 0
IsPartOfOpening old new passed_before passed_after =
    (n : ℕ) × (n ≤ length (opening_writes old)) × (new ≡ with_words old (take n (opening_writes old)))
    × (passed_after ≡ saturating_count passed_before n)

-- what is left of an image still recovers to the same words, but for some writes of its migration, of which the last did not pass
pub record StillOpens (old new : List ℕ) : Type 0 where
  pub good : IsGoodLog new
  pub size : length new ≡ length old
  pub done : ℕ
  pub within : done ≤ 2
  pub recovered : recovered_of new ≡ migrated done (recovered_of old)
