-- What writing did to a store, and what it left of the journal.
use Rattle.std.specs.Prelude.{◌≡◌, ◌<◌, ◌≤◌, ℕ, ◌+◌, ◌*◌, ◌^◌, Bool, true, false, List, ◌++◌, length, max, slice_index, if◌then◌else◌, MatchBool, Option}
use Rattle.jc_words.specs.Count.{saturating_count}
use Rattle.jc_words.specs.Refusals.{Refusals, refused_once}
use Rattle.jc_words.specs.Layout.{version, version_address, log_end}
use Rattle.jc_words.specs.Image.{log_of}
use Rattle.jc_words.specs.declared.log.Log.{Log}
use Rattle.jc_commit.specs.Image.{plain_of, recovered_of, touched_of, count_of, limit_of, top_of, with_words, IsGoodLog, IsPlace}
use Rattle.jc_commit.specs.Entries.{addresses_of}
use Rattle.jc_commit.specs.EntryIndex.{needing, with_entries, IsIndexOf, IsPlaceFor}
use Rattle.jc_commit.specs.Migration.{migrated}
use Rattle.jc_commit.specs.State.{State, live_words, IsShort}

-- n writes to a store were done, or it refused one of them: what that did to its power, its count of passed writes and its refusals
pub record Wrote {S : Type 0} (is_down : S → Bool) (count : S → ℕ) (refused : S → Refusals) (n : ℕ) (done : Bool) (old new : S) : Type 0 where
  -- all of them passed, or fewer
  pub passed : MatchBool done (count new ≡ saturating_count (count old) n) (IsShort n (count old) (count new))
  pub from : count old ≤ count new
  -- a store that lets a write pass is up
  pub was_up : done ≡ true → 0 < n → is_down old ≡ false
  pub down : is_down new ≡ (if done then is_down old else true)
  pub refusals : refused new ≡ (if done then refused old else refused_once (is_down old) (count new) (refused old))

-- this journal stands in these words, which a u16 counts
pub record HasLog (log : Log) (w : List ℕ) : Type 0 where
  pub good : IsGoodLog w
  pub stands : log ≡ log_of w
  pub within : log.start + 2 * log.capacity ≤ length w
  pub small : length w < 2 ^ 16

-- this journal lies within these words, and these numbers are the index of its first n entries
pub record IsIndexed (log : Log) (w : List ℕ) (n : ℕ) (numbers : List ℕ) : Type 0 where
  pub size : log.start + 2 * log.capacity ≤ length w
  pub small : log.start + 2 * log.capacity < 2 ^ 16
  pub few : n ≤ log.capacity
  pub index : IsIndexOf log w n numbers

-- the new words have the journal of the old ones, and what a recovery leaves stays
pub record KeepsJournal (old new : List ℕ) : Type 0 where
  pub good : IsGoodLog new
  pub size : length new ≡ length old
  pub log : log_of new ≡ log_of old
  pub recovered : recovered_of new ≡ recovered_of old

-- the same, but what a recovery leaves stays below its top alone
pub record KeepsTransaction (old new : List ℕ) : Type 0 where
  pub good : IsGoodLog new
  pub size : length new ≡ length old
  pub log : log_of new ≡ log_of old
  pub live : live_words (recovered_of new) ≡ live_words (recovered_of old)
  pub top : top_of (recovered_of new) ≡ top_of (recovered_of old)

-- no word from this address on has a meaning in what a recovery leaves: it lies above the top
abbrev pub IsFreeFrom : List ℕ → ℕ → Type 0
IsFreeFrom w born = (a : ℕ) → born ≤ a → a < limit_of w → max log_end (top_of (recovered_of w)) ≤ a

-- in a transaction whose n entries have this index, one more stands at this place of it, or nowhere, before the word at this address is written
pub record MayBeWritten (log : Log) (w : List ℕ) (n : ℕ) (numbers : List ℕ) (born a : ℕ) (at : Option ℕ) : Type 0 where
  pub stands : HasLog log w
  pub count : n ≡ count_of w
  pub index : IsIndexOf log w n numbers
  pub births : IsFreeFrom w born
  pub there : IsPlace (limit_of w) a
  pub place : IsPlaceFor log w n numbers born a at

-- entries of these words are written after the first k ones, and n are there then
pub record ArePut (log : Log) (k : ℕ) (changes : List (ℕ × ℕ)) (old new : List ℕ) (n : ℕ) : Type 0 where
  pub next : n ≡ k + length changes
  pub words : new ≡ with_entries log old k changes

-- these words are written, entries keep the old values that had to be kept, and n count then
pub record ChangesInside (born : ℕ) (changes : List (ℕ × ℕ)) (old new : List ℕ) (n : ℕ) : Type 0 where
  pub count : count_of new ≡ n
  pub plain : plain_of new ≡ with_words (plain_of old) changes
  pub touched : touched_of new ≡ touched_of old ++ addresses_of (needing (touched_of old) born changes)

-- no entry counts, and the words are those that a recovery of the old ones leaves, in the version that is written
pub record IsRecovered (old new : List ℕ) : Type 0 where
  pub current : slice_index new version_address ≡ version
  pub plain : plain_of new ≡ migrated 3 (recovered_of old)
  pub recovered : recovered_of new ≡ migrated 3 (recovered_of old)
  pub count : count_of new ≡ 0

-- the words below the top stay, as they are and as a recovery leaves them
pub record KeepsLive (old new : State) : Type 0 where
  pub plain : live_words new.plain ≡ live_words old.plain
  pub recovered : live_words new.recovered ≡ live_words old.recovered
