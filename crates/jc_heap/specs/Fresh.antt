-- Words written at or above the top, which have no meaning until the top moves.
use Rattle.std.specs.Prelude.{ℕ, ◌+◌, ◌≡◌, ◌≤◌, ◌<◌, List, ◌++◌, take, length, true, false}
use Rattle.jc_words.specs.Count.{saturating_count}
use Rattle.jc_words.specs.Refusals.{refused_once}
use Rattle.jc_words.specs.Layout.{addresses_start}
use Rattle.jc_commit.specs.Image.{top_of}
use Rattle.jc_commit.specs.State.{State, IsShort}

-- n words from this address on have no meaning: they lie above both tops
pub record IsFree (at count : ℕ) (j : State) : Type 0 where
  pub up : j.down ≡ false
  pub low : addresses_start ≤ at
  pub above : top_of j.plain ≤ at
  pub above_recovered : top_of j.recovered ≤ at
  pub fits : at + count ≤ length j.plain
  pub small : length j.plain < 65536

-- words from this address on may have changed, and nothing else did
pub record KeepsBelow (at : ℕ) (old new : State) : Type 0 where
  pub plain : take at new.plain ≡ take at old.plain
  pub recovered : take at new.recovered ≡ take at old.recovered
  pub size : length new.plain ≡ length old.plain
  pub size_recovered : length new.recovered ≡ length old.recovered
  pub in_transaction : new.in_transaction ≡ old.in_transaction
  pub touched : new.touched ≡ old.touched

-- these words stand there
pub record Fills (at : ℕ) (run : List ℕ) (old new : State) : Type 0 where
  pub words : take (at + length run) new.plain ≡ take at old.plain ++ run
  pub down : new.down ≡ old.down
  pub passed : new.passed ≡ saturating_count old.passed (length run)
  pub refusals : new.refusals ≡ old.refusals

-- the store refused one of n writes on the way
pub record IsTornFresh (writes : ℕ) (old new : State) : Type 0 where
  pub down : new.down ≡ true
  pub from : old.passed ≤ new.passed
  pub short : IsShort writes old.passed new.passed
  pub refusals : new.refusals ≡ refused_once old.down new.passed old.refusals
