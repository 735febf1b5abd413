-- How a store is opened, and what is left of one that is not.
use Rattle.std.specs.Prelude.{◌≡◌, ℕ, Bool, true, false, List, Result, Ok, Err}
use Rattle.jc_words.specs.Refusals.{Refusals, refused_once}
use Rattle.jc_commit.specs.declared.refusal.OpenRefusal.{OpenRefusal}
use Rattle.jc_commit.specs.declared.refusal.OpenRefusal.TheVariants.{BadLog, StoreDown}
use Rattle.jc_commit.specs.Image.{IsGoodLog}
use Rattle.jc_commit.specs.Migration.{IsPartOfOpening, StillOpens}
use Rattle.jc_commit.specs.State.{State, recovered_journal}

-- the store is down: it was so before, and nothing of it changed; or it refused a write of the recovery, or of the migration after it
pub record IsStoppedOpening {S : Type 0} (words : S → List ℕ) (down : S → Bool) (passed : S → ℕ) (refusals : S → Refusals) (old new : S) : Type 0 where
  pub good : IsGoodLog (words old)
  pub still : StillOpens (words old) (words new)
  pub part : IsPartOfOpening (words old) (words new) (passed old) (passed new)
  pub is_down : down new ≡ true
  pub was_down : down old ≡ true → new ≡ old
  pub was_up : down old ≡ false → refusals new ≡ refused_once false (passed new) (refusals old)

-- why a store is not opened, and what is left of it: one with a bad log comes back as it was
abbrev pub OpeningFails : {S : Type 0} → (S → List ℕ) → (S → Bool) → (S → ℕ) → (S → Refusals) → S → OpenRefusal → S → Type 0
OpeningFails words down passed refusals old BadLog new = (IsGoodLog (words old) → ⊥) × (new ≡ old)
OpeningFails words down passed refusals old StoreDown new = IsStoppedOpening words down passed refusals old new

-- a store that is up and has a good log becomes the journal that its recovery leaves
pub record IsOpened (words : List ℕ) (down : Bool) (passed : ℕ) (refusals : Refusals) (journal : State) : Type 0 where
  pub good : IsGoodLog words
  pub was_up : down ≡ false
  pub recovered : journal ≡ recovered_journal words passed refusals

-- what comes of opening a store
abbrev pub Opens : {S : Type 0} → (S → List ℕ) → (S → Bool) → (S → ℕ) → (S → Refusals) → S → Result State (OpenRefusal × S) → Type 0
Opens words down passed refusals old (Ok journal) = IsOpened (words old) (down old) (passed old) (refusals old) journal
Opens words down passed refusals old (Err e) = OpeningFails words down passed refusals old e.0 e.1
