-- Cards that are planned.
use Rattle.std.proofs.Common.{◌≡◌, ℕ, List, [], ◌∷◌, Result, Ok, Err, Option, Some, None, false, subst, sym, inl, inr, arith}
use Rattle.std.specs.Prelude.{All, Contains, IfSome, MatchOption, MatchResult}
use Rattle.std.proofs.lemmas.List.Elements.{Contains-append_right}
use Rattle.jcard_test.specs.Cards.{AreCardsOf}
use Rattle.jcard_outcomes.specs.declared.card_rows.CardRows.{CardRows}
use Rattle.jcard_test.specs.declared.numbered_line.Numbered.{Numbered}
use Rattle.jcard_outcomes.specs.declared.tested.Tested.{Tested}
use Rattle.jcard_files.specs.declared.fault.Fault.{Fault}
use Rattle.jcard_test.specs.Sources.{IsReading, files_named, paths_read}
use Rattle.jcard_test.specs.Tests.{AreAnswered, IsOutcome, IsPlanFor, IsTested, IsUnanswered, IsUntested, table_of}
use Rattle.jcard_test.specs.declared.rows_file.NamedFile.{NamedFile}
use Rattle.jcard_files.specs.Fault.{is_unwritten}
use Rattle.jcard_files.specs.FileDeeds.{FileDeed}
use Rattle.jcard_files.proofs.ImageEnds.{no_extent_unwritten, platform_unwritten}
use Rattle.jcard_files.specs.UsualTable.{IsNoPlatform, IsPlatform}
use Rattle.jcard_test.specs.Planning.{IsPlanned, IsUnplanned, table_asked}
use Rattle.jcard_test.specs.declared.request.Asked.{Asked}
use Rattle.jcard_test.proofs.RowTests.{no_reading, one_reading, unread_reading}
use Rattle.jcard_test.specs.declared.plan.Plan.{Plan}

-- the rows of a file were answered by cards with its platform table
pub tested_as : (r : Result Tested Fault) (p q : Plan) (f : NamedFile) → IsPlanFor p (table_of f.file) q
    → MatchResult r (λ t. (t.name.now ≡ f.name.now) × AreAnswered q f.file.lines.items t) (λ fault. IsUntested fault)
    → MatchResult r (λ t. IsTested p f t) (λ fault. IsUntested fault)
tested_as (Ok t) p q f plan h = (h.0, q, plan, h.1)
tested_as (Err fault) p q f plan h = h

-- the cards that lines make
pub answered_cards : (r : Result Tested Fault) (p : Plan) (name : List ℕ) (lines : List Numbered) (cards : List CardRows) → AreCardsOf p.extent.count lines cards
    → MatchResult r (λ t. (t.name.now ≡ name) × (t.cards.items ≡ cards) × IsOutcome p cards t.outcome) (λ f. IsUnanswered p f)
    → MatchResult r (λ t. (t.name.now ≡ name) × AreAnswered p lines t) (λ f. IsUntested f)
answered_cards (Ok t) p name lines cards made h = (
  h.0,
  (subst (λ (cs : List CardRows). AreCardsOf p.extent.count lines cs) (sym h.1) made, subst (λ (cs : List CardRows). IsOutcome p cs t.outcome) (sym h.1) h.2),
)
answered_cards (Err f) p name lines cards made h = (p, h)

-- no write failed where no cards were planned
pub unplanned_unwritten : (a : Asked) (fault : Fault) (deeds : List FileDeed) → IsUnplanned a fault deeds → is_unwritten (Err fault) ≡ false
unplanned_unwritten a fault deeds (inl h) = no_extent_unwritten _ _ _ _ fault h.0
unplanned_unwritten a fault deeds (inr h) = platform_unwritten (table_asked a) fault deeds h

-- for the platform table a text was read, or nothing
pub platform_reading : (table : Option (List ℕ)) (text : List ℕ) (deeds : List FileDeed) → IsPlatform table text deeds → All IsReading deeds
platform_reading None text deeds h = subst (λ (ds : List FileDeed). All IsReading ds) (sym h.1) no_reading
platform_reading (Some name) text deeds h = one_reading name (Ok h.0) deeds h.2

pub no_platform_reading : (table : Option (List ℕ)) (fault : Fault) (deeds : List FileDeed) → IsNoPlatform table fault deeds → All IsReading deeds
no_platform_reading None fault deeds h = subst (λ (ds : List FileDeed). All IsReading ds) (sym h.1) no_reading
no_platform_reading (Some name) fault deeds h = unread_reading name fault deeds h

pub planned_reading : (a : Asked) (p : Plan) (deeds : List FileDeed) → IsPlanned a p deeds → All IsReading deeds
planned_reading a p deeds h = platform_reading (table_asked a) p.table.items deeds h.2

pub unplanned_reading : (a : Asked) (fault : Fault) (deeds : List FileDeed) → IsUnplanned a fault deeds → All IsReading deeds
unplanned_reading a fault deeds (inl h) = subst (λ (ds : List FileDeed). All IsReading ds) (sym h.1) no_reading
unplanned_reading a fault deeds (inr h) = no_platform_reading (table_asked a) fault deeds h

-- that text is the one that is named
platform_named : (names : List (List ℕ)) (table : Option (List ℕ)) (text : List ℕ) (deeds : List FileDeed) (path : List ℕ) → IsPlatform table text deeds
    → Contains (paths_read deeds) path → Contains (files_named names table) path
platform_named names None text deeds path h at =
    let none : Contains [] path = subst (λ (ds : List FileDeed). Contains (paths_read ds) path) h.1 at in absurd (omega (arith, none.1))
platform_named names (Some table) text deeds path h at =
    Contains-append_right names (table ∷ []) path (subst (λ (ds : List FileDeed). Contains (paths_read ds) path) h.2 at)

pub planned_named : (names : List (List ℕ)) (a : Asked) (p : Plan) (deeds : List FileDeed) (path : List ℕ) → IsPlanned a p deeds
    → Contains (paths_read deeds) path → Contains (files_named names (table_asked a)) path
planned_named names a p deeds path h at = platform_named names (table_asked a) p.table.items deeds path h.2 at
