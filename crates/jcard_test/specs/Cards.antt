-- The cards that the lines of a file make, and their rows.
use Rattle.std.specs.Prelude.{ℕ, ◌≡◌, ◌≤◌, ◌⊎◌, ◌-◌, Bool, true, false, List, [], ◌∷◌, ◌++◌, codes, length, slice_get, take, option_map, unwrap_or, Option, Some, None}
use Rattle.std.specs.Borrow.{Bor}
use Rattle.std.specs.String.{string_bytes}
use Rattle.jcard_test.specs.Lines.{IsNumber, Says}
use Rattle.jcard_outcomes.specs.declared.card_rows.CardRows.{CardRows}
use Rattle.jcard_test.specs.declared.cards.SaidSweep.{SaidSweep}
use Rattle.jcard_test.specs.declared.cards.Sweep.{Sweep}
use Rattle.jcard_test.specs.declared.line.Line.{Line}
use Rattle.jcard_test.specs.declared.line.Line.TheVariants.{Nothing, Row as SaysRow}
use Rattle.jcard_test.specs.declared.numbered_line.Numbered.{Numbered}
use Rattle.jcard_outcomes.specs.declared.row.Row.{Row}

-- a row of this number, command and answer, which is not swept
pub record IsRow (number : ℕ) (command wanted : List ℕ) (r : Row) : Type 0 where
  pub number_is : r.number ≡ number
  pub command_is : string_bytes r.command ≡ command
  pub wanted_is : string_bytes r.wanted ≡ wanted
  pub whole : r.swept ≡ false

-- the row of a line that says so: 9000 is wanted where it says nothing else, and a directive is a row that no card answers
abbrev pub IsRowOf : Numbered → Line → Row → Type 0
IsRowOf line Nothing r = ⊥
IsRowOf line (SaysRow command answer) r = IsRow line.number command.now (unwrap_or (option_map (λ (told : Bor (List ℕ)). told.now) answer) (codes "9000")) r
IsRowOf line directive r = IsRow line.number (string_bytes line.text) (codes "9000") r

-- so does a line, or it says nothing
abbrev pub IsRowOfLine : Numbered → Option Row → Type 0
IsRowOfLine line None = Says (string_bytes line.text) Nothing
IsRowOfLine line (Some r) = (said : Line) × Says (string_bytes line.text) said × IsRowOf line said r

-- a line makes a card of this many words
abbrev pub IsNewCard : List ℕ → ℕ → Type 0
IsNewCard command words = (digits : List ℕ) × (command ≡ codes "card " ++ digits) × IsNumber digits words × (4096 ≤ words)

-- a card of this many words with these rows
abbrev pub IsCard : ℕ → List Row → CardRows → Type 0
IsCard words rows card = (card.words ≡ words) × (card.rows.items ≡ rows)

-- the line of a probe, where there is an attack
abbrev pub probe_in : Bool → List ℕ → Option (List ℕ)
probe_in true probe = Some probe
probe_in false probe = None

-- that with which a row is swept
abbrev pub probe_of : Row → Option (List ℕ)
probe_of r = probe_in r.attacked r.probe.items

abbrev pub sweep_of : Sweep → Option (List ℕ)
sweep_of s = probe_in s.attacked s.probe.items

abbrev pub said_sweep : SaidSweep → Option (List ℕ)
said_sweep s = probe_in s.attacked s.probe.now

-- a line says that the row after it is swept: the power is cut within it; or it is attacked, with what stands after that as the line of the probe
abbrev pub IsSweep : List ℕ → Option (List ℕ) → Type 0
IsSweep command None = command ≡ codes "tear all-or-nothing"
IsSweep command (Some probe) = command ≡ codes "attack none-accepted" ++ probe

-- the last of these rows says so
abbrev pub SaysSweep : List Row → Option (List ℕ) → Type 0
SaysSweep rows probe = (last : Row) × (slice_get rows (length rows - 1) ≡ Some last) × IsSweep (string_bytes last.command) probe

-- it says that a row with this command is swept so, which does not say that itself
abbrev pub IsSweptBehind : List Row → List ℕ → Option (List ℕ) → Type 0
IsSweptBehind rows command probe = ((own : Option (List ℕ)) → IsSweep command own → ⊥) × SaysSweep rows probe

-- the row with this command says itself that one is swept, or the last of these rows does not
abbrev pub IsUnswept : List Row → List ℕ → Type 0
IsUnswept rows command = ((own : Option (List ℕ)) × IsSweep command own) ⊎ ((probe : Option (List ℕ)) → SaysSweep rows probe → ⊥)

-- a row that is swept, with this line of a probe or without one
pub record IsSwept (r : Row) (probe : Option (List ℕ)) (swept : Row) : Type 0 where
  pub number_is : swept.number ≡ r.number
  pub command_is : swept.command ≡ r.command
  pub wanted_is : swept.wanted ≡ r.wanted
  pub is_swept : swept.swept ≡ true
  pub probe_is : probe_of swept ≡ probe

-- one more row: after a row that says so it is swept, and stands in its place
abbrev pub AddsRow : List Row → Row → List Row → Type 0
AddsRow rows r all = ((probe : Option (List ℕ)) × (swept : Row) × IsSweptBehind rows (string_bytes r.command) probe × IsSwept r probe swept
    × (all ≡ take (length rows - 1) rows ++ swept ∷ [])) ⊎ (IsUnswept rows (string_bytes r.command) × (all ≡ rows ++ r ∷ []))

-- with a row that makes a new card the next begins; any other is one more row of this one
abbrev pub GoesOn : (ℕ → List Row → List CardRows → Type 0) → ℕ → List Row → Row → List CardRows → Type 0
GoesOn then words rows r cards =
    ((size : ℕ) × (card : CardRows) × (more : List CardRows) × IsNewCard (string_bytes r.command) size × (cards ≡ card ∷ more) × IsCard words rows card
    × then size [] more)
    ⊎ (((size : ℕ) → IsNewCard (string_bytes r.command) size → ⊥) × (all : List Row) × AddsRow rows r all × then words all cards)

-- the cards that these lines make, from one of this many words with these rows on
unfoldable pub AreCards : List Numbered → ℕ → List Row → List CardRows → Type 0
AreCards [] words rows cards = (card : CardRows) × (cards ≡ card ∷ []) × IsCard words rows card
AreCards (line ∷ lines) words rows cards = (IsRowOfLine line None × AreCards lines words rows cards)
    ⊎ ((r : Row) × IsRowOfLine line (Some r) × GoesOn (AreCards lines) words rows r cards)

-- the cards of a file, whose first has this many words
abbrev pub AreCardsOf : ℕ → List Numbered → List CardRows → Type 0
AreCardsOf first lines cards = AreCards lines first [] cards
