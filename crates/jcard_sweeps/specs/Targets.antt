-- Which commands of a script are swept, and in which parts.
use Rattle.std.specs.Prelude.{ℕ, ◌≡◌, ◌⊎◌, ◌<◌, true, false, List, Option, Some, None}
use Rattle.std.specs.Str.Parse.{IsNumeral, digits_value}
use Rattle.jcard_files.specs.declared.fault.Fault.{Fault}
use Rattle.jcard_files.specs.declared.fault.Fault.TheVariants.{BadPart, NoCommand}
use Rattle.jcard_outcomes.specs.Part.{IsShareText}
use Rattle.jcard_outcomes.specs.declared.part.Share.{Share}
use Rattle.jcard_sweeps.specs.ScriptLines.{chosen}
use Rattle.jcard_sweeps.specs.declared.script_lines.ScriptLine.{ScriptLine}
use Rattle.jcard_sweeps.specs.SweepAsked.{SweepAsked}
use Rattle.jcard_sweeps.specs.declared.targets.Target.{Target}
use Rattle.jcard_sweeps.specs.declared.targets.Target.TheVariants.{Command, CommandPart, Each, EachPart}

-- the text states a number in decimal digits, if it is not too large; 0 is no number of a line
pub record IsLineNumber (text : List ℕ) (n : ℕ) : Type 0 where
  pub told : (n ≡ 0 → ⊥) → IsNumeral 10 text × (digits_value 10 text ≡ n)
  pub taken : IsNumeral 10 text → digits_value 10 text < 18446744073709551616 → n ≡ digits_value 10 text

-- the number of the line that is meant: the one that is named, or none is
abbrev pub IsMeantBy : Option (List ℕ) → Option ℕ → Type 0
IsMeantBy None number = number ≡ None
IsMeantBy (Some text) number = (n : ℕ) × (number ≡ Some n) × IsLineNumber text n

-- of these commands the one in the line that is meant, or the last where none is named, if there is one
abbrev pub IsMeant : Option (List ℕ) → List ScriptLine → Option ScriptLine → Type 0
IsMeant line all found = (number : Option ℕ) × IsMeantBy line number × (chosen number all ≡ found)

-- the part that is named, if one is
abbrev pub IsShareNamed : Option (List ℕ) → Option Share → Type 0
IsShareNamed part None = part ≡ None
IsShareNamed part (Some share) = (text : List ℕ) × (part ≡ Some text) × IsShareText text share

-- what is named is no part
abbrev pub IsNoShare : Option (List ℕ) → Type 0
IsNoShare part = (text : List ℕ) × (part ≡ Some text) × ((share : Share) → IsShareText text share → ⊥)

-- of these commands that is swept: the one that is meant, or each, whole or in the part that is named
abbrev pub IsTarget : SweepAsked → List ScriptLine → Target → Type 0
IsTarget asked all (Command line) = (asked.each ≡ false) × IsMeant asked.line all (Some line) × IsShareNamed asked.part None
IsTarget asked all (CommandPart line share) = (asked.each ≡ false) × IsMeant asked.line all (Some line) × IsShareNamed asked.part (Some share)
IsTarget asked all Each = (asked.each ≡ true) × IsShareNamed asked.part None
IsTarget asked all (EachPart share) = (asked.each ≡ true) × IsShareNamed asked.part (Some share)

-- no command is meant; or one is, but the part that is named is none
abbrev pub IsNoTarget : SweepAsked → List ScriptLine → Fault → Type 0
IsNoTarget asked all fault = ((fault ≡ NoCommand) × IsMeant asked.line all None)
    ⊎ ((fault ≡ BadPart) × ((line : ScriptLine) × IsMeant asked.line all (Some line)) × IsNoShare asked.part)

-- a part is the first or one up to the last
abbrev pub IsAmong : Target → Type 0
IsAmong (CommandPart line share) = share.first < share.step
IsAmong (EachPart share) = share.first < share.step
IsAmong other = Unit {0}
