-- The packed form of a platform table's text.
use Rattle.std.specs.Prelude.{ℕ, ◌≡◌, ◌⊎◌, ◌≤◌, nat_lt, if◌then◌else◌, true, false, List, [], ◌∷◌, ◌++◌, length, position, Option, None, Some, Ok, Result}
use Rattle.std.specs.Option.{option_and_then, option_map}
use Rattle.jc_platform.specs.declared.fault.TableFault.{TableFault}
use Rattle.jc_platform.specs.declared.names.PlatformClass.{PlatformClass}
use Rattle.jc_platform.specs.declared.names.PlatformMethod.{PlatformMethod}
use Rattle.jc_platform.specs.declared.row.Row.{Row}
use Rattle.jc_platform.specs.declared.row.Row.TheVariants.{Extended, Random, Package, Class, Method}
use Rattle.jc_platform.specs.NamePlaces.{class_of, home_of}
use Rattle.jc_platform.specs.Numbers.{package_number, same_class, same_method}
use Rattle.jc_platform.specs.PackedEntry.{is_packed}
use Rattle.jc_platform.specs.Rows.{classes_of, methods_of}
use Rattle.jc_platform.specs.Table.{Reads, Spells, largest_text}
use Rattle.jc_platform.specs.Tokens.{Tokens}

-- a place that one byte can tell
abbrev pub byte_place : ℕ → Option ℕ
byte_place place = if nat_lt place 256 then Some place else None

-- the place of a class among those of its package
abbrev pub place_of_class : PlatformClass → Option ℕ
place_of_class c = option_and_then byte_place (position (λ e. same_class e.class c) (classes_of (home_of c)))

-- the place of a method among those of its class
abbrev pub place_of_method : PlatformMethod → Option ℕ
place_of_method m = option_and_then byte_place (position (λ e. same_method e.method m) (methods_of (class_of m)))

-- the entry of a row; the line `random` has none
abbrev pub entry_of : Row → Option (List ℕ)
entry_of Extended = Some (0 ∷ 0 ∷ 0 ∷ 0 ∷ [])
entry_of (Random bytes) = None
entry_of (Package p version) = Some (1 ∷ package_number p ∷ version.major ∷ version.minor ∷ [])
entry_of (Class c token) = option_map (λ place. 2 ∷ place ∷ token ∷ 0 ∷ []) (place_of_class c)
entry_of (Method m token) = option_map (λ place. 3 ∷ place ∷ token ∷ 0 ∷ []) (place_of_method m)

-- the entries of rows, one after another; the rows from the last one up
abbrev pub entries_of : List Row → Option (List ℕ)
entries_of [] = Some []
entries_of (row ∷ rows) = option_and_then (λ bytes. option_map (λ entry. bytes ++ entry) (entry_of row)) (entries_of rows)

-- these bytes are the packed form of a text: the text reads as a table, and they are the entries of its rows, the first of which is the line `extended`
pub record IsPackedForm (text bytes : List ℕ) : Type 0 where
  pub a_text : is_packed text ≡ false
  pub a_table : (t : Tokens) × Reads text (Ok t)
  pub entries : (rows : List Row) × Spells text rows × (entries_of rows ≡ Some bytes)
  pub extended : is_packed bytes ≡ true
  pub short : length bytes ≤ largest_text

-- this is the packed form of a text; or it has none
abbrev pub IsPacking : List ℕ → Option (List ℕ) → Type 0
IsPacking text (Some bytes) = IsPackedForm text bytes
IsPacking text None = (bytes : List ℕ) → IsPackedForm text bytes → ⊥

-- an image keeps these bytes of a table: its packed form, if it has one, else the table itself
abbrev pub IsKept : List ℕ → List ℕ → Type 0
IsKept text kept = IsPackedForm text kept ⊎ (IsPacking text None × (kept ≡ text))

-- what an image keeps of a table reads as the table does
abbrev pub ReadsAlike : Type 0
ReadsAlike = (text kept : List ℕ) (answer : Result Tokens TableFault) → IsKept text kept → Reads text answer → Reads kept answer
