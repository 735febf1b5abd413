-- The platform table: its text or its packed form, and what it says.
use Rattle.std.specs.Prelude.{ℕ, ◌≡◌, ◌≢◌, ◌+◌, ◌<◌, ◌≤◌, ◌⊎◌, ◌||◌, not, Bool, true, false, is_some, List, [], ◌∷◌, ◌++◌, length, reverse, replicate, unwrap_or, None, Some}
use Rattle.std.specs.Prelude.{Result, Ok, Err}
use Rattle.std.specs.List.{list_all}
use Rattle.jc_platform.specs.declared.names.PlatformPackage.{PlatformPackage}
use Rattle.jc_platform.specs.declared.names.PlatformClass.{PlatformClass}
use Rattle.jc_platform.specs.declared.names.PlatformMethod.{PlatformMethod}
use Rattle.jc_platform.specs.declared.row.Row.{Row}
use Rattle.jc_platform.specs.declared.fault.TableFault.{TableFault}
use Rattle.jc_platform.specs.declared.fault.TableFault.TheVariants.{BadTable}
use Rattle.jc_platform.specs.Names.{MethodEntry, classes, methods}
use Rattle.jc_platform.specs.Numbers.{class_count, method_count, package_count}
use Rattle.jc_platform.specs.PackedEntry.{parts_of, row_in}
use Rattle.jc_platform.specs.Rows.{Above, above, has_needed_packages}
use Rattle.jc_platform.specs.Tokens.{Tokens, token_of_class, token_of_method, version_of_package}

-- each part of this table is its row below the rows above it; parts and rows from the last one up
abbrev pub Say : List ℕ → List (List ℕ) → List Row → Type 0
Say text [] [] = Unit {0}
Say text [] (row ∷ rows) = ⊥
Say text (line ∷ lines) [] = ⊥
Say text (line ∷ lines) (row ∷ rows) = (row_in text (above rows) line ≡ Some row) × Say text lines rows

-- the table is lines that are all ended by a line feed, or whole entries, and they say these rows
abbrev pub Spells : List ℕ → List Row → Type 0
Spells text rows = (lines : List (List ℕ)) × (parts_of text ≡ reverse lines ++ [] ∷ []) × Say text lines rows

-- a part of this table is bad: there it is no row, or no line feed ends it, or it is an entry cut short
abbrev pub IsBad : List ℕ → Above → List ℕ → List (List ℕ) → Type 0
IsBad text a part [] = part ≢ []
IsBad text a part (next ∷ more) = row_in text a part ≡ None

-- line n, or entry n, counted from 1, is the first bad one
abbrev pub IsFirstBad : List ℕ → ℕ → Type 0
IsFirstBad text n = (lines : List (List ℕ)) × (rows : List Row) × (part : List ℕ) × (more : List (List ℕ))
    × (parts_of text ≡ reverse lines ++ part ∷ more) × Say text lines rows × (n ≡ length lines + 1) × IsBad text (above rows) part more

-- each class that each table has stands above
abbrev pub has_needed_classes : Above → Bool
has_needed_classes a = list_all (λ e. not e.needed || is_some (a.class_token e.class)) classes

-- each of these methods that each table has stands above
abbrev pub has_needed_of : Above → List MethodEntry → Bool
has_needed_of a es = list_all (λ e. not e.needed || is_some (a.method_token e.method)) es

-- each method that each table has stands above
abbrev pub has_needed_methods : Above → Bool
has_needed_methods a = has_needed_of a methods

-- no package stands, or some package or name that each table has is missing
abbrev pub IsMissing : Above → Type 0
IsMissing a = (a.first ≡ None) ⊎ (has_needed_packages a ≡ false) ⊎ (has_needed_classes a ≡ false) ⊎ (has_needed_methods a ≡ false)

-- what random data are made from where no line `random` stands: 32 zeros
abbrev pub no_random : List ℕ
no_random = replicate 32 0

-- the tokens and versions are those that stand above, all that each table has stand there, and there are no more
pub record AreThoseOf (a : Above) (t : Tokens) : Type 0 where
  pub first : a.first ≡ Some t.first
  pub versions : (p : PlatformPackage) → a.version p ≡ version_of_package t p
  pub class_tokens : (c : PlatformClass) → a.class_token c ≡ token_of_class t c
  pub method_tokens : (m : PlatformMethod) → a.method_token m ≡ token_of_method t m
  pub random : unwrap_or a.random no_random ≡ t.random
  pub needed_packages : has_needed_packages a ≡ true
  pub needed_classes : has_needed_classes a ≡ true
  pub needed_methods : has_needed_methods a ≡ true
  pub as_many_versions : length t.versions ≡ package_count
  pub as_many_classes : length t.class_tokens ≡ class_count
  pub as_many_methods : length t.method_tokens ≡ method_count

-- the most bytes of a table
abbrev pub largest_text : ℕ
largest_text = 16384

-- the fault's number is one of these
abbrev pub IsFault : TableFault → (ℕ → Type 0) → Type 0
IsFault (BadTable n) Is = Is n

-- what reading a text answers
abbrev pub Reads : List ℕ → Result Tokens TableFault → Type 0
Reads text (Ok t) = (length text ≤ largest_text) × ((rows : List Row) × Spells text rows × AreThoseOf (above rows) t)
Reads text (Err (BadTable n)) = ((largest_text < length text) × (n ≡ 0))
    ⊎ ((length text ≤ largest_text) × IsFirstBad text n)
    ⊎ ((length text ≤ largest_text) × (n ≡ 0) × ((rows : List Row) × Spells text rows × IsMissing (above rows)))
