-- The lines that list an image's packages and applets.
use Rattle.std.specs.Prelude.{ℕ, zero, suc, ◌≡◌, Bool, true, false, List, [], ◌++◌, codes, decimal, slice_index, Option, Some, None, Result, Ok, Err}
use Rattle.std.specs.Prelude.{if◌then◌else◌}
use Rattle.std.specs.Option.{option_map}
use Rattle.std.specs.Io.KnownBytes.{Appends}
use Rattle.hex.specs.Hex.{encode_upper}
use Rattle.jc_words.specs.Layout.{packages_address, applets_address}
use Rattle.jc_cap.specs.Packages.{NamedPackage}
use Rattle.jc_image.specs.Listing.{NamedApplet, package_at, applet_at}
use Rattle.jcard_texts.specs.Texts.{AppendsCut}
use Rattle.jcard_dump.specs.declared.inventory_lines.ListingFault.{ListingFault}
use Rattle.jcard_dump.specs.declared.inventory_lines.ListingFault.TheVariants.{Unreadable, NotWritten}

-- the line of a count: its name and the count in decimal digits
abbrev pub count_line : List ℕ → ℕ → List ℕ
count_line name n = name ++ decimal n ++ codes "\n"

-- the line of a journal: how many entries count, and how many there can be
abbrev pub journal_line : ℕ → ℕ → List ℕ
journal_line count capacity = (codes "journal " ++ decimal count ++ codes " of ") ++ count_line [] capacity

-- how a line begins that names one of several: what it is, its number, its AID in hexadecimal
abbrev pub name_text : List ℕ → ℕ → List ℕ → List ℕ
name_text name n aid = (name ++ decimal n ++ codes " ") ++ (encode_upper aid ++ codes " ")

-- a version, with a point between its numbers
abbrev pub version_line : ℕ → ℕ → List ℕ
version_line major minor = decimal major ++ count_line (codes ".") minor

abbrev pub package_line : ℕ → NamedPackage → List ℕ
package_line n p = name_text (codes "package ") n p.aid ++ version_line p.major_version p.minor_version

abbrev pub applet_line : ℕ → NamedApplet → List ℕ
applet_line n a = name_text (codes "applet ") n a.aid ++ count_line (codes "package ") a.package_number

-- lines up to the first that cannot be read, and whether all can
pub record Lines : Type 0 where
  pub text : List ℕ
  pub readable : Bool

abbrev pub line : List ℕ → Lines
line text = record { text = text; readable = true }

abbrev pub line_if : Option (List ℕ) → Lines
line_if (Some text) = line text
line_if None = record { text = []; readable = false }

-- lines, and after them others
unfoldable pub then_lines : Lines → Lines → Lines
then_lines first next = if first.readable then record { text = first.text ++ next.text; readable = next.readable } else first

-- the lines of this many, by their numbers from 1 on
unfoldable pub numbered_lines : (ℕ → Option (List ℕ)) → ℕ → Lines
numbered_lines one zero = line []
numbered_lines one (suc n) = then_lines (numbered_lines one n) (line_if (one (suc n)))

-- the line of the package with a number in an image
abbrev pub package_text : List ℕ → ℕ → Option (List ℕ)
package_text w n = option_map (package_line n) (package_at w n)

abbrev pub applet_text : List ℕ → ℕ → Option (List ℕ)
applet_text w n = option_map (applet_line n) (applet_at w n)

-- the lines of the packages and the applets that an image counts
abbrev pub listing_of : List ℕ → Lines
listing_of w = then_lines (numbered_lines (package_text w) (slice_index w packages_address)) (numbered_lines (applet_text w) (slice_index w applets_address))

-- known bytes grew by the lines, or by those before the first that cannot be read; or a write failed
abbrev pub Tells : Option (List ℕ) → Option (List ℕ) → Lines → Result Unit ListingFault → Type 0
Tells old new l (Ok done) = (l.readable ≡ true) × Appends old new l.text
Tells old new l (Err Unreadable) = (l.readable ≡ false) × Appends old new l.text
Tells old new l (Err NotWritten) = AppendsCut old new l.text

-- whether a write failed
abbrev pub is_not_written : Result Unit ListingFault → Bool
is_not_written (Err NotWritten) = true
is_not_written _ = false
