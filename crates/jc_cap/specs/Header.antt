-- The Header component.
use Rattle.std.specs.Prelude.{◌≡◌, ℕ, ◌+◌, ◌/◌, ◌%◌, Bool, List, [], ◌∷◌, ◌++◌, length, Result, Ok, Err, nat_lt, ◌==◌, if◌then◌else◌}
use Rattle.jc_cap.specs.declared.fault.CapFault.{CapFault}
use Rattle.jc_cap.specs.declared.fault.CapFault.TheVariants.{Truncated, BadMagic, BadVersion, UsesInt, BadOffset}
use Rattle.jc_cap.specs.declared.formats.Format.{Format}
use Rattle.jc_cap.specs.declared.formats.Format.TheVariants.{V2_1, V2_2}
use Rattle.jc_cap.specs.Packages.{NamedPackage, package_at}
use Rattle.jc_cap.specs.Reading.{◌>>=◌, Field, u1_at, run_at}
use Rattle.jc_cap.specs.Grammar.{IsPackageInfo}

-- what a package says of itself: its format, what it has, its version and AID, and its name, which is empty in format 2.1
pub record HeaderValue : Type 0 where
  pub format : Format
  pub exports : Bool
  pub has_applets : Bool
  pub this_package : NamedPackage
  pub name : List ℕ

-- DE CA FF ED
abbrev pub magic_at : List ℕ → Result (List ℕ) CapFault
magic_at [] = Err Truncated
magic_at (a ∷ []) = Err Truncated
magic_at (a ∷ b ∷ []) = Err Truncated
magic_at (a ∷ b ∷ c ∷ []) = Err Truncated
magic_at (a ∷ b ∷ c ∷ d ∷ rest) = if a == 222 then (if b == 202 then (if c == 255 then (if d == 237 then Ok rest else Err BadMagic) else Err BadMagic) else Err
    BadMagic) else Err BadMagic

-- the minor version of a format; the major version of all is 2
abbrev pub minor_of : Format → ℕ
minor_of V2_1 = 1
minor_of V2_2 = 2

-- the format with this minor version
abbrev pub format_of : ℕ → Result Format CapFault
format_of minor = if minor == 1 then Ok V2_1 else if minor == 2 then Ok V2_2 else Err BadVersion

-- the minor version, then the major one
unfoldable pub version_at : List ℕ → Field Format
version_at bytes = do
  minor ← u1_at bytes
  format ← format_of minor.0
  major ← u1_at minor.1
  if major.0 == 2 then Ok (format, major.1) else Err BadVersion

-- 1 for int, which is refused, 2 for exports, 4 for applets; no other bit is allowed
unfoldable pub flags_at : List ℕ → Field (Bool × Bool)
flags_at bytes = do
  flags ← u1_at bytes
  if flags.0 % 2 == 1 then Err UsesInt else if nat_lt 7 flags.0 then Err BadOffset else Ok ((flags.0 / 2 % 2 == 1, nat_lt 3 flags.0), flags.1)

-- the name after its length, in format 2.2 alone
unfoldable pub name_at : Format → List ℕ → Field (List ℕ)
name_at V2_1 bytes = Ok ([], bytes)
name_at V2_2 bytes = do
  count ← u1_at bytes
  run_at count.0 count.1

unfoldable pub header_at : List ℕ → Field HeaderValue
header_at bytes = do
  unmagic ← magic_at bytes
  format ← version_at unmagic
  flags ← flags_at format.1
  info ← package_at flags.1
  name ← name_at format.0 info.1
  Ok (record { format = format.0; exports = flags.0.0; has_applets = flags.0.1; this_package = info.0; name = name.0 }, name.1)

-- the byte of flags: 2 for exports, 4 for applets
abbrev pub flags_byte : Bool → Bool → ℕ
flags_byte exports applets = (if exports then 2 else 0) + (if applets then 4 else 0)

-- the name after its length; in format 2.1 there is none
abbrev pub IsName : Format → List ℕ → List ℕ → Type 0
IsName V2_1 name text = (name ≡ []) × (text ≡ [])
IsName V2_2 name text = text ≡ length name ∷ name

-- the magic number, the format's version, the flags, the package's version and AID, and its name
abbrev pub IsHeader : HeaderValue → List ℕ → Type 0
IsHeader h text = (info : List ℕ) × (name : List ℕ) × IsPackageInfo h.this_package info × IsName h.format h.name name
    × (text ≡ 222 ∷ 202 ∷ 255 ∷ 237 ∷ minor_of h.format ∷ 2 ∷ flags_byte h.exports h.has_applets ∷ (info ++ name))
