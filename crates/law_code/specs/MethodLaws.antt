-- What linked packages know of methods, and what reading a platform table says of its tokens.
use Rattle.std.specs.Prelude.{ℕ, ◌≡◌, ◌/◌, true, List, Ok, Some, ◌&&◌, Bool, false, not, codes, None}
use Rattle.jc_cap.specs.declared.pool.VirtualToken.{VirtualToken}
use Rattle.jc_linker.specs.declared.target.Method.{Method}
use Rattle.jc_linker.specs.declared.target.Target.TheVariants.{VirtualMethod}
use Rattle.jc_linker.specs.Classes.{is_below}
use Rattle.jc_linker.specs.Lookups.{target_at}
use Rattle.jc_linker.specs.Methods.{method_at, method_below}
use Rattle.jc_platform.specs.Table.{Reads, no_random}
use Rattle.jc_platform.specs.Tokens.{Tokens, token_of_class, token_of_method, version_of_package}
use Rattle.jc_linker.specs.Values.{Packages, LinkerComponents}
use Rattle.law_code.specs.LinkedPackages.{AreLinked}
use Rattle.law_code.specs.ReadPackages.{AreRead, HasByteTokens}
use Rattle.law_code.specs.Methods.{KnowsMethods}
use Rattle.law_code.specs.Platform.{KeepsPlatform}
use Rattle.std.specs.List.{list_all}
use Rattle.std.specs.Str.{bytes_eq}
use Rattle.jc_platform.specs.declared.names.PlatformPackage.{PlatformPackage}
use Rattle.jc_platform.specs.declared.names.PlatformClass.{PlatformClass}
use Rattle.jc_platform.specs.declared.names.PlatformMethod.{PlatformMethod}
use Rattle.jc_platform.specs.NamePlaces.{is_needed_class, is_needed_method}
use Rattle.jc_platform.specs.Numbers.{is_needed_package}
use Rattle.jc_platform.specs.PackedEntry.{is_packed}
use Rattle.jc_platform.specs.Rows.{parts_at}

-- they know their methods: what calls find of the platform is a method of the receiver's class
abbrev pub HaveMethods : Type 0
HaveMethods = (cs : List LinkerComponents) (p : Packages) → AreRead cs p → KnowsMethods p

-- a virtual call on an instance of a class below the one that its entry names finds the method that the instance's class has by the token
abbrev pub RunTheirMethods : Type 0
RunTheirMethods = (cs : List LinkerComponents) (p : Packages) → AreRead cs p → (number index class below : ℕ) (token : VirtualToken) (method : Method)
    → target_at p number index ≡ Some (VirtualMethod class token method) → is_below p below class ≡ true
    → method_below p below class token method ≡ method_at p below (class / 256) token

-- a call on an instance of one of the platform's classes finds no method in bytecode
abbrev pub HaveNoCode : Type 0
HaveNoCode = (cs : List LinkerComponents) (p : Packages) → AreLinked cs p → KeepsPlatform p

-- each class's token in a table that was read is one byte
abbrev pub HaveBytes : Type 0
HaveBytes = (text : List ℕ) (t : Tokens) → Reads text (Ok t) → HasByteTokens t

-- ---- platform tables without the line `extended`

-- a table is a text, not packed, and no line of it is `extended`
abbrev pub is_plain : List ℕ → Bool
is_plain text = not (is_packed text) && list_all (λ line. not (bytes_eq line (codes "extended"))) (parts_at 10 text)

-- a table has no name but those that each table has, and random data are made from zeros
pub record HasNeededAlone (t : Tokens) : Type 0 where
  pub packages : (p : PlatformPackage) → is_needed_package p ≡ false → version_of_package t p ≡ None
  pub classes : (c : PlatformClass) → is_needed_class c ≡ false → token_of_class t c ≡ None
  pub methods : (m : PlatformMethod) → is_needed_method m ≡ false → token_of_method t m ≡ None
  pub random : t.random ≡ no_random

-- so is a table that such a text is read as
abbrev pub ArePlain : Type 0
ArePlain = (text : List ℕ) (t : Tokens) → Reads text (Ok t) → is_plain text ≡ true → HasNeededAlone t
