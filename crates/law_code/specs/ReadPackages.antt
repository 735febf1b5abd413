-- Packages that were read and linked.
use Rattle.std.specs.Prelude.{ℕ, ◌≡◌, ◌<◌, All, List, Option, Some, None, slice_get}
use Rattle.jc_cap.specs.declared.formats.Format.{Format}
use Rattle.jc_cap.specs.Applets.{AppletNamed, IsApplets}
use Rattle.jc_cap.specs.Classes.{AreClasses}
use Rattle.jc_platform.specs.declared.names.PlatformClass.{PlatformClass}
use Rattle.jc_platform.specs.Platform.{TellNames}
use Rattle.jc_platform.specs.Tokens.{Tokens, class_token}
use Rattle.jc_linker.specs.Values.{Packages}
use Rattle.jc_linker.specs.Values.{LinkerComponents}
use Rattle.law_code.specs.LinkedPackages.{AreLinked}

-- the token of each class that the platform has is one byte
abbrev pub HasByteTokens : Tokens → Type 0
HasByteTokens t = (c : PlatformClass) → class_token t c < 256

-- the class records of these components are those of a Class component
abbrev pub HasClassComponent : LinkerComponents → Type 0
HasClassComponent c = (format : Format) × (info : List ℕ) × AreClasses format c.classes info

-- packages of these components were linked, where the platform's tokens, of one byte each, stand for its names, and each package's
-- class records are those of a Class component
pub record AreRead (cs : List LinkerComponents) (p : Packages) : Type 0 where
  pub names : TellNames p.platform
  pub bytes : HasByteTokens p.platform
  pub classes : (i : ℕ) (c : LinkerComponents) → slice_get cs i ≡ Some c → HasClassComponent c
  pub linked : AreLinked cs p

-- a package's applets, where it has any, are those of an Applet component
abbrev pub HasAppletComponent : Option (List AppletNamed) → Type 0
HasAppletComponent None = Unit {0}
HasAppletComponent (Some xs) = (info : List ℕ) × All (λ b. b < 256) info × IsApplets xs info
