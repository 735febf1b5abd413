-- The platform's own classes have the platform's methods alone.
use Rattle.std.specs.Prelude.{ℕ, ◌≡◌, true, Some}
use Rattle.jc_cap.specs.declared.pool.VirtualToken.{VirtualToken}
use Rattle.jc_platform.specs.declared.names.PlatformClass.{PlatformClass}
use Rattle.jc_platform.specs.NamePlaces.{class_word}
use Rattle.jc_linker.specs.declared.target.Method.TheVariants.{Code}
use Rattle.jc_linker.specs.declared.target.Target.TheVariants.{VirtualMethod}
use Rattle.jc_linker.specs.Classes.{is_below}
use Rattle.jc_linker.specs.Lookups.{target_at}
use Rattle.jc_linker.specs.Methods.{interface_method_at, method_at}
use Rattle.jc_linker.specs.Values.{Packages}

-- a call on an instance of one of the platform's classes, by token, by interface or by an entry, finds no method in bytecode
pub record KeepsPlatform (p : Packages) : Type 0 where
  pub virtually : (of : PlatformClass) (number : ℕ) (token : VirtualToken) (home offset : ℕ)
      → method_at p (class_word p.platform of) number token ≡ Some (Code home offset) → ⊥
  pub by_interface : (of : PlatformClass) (interface token home offset : ℕ) → interface_method_at p (class_word p.platform of) interface token
      ≡ Some (Code home offset) → ⊥
  pub by_entry : (of : PlatformClass) (number index class : ℕ) (token : VirtualToken) (home offset : ℕ)
      → target_at p number index ≡ Some (VirtualMethod class token (Code home offset)) → is_below p (class_word p.platform of) class ≡ true → ⊥
