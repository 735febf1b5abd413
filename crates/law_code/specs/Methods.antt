-- What calls rely on, of the methods and classes of linked packages.
use Rattle.std.specs.Prelude.{ℕ, ◌≡◌, ◌≤◌, true, length, Some}
use Rattle.jc_words.specs.Layout.{most_packages}
use Rattle.jc_cap.specs.declared.pool.VirtualToken.{VirtualToken}
use Rattle.jc_platform.specs.declared.names.MethodKind.TheVariants.{Static}
use Rattle.jc_platform.specs.declared.names.PlatformClass.{PlatformClass}
use Rattle.jc_platform.specs.declared.names.PlatformClass.TheVariants.{Object}
use Rattle.jc_platform.specs.declared.names.PlatformMethod.{PlatformMethod}
use Rattle.jc_platform.specs.NamePlaces.{class_of, class_word, kind_of_method}
use Rattle.jc_linker.specs.declared.target.Method.TheVariants.{Native}
use Rattle.jc_linker.specs.declared.target.Target.TheVariants.{SuperMethod, VirtualMethod}
use Rattle.jc_linker.specs.Classes.{is_below, is_a}
use Rattle.jc_linker.specs.Lookups.{target_at}
use Rattle.jc_linker.specs.Methods.{interface_method_at, method_at}
use Rattle.jc_linker.specs.Values.{Packages}

-- a method of the platform may be called on instances of a class: it is one of this class, or of one above, and no static one
abbrev pub IsMethodOf : Packages → ℕ → PlatformMethod → Type 0
IsMethodOf p class method = (is_a p class (class_of method) ≡ true) × (kind_of_method method ≡ Static → ⊥)

-- what a call by token, one by interface and one of a superclass's method find of the platform is a method of the receiver's class;
-- above Object is no class; what an entry for virtual calls names of the platform is a method of each class below the one that it names; and
-- there are no more packages than a card can have
pub record KnowsMethods (p : Packages) : Type 0 where
  pub virtually : (class number : ℕ) (token : VirtualToken) (method : PlatformMethod) → method_at p class number token ≡ Some (Native method)
      → IsMethodOf p class method
  pub by_interface : (class interface token : ℕ) (method : PlatformMethod) → interface_method_at p class interface token ≡ Some (Native method)
      → IsMethodOf p class method
  pub above : (number index class below : ℕ) (method : PlatformMethod) → target_at p number index ≡ Some (SuperMethod class (Native method))
      → is_below p below class ≡ true → is_a p below (class_of method) ≡ true
  pub top : (of : PlatformClass) → is_a p (class_word p.platform Object) of ≡ true → of ≡ Object
  pub entries : (number index class below : ℕ) (token : VirtualToken) (method : PlatformMethod)
      → target_at p number index ≡ Some (VirtualMethod class token (Native method)) → is_below p below class ≡ true → IsMethodOf p below method
  pub few : length p.loaded ≤ most_packages
