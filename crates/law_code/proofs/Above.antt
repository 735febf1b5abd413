-- Entries that name a superclass's method: it is found in the superclass, and the class is no interface. Those that name a virtual one: its class has it.
use Rattle.std.proofs.Common.{◌≡◌, ℕ, ◌/◌, Bool, true, false, List, Option, Some, None, refl, subst, if◌then◌else◌}
use Rattle.std.specs.Option.{option_and_then, option_map}
use Rattle.std.proofs.lemmas.Option.{none-some}
use Rattle.jc_platform.specs.declared.names.PlatformClass.{PlatformClass}
use Rattle.jc_platform.specs.NamePlaces.{class_word}
use Rattle.jc_platform.specs.Hierarchy.{is_interface, superclass_of}
use Rattle.jc_platform.specs.Platform.{class_by_word}
use Rattle.jc_cap.specs.declared.pool.VirtualToken.{VirtualToken}
use Rattle.jc_linker.specs.declared.target.Method.{Method}
use Rattle.jc_linker.specs.declared.target.Target.{Target}
use Rattle.jc_linker.specs.declared.target.Target.TheVariants as targets
use Rattle.jc_linker.specs.Classes.{class_in, superclass_by, superclass_in}
use Rattle.jc_linker.specs.Lookups.{target_at}
use Rattle.jc_linker.specs.Methods.{method_at}
use Rattle.jc_linker.specs.Resolve.{class_named, interface_by, names_interface, super_target}
use Rattle.jc_linker.specs.Values.{ClassValue, Packages}
use Rattle.jc_linker.specs.Values.{LinkerComponents}
use Rattle.law_code.specs.LinkedPackages.{AreLinked}
use Rattle.law_code.proofs.EntryTargets.{entered}
use Rattle.law_code.proofs.ClassFacts.{extending_class}
use Rattle.law_code.proofs.Fields.{any_field, any_foreign, any_super, mapped_there, of_entry}
use Rattle.law_code.proofs.Lists.{IfThere}

-- a superclass's method is found in the superclass
abbrev pub IsAbove : Packages → Target → Type 0
IsAbove p (targets.SuperMethod class m) = (above : ℕ) × (number : ℕ) × (token : VirtualToken) × (superclass_in p class ≡ Some above)
    × (method_at p above number token ≡ Some m)
IsAbove p _ = Unit {0}

module _ (p : Packages) where
  method_above : (token : VirtualToken) (class above : ℕ) → superclass_in p class ≡ Some above → (o : Option Method) → method_at p above (class / 256) token ≡ o
      → IfThere (IsAbove p) (option_map (targets.SuperMethod class) o)
  method_above token class above is None found = tt
  method_above token class above is (Some m) found = (above, class / 256, token, is, found)

  class_above : (token : VirtualToken) (class : ℕ) (o : Option ℕ) → superclass_in p class ≡ o
      → IfThere (IsAbove p) (option_and_then (λ above. option_map (targets.SuperMethod class) (method_at p above (class / 256) token)) o)
  class_above token class None is = tt
  class_above token class (Some above) is = method_above token class above is (method_at p above (class / 256) token) refl

  super_above : (token : VirtualToken) (class : ℕ) → IfThere (IsAbove p) (super_target p token class)
  unfolding super_target
  super_above token class = class_above token class (superclass_in p class) refl

  -- what has a superclass is no interface

  loaded_class : (c : ClassValue) (b : Bool) (above : ℕ) → c.is_interface ≡ b → (if b then None else Some c.superclass) ≡ Some above → c.is_interface ≡ false
  loaded_class c true above kind is = absurd (none-some above is)
  loaded_class c false above kind is = kind

  platform_class : (c : PlatformClass) (o : Option PlatformClass) (above : ℕ) → superclass_of c ≡ o → option_map (class_word p.platform) o ≡ Some above
      → is_interface c ≡ false
  platform_class c None above extends is = absurd (none-some above is)
  platform_class c (Some d) above extends is = extending_class c d extends

  by_class : (o : Option ClassValue) (other : Option PlatformClass) (above : ℕ) → superclass_by p o other ≡ Some above → interface_by o other ≡ false
  by_class (Some c) other above is = loaded_class c c.is_interface above refl is
  by_class None None above is = refl
  by_class None (Some c) above is = platform_class c (superclass_of c) above refl is

  pub no_interface : (class above : ℕ) → superclass_in p class ≡ Some above → names_interface p class ≡ false
  unfolding superclass_in names_interface
  no_interface class above is = by_class (class_in p class) (class_by_word p.platform class) above is

pub super_entry : (cs : List LinkerComponents) (p : Packages) → AreLinked cs p → (number index class : ℕ) (m : Method)
    → target_at p number index ≡ Some (targets.SuperMethod class m) → IsAbove p (targets.SuperMethod class m)
super_entry cs p linked number index class m is =
    let entry = entered cs p linked number index (targets.SuperMethod class m) is in
    subst (IfThere (IsAbove p)) entry.1 (of_entry p number (IsAbove p) (record {
      classes = λ c. mapped_there (IsAbove p) targets.Class (class_named p number c) (λ w. tt);
      fields = any_field p (IsAbove p) (λ w cell reference. tt);
      virtual = λ w token method plain found. tt;
      super = super_above p;
      statics = λ n offset. tt;
      own = λ offset. tt;
      foreign = any_foreign p (IsAbove p) (λ w method. tt);
    }) entry.0)

-- a virtual method that an entry names is the one that its class has by the token, which is no interface
abbrev pub IsOfClass : Packages → Target → Type 0
IsOfClass p (targets.VirtualMethod class token m) = (names_interface p class ≡ false) × (method_at p class (class / 256) token ≡ Some m)
IsOfClass p _ = Unit {0}

pub virtual_entry : (cs : List LinkerComponents) (p : Packages) → AreLinked cs p → (number index class : ℕ) (token : VirtualToken) (m : Method)
    → target_at p number index ≡ Some (targets.VirtualMethod class token m) → IsOfClass p (targets.VirtualMethod class token m)
virtual_entry cs p linked number index class token m is =
    let entry = entered cs p linked number index (targets.VirtualMethod class token m) is in
    subst (IfThere (IsOfClass p)) entry.1 (of_entry p number (IsOfClass p) (record {
      classes = λ c. mapped_there (IsOfClass p) targets.Class (class_named p number c) (λ w. tt);
      fields = any_field p (IsOfClass p) (λ w cell reference. tt);
      virtual = λ w token method plain found. (plain, found);
      super = any_super p (IsOfClass p) (λ w method. tt);
      statics = λ n offset. tt;
      own = λ offset. tt;
      foreign = any_foreign p (IsOfClass p) (λ w method. tt);
    }) entry.0)
