-- What the entries of linked packages resolve to.
use Rattle.std.specs.Prelude.{ℕ, ◌≡◌, ◌+◌, List, Some, None, slice_get, Bool, true, ◌≢◌, ◌<◌, ◌/◌, length}
use Rattle.jc_cap.specs.declared.pool.Entry.{Entry}
use Rattle.jc_linker.specs.declared.target.Target.{Target}
use Rattle.jc_linker.specs.Lookups.{target_at, applet_entry, code_at, entry_at, entry_with_aid, package_with_aid, statics_at}
use Rattle.jc_linker.specs.Resolve.{resolution, names_interface}
use Rattle.jc_linker.specs.Values.{Packages, LinkerComponents, PackageValue}
use Rattle.law_code.specs.LinkedPackages.{AreLinked}
use Rattle.jc_platform.specs.declared.names.PlatformClass.{PlatformClass}
use Rattle.jc_platform.specs.NamePlaces.{class_word}
use Rattle.jc_linker.specs.declared.target.Target.TheVariants.{InstanceField}
use Rattle.jc_linker.specs.Classes.{is_below, is_class, is_instantiable_class, is_shareable, package_in, reference_cell, size_of, superclass_in}
use Rattle.jc_cap.specs.declared.pool.VirtualToken.{VirtualToken}
use Rattle.jc_linker.specs.Methods.{interface_method_at, method_at}
use Rattle.jc_linker.specs.Linking.{next_number, with_package}

-- each entry of this constant pool resolves in the package with this number, and is looked up by its index as what it
-- resolves to; after the pool's end nothing is looked up
pub record Resolve (p : Packages) (number : ℕ) (pool : List Entry) : Type 0 where
  pub entries : (index : ℕ) (e : Entry) → slice_get pool index ≡ Some e → (t : Target) × (resolution p number e ≡ Some t) × (target_at p number index ≡ Some t)
  pub ends : (index : ℕ) → slice_get pool index ≡ None → target_at p number index ≡ None

-- so does that of each package, in all packages that were linked; the first has number 1
abbrev pub AllResolve : Type 0
AllResolve = (cs : List LinkerComponents) (p : Packages) → AreLinked cs p → (i : ℕ) (c : LinkerComponents) → slice_get cs i ≡ Some c → Resolve p (i + 1) c.pool

-- ---- the fields that entries name

-- among packages that were linked no entry names a field that instances of a class of the platform have, if they are of no class below it
abbrev pub HideFields : Type 0
HideFields = (cs : List LinkerComponents) (p : Packages) → AreLinked cs p → (number index class cell : ℕ) (reference : Bool)
    → target_at p number index ≡ Some (InstanceField class cell reference) →
    (of : PlatformClass) → is_below p (class_word p.platform of) class ≡ true → ⊥

-- ---- what stays as it was where one more package is there

-- the package with this number stands in both alike, and each entry resolves in it alike
pub record PackageStays (old new : Packages) (number : ℕ) : Type 0 where
  pub itself : package_in new number ≡ package_in old number
  pub entries : (e : Entry) → resolution new number e ≡ resolution old number e
  pub targets : (index : ℕ) → target_at new number index ≡ target_at old number index
  pub code : (offset : ℕ) → code_at new number offset ≡ code_at old number offset
  pub statics : statics_at new number ≡ statics_at old number
  pub installs : (aid : List ℕ) → entry_at new number aid ≡ entry_at old number aid
  pub applets : (entry : ℕ) → applet_entry new number entry ≡ applet_entry old number entry
  pub applet_numbers : (aid : List ℕ) → entry_with_aid new number aid ≡ entry_with_aid old number aid

-- the class with this word is alike in both: what it is, what it is below, its cells, and its methods
pub record ClassStays (old new : Packages) (class : ℕ) : Type 0 where
  pub there : is_class new class ≡ is_class old class
  pub above : superclass_in new class ≡ superclass_in old class
  pub below : (of : ℕ) → is_below new class of ≡ is_below old class of
  pub interface : names_interface new class ≡ names_interface old class
  pub shareable : is_shareable new class ≡ is_shareable old class
  pub size : size_of new class ≡ size_of old class
  pub made : is_instantiable_class new class ≡ is_instantiable_class old class
  pub references : (cell : ℕ) → reference_cell new class cell ≡ reference_cell old class cell
  pub methods : (package_number : ℕ) (token : VirtualToken) → method_at new class package_number token ≡ method_at old class package_number token
  pub interface_methods : (of token : ℕ) → interface_method_at new class of token ≡ interface_method_at old class of token

-- with one more package all is as it was, but under the number that it got; what an AID finds is found still
pub record Stays (old new : Packages) (number : ℕ) : Type 0 where
  pub packages : (n : ℕ) → n ≢ number → PackageStays old new n
  pub classes : (class : ℕ) → class / 256 ≢ number → ClassStays old new class
  pub names : (aid : List ℕ) (n : ℕ) → package_with_aid old aid ≡ Some n → package_with_aid new aid ≡ Some n

-- whatever package comes after packages that were linked, with a place for it
abbrev pub AddingKeeps : Type 0
AddingKeeps = (cs : List LinkerComponents) (p : Packages) (q : PackageValue) → AreLinked cs p → length p.loaded < 32
    → Stays p (with_package p q) (next_number p)
