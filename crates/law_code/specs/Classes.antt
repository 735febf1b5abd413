-- What the classes of linked packages say of one another, as far as cells of instances and methods of the platform go.
use Rattle.std.specs.Prelude.{ℕ, ◌≡◌, ◌≤◌, ◌<◌, ◌&&◌, ◌⊎◌, nat_le, nat_lt, Bool, true, false, not, length, slice_index, Option, Some, is_some}
use Rattle.jc_cap.specs.declared.pool.VirtualToken.{VirtualToken}
use Rattle.jc_platform.specs.declared.names.PlatformClass.{PlatformClass}
use Rattle.jc_platform.specs.declared.names.PlatformMethod.{PlatformMethod}
use Rattle.jc_platform.specs.declared.names.MethodKind.TheVariants as kinds
use Rattle.jc_platform.specs.NamePlaces.{class_of, class_word, is_needed_class, kind_of_method}
use Rattle.jc_platform.specs.Hierarchy.{cells_of, holds_reference, is_interface, superclass_of}
use Rattle.jc_platform.specs.Tokens.{token_of_class}
use Rattle.jc_linker.specs.declared.target.Method.TheVariants.{Native}
use Rattle.jc_linker.specs.declared.target.Target.TheVariants.{Class, InstanceField, StaticMethod}
use Rattle.jc_linker.specs.Classes.{is_below, is_class, reference_cell, size_of, is_a}
use Rattle.jc_linker.specs.Lookups.{applet_entry, target_at}
use Rattle.jc_linker.specs.Methods.{method_at}
use Rattle.jc_linker.specs.Resolve.{names_interface}
use Rattle.jc_linker.specs.Values.{AppletEntry, Packages}

-- a class of which there may be instances: no interface, and with no more cells than an object can have
abbrev pub has_instances : Packages → ℕ → Bool
has_instances p class = is_class p class && (not (names_interface p class) && nat_lt (size_of p class) 65536)

-- a class of the platform is this one, or below it
pub data IsPlatformBelow (of : PlatformClass) : PlatformClass → Type 0 where
  Itself : IsPlatformBelow of of
  Above : (class super : PlatformClass) → superclass_of class ≡ Some super → IsPlatformBelow of super → IsPlatformBelow of class

-- an instance of a class of the platform, or of one below it, has that class's cells first, which hold references or numbers as there
pub record HasPlatformCells (p : Packages) : Type 0 where
  pub kinds : (class k : ℕ) (of : PlatformClass) → has_instances p class ≡ true → is_interface of ≡ false → is_a p class of ≡ true → k < cells_of of
      → reference_cell p class k ≡ holds_reference of k
  pub sizes : (class : ℕ) (of : PlatformClass) → has_instances p class ≡ true → is_interface of ≡ false → is_a p class of ≡ true → cells_of of ≤ size_of p class
  -- of two classes of the platform that a class is below, one is below the other
  pub line : (class : ℕ) (of other : PlatformClass) → has_instances p class ≡ true → is_interface of ≡ false → is_interface other ≡ false
      → is_a p class of ≡ true → is_a p class other ≡ true →
      IsPlatformBelow of other ⊎ IsPlatformBelow other of
  -- what each table has has a token; of what has one the platform's own classes are there, with the platform's cells alone
  pub needed : (of : PlatformClass) → is_needed_class of ≡ true → is_some (token_of_class p.platform of) ≡ true
  pub own : (of : PlatformClass) → is_some (token_of_class p.platform of) ≡ true → is_interface of ≡ false → has_instances p (class_word p.platform of) ≡ true
  pub exact : (of : PlatformClass) → is_some (token_of_class p.platform of) ≡ true → size_of p (class_word p.platform of) ≡ cells_of of

-- a field that an entry names is, in instances of its class and of those below, a cell of the kind that the entry says, and none of the
-- cells that a class of the platform has
pub record HasFieldCells (p : Packages) : Type 0 where
  pub kinds : (number index of cell class : ℕ) (reference : Bool) → target_at p number index ≡ Some (InstanceField of cell reference)
      → has_instances p class ≡ true → is_below p class of ≡ true → reference_cell p class cell ≡ reference
  -- and instances of the platform's own classes have none that an entry names
  pub hidden : (number index class cell : ℕ) (reference : Bool) → target_at p number index ≡ Some (InstanceField class cell reference)
      → (of : PlatformClass) → is_below p (class_word p.platform of) class ≡ true → ⊥
  pub behind : (number index of cell class : ℕ) (reference : Bool) (platform : PlatformClass)
      → target_at p number index ≡ Some (InstanceField of cell reference) → has_instances p class ≡ true → is_interface platform ≡ false →
      is_below p class of ≡ true → is_a p class platform ≡ true → cells_of platform ≤ cell

-- a method of the platform is reached by instances of its class alone: by token, and by an entry that names it as a static one
pub record HasReceivers (p : Packages) : Type 0 where
  pub virtually : (class number : ℕ) (token : VirtualToken) (method : PlatformMethod) → is_class p class ≡ true
      → method_at p class number token ≡ Some (Native method) → is_a p class (class_of method) ≡ true
  pub statically : (number index : ℕ) (class : Option ℕ) (method : PlatformMethod) → target_at p number index ≡ Some (StaticMethod class (Native method)) →
      (class ≡ Some (class_word p.platform (class_of method))) × (kind_of_method method ≡ kinds.Static)

-- all of this is so of packages that were linked
pub record KnowsClasses (p : Packages) : Type 0 where
  pub platform : HasPlatformCells p
  pub fields : HasFieldCells p
  pub receivers : HasReceivers p
  -- an entry that names a class or an interface names one that is there
  pub classes : (number index class : ℕ) → target_at p number index ≡ Some (Class class) → is_class p class ≡ true

-- the AIDs of the applets that packages have: 5 to 16 bytes
pub record HasAids (p : Packages) : Type 0 where
  pub long : (number entry : ℕ) (a : AppletEntry) → applet_entry p number entry ≡ Some a → (nat_le 5 (length a.aid) && nat_le (length a.aid) 16) ≡ true
  pub bytes : (number entry i : ℕ) (a : AppletEntry) → applet_entry p number entry ≡ Some a → i < length a.aid → slice_index a.aid i < 256
