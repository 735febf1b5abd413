-- Linked packages.
use Rattle.std.specs.Prelude.{ℕ, Bool, List, Option}
use Rattle.jc_platform.specs.Tokens.{Tokens}
use Rattle.jc_cap.specs.Packages.{NamedPackage}
use Rattle.jc_cap.specs.Applets.{AppletNamed}
use Rattle.jc_cap.specs.declared.exports.ExportedClass.{ExportedClass}
use Rattle.jc_cap.specs.declared.pool.Entry.{Entry}
use Rattle.jc_cap.specs.ClassValues.{RecordAt}
use Rattle.jc_linker.specs.declared.target.Target.{Target}

-- what of a package's components is linked; methods is the info of the Method component
pub record LinkerComponents : Type 0 where
  pub name : NamedPackage
  pub imports : List NamedPackage
  pub pool : List Entry
  pub classes : List RecordAt
  pub methods : List ℕ
  pub image_size : ℕ
  pub image_references : ℕ
  pub exports : Option (List ExportedClass)
  pub applets : Option (List AppletNamed)

-- a class's virtual methods by token, from a base on: the offset of each in the Method component, 65535 for one that is
-- inherited; those below the base are the superclass's
pub record MethodTable : Type 0 where
  pub base : ℕ
  pub offsets : List ℕ

-- an interface that a class implements, with the token of the virtual method that carries out each of its methods; or
-- a superinterface, with none
pub record Implementation : Type 0 where
  pub interface : ℕ
  pub tokens : List ℕ

-- a class or an interface: where its record stands in the Class component, its superclass, the cells of an instance that
-- it inherits and that it declares, and which of the latter hold references (from the first on, this many)
pub record ClassValue : Type 0 where
  pub offset : ℕ
  pub is_interface : Bool
  pub superclass : ℕ
  pub interfaces : List Implementation
  pub inherited_cells : ℕ
  pub declared_cells : ℕ
  pub first_reference : ℕ
  pub reference_count : ℕ
  pub public_methods : MethodTable
  pub package_methods : MethodTable

-- a class that a package exports: where its record stands in the Class component, and the offsets of its static fields and methods by token
pub record Export : Type 0 where
  pub class_offset : ℕ
  pub field_offsets : List ℕ
  pub method_offsets : List ℕ

-- an applet: its AID, and where its install method stands in the Method component
pub record AppletEntry : Type 0 where
  pub aid : List ℕ
  pub install_offset : ℕ

-- a package: its name, the numbers of the packages that it imports, its classes by number, what it exports by token, what the entries of its constant pool
-- resolve to,
-- the bytes of its Method component, the size of its static image in bytes and how many references that begins with, and
-- its applets
pub record PackageValue : Type 0 where
  pub name : NamedPackage
  pub imports : List ℕ
  pub classes : List ClassValue
  pub exports : List Export
  pub targets : List Target
  pub methods : List ℕ
  pub image_size : ℕ
  pub image_references : ℕ
  pub applets : List AppletEntry

-- all packages of a card: the platform's by their table, and the loaded ones, which count from 1
pub record Packages : Type 0 where
  pub platform : Tokens
  pub loaded : List PackageValue
