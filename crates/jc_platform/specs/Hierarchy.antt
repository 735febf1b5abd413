-- The platform's classes among each other, and what their instances hold: the columns of their rows.
use Rattle.std.specs.Prelude.{ℕ, Bool, true, false, ◌&&◌, Option, None, Some, List, length, nat_lt, slice_get}
use Rattle.jc_platform.specs.declared.kinds.CellKind.{CellKind}
use Rattle.jc_platform.specs.declared.kinds.CellKind.TheVariants.{Number, Reference}
use Rattle.jc_platform.specs.declared.kinds.ClassForm.{ClassForm}
use Rattle.jc_platform.specs.declared.kinds.ClassForm.TheVariants as form
use Rattle.jc_platform.specs.declared.names.PlatformClass.{PlatformClass}
use Rattle.jc_platform.specs.declared.names.PlatformMethod.{PlatformMethod}
use Rattle.jc_platform.specs.NamePlaces.{entry_of_class, entry_of_method}

-- the superclass; Object and the interfaces have none
unfoldable pub superclass_of : PlatformClass → Option PlatformClass
superclass_of c = (entry_of_class c).superclass

-- the interfaces that a class implements itself, with those that they extend: OwnerPIN implements PIN
unfoldable pub interfaces_of : PlatformClass → List PlatformClass
interfaces_of c = (entry_of_class c).interfaces

abbrev pub is_interface_form : ClassForm → Bool
is_interface_form form.Interface = true
is_interface_form form.Static = false
is_interface_form form.Object = false
is_interface_form form.Exception = false

abbrev pub is_exception_form : ClassForm → Bool
is_exception_form form.Interface = false
is_exception_form form.Static = false
is_exception_form form.Object = false
is_exception_form form.Exception = true

-- an interface
unfoldable pub is_interface : PlatformClass → Bool
is_interface c = is_interface_form (entry_of_class c).form

-- its instances can be thrown
unfoldable pub is_throwable : PlatformClass → Bool
is_throwable c = is_exception_form (entry_of_class c).form

-- code may make instances of it by `new`: a class, and none of those that the platform makes or has methods of alone
unfoldable pub is_instantiable : PlatformClass → Bool
is_instantiable c = (entry_of_class c).instantiable

-- the runtime environment has an instance of its own, which it throws
unfoldable pub is_thrown : PlatformClass → Bool
is_thrown c = (entry_of_class c).thrown

-- how many cells an instance has: an exception of the card its reason, an AID its length and its bytes, two in a cell, an
-- OwnerPIN its limit, maximum size, tries, length and value, an engine its algorithm and its state, a KeyAgreement also its key, a Cipher and a Signature
-- their key, mode and vector, two bytes in a cell, a key its type and its data, and a KeyPair its algorithm and its two keys
unfoldable pub cells_of : PlatformClass → ℕ
cells_of c = length (entry_of_class c).cells

abbrev pub is_reference : Option CellKind → Bool
is_reference None = false
is_reference (Some Number) = false
is_reference (Some Reference) = true

-- a cell of an instance holds a reference: the fifth of an OwnerPIN, its value, the second of an engine, its state, or of a key, its data, the third of
-- a Cipher, a Signature or a KeyAgreement, its key, and both keys of a KeyPair
unfoldable pub holds_reference : PlatformClass → ℕ → Bool
holds_reference c cell = is_reference (slice_get (entry_of_class c).cells cell)

-- its instances can be thrown, and carry a reason
unfoldable pub carries_reason : PlatformClass → Bool
carries_reason c = is_throwable c && nat_lt 0 (cells_of c)

-- the method that carries out a method of an interface, as OwnerPIN's check does that of PIN
unfoldable pub implementation_of : PlatformMethod → Option PlatformMethod
implementation_of m = (entry_of_method m).implementation
