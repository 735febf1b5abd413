-- Types that objects are tested against.
use Rattle.std.specs.Prelude.{ℕ, ◌&&◌, ◌||◌, Bool, true, false, Option, Some, if◌then◌else◌}
use Rattle.std.specs.Option.{option_map}
use Rattle.jc_heap.specs.declared.object.Facts.{Facts}
use Rattle.jc_heap.specs.declared.object.Kind.{Kind}
use Rattle.jc_heap.specs.declared.object.Kind.TheVariants.{BooleanArray, ByteArray, ShortArray, ReferenceArray}
use Rattle.jc_frames.specs.declared.instr.PrimitiveArray.{PrimitiveArray}
use Rattle.jc_frames.specs.declared.instr.PrimitiveArray.TheVariants.{Booleans, Bytes, Shorts}
use Rattle.jc_frames.specs.declared.instr.TestedType.{TestedType}
use Rattle.jc_frames.specs.declared.instr.TestedType.TheVariants.{OfClass, OfPrimitives, OfReferences}
use Rattle.jc_linker.specs.Classes.{is_below, is_shareable}
use Rattle.jc_linker.specs.Resolve.{names_interface}
use Rattle.jc_linker.specs.Values.{Packages}
use Rattle.jc_firewall.specs.declared.access.Access.{Access}
use Rattle.jc_firewall.specs.declared.access.Access.TheVariants.{CastToClass, CastToStandardInterface, CastToShareableInterface}
use Rattle.jc_world.specs.Types.{class_named, is_a, is_object_class}
use Rattle.jc_instructions.specs.declared.object_types.ObjectType.{ObjectType}
use Rattle.jc_instructions.specs.declared.object_types.ObjectType.TheVariants.{Class, Primitives, References}

-- the type that an instruction names, by its entry in a package's pool where it has one
unfoldable pub type_named : TestedType → Packages → ℕ → Option ObjectType
type_named (OfClass index) p package_number = option_map Class (class_named p package_number index)
type_named (OfPrimitives elements) p package_number = Some (Primitives elements)
type_named (OfReferences index) p package_number = option_map References (class_named p package_number index)

-- an array of these numbers
abbrev pub is_primitives : PrimitiveArray → Kind → Bool
is_primitives Booleans BooleanArray = true
is_primitives Bytes ByteArray = true
is_primitives Shorts ShortArray = true
is_primitives _ _ = false

-- an array of references
abbrev pub is_references : Kind → Bool
is_references ReferenceArray = true
is_references _ = false

-- instances of a class or an interface are instances of another one: all are instances of Object
abbrev pub is_subtype : Packages → ℕ → ℕ → Bool
is_subtype p class of = is_object_class p of || is_below p class of

-- an object is of a type: an array of references is, where what it may hold is
unfoldable pub is_of_type : ObjectType → Packages → Facts → Bool
is_of_type (Class c) p f = is_a p f c
is_of_type (Primitives elements) p f = is_primitives elements f.kind
is_of_type (References c) p f = is_references f.kind && is_subtype p f.class c

-- what the firewall is asked about a test against a class or an interface
abbrev pub access_to_class : Packages → ℕ → Access
access_to_class p c = if names_interface p c then (if is_shareable p c then CastToShareableInterface else CastToStandardInterface) else CastToClass

-- and about one against a type
abbrev pub access_to : Packages → ObjectType → Access
access_to p (Class c) = access_to_class p c
access_to p (Primitives elements) = CastToClass
access_to p (References c) = CastToClass
