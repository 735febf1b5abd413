-- The fields that entries of a constant pool name.
use Rattle.std.specs.Prelude.{ℕ, ◌+◌, ◌*◌, ◌/◌, ◌%◌, ◌==◌, ◌&&◌, nat_lt, nat_le, not, Bool, Option, Some, None, if◌then◌else◌}
use Rattle.std.specs.Option.{option_and_then}
use Rattle.jc_frames.specs.declared.instr.ValueType.{ValueType}
use Rattle.jc_frames.specs.declared.instr.ValueType.TheVariants.{Reference, Byte, Short}
use Rattle.jc_linker.specs.declared.target.Target.{Target}
use Rattle.jc_linker.specs.declared.target.Target.TheVariants as targets
use Rattle.jc_linker.specs.Lookups.{statics_at, target_at}
use Rattle.jc_linker.specs.Values.{Packages}
use Rattle.jc_instructions.specs.declared.field_names.FieldOfClass.{FieldOfClass}
use Rattle.jc_instructions.specs.declared.field_names.FieldOfImage.{FieldOfImage}

-- a cell of this kind holds values of this of_type: entries tell references from numbers alone
abbrev pub is_type_of_cell : ValueType → Bool → Bool
is_type_of_cell Reference is_reference = is_reference
is_type_of_cell Byte is_reference = not is_reference
is_type_of_cell Short is_reference = not is_reference

-- a field of instances that holds values of this of_type
abbrev pub field_of : ValueType → Target → Option FieldOfClass
field_of of_type (targets.InstanceField class cell is_reference) = if is_type_of_cell of_type is_reference then Some
    (record { class = class; cell = cell }) else None
field_of of_type _ = None

-- the field of instances that an entry of a package's pool names
unfoldable pub field_named : ValueType → Packages → ℕ → ℕ → Option FieldOfClass
field_named of_type p package_number index = option_and_then (field_of of_type) (target_at p package_number index)

-- an image of this many bytes that begins with this many references, two bytes each, has a field of this of_type at an offset
abbrev pub has_field : ValueType → ℕ → ℕ → ℕ → Bool
has_field Reference size references offset = offset % 2 == 0 && nat_lt (offset / 2) references
has_field Byte size references offset = nat_le (2 * references) offset && nat_lt offset size
has_field Short size references offset = nat_le (2 * references) offset && nat_lt (offset + 1) size

abbrev pub in_image : ValueType → ℕ × ℕ → FieldOfImage → Option FieldOfImage
in_image of_type sizes field = if has_field of_type sizes.0 sizes.1 field.offset then Some field else None

-- a static field that holds values of this of_type
abbrev pub static_of : ValueType → Packages → Target → Option FieldOfImage
static_of of_type p (targets.StaticField package_number offset) = in_image of_type (statics_at p package_number)
    (record { package_number = package_number; offset = offset })
static_of of_type p _ = None

-- the static field that an entry of a package's pool names
unfoldable pub static_named : ValueType → Packages → ℕ → ℕ → Option FieldOfImage
static_named of_type p package_number index = option_and_then (static_of of_type p) (target_at p package_number index)
