-- Reading the StaticField component.
use Rattle.std.specs.Prelude.{ℕ, ◌+◌, ◌*◌, ◌%◌, List, [], ◌∷◌, length, Ok, Err, nat_lt, ◌==◌, if◌then◌else◌}
use Rattle.jc_cap.specs.declared.fault.CapFault.TheVariants.{BadOffset, SizesDisagree}
use Rattle.jc_cap.specs.Reading.{◌>>=◌, Field, u1_at, u2_at, run_at, many_at}
use Rattle.jc_cap.specs.declared.static_arrays.ElementType.{ElementType}
use Rattle.jc_cap.specs.declared.static_arrays.ElementType.TheVariants.{Boolean, Byte, Short}
use Rattle.jc_cap.specs.StaticValues.{StaticArray, StaticParts}

-- 2 for boolean, 3 for byte, 4 for short
unfoldable pub element_type_at : List ℕ → Field ElementType
element_type_at bytes = do
  number ← u1_at bytes
  if number.0 == 2 then Ok (Boolean, number.1)
      else if number.0 == 3 then Ok (Byte, number.1)
      else if number.0 == 4 then Ok (Short, number.1)
      else Err BadOffset

-- how many bytes an element has
abbrev pub element_size : ElementType → ℕ
element_size Boolean = 1
element_size Byte = 1
element_size Short = 2

-- the type, and the bytes after their number, which is one of whole elements
unfoldable pub static_array_at : List ℕ → Field StaticArray
static_array_at bytes = do
  element_type ← element_type_at bytes
  count ← u2_at element_type.1
  if count.0 % element_size element_type.0 == 0 then (do
    values ← run_at count.0 count.1
    Ok (record { element_type = element_type.0; values = values.0 }, values.1))
      else Err BadOffset

-- the arrays after their count, which is at most that of the references
unfoldable pub static_arrays_at : ℕ → List ℕ → Field (List StaticArray)
static_arrays_at references bytes = do
  count ← u2_at bytes
  if nat_lt references count.0 then Err BadOffset else many_at static_array_at count.0 count.1

-- how many zeros, and how many other bytes, which with the references make up the image
unfoldable pub value_counts_at : ℕ → ℕ → List ℕ → Field (ℕ × ℕ)
value_counts_at image_size references bytes = do
  zeros ← u2_at bytes
  others ← u2_at zeros.1
  if image_size == 2 * references + zeros.0 + others.0 then Ok ((zeros.0, others.0), others.1) else Err SizesDisagree

unfoldable pub statics_at : List ℕ → Field StaticParts
statics_at bytes = do
  image_size ← u2_at bytes
  references ← u2_at image_size.1
  arrays ← static_arrays_at references.0 references.1
  counts ← value_counts_at image_size.0 references.0 arrays.1
  values ← run_at counts.0.1 counts.1
  Ok (
    record { image_size = image_size.0; reference_count = references.0; arrays = arrays.0; default_value_count = counts.0.0; non_default_values = values.0 },
    values.1,
  )

-- the number of bytes that all arrays have together
abbrev pub values_size : List StaticArray → ℕ
values_size [] = 0
values_size (a ∷ arrays) = length a.values + values_size arrays
