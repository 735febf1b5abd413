-- What the StaticField component says.
use Rattle.std.specs.Prelude.{ℕ, List}
use Rattle.jc_cap.specs.declared.static_arrays.ElementType.{ElementType}

-- an initialised array of primitives: its type, and its bytes
pub record StaticArray : Type 0 where
  pub element_type : ElementType
  pub values : List ℕ

-- the static field image: its size in bytes, how many references it begins with, the arrays that the first of them
-- refer to, how many zeros follow the references, and the bytes after those
pub record StaticParts : Type 0 where
  pub image_size : ℕ
  pub reference_count : ℕ
  pub arrays : List StaticArray
  pub default_value_count : ℕ
  pub non_default_values : List ℕ
