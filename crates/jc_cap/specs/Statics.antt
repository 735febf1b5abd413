-- Which bytes are a StaticField component.
use Rattle.std.specs.Prelude.{◌≡◌, ℕ, ◌+◌, ◌*◌, ◌%◌, ◌≤◌, List, ◌∷◌, ◌++◌, length}
use Rattle.jc_cap.specs.Grammar.{AreEncodedInTurn, IsU2}
use Rattle.jc_cap.specs.declared.static_arrays.ElementType.{ElementType}
use Rattle.jc_cap.specs.declared.static_arrays.ElementType.TheVariants.{Boolean, Byte, Short}
use Rattle.jc_cap.specs.StaticValues.{StaticArray, StaticParts}
use Rattle.jc_cap.specs.StaticReading.{element_size}

-- the number of a type
abbrev pub element_type_number : ElementType → ℕ
element_type_number Boolean = 2
element_type_number Byte = 3
element_type_number Short = 4

-- the type, the number of bytes, and the bytes, which are whole elements
abbrev pub IsStaticArray : StaticArray → List ℕ → Type 0
IsStaticArray a text = (count : List ℕ) × IsU2 (length a.values) count × (length a.values % element_size a.element_type ≡ 0)
    × (text ≡ element_type_number a.element_type ∷ (count ++ a.values))

-- the number of the arrays, at most one for each reference, and the arrays
abbrev pub AreStaticArrays : ℕ → List StaticArray → List ℕ → Type 0
AreStaticArrays references arrays text = (count : List ℕ) × (listed : List ℕ) × (length arrays ≤ references)
    × IsU2 (length arrays) count × AreEncodedInTurn IsStaticArray arrays listed × (text ≡ count ++ listed)

-- the image has the references first, then the zeros, then the other values
abbrev pub AreStatics : StaticParts → List ℕ → Type 0
AreStatics s text = (size : List ℕ) × (references : List ℕ) × (arrays : List ℕ) × (zeros : List ℕ) × (others : List ℕ)
    × IsU2 s.image_size size × IsU2 s.reference_count references × AreStaticArrays s.reference_count s.arrays arrays
    × IsU2 s.default_value_count zeros × IsU2 (length s.non_default_values) others
    × (s.image_size ≡ 2 * s.reference_count + s.default_value_count + length s.non_default_values)
    × (text ≡ size ++ (references ++ (arrays ++ (zeros ++ (others ++ s.non_default_values)))))
