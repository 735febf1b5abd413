-- What a package's record is made of.
use Rattle.std.specs.Prelude.{ℕ, ◌+◌, ◌-◌, ◌*◌, ◌≡◌, ◌<◌, List, [], ◌∷◌, ◌++◌, map, length, replicate, Option, Some, None, Result, Ok, Err}
use Rattle.jc_cap.specs.declared.fault.CapFault.{CapFault}
use Rattle.jc_cap.specs.Tags.{header_tag, directory_tag, applet_tag, import_tag, constant_pool_tag, class_tag, method_tag, static_field_tag, export_tag}
use Rattle.jc_cap.specs.declared.static_arrays.ElementType.{ElementType}
use Rattle.jc_cap.specs.declared.static_arrays.ElementType.TheVariants.{Boolean, Byte, Short}
use Rattle.jc_cap.specs.StaticValues.{StaticArray, StaticParts}
use Rattle.jc_cap.specs.declared.texts.PackageBytes.{PackageBytes}
use Rattle.jc_cap.specs.Contents.{PackageContents}
use Rattle.jc_cap.specs.PackageReading.{contents_of}
use Rattle.jc_heap.specs.declared.object.Kind.{Kind}
use Rattle.jc_heap.specs.declared.object.Kind.TheVariants.{BooleanArray, ByteArray, ShortArray}
use Rattle.jc_heap.specs.Package.{AreArrays, AreComponents, image_size, array_inits, parts}
use Rattle.jc_packages.specs.LinkerView.{info_of_component}
use Rattle.jc_packages.specs.declared.record_contents.RecordContents.{RecordContents}

-- a component of a record: its tag and its info
abbrev pub part : ℕ → List ℕ → ℕ × List ℕ
part tag text = (tag, info_of_component tag text)

-- one that may be absent
abbrev pub component_if_present : ℕ → Option (List ℕ) → List (ℕ × List ℕ)
component_if_present tag None = []
component_if_present tag (Some text) = part tag text ∷ []

-- the components of a record, by ascending tags: those that say how the package runs
unfoldable pub parts_of : PackageBytes → List (ℕ × List ℕ)
parts_of t =
    (part header_tag t.header ∷ part directory_tag t.directory ∷ []) ++ component_if_present applet_tag t.applets
    ++ (part import_tag t.imports ∷ part constant_pool_tag t.pool ∷ part class_tag t.classes ∷ part method_tag t.methods ∷ part static_field_tag t.statics ∷ [])
    ++ component_if_present export_tag t.exports

-- the array that is made for an initialised array
abbrev pub kind_of : ElementType → Kind
kind_of Boolean = BooleanArray
kind_of Byte = ByteArray
kind_of Short = ShortArray

abbrev pub array_of : StaticArray → Kind × List ℕ
array_of a = (kind_of a.element_type, a.values)

abbrev pub arrays_of : StaticParts → List (Kind × List ℕ)
arrays_of s = map array_of s.arrays

-- how many zeros stand after the references to these arrays: null for each other reference, and the default values
abbrev pub zeros_of : StaticParts → ℕ
zeros_of s = 2 * (s.reference_count - length s.arrays) + s.default_value_count

-- the static image after the references to these arrays
abbrev pub image_of : StaticParts → List ℕ
image_of s = replicate (zeros_of s) 0 ++ s.non_default_values

-- what the StaticField component of a package says
abbrev pub statics_if_present : Result PackageContents CapFault → StaticParts
statics_if_present (Ok c) = c.statics
statics_if_present (Err fault) = record { image_size = 0; reference_count = 0; arrays = []; default_value_count = 0; non_default_values = [] }

abbrev pub statics_of : PackageBytes → StaticParts
statics_of t = statics_if_present (contents_of t)

-- this is what the record of a package is made of, and a heap takes it
pub record AreRecordContents (t : PackageBytes) (m : RecordContents) : Type 0 where
  pub components : parts m.components.items ≡ parts_of t
  pub arrays : array_inits m.arrays.items ≡ arrays_of (statics_of t)
  pub image : m.image.items ≡ image_of (statics_of t)
  pub are_components : AreComponents (parts m.components.items)
  pub are_arrays : AreArrays (array_inits m.arrays.items)
  pub small : image_size (array_inits m.arrays.items) m.image.items < 65536
