-- What a directory says of the other components.
use Rattle.std.specs.Prelude.{ℕ, ◌-◌, Bool, true, ◌&&◌, List, length, Option, Some, None, ◌==◌, get_or}
use Rattle.jc_cap.specs.StaticReading.{values_size}
use Rattle.jc_cap.specs.declared.texts.PackageBytes.{PackageBytes}
use Rattle.jc_cap.specs.Contents.{PackageContents}
use Rattle.jc_cap.specs.Tags.{header_tag, directory_tag, applet_tag, import_tag, constant_pool_tag, class_tag, method_tag, static_field_tag}
use Rattle.jc_cap.specs.Tags.{reference_location_tag, export_tag, descriptor_tag}

-- the size of a component's info: what stands after its tag and its size
abbrev pub size_of : List ℕ → ℕ
size_of text = length text - 3

-- 0 where it is absent
abbrev pub size_if_present : Option (List ℕ) → ℕ
size_if_present (Some text) = size_of text
size_if_present None = 0

-- the size that a directory gives for the component with this tag
abbrev pub directory_size_of : List ℕ → ℕ → ℕ
directory_size_of sizes tag = get_or sizes (tag - 1) 0

-- the size of a component that came is the one that the directory gives; an absent one is not compared
abbrev pub agrees_if_present : List ℕ → ℕ → Option ℕ → Bool
agrees_if_present sizes tag (Some size) = directory_size_of sizes tag == size
agrees_if_present sizes tag None = true

-- the sizes of the components that every package has
abbrev pub required_sizes_agree : PackageBytes → List ℕ → Bool
required_sizes_agree t sizes =
    (directory_size_of sizes header_tag == size_of t.header) && ((directory_size_of sizes directory_tag == size_of t.directory)
    && ((directory_size_of sizes import_tag == size_of t.imports) && ((directory_size_of sizes constant_pool_tag == size_of t.pool)
    && ((directory_size_of sizes class_tag == size_of t.classes) && ((directory_size_of sizes method_tag == size_of t.methods) &&
    (directory_size_of sizes static_field_tag == size_of t.statics))))))

-- those of the others: an Applet and an Export component that are absent have size 0, a ReferenceLocation and a Descriptor component any
abbrev pub optional_sizes_agree : PackageBytes → List ℕ → Bool
optional_sizes_agree t sizes =
    (directory_size_of sizes applet_tag == size_if_present t.applets) && ((directory_size_of sizes export_tag == size_if_present t.exports)
    && (agrees_if_present sizes reference_location_tag t.reference_location && agrees_if_present sizes descriptor_tag t.descriptor))

abbrev pub count_if_present : {A : Type 0} → Option (List A) → ℕ
count_if_present (Some xs) = length xs
count_if_present None = 0

-- what the directory says of the static image, and its counts
abbrev pub counts_agree : PackageContents → Bool
counts_agree c = (c.directory.static_field_size.image_size == c.statics.image_size) &&
    ((c.directory.static_field_size.array_init_count == length c.statics.arrays)
    && ((c.directory.static_field_size.array_init_size == values_size c.statics.arrays) &&
    ((c.directory.import_count == length c.imports) && (c.directory.applet_count == count_if_present c.applets))))

-- what the directory says agrees with the components
abbrev pub sizes_agree : PackageBytes → PackageContents → Bool
sizes_agree t c = required_sizes_agree t c.directory.component_sizes && (optional_sizes_agree t c.directory.component_sizes && counts_agree c)
