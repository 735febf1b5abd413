-- The components of a package that have come.
use Rattle.std.specs.Prelude.{ℕ, ◌-◌, ◌==◌, List, length, Some, None, if◌then◌else◌, Option, Result, Ok, Err}
use Rattle.jc_cap.specs.Tags.{header_tag, directory_tag, applet_tag, import_tag, constant_pool_tag, class_tag, method_tag, static_field_tag}
use Rattle.jc_cap.specs.Tags.{reference_location_tag, export_tag, descriptor_tag}
use Rattle.jc_cap.specs.declared.texts.LoadedComponents.{LoadedComponents}
use Rattle.jc_cap.specs.declared.fault.CapFault.{CapFault}
use Rattle.jc_cap.specs.declared.formats.Format.{Format}
use Rattle.jc_cap.specs.Contents.{Content}
use Rattle.jc_cap.specs.Contents as contents

-- no component has come yet
abbrev pub no_components : LoadedComponents
no_components = record {
  header = None;
  directory = None;
  applets = None;
  imports = None;
  pool = None;
  classes = None;
  methods = None;
  statics = None;
  exports = None;
  reference_location = None;
  descriptor = None;
}

-- the bytes of a component that came are kept with those of the others; of ReferenceLocation and Descriptor their
-- infos' sizes, and of other components nothing
unfoldable pub with_component : LoadedComponents → ℕ → List ℕ → LoadedComponents
with_component texts tag bytes =
    if tag == header_tag then record texts { header = Some bytes } else
    if tag == directory_tag then record texts { directory = Some bytes } else
    if tag == applet_tag then record texts { applets = Some bytes } else
    if tag == import_tag then record texts { imports = Some bytes } else
    if tag == constant_pool_tag then record texts { pool = Some bytes } else
    if tag == class_tag then record texts { classes = Some bytes } else
    if tag == method_tag then record texts { methods = Some bytes } else
    if tag == static_field_tag then record texts { statics = Some bytes } else
    if tag == reference_location_tag then record texts { reference_location = Some (length bytes - 3) } else
    if tag == export_tag then record texts { exports = Some bytes } else
    if tag == descriptor_tag then record texts { descriptor = Some (length bytes - 3) } else
    texts

-- ---- taking a component of a load

-- the format that a component states: that of a header
abbrev pub told_by : Content → Option Format
told_by (contents.header h) = Some h.format
told_by x = None

-- how taking a component ends, and what it leaves
abbrev pub Taken : Type 0
Taken = Result (Option Format) CapFault × LoadedComponents

abbrev pub taken : Result (Option Format) CapFault → LoadedComponents → Taken
taken told left = (told, left)

-- a component that says this is kept; where it cannot be read, nothing is
abbrev pub taken_with : LoadedComponents → ℕ → List ℕ → Result Content CapFault → Taken
taken_with texts tag bytes (Ok x) = (Ok (told_by x), with_component texts tag bytes)
taken_with texts tag bytes (Err fault) = (Err fault, texts)

-- of ReferenceLocation and Descriptor the infos' sizes are kept, of other components that are not looked at nothing
unfoldable pub with_size : LoadedComponents → ℕ → List ℕ → LoadedComponents
with_size texts tag bytes =
    if tag == reference_location_tag then record texts { reference_location = Some (length bytes - 3) } else
    if tag == descriptor_tag then record texts { descriptor = Some (length bytes - 3) } else
    texts

abbrev pub unused_taken : LoadedComponents → ℕ → List ℕ → Result (List ℕ) CapFault → Taken
unused_taken texts tag bytes (Ok info) = (Ok None, with_size texts tag bytes)
unused_taken texts tag bytes (Err fault) = (Err fault, texts)
