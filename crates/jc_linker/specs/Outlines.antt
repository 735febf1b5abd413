-- What of a package is copied from its components.
use Rattle.std.specs.Prelude.{ℕ, false, List, [], map, Option, Some, None}
use Rattle.jc_cap.specs.declared.exports.ExportedClass.{ExportedClass}
use Rattle.jc_cap.specs.Applets.{AppletNamed}
use Rattle.jc_cap.specs.ClassValues.{offsets_of}
use Rattle.jc_cap.specs.Contents.{PackageContents}
use Rattle.jc_linker.specs.Values.{AppletEntry, ClassValue, Export, LinkerComponents, PackageValue}

-- an exported class, with the names of its lists
abbrev pub export_of : ExportedClass → Export
export_of e = record { class_offset = e.class_offset; field_offsets = e.static_field_offsets; method_offsets = e.static_method_offsets }

-- an applet, with the names of its parts
abbrev pub applet_of : AppletNamed → AppletEntry
applet_of a = record { aid = a.aid; install_offset = a.install_method_offset }

-- the list of a component that may be absent
abbrev pub all_of : {A : Type 0} → Option (List A) → List A
all_of None = []
all_of (Some xs) = xs

-- a class of which no more is known than where its record stands
abbrev pub outline_of : ℕ → ClassValue
outline_of offset = record {
  offset = offset;
  is_interface = false;
  superclass = 0;
  interfaces = [];
  inherited_cells = 0;
  declared_cells = 0;
  first_reference = 0;
  reference_count = 0;
  public_methods = record { base = 0; offsets = [] };
  package_methods = record { base = 0; offsets = [] };
}

-- what is linked of a package with this info of its Method component, whose components say this
abbrev pub components_of : List ℕ → PackageContents → LinkerComponents
components_of methods c = record {
  name = c.header.this_package;
  imports = c.imports;
  pool = c.pool;
  classes = c.classes;
  methods = methods;
  image_size = c.statics.image_size;
  image_references = c.statics.reference_count;
  exports = c.exports;
  applets = c.applets;
}

-- what stands in a package before its classes are linked and its entries resolved
abbrev pub package_outline : LinkerComponents → List ℕ → PackageValue
package_outline c imports = record {
  name = c.name;
  imports = imports;
  classes = map outline_of (offsets_of c.classes);
  exports = map export_of (all_of c.exports);
  targets = [];
  methods = c.methods;
  image_size = c.image_size;
  image_references = c.image_references;
  applets = map applet_of (all_of c.applets);
}
