-- Which offsets name records and methods.
use Rattle.std.specs.Prelude.{ℕ, Bool, true, ◌&&◌, List, Option, Some, None}
use Rattle.jc_cap.specs.declared.class_refs.ClassRef.{ClassRef}
use Rattle.jc_cap.specs.declared.class_refs.ClassRef.TheVariants as classes
use Rattle.jc_cap.specs.Applets.{AppletNamed}
use Rattle.jc_cap.specs.declared.exports.ExportedClass.{ExportedClass}
use Rattle.jc_cap.specs.declared.pool.StaticRef.{StaticRef}
use Rattle.jc_cap.specs.declared.pool.StaticRef.TheVariants as statics
use Rattle.jc_cap.specs.declared.pool.Entry.{Entry}
use Rattle.jc_cap.specs.declared.pool.Entry.TheVariants as entries
use Rattle.jc_cap.specs.ClassValues.{RecordAt, offsets_of}
use Rattle.jc_cap.specs.ClassReading.{is_among}
use Rattle.jc_cap.specs.Methods.{MethodParts}
use Rattle.jc_cap.specs.MethodReading.{has_room}
use Rattle.jc_cap.specs.Tables.{all_of_list, tables_fit}
use Rattle.jc_cap.specs.Contents.{PackageContents}

-- a record of the Class component begins there
abbrev pub is_class : List RecordAt → ℕ → Bool
is_class placed offset = is_among offset (offsets_of placed)

abbrev pub class_fits : List RecordAt → ClassRef → Bool
class_fits placed (classes.Internal offset) = is_class placed offset
class_fits placed (classes.External package_token class_token) = true

abbrev pub method_fits : MethodParts → StaticRef → Bool
method_fits methods (statics.Internal offset) = has_room methods offset
method_fits methods (statics.External package_token class_token token) = true

abbrev pub entry_fits : List RecordAt → MethodParts → Entry → Bool
entry_fits placed methods (entries.Class c) = class_fits placed c
entry_fits placed methods (entries.InstanceField c token) = class_fits placed c
entry_fits placed methods (entries.VirtualMethod c token) = class_fits placed c
entry_fits placed methods (entries.SuperMethod c token) = class_fits placed c
entry_fits placed methods (entries.StaticField s) = true
entry_fits placed methods (entries.StaticMethod s) = method_fits methods s

abbrev pub applet_fits : MethodParts → AppletNamed → Bool
applet_fits methods a = has_room methods a.install_method_offset

abbrev pub export_fits : List RecordAt → MethodParts → ExportedClass → Bool
export_fits placed methods e = is_class placed e.class_offset && all_of_list (has_room methods) e.static_method_offsets

-- each of them, where there are any
abbrev pub all_if_present : {A : Type 0} → (A → Bool) → Option (List A) → Bool
all_if_present p (Some xs) = all_of_list p xs
all_if_present p None = true

-- each Class offset names a record, each Method offset leaves room for a header after the handlers
abbrev pub offsets_fit : PackageContents → Bool
offsets_fit c = all_if_present (applet_fits c.methods) c.applets
    && (all_of_list (entry_fits c.classes c.methods) c.pool
    && (tables_fit c.methods c.classes
    && all_if_present (export_fits c.classes c.methods) c.exports))
