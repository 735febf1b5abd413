-- What the entries of a constant pool resolve to (virtual machine specification, constant pool resolution).
use Rattle.std.specs.Prelude.{◌≡◌, ℕ, ◌+◌, ◌*◌, ◌/◌, ◌<◌, ◌==◌, nat_lt, Bool, false, List, [], ◌∷◌, ◌++◌, Option, Some, None}
use Rattle.std.specs.Prelude.{if◌then◌else◌, slice_get, position}
use Rattle.std.specs.Option.{option_map, option_and_then}
use Rattle.jc_platform.specs.declared.names.PlatformClass.{PlatformClass}
use Rattle.jc_platform.specs.declared.names.MethodKind.TheVariants as kinds
use Rattle.jc_platform.specs.NamePlaces.{class_word}
use Rattle.jc_platform.specs.Hierarchy.{is_interface}
use Rattle.jc_platform.specs.Platform.{class_by_token, class_by_word, method_by_token, package_by_number}
use Rattle.jc_cap.specs.declared.class_refs.ClassRef.{ClassRef}
use Rattle.jc_cap.specs.declared.class_refs.ClassRef.TheVariants as refs
use Rattle.jc_cap.specs.declared.pool.Entry.{Entry}
use Rattle.jc_cap.specs.declared.pool.Entry.TheVariants as entries
use Rattle.jc_cap.specs.declared.pool.StaticRef.TheVariants as statics
use Rattle.jc_cap.specs.declared.pool.VirtualToken.{VirtualToken}
use Rattle.jc_linker.specs.declared.target.Method.{Method}
use Rattle.jc_linker.specs.declared.target.Method.TheVariants.{Code, Native}
use Rattle.jc_linker.specs.declared.target.Target.{Target}
use Rattle.jc_linker.specs.declared.target.Target.TheVariants as targets
use Rattle.jc_linker.specs.Classes.{class_in, declares_reference, package_in, superclass_in}
use Rattle.jc_linker.specs.Methods.{method_at}
use Rattle.jc_linker.specs.Values.{ClassValue, Export, PackageValue, Packages}

-- the number of the class whose record stands at an offset
unfoldable pub class_index : ℕ → List ClassValue → Option ℕ
class_index offset classes = position (λ c. c.offset == offset) classes

-- the class that an export names
abbrev pub exported_class : ℕ → PackageValue → Export → Option ℕ
exported_class number q e = option_map (λ place. 256 * number + place) (class_index e.class_offset q.classes)

-- the class with a token that a loaded package exports, or else one of the platform
abbrev pub class_by : Packages → ℕ → ℕ → Option PackageValue → Option ℕ
class_by p number token (Some q) = option_and_then (exported_class number q) (slice_get q.exports token)
class_by p number token None = option_and_then (λ home. option_map (class_word p.platform) (class_by_token p.platform home token))
    (package_by_number p.platform number)

-- the class of the package with this number that others name by a token
unfoldable pub class_with_token : Packages → ℕ → ℕ → Option ℕ
class_with_token p number token = class_by p number token (package_in p number)

-- the package that the package with this number imports by a token
abbrev pub import_of : Option PackageValue → ℕ → Option ℕ
import_of None token = None
import_of (Some q) token = slice_get q.imports token

unfoldable pub import_by_token : Packages → ℕ → ℕ → Option ℕ
import_by_token p number token = import_of (package_in p number) token

-- the class whose record stands at an offset of the package with this number
abbrev pub class_of : ℕ → Option PackageValue → ℕ → Option ℕ
class_of number None offset = None
class_of number (Some q) offset = option_map (λ place. 256 * number + place) (class_index offset q.classes)

unfoldable pub class_at_offset : Packages → ℕ → ℕ → Option ℕ
class_at_offset p number offset = class_of number (package_in p number) offset

-- the class that a reference in the package with this number names
unfoldable pub class_named : Packages → ℕ → ClassRef → Option ℕ
class_named p number (refs.Internal offset) = class_at_offset p number offset
class_named p number (refs.External package_token class_token) = option_and_then (λ n. class_with_token p n class_token)
    (import_by_token p number package_token)

-- a loaded class, or else one of the platform, is an interface
abbrev pub interface_by : Option ClassValue → Option PlatformClass → Bool
interface_by (Some c) other = c.is_interface
interface_by None None = false
interface_by None (Some c) = is_interface c

unfoldable pub names_interface : Packages → ℕ → Bool
names_interface p class = interface_by (class_in p class) (class_by_word p.platform class)

-- a field's cell: the superclass's cells come before it
abbrev pub field_of : ℕ → ℕ → ClassValue → Option Target
field_of class token c = if nat_lt token c.declared_cells then Some (targets.InstanceField class (c.inherited_cells + token) (declares_reference c token))
    else None

-- the field with this token of a loaded class; classes of the platform have none that packages name
unfoldable pub field_target : Packages → ℕ → ℕ → Option Target
field_target p token class = option_and_then (field_of class token) (class_in p class)

-- the virtual method with this token of a class, which is no interface
unfoldable pub virtual_target : Packages → VirtualToken → ℕ → Option Target
virtual_target p token class = if names_interface p class then None else option_map (targets.VirtualMethod class token) (method_at p class (class / 256) token)

-- the method with this token of the superclass of a class
unfoldable pub super_target : Packages → VirtualToken → ℕ → Option Target
super_target p token class = option_and_then (λ above. option_map (targets.SuperMethod class) (method_at p above (class / 256) token)) (superclass_in p class)

-- the export with a class's token
unfoldable pub export_of : Packages → ℕ → ℕ → Option Export
export_of p number class_token = option_and_then (λ q. slice_get q.exports class_token) (package_in p number)

-- the static field of an imported package with these tokens; the platform has none
unfoldable pub foreign_field : Packages → ℕ → ℕ → ℕ → Option Target
foreign_field p class_token token number = option_and_then (λ e. option_map (targets.StaticField number) (slice_get e.field_offsets token))
    (export_of p number class_token)

-- the static method with this token of a class that a loaded package exports, or else of one of the platform
abbrev pub static_method_by : Packages → ℕ → ℕ → ℕ → Option Export → Option Method
static_method_by p number class token (Some e) = option_map (Code number) (slice_get e.method_offsets token)
static_method_by p number class token None = option_and_then (λ c. option_map Native (method_by_token p.platform c kinds.Static token))
    (class_by_word p.platform class)

unfoldable pub foreign_method : Packages → ℕ → ℕ → ℕ → Option Target
foreign_method p class_token token number = option_and_then (λ class. option_map (targets.StaticMethod (Some class))
    (static_method_by p number class token (export_of p number class_token))) (class_with_token p number class_token)

-- what an entry in the package with this number resolves to
unfoldable pub resolution : Packages → ℕ → Entry → Option Target
resolution p number (entries.Class c) = option_map targets.Class (class_named p number c)
resolution p number (entries.InstanceField c token) = option_and_then (field_target p token) (class_named p number c)
resolution p number (entries.VirtualMethod c token) = option_and_then (virtual_target p token) (class_named p number c)
resolution p number (entries.SuperMethod c token) = option_and_then (super_target p token) (class_named p number c)
resolution p number (entries.StaticField (statics.Internal offset)) = Some (targets.StaticField number offset)
resolution p number (entries.StaticField (statics.External package_token class_token token)) =
    option_and_then (foreign_field p class_token token) (import_by_token p number package_token)
resolution p number (entries.StaticMethod (statics.Internal offset)) = Some (targets.StaticMethod None (Code number offset))
resolution p number (entries.StaticMethod (statics.External package_token class_token token)) =
    option_and_then (foreign_method p class_token token) (import_by_token p number package_token)
