-- Classes that entries of a constant pool name, and of what an object is an instance.
use Rattle.std.specs.Prelude.{ℕ, ◌==◌, Bool, Option, Some, None, if◌then◌else◌}
use Rattle.std.specs.Option.{option_and_then}
use Rattle.jc_heap.specs.declared.object.Facts.{Facts}
use Rattle.jc_platform.specs.declared.names.PlatformClass.TheVariants.{Object}
use Rattle.jc_platform.specs.NamePlaces.{class_word}
use Rattle.jc_linker.specs.declared.target.Target.{Target}
use Rattle.jc_linker.specs.declared.target.Target.TheVariants.{Class}
use Rattle.jc_linker.specs.Classes.{is_below}
use Rattle.jc_linker.specs.Lookups.{target_at}
use Rattle.jc_linker.specs.Values.{Packages}
use Rattle.jc_world.specs.Objects.{is_instance}

-- a class or an interface
abbrev pub class_of : Target → Option ℕ
class_of (Class c) = Some c
class_of _ = None

-- the class or interface that an entry of a package's pool names
unfoldable pub class_named : Packages → ℕ → ℕ → Option ℕ
class_named p package_number index = option_and_then class_of (target_at p package_number index)

-- the class or interface is Object
abbrev pub is_object_class : Packages → ℕ → Bool
is_object_class p class = class == class_word p.platform Object

-- an object is an instance of a class or an interface: its class is, is below it or implements it. Arrays are instances of Object
unfoldable pub is_a : Packages → Facts → ℕ → Bool
is_a p f class = if is_instance f.kind then is_below p f.class class else is_object_class p class
