-- Arrays that calls make.
use Rattle.std.specs.Prelude.{ℕ}
use Rattle.jc_heap.specs.declared.object.Kind.{Kind}
use Rattle.jc_heap.specs.declared.object.Kind.TheVariants.{Instance, BooleanArray, ByteArray, ShortArray, ReferenceArray}
use Rattle.jc_platform.specs.declared.names.PlatformClass.TheVariants.{Object}
use Rattle.jc_platform.specs.NamePlaces.{class_word}
use Rattle.jc_linker.specs.Values.{Packages}

-- arrays of references are of Object
abbrev pub class_for : Kind → Packages → ℕ
class_for Instance p = 0
class_for BooleanArray p = 0
class_for ByteArray p = 0
class_for ShortArray p = 0
class_for ReferenceArray p = class_word p.platform Object
