-- Applets that take commands in the extended form (API specification, ExtendedLength).
use Rattle.std.specs.Prelude.{Bool, false, Option, Some, None}
use Rattle.jc_heap.specs.declared.object.Facts.{Facts}
use Rattle.jc_transient.specs.declared.owner.AppletNumber.{AppletNumber}
use Rattle.jc_memory.specs.Cells.{header_at}
use Rattle.jc_memory.specs.State.{MemoryState}
use Rattle.jc_platform.specs.declared.names.PlatformClass.TheVariants.{ExtendedLength}
use Rattle.jc_linker.specs.Classes.{is_a}
use Rattle.jc_linker.specs.Values.{Packages}
use Rattle.jc_dispatch.specs.Phase.{instance_of}

-- the class of an object, or one above it, implements the interface
abbrev pub class_implements : Packages → Option Facts → Bool
class_implements p None = false
class_implements p (Some f) = is_a p f.class ExtendedLength

-- an applet's class does; where no applet answers, it does not
abbrev pub implements_extended_length : Packages → MemoryState → Option AppletNumber → Bool
implements_extended_length p m None = false
implements_extended_length p m (Some a) = class_implements p (header_at m (instance_of m a.0))
