-- New instances: `new`.
use Rattle.std.specs.Prelude.{ℕ, ◌^◌, nat_lt, Option, Some, None, Result, Ok, Err, if◌then◌else◌}
use Rattle.std.specs.Option.{option_and_then}
use Rattle.jc_heap.specs.declared.object.Kind.TheVariants.{Instance}
use Rattle.jc_frames.specs.Reasons.{no_resource}
use Rattle.jc_frames.specs.declared.outcome.FrameExit.{FrameExit}
use Rattle.jc_frames.specs.declared.outcome.FrameExit.TheVariants.{Throw}
use Rattle.jc_frames.specs.Frames.{Frames, Next}
use Rattle.jc_memory.specs.State.{MemoryState}
use Rattle.jc_memory.specs.Programs.{Program}
use Rattle.jc_linker.specs.Classes.{is_instantiable_class, size_of}
use Rattle.jc_linker.specs.Values.{Packages}
use Rattle.jc_world.specs.Instructions.{if_ok, if_some}
use Rattle.jc_world.specs.Making.{new_on_top}
use Rattle.jc_world.specs.Types.{class_named}
use Rattle.jc_instructions.specs.StackRoom.{if_room}

-- the class, where it has instances that code may make
abbrev pub instantiable_or_none : Packages → ℕ → Option ℕ
instantiable_or_none p class = if is_instantiable_class p class then Some class else None

-- the class that an entry of a package's pool names, if it is such a one
unfoldable pub instantiable_class : Packages → ℕ → ℕ → Option ℕ
instantiable_class p package_number index = option_and_then (instantiable_or_none p) (class_named p package_number index)

-- how many cells an instance gets: for more than an object can have there is no space
abbrev pub cells_for : ℕ → Result ℕ FrameExit
cells_for size = if nat_lt size (2 ^ 16) then Ok size else Err (Throw no_resource)

-- new: a new instance, which belongs to the owner for whom code runs, is pushed
unfoldable pub new_instance : ℕ → Packages → Frames → MemoryState → Program (Next Frames)
new_instance index p s m =
    if_some (if_room s (instantiable_class p s.current.origin.package_number index)) (λ class. if_ok s (cells_for (size_of p class)) (λ n.
    new_on_top (record { kind = Instance; event = None; class = class; owner = m.registers.active; length = n }) s m))
