-- Key objects that calls of other objects are given, and that these have kept.
use Rattle.std.specs.Prelude.{ℕ, ◌==◌, List, Result, Err, if◌then◌else◌}
use Rattle.jc_heap.specs.declared.object.Facts.{Facts}
use Rattle.jc_firewall.specs.declared.access.Access.TheVariants.{VirtualCall}
use Rattle.jc_frames.specs.declared.cell.Cell.{Cell}
use Rattle.jc_frames.specs.declared.outcome.FrameExit.{FrameExit}
use Rattle.jc_frames.specs.declared.outcome.FrameExit.TheVariants.{Throw}
use Rattle.jc_memory.specs.Cells.{header_at, short_at, word_at}
use Rattle.jc_memory.specs.State.{MemoryState}
use Rattle.jc_platform.specs.NamePlaces.{class_word}
use Rattle.jc_platform.specs.declared.names.PlatformClass.TheVariants.{KeyObject}
use Rattle.jc_linker.specs.Values.{Packages}
use Rattle.jc_world.specs.Answers.{and_then}
use Rattle.jc_world.specs.Contexts.{firewall_check}
use Rattle.jc_world.specs.Instances.{instance_at}
use Rattle.jc_world.specs.Objects.{is_instance_of, reference_argument, some_or_fault}
use Rattle.jc_api_keys.specs.Exceptions.{illegal_value}
use Rattle.jc_api_keys.specs.KeyObjects.Contents.{key_of}
use Rattle.jc_api_keys.specs.declared.key_objects.contents.Key.{Key}

-- what the cells of a key object say
abbrev pub key_cells : Packages → MemoryState → ℕ → Result Key FrameExit
key_cells p m r = and_then (instance_at m r 2) (λ f. key_of p m (record { own = r; number = short_at m r 0; array = word_at m r 1 }))

-- it is a key object of the platform
abbrev pub if_key : Packages → MemoryState → ℕ → Facts → Result Key FrameExit
if_key p m r f = if is_instance_of p f (class_word p.platform KeyObject) then key_cells p m r else Err (Throw illegal_value)

-- the key object that a reference names: null is an illegal value; then the firewall, as for a virtual call; then what is no key object of the
-- platform is an illegal value
unfoldable pub key_at : Packages → MemoryState → ℕ → Result Key FrameExit
key_at p m r = if r == 0 then Err (Throw illegal_value) else and_then (some_or_fault (header_at m r)) (λ f.
    and_then (firewall_check VirtualCall p m f) (λ u. if_key p m r f))

-- that with a place among the arguments
abbrev pub key_argument : ℕ → List Cell → Packages → MemoryState → Result Key FrameExit
key_argument i args p m = and_then (some_or_fault (reference_argument args i)) (key_at p m)
