-- Instructions that are carried out at once.
use Rattle.std.specs.Prelude.{ℕ, ℤ, ◌≡◌, Bool, true, false}
use Rattle.jc_frames.specs.declared.instr.ValueType.{ValueType}
use Rattle.jc_frames.specs.declared.cell.Cell.{Cell}
use Rattle.jc_frames.specs.Frames.{Frames, Next}
use Rattle.jc_memory.specs.State.{MemoryState}
use Rattle.jc_memory.specs.Programs.{Program}
use Rattle.jc_linker.specs.Values.{Packages}
use Rattle.jc_world.specs.Instructions.{continue_with}
use Rattle.jc_world.specs.Values.{with_top}
use Rattle.jc_instructions.specs.Fields.{field_read}
use Rattle.jc_instructions.specs.ArrayAccess.{element_read}

-- an instruction was carried out at once: it goes on with these frames, of the same method, and does nothing else; or nothing was done
abbrev pub IsDoneAtOnce : Bool → Program (Next Frames) → Frames → Frames → Type 0
IsDoneAtOnce true program s t = (program ≡ continue_with t) × (t.current.origin ≡ s.current.origin)
IsDoneAtOnce false program s t = t ≡ s

-- reading the field of this object puts this value on the stack of a frame of this package
abbrev pub IsReadOfField : ValueType → ℕ → ℕ → ℕ → Packages → MemoryState → Cell → Type 0
IsReadOfField of_type index r package_number p m value =
    (s : Frames) → s.current.origin.package_number ≡ package_number → field_read of_type index r p s m ≡ continue_with (with_top value s)

-- reading the element with this index of this array puts this value on the stack
abbrev pub IsReadOfElement : ValueType → ℕ → ℤ → Packages → MemoryState → Cell → Type 0
IsReadOfElement of_type r i p m value = (s : Frames) → element_read of_type r i p s m ≡ continue_with (with_top value s)
