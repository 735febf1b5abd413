-- Returns: what a method hands to its caller.
use Rattle.std.specs.Option.{option_map}
use Rattle.std.specs.Prelude.{List, Option, Some, None}
use Rattle.jc_frames.specs.declared.instr.ReturnOp.{ReturnOp as Leaving}
use Rattle.jc_frames.specs.declared.instr.ReturnOp.TheVariants.{Areturn, Sreturn, Return}
use Rattle.jc_frames.specs.declared.cell.Cell.{Cell}
use Rattle.jc_frames.specs.declared.cell.Cell.TheVariants.{Short, Reference}
use Rattle.jc_frames.specs.Cell.{short_on, reference_on}

-- what a method hands over: nothing, or the cell on top, which has the kind that the instruction names
abbrev pub returned_cell : Leaving → List Cell → Option (Option Cell)
returned_cell Return cells = Some None
returned_cell Sreturn cells = option_map (λ p. Some (Short p.0)) (short_on cells)
returned_cell Areturn cells = option_map (λ p. Some (Reference p.0)) (reference_on cells)
