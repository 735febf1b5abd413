-- The files that a command names, beside the one that it writes.
use Rattle.std.specs.Prelude.{ℕ, ◌≡◌, List, position, slice_get, Option, Some, None}
use Rattle.std.specs.Str.{bytes_eq}
use Rattle.jcard_files.specs.declared.fault.FileKind.{FileKind}
use Rattle.jcard_files.specs.declared.operand.Operand.{Operand}

-- where the first of these files stands that has this name
abbrev pub operand_place : List ℕ → List Operand → Option ℕ
operand_place name operands = position (λ (o : Operand). bytes_eq o.name.now name) operands

-- that is this to the command
abbrev pub IsOperand : List ℕ → List Operand → FileKind → Type 0
IsOperand name operands kind = (i : ℕ) × (o : Operand) × (operand_place name operands ≡ Some i) × (slice_get operands i ≡ Some o) × (kind ≡ o.kind)

-- none of them has this name
abbrev pub IsNoOperand : List ℕ → List Operand → Type 0
IsNoOperand name operands = operand_place name operands ≡ None
