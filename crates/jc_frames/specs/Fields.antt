-- How instructions use fields.
use Rattle.std.specs.Prelude.{ℕ}
use Rattle.jc_frames.specs.declared.decode.fields.Access.{Access}
use Rattle.jc_frames.specs.declared.decode.fields.Access.TheVariants.{ReadStatic, WriteStatic, Read, Write, ReadThis, WriteThis}
use Rattle.jc_frames.specs.declared.instr.FieldOp.{FieldOp}
use Rattle.jc_frames.specs.declared.instr.FieldOp.TheVariants.{GetStatic, PutStatic, GetField, PutField, GetFieldThis, PutFieldThis}
use Rattle.jc_frames.specs.declared.instr.ValueType.{ValueType}

-- the operation that uses the field of a type that an index names
abbrev pub field_use : Access → ValueType → ℕ → FieldOp
field_use ReadStatic t index = GetStatic t index
field_use WriteStatic t index = PutStatic t index
field_use Read t index = GetField t index
field_use Write t index = PutField t index
field_use ReadThis t index = GetFieldThis t index
field_use WriteThis t index = PutFieldThis t index
