-- The instruction table (virtual machine specification, the instruction set): each opcode with its
-- mnemonic, the form of its operands and the instruction that they make. An opcode that has no row is
-- no instruction: those of the int forms have none.
use Rattle.std.specs.Prelude.{IsTrue, ℕ, ◌+◌, ◌*◌, ◌/◌, ◌%◌, ℤ, pos, negsuc, ◌-ℤ◌, ◌==◌, nat_le, int_lt, if◌then◌else◌, List, [], ◌∷◌, ◌++◌, Option, Some, None}
use Rattle.std.specs.Prelude.{slice_get, length, map, Bool, ◌&&◌, ◌||◌, unsigned_abs}
use Rattle.std.specs.Option.{option_map, option_and_then}
use Rattle.jc_frames.specs.Operands.{u1, s1, u2, s2}
use Rattle.jc_frames.specs.declared.instr.Instr.{Instr}
use Rattle.jc_frames.specs.declared.instr.Instr.TheVariants.{Nop, Constant, Local, Stack, Arithmetic, Branch, Return, Field, Array, Object, Invoke}
use Rattle.jc_frames.specs.declared.instr.ConstantOp.TheVariants.{Null, Number}
use Rattle.jc_frames.specs.declared.instr.LocalOp.TheVariants.{Aload, Sload, Astore, Sstore, Sinc}
use Rattle.jc_frames.specs.declared.instr.StackOp.TheVariants.{Pop, Pop2, Dup, Dup2, DupX, SwapX}
use Rattle.jc_frames.specs.declared.instr.ArithmeticOp.TheVariants.{Two, Negate, S2b}
use Rattle.jc_frames.specs.declared.instr.BinaryOp.TheVariants.{Add, Subtract, Multiply, Divide, Remainder, ShiftLeft, ShiftRight, ShiftRightUnsigned, And, Or}
use Rattle.jc_frames.specs.declared.instr.BinaryOp.TheVariants.{Xor}
use Rattle.jc_frames.specs.declared.instr.Comparison.TheVariants.{Equal, NotEqual, Less, GreaterOrEqual, Greater, LessOrEqual}
use Rattle.jc_frames.specs.declared.instr.Condition.{Condition}
use Rattle.jc_frames.specs.declared.instr.Condition.TheVariants.{Zero, IsNull, NotNull, SameReference, OtherReference, Shorts}
use Rattle.jc_frames.specs.declared.instr.BranchOp.TheVariants.{If, Goto, Jsr, Ret, Table, Lookup}
use Rattle.jc_frames.specs.declared.instr.ReturnOp.TheVariants.{Areturn, Sreturn, Return}
use Rattle.jc_frames.specs.declared.instr.ValueType.TheVariants.{Reference, Byte, Short}
use Rattle.jc_frames.specs.declared.instr.FieldOp.TheVariants.{GetStatic, PutStatic, GetField, PutField, GetFieldThis, PutFieldThis}
use Rattle.jc_frames.specs.declared.instr.PrimitiveArray.{PrimitiveArray}
use Rattle.jc_frames.specs.declared.instr.PrimitiveArray.TheVariants.{Booleans, Bytes, Shorts}
use Rattle.jc_frames.specs.declared.instr.ArrayOp.TheVariants.{Load, Store, NewArray, ANewArray, ArrayLength}
use Rattle.jc_frames.specs.declared.instr.TestedType.{TestedType}
use Rattle.jc_frames.specs.declared.instr.TestedType.TheVariants.{OfClass, OfPrimitives, OfReferences}
use Rattle.jc_frames.specs.declared.instr.ObjectOp.TheVariants.{New, Athrow, CheckCast, InstanceOf}
use Rattle.jc_frames.specs.declared.instr.InvokeOp.TheVariants.{Virtual, Special, Static, Interface}

-- what follows an opcode, and the instruction that it makes
pub data Form : Type 0 where
  Bare : Instr → Form
  U1 : (ℕ → Instr) → Form
  S1 : (ℤ → Instr) → Form
  S2 : (ℤ → Instr) → Form
  U2 : (ℕ → Instr) → Form
  U1S1 : (ℕ → ℤ → Instr) → Form
  U1S2 : (ℕ → ℤ → Instr) → Form
  U1U2U1 : (ℕ → ℕ → ℕ → Instr) → Form
  -- a byte that may be no operand of this instruction
  Listed : (ℕ → Option Instr) → Form
  -- the same, and a u2
  ListedU2 : (ℕ → ℕ → Option Instr) → Form
  -- one byte of two halves, the high one first, which may be no operand of this instruction
  Halves : (ℕ → ℕ → Option Instr) → Form
  -- s2 default, s2 low, s2 high, and an s2 for each number from low to high
  TableSwitch : Form
  -- s2 default, u2 count, and n pairs of an s2 match and an s2 offset
  LookupSwitch : Form

-- an opcode and its form
abbrev pub Row : Type 0
Row = ℕ × Form

abbrev pub constants : List Row
constants =
    (0x00, Bare Nop) ∷  -- nop
    (0x01, Bare (Constant Null)) ∷  -- aconst_null
    (0x02, Bare (Constant (Number (negsuc 0)))) ∷  -- sconst_m1
    (0x03, Bare (Constant (Number (pos 0)))) ∷  -- sconst_0
    (0x04, Bare (Constant (Number (pos 1)))) ∷  -- sconst_1
    (0x05, Bare (Constant (Number (pos 2)))) ∷  -- sconst_2
    (0x06, Bare (Constant (Number (pos 3)))) ∷  -- sconst_3
    (0x07, Bare (Constant (Number (pos 4)))) ∷  -- sconst_4
    (0x08, Bare (Constant (Number (pos 5)))) ∷  -- sconst_5
    (0x10, S1 (λ v. Constant (Number v))) ∷  -- bspush
    (0x11, S2 (λ v. Constant (Number v))) ∷  -- sspush
    []

abbrev pub locals : List Row
locals =
    (0x15, U1 (λ n. Local (Aload n))) ∷  -- aload
    (0x16, U1 (λ n. Local (Sload n))) ∷  -- sload
    (0x18, Bare (Local (Aload 0))) ∷  -- aload_0
    (0x19, Bare (Local (Aload 1))) ∷  -- aload_1
    (0x1A, Bare (Local (Aload 2))) ∷  -- aload_2
    (0x1B, Bare (Local (Aload 3))) ∷  -- aload_3
    (0x1C, Bare (Local (Sload 0))) ∷  -- sload_0
    (0x1D, Bare (Local (Sload 1))) ∷  -- sload_1
    (0x1E, Bare (Local (Sload 2))) ∷  -- sload_2
    (0x1F, Bare (Local (Sload 3))) ∷  -- sload_3
    (0x28, U1 (λ n. Local (Astore n))) ∷  -- astore
    (0x29, U1 (λ n. Local (Sstore n))) ∷  -- sstore
    (0x2B, Bare (Local (Astore 0))) ∷  -- astore_0
    (0x2C, Bare (Local (Astore 1))) ∷  -- astore_1
    (0x2D, Bare (Local (Astore 2))) ∷  -- astore_2
    (0x2E, Bare (Local (Astore 3))) ∷  -- astore_3
    (0x2F, Bare (Local (Sstore 0))) ∷  -- sstore_0
    (0x30, Bare (Local (Sstore 1))) ∷  -- sstore_1
    (0x31, Bare (Local (Sstore 2))) ∷  -- sstore_2
    (0x32, Bare (Local (Sstore 3))) ∷  -- sstore_3
    (0x59, U1S1 (λ n v. Local (Sinc n v))) ∷  -- sinc
    (0x96, U1S2 (λ n v. Local (Sinc n v))) ∷  -- sinc_w
    []

-- what dup_x takes: m from 1 to 4, and n 0 or from m to m + 4
abbrev pub can_duplicate_below : ℕ → ℕ → Bool
can_duplicate_below m n = nat_le 1 m && nat_le m 4 && (n == 0 || (nat_le m n && nat_le n (m + 4)))

abbrev pub duplicate_below : ℕ → ℕ → Option Instr
duplicate_below m n = if can_duplicate_below m n then Some (Stack (DupX m n)) else None

-- what swap_x takes: m and n each 1 or 2
abbrev pub can_swap : ℕ → ℕ → Bool
can_swap m n = nat_le 1 m && nat_le m 2 && nat_le 1 n && nat_le n 2

abbrev pub swap : ℕ → ℕ → Option Instr
swap m n = if can_swap m n then Some (Stack (SwapX m n)) else None

abbrev pub stack : List Row
stack =
    (0x3B, Bare (Stack Pop)) ∷  -- pop
    (0x3C, Bare (Stack Pop2)) ∷  -- pop2
    (0x3D, Bare (Stack Dup)) ∷  -- dup
    (0x3E, Bare (Stack Dup2)) ∷  -- dup2
    (0x3F, Halves duplicate_below) ∷  -- dup_x
    (0x40, Halves swap) ∷  -- swap_x
    []

abbrev pub arithmetic : List Row
arithmetic =
    (0x41, Bare (Arithmetic (Two Add))) ∷  -- sadd
    (0x43, Bare (Arithmetic (Two Subtract))) ∷  -- ssub
    (0x45, Bare (Arithmetic (Two Multiply))) ∷  -- smul
    (0x47, Bare (Arithmetic (Two Divide))) ∷  -- sdiv
    (0x49, Bare (Arithmetic (Two Remainder))) ∷  -- srem
    (0x4B, Bare (Arithmetic Negate)) ∷  -- sneg
    (0x4D, Bare (Arithmetic (Two ShiftLeft))) ∷  -- sshl
    (0x4F, Bare (Arithmetic (Two ShiftRight))) ∷  -- sshr
    (0x51, Bare (Arithmetic (Two ShiftRightUnsigned))) ∷  -- sushr
    (0x53, Bare (Arithmetic (Two And))) ∷  -- sand
    (0x55, Bare (Arithmetic (Two Or))) ∷  -- sor
    (0x57, Bare (Arithmetic (Two Xor))) ∷  -- sxor
    (0x5B, Bare (Arithmetic S2b)) ∷  -- s2b
    []

-- the conditional branches with an offset of one byte
abbrev pub conditions : List (ℕ × Condition)
conditions =
    (0x60, Zero Equal) ∷  -- ifeq
    (0x61, Zero NotEqual) ∷  -- ifne
    (0x62, Zero Less) ∷  -- iflt
    (0x63, Zero GreaterOrEqual) ∷  -- ifge
    (0x64, Zero Greater) ∷  -- ifgt
    (0x65, Zero LessOrEqual) ∷  -- ifle
    (0x66, IsNull) ∷  -- ifnull
    (0x67, NotNull) ∷  -- ifnonnull
    (0x68, SameReference) ∷  -- if_acmpeq
    (0x69, OtherReference) ∷  -- if_acmpne
    (0x6A, Shorts Equal) ∷  -- if_scmpeq
    (0x6B, Shorts NotEqual) ∷  -- if_scmpne
    (0x6C, Shorts Less) ∷  -- if_scmplt
    (0x6D, Shorts GreaterOrEqual) ∷  -- if_scmpge
    (0x6E, Shorts Greater) ∷  -- if_scmpgt
    (0x6F, Shorts LessOrEqual) ∷  -- if_scmple
    []

-- a conditional branch with an offset of one byte
abbrev pub in_short : (ℕ × Condition) → Row
in_short (op, condition) = (op, S1 (λ offset. Branch (If condition offset)))

-- its wide form, with an offset of two bytes: ifeq_w, ifne_w, iflt_w, ifge_w, ifgt_w, ifle_w, ifnull_w, ifnonnull_w,
-- if_acmpeq_w, if_acmpne_w, if_scmpeq_w, if_scmpne_w, if_scmplt_w, if_scmpge_w, if_scmpgt_w, if_scmple_w (98 to A7)
abbrev pub in_wide : (ℕ × Condition) → Row
in_wide (op, condition) = (op + 0x38, S2 (λ offset. Branch (If condition offset)))

abbrev pub jumps : List Row
jumps =
    (0x70, S1 (λ offset. Branch (Goto offset))) ∷  -- goto
    (0xA8, S2 (λ offset. Branch (Goto offset))) ∷  -- goto_w
    (0x71, S2 (λ offset. Branch (Jsr offset))) ∷  -- jsr
    (0x72, U1 (λ n. Branch (Ret n))) ∷  -- ret
    (0x73, TableSwitch) ∷  -- stableswitch
    (0x75, LookupSwitch) ∷  -- slookupswitch
    []

abbrev pub returns : List Row
returns =
    (0x77, Bare (Return Areturn)) ∷  -- areturn
    (0x78, Bare (Return Sreturn)) ∷  -- sreturn
    (0x7A, Bare (Return Return)) ∷  -- return
    []

-- reads and writes of static fields
abbrev pub static_fields : List Row
static_fields =
    (0x7B, U2 (λ index. Field (GetStatic Reference index))) ∷  -- getstatic_a
    (0x7C, U2 (λ index. Field (GetStatic Byte index))) ∷  -- getstatic_b
    (0x7D, U2 (λ index. Field (GetStatic Short index))) ∷  -- getstatic_s
    (0x7F, U2 (λ index. Field (PutStatic Reference index))) ∷  -- putstatic_a
    (0x80, U2 (λ index. Field (PutStatic Byte index))) ∷  -- putstatic_b
    (0x81, U2 (λ index. Field (PutStatic Short index))) ∷  -- putstatic_s
    []

-- of fields of objects, with an index of one byte
abbrev pub instance_fields : List Row
instance_fields =
    (0x83, U1 (λ index. Field (GetField Reference index))) ∷  -- getfield_a
    (0x84, U1 (λ index. Field (GetField Byte index))) ∷  -- getfield_b
    (0x85, U1 (λ index. Field (GetField Short index))) ∷  -- getfield_s
    (0x87, U1 (λ index. Field (PutField Reference index))) ∷  -- putfield_a
    (0x88, U1 (λ index. Field (PutField Byte index))) ∷  -- putfield_b
    (0x89, U1 (λ index. Field (PutField Short index))) ∷  -- putfield_s
    (0xAD, U1 (λ index. Field (GetFieldThis Reference index))) ∷  -- getfield_a_this
    (0xAE, U1 (λ index. Field (GetFieldThis Byte index))) ∷  -- getfield_b_this
    (0xAF, U1 (λ index. Field (GetFieldThis Short index))) ∷  -- getfield_s_this
    (0xB5, U1 (λ index. Field (PutFieldThis Reference index))) ∷  -- putfield_a_this
    (0xB6, U1 (λ index. Field (PutFieldThis Byte index))) ∷  -- putfield_b_this
    (0xB7, U1 (λ index. Field (PutFieldThis Short index))) ∷  -- putfield_s_this
    []

-- of fields of objects, with an index of two bytes
abbrev pub wide_instance_fields : List Row
wide_instance_fields =
    (0xA9, U2 (λ index. Field (GetField Reference index))) ∷  -- getfield_a_w
    (0xAA, U2 (λ index. Field (GetField Byte index))) ∷  -- getfield_b_w
    (0xAB, U2 (λ index. Field (GetField Short index))) ∷  -- getfield_s_w
    (0xB1, U2 (λ index. Field (PutField Reference index))) ∷  -- putfield_a_w
    (0xB2, U2 (λ index. Field (PutField Byte index))) ∷  -- putfield_b_w
    (0xB3, U2 (λ index. Field (PutField Short index))) ∷  -- putfield_s_w
    []

-- what newarray makes
abbrev pub primitive_array : ℕ → Option PrimitiveArray
primitive_array t =
    if t == 10 then Some Booleans else
    if t == 11 then Some Bytes else
    if t == 12 then Some Shorts else None

abbrev pub arrays : List Row
arrays =
    (0x24, Bare (Array (Load Reference))) ∷  -- aaload
    (0x25, Bare (Array (Load Byte))) ∷  -- baload
    (0x26, Bare (Array (Load Short))) ∷  -- saload
    (0x37, Bare (Array (Store Reference))) ∷  -- aastore
    (0x38, Bare (Array (Store Byte))) ∷  -- bastore
    (0x39, Bare (Array (Store Short))) ∷  -- sastore
    (0x90, Listed (λ t. option_map (λ elements. Array (NewArray elements)) (primitive_array t))) ∷  -- newarray
    (0x91, U2 (λ index. Array (ANewArray index))) ∷  -- anewarray
    (0x92, Bare (Array ArrayLength)) ∷  -- arraylength
    []

-- the type that checkcast and instanceof test for; the index is of no use to arrays of numbers
abbrev pub type_operand : ℕ → ℕ → Option TestedType
type_operand t index =
    if t == 0 then Some (OfClass index) else
    if t == 14 then Some (OfReferences index) else option_map OfPrimitives (primitive_array t)

abbrev pub objects : List Row
objects =
    (0x8F, U2 (λ index. Object (New index))) ∷  -- new
    (0x93, Bare (Object Athrow)) ∷  -- athrow
    (0x94, ListedU2 (λ t index. option_map (λ tested. Object (CheckCast tested)) (type_operand t index))) ∷  -- checkcast
    (0x95, ListedU2 (λ t index. option_map (λ tested. Object (InstanceOf tested)) (type_operand t index))) ∷  -- instanceof
    []

abbrev pub calls : List Row
calls =
    (0x8B, U2 (λ index. Invoke (Virtual index))) ∷  -- invokevirtual
    (0x8C, U2 (λ index. Invoke (Special index))) ∷  -- invokespecial
    (0x8D, U2 (λ index. Invoke (Static index))) ∷  -- invokestatic
    (0x8E, U1U2U1 (λ arguments index token. Invoke (Interface arguments index token))) ∷  -- invokeinterface
    []

-- the common groups first, as the decoder asks for them
abbrev pub table : List Row
table =
    constants ++ (locals ++ (stack ++ (map in_short conditions ++ (calls ++ (returns ++ (static_fields
    ++ (instance_fields ++ (wide_instance_fields ++ (arithmetic ++ (jumps ++ (arrays ++ (objects ++ map in_wide conditions))))))))))))

-- the form that belongs to an opcode, if it has one
abbrev pub form_in : List Row → ℕ → Option Form
form_in [] op = None
form_in (row ∷ rows) op = if op == row.0 then Some row.1 else form_in rows op

-- an instruction, where all its bytes, which end before this place, are there
abbrev pub with_end : List ℕ → ℕ → Instr → Option (Instr × ℕ)
with_end code next instr = if nat_le next (length code) then Some (instr, next) else None

-- the instruction whose operands begin at a place, and the place after them
abbrev pub instruction_with : List ℕ → ℕ → Form → Option (Instr × ℕ)
instruction_with code at (Bare instr) = Some (instr, at)
instruction_with code at (U1 f) = option_map (λ n. (f n, at + 1)) (u1 code at)
instruction_with code at (S1 f) = option_map (λ v. (f v, at + 1)) (s1 code at)
instruction_with code at (S2 f) = option_map (λ v. (f v, at + 2)) (s2 code at)
instruction_with code at (U2 f) = option_map (λ v. (f v, at + 2)) (u2 code at)
instruction_with code at (U1S1 f) = option_and_then (λ n. option_map (λ v. (f n v, at + 2)) (s1 code (at + 1))) (u1 code at)
instruction_with code at (U1S2 f) = option_and_then (λ n. option_map (λ v. (f n v, at + 3)) (s2 code (at + 1))) (u1 code at)
instruction_with code at (U1U2U1 f) = option_and_then (λ n. option_and_then (λ v. option_map (λ m. (f n v m, at + 4)) (u1 code (at + 3))) (u2 code (at + 1)))
    (u1 code at)
instruction_with code at (Listed f) = option_and_then (λ b. option_map (λ instr. (instr, at + 1)) (f b)) (u1 code at)
instruction_with code at (ListedU2 f) = option_and_then (λ b. option_and_then (λ v. option_map (λ instr. (instr, at + 3)) (f b v)) (u2 code (at + 1)))
    (u1 code at)
instruction_with code at (Halves f) = option_and_then (λ b. option_map (λ instr. (instr, at + 1)) (f (b / 16) (b % 16))) (u1 code at)
instruction_with code at TableSwitch =
    option_and_then (λ otherwise. option_and_then (λ low. option_and_then (λ high.
    if int_lt high low then None else
    with_end code (at + 6 + 2 * (unsigned_abs (high -ℤ low) + 1)) (Branch (Table otherwise low high)))
    (s2 code (at + 4))) (s2 code (at + 2))) (s2 code at)
instruction_with code at LookupSwitch =
    option_and_then (λ otherwise. option_and_then (λ count.
    with_end code (at + 4 + 4 * count) (Branch (Lookup otherwise count)))
    (u2 code (at + 2))) (s2 code at)

-- the instruction whose opcode stands at a place and the place after it; none where it is undecodable or cut
abbrev pub decode : List ℕ → ℕ → Option (Instr × ℕ)
decode code pc = option_and_then (λ op. option_and_then (instruction_with code (pc + 1)) (form_in table op)) (slice_get code pc)

-- an instruction whose operands the table lists: of dup_x and swap_x not all bytes are
abbrev pub HasListedOperands : Instr → Type 0
HasListedOperands (Stack (DupX m n)) = IsTrue (can_duplicate_below m n)
HasListedOperands (Stack (SwapX m n)) = IsTrue (can_swap m n)
HasListedOperands instr = Unit {0}
