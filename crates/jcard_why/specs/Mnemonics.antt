-- The mnemonics of instructions (virtual machine specification, the instruction set).
use Rattle.std.specs.Prelude.{ℕ, nat_eq, List, [], ◌∷◌, codes, find, Option}
use Rattle.std.specs.Option.{option_map, option_or}

-- an opcode and its mnemonic
abbrev pub Row : Type 0
Row = ℕ × List ℕ

abbrev pub constants_and_locals : List Row
constants_and_locals =
    (0x00, codes "nop") ∷
    (0x01, codes "aconst_null") ∷
    (0x02, codes "sconst_m1") ∷
    (0x03, codes "sconst_0") ∷
    (0x04, codes "sconst_1") ∷
    (0x05, codes "sconst_2") ∷
    (0x06, codes "sconst_3") ∷
    (0x07, codes "sconst_4") ∷
    (0x08, codes "sconst_5") ∷
    (0x10, codes "bspush") ∷
    (0x11, codes "sspush") ∷
    (0x15, codes "aload") ∷
    (0x16, codes "sload") ∷
    (0x18, codes "aload_0") ∷
    (0x19, codes "aload_1") ∷
    (0x1A, codes "aload_2") ∷
    (0x1B, codes "aload_3") ∷
    (0x1C, codes "sload_0") ∷
    (0x1D, codes "sload_1") ∷
    (0x1E, codes "sload_2") ∷
    (0x1F, codes "sload_3") ∷
    (0x24, codes "aaload") ∷
    (0x25, codes "baload") ∷
    (0x26, codes "saload") ∷
    (0x28, codes "astore") ∷
    (0x29, codes "sstore") ∷
    (0x2B, codes "astore_0") ∷
    (0x2C, codes "astore_1") ∷
    (0x2D, codes "astore_2") ∷
    (0x2E, codes "astore_3") ∷
    (0x2F, codes "sstore_0") ∷
    (0x30, codes "sstore_1") ∷
    (0x31, codes "sstore_2") ∷
    (0x32, codes "sstore_3") ∷
    (0x37, codes "aastore") ∷
    (0x38, codes "bastore") ∷
    (0x39, codes "sastore") ∷
    []

abbrev pub stack_and_arithmetic : List Row
stack_and_arithmetic =
    (0x3B, codes "pop") ∷
    (0x3C, codes "pop2") ∷
    (0x3D, codes "dup") ∷
    (0x3E, codes "dup2") ∷
    (0x3F, codes "dup_x") ∷
    (0x40, codes "swap_x") ∷
    (0x41, codes "sadd") ∷
    (0x43, codes "ssub") ∷
    (0x45, codes "smul") ∷
    (0x47, codes "sdiv") ∷
    (0x49, codes "srem") ∷
    (0x4B, codes "sneg") ∷
    (0x4D, codes "sshl") ∷
    (0x4F, codes "sshr") ∷
    (0x51, codes "sushr") ∷
    (0x53, codes "sand") ∷
    (0x55, codes "sor") ∷
    (0x57, codes "sxor") ∷
    (0x59, codes "sinc") ∷
    (0x5B, codes "s2b") ∷
    []

abbrev pub branches_and_returns : List Row
branches_and_returns =
    (0x60, codes "ifeq") ∷
    (0x61, codes "ifne") ∷
    (0x62, codes "iflt") ∷
    (0x63, codes "ifge") ∷
    (0x64, codes "ifgt") ∷
    (0x65, codes "ifle") ∷
    (0x66, codes "ifnull") ∷
    (0x67, codes "ifnonnull") ∷
    (0x68, codes "if_acmpeq") ∷
    (0x69, codes "if_acmpne") ∷
    (0x6A, codes "if_scmpeq") ∷
    (0x6B, codes "if_scmpne") ∷
    (0x6C, codes "if_scmplt") ∷
    (0x6D, codes "if_scmpge") ∷
    (0x6E, codes "if_scmpgt") ∷
    (0x6F, codes "if_scmple") ∷
    (0x70, codes "goto") ∷
    (0x71, codes "jsr") ∷
    (0x72, codes "ret") ∷
    (0x73, codes "stableswitch") ∷
    (0x75, codes "slookupswitch") ∷
    (0x77, codes "areturn") ∷
    (0x78, codes "sreturn") ∷
    (0x7A, codes "return") ∷
    (0x98, codes "ifeq_w") ∷
    (0x99, codes "ifne_w") ∷
    (0x9A, codes "iflt_w") ∷
    (0x9B, codes "ifge_w") ∷
    (0x9C, codes "ifgt_w") ∷
    (0x9D, codes "ifle_w") ∷
    (0x9E, codes "ifnull_w") ∷
    (0x9F, codes "ifnonnull_w") ∷
    (0xA0, codes "if_acmpeq_w") ∷
    (0xA1, codes "if_acmpne_w") ∷
    (0xA2, codes "if_scmpeq_w") ∷
    (0xA3, codes "if_scmpne_w") ∷
    (0xA4, codes "if_scmplt_w") ∷
    (0xA5, codes "if_scmpge_w") ∷
    (0xA6, codes "if_scmpgt_w") ∷
    (0xA7, codes "if_scmple_w") ∷
    (0xA8, codes "goto_w") ∷
    []

abbrev pub fields_calls_and_objects : List Row
fields_calls_and_objects =
    (0x7B, codes "getstatic_a") ∷
    (0x7C, codes "getstatic_b") ∷
    (0x7D, codes "getstatic_s") ∷
    (0x7F, codes "putstatic_a") ∷
    (0x80, codes "putstatic_b") ∷
    (0x81, codes "putstatic_s") ∷
    (0x83, codes "getfield_a") ∷
    (0x84, codes "getfield_b") ∷
    (0x85, codes "getfield_s") ∷
    (0x87, codes "putfield_a") ∷
    (0x88, codes "putfield_b") ∷
    (0x89, codes "putfield_s") ∷
    (0x8B, codes "invokevirtual") ∷
    (0x8C, codes "invokespecial") ∷
    (0x8D, codes "invokestatic") ∷
    (0x8E, codes "invokeinterface") ∷
    (0x8F, codes "new") ∷
    (0x90, codes "newarray") ∷
    (0x91, codes "anewarray") ∷
    (0x92, codes "arraylength") ∷
    (0x93, codes "athrow") ∷
    (0x94, codes "checkcast") ∷
    (0x95, codes "instanceof") ∷
    (0x96, codes "sinc_w") ∷
    (0xA9, codes "getfield_a_w") ∷
    (0xAA, codes "getfield_b_w") ∷
    (0xAB, codes "getfield_s_w") ∷
    (0xAD, codes "getfield_a_this") ∷
    (0xAE, codes "getfield_b_this") ∷
    (0xAF, codes "getfield_s_this") ∷
    (0xB1, codes "putfield_a_w") ∷
    (0xB2, codes "putfield_b_w") ∷
    (0xB3, codes "putfield_s_w") ∷
    (0xB5, codes "putfield_a_this") ∷
    (0xB6, codes "putfield_b_this") ∷
    (0xB7, codes "putfield_s_this") ∷
    []

-- the mnemonic of an opcode in some rows; none where it has none
abbrev pub mnemonic_in : List Row → ℕ → Option (List ℕ)
mnemonic_in rows opcode = option_map (λ e. e.1) (find (λ e. nat_eq opcode e.0) rows)

-- the mnemonic of an opcode; none where no instruction has it
abbrev pub mnemonic : ℕ → Option (List ℕ)
mnemonic opcode = option_or (mnemonic_in constants_and_locals opcode) (option_or (mnemonic_in stack_and_arithmetic opcode)
    (option_or (mnemonic_in branches_and_returns opcode) (mnemonic_in fields_calls_and_objects opcode)))
