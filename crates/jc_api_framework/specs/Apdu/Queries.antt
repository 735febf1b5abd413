-- What code may ask of a command and of its answer (API specification, APDU). The transmission protocol is T=1 where the image takes
-- commands in the extended form, else T=0.
use Rattle.std.specs.Prelude.{ℕ, ℤ, pos, ◌==◌, nat_lt, List, length, if◌then◌else◌}
use Rattle.std.specs.Int.{w16, cast_signed}
use Rattle.jc_frames.specs.Reasons.{illegal_use}
use Rattle.jc_memory.specs.declared.registers.ApduPhase.{ApduPhase}
use Rattle.jc_memory.specs.declared.registers.ApduPhase.TheVariants.{Waiting, Received, Outgoing, Sending}
use Rattle.jc_memory.specs.Commands.{data_of, data_offset, takes_extended_length}
use Rattle.jc_memory.specs.State.{MemoryState}
use Rattle.jc_world.specs.NativeCalls.{NativeProgram, throw_exception}
use Rattle.jc_world.specs.Answers.{returns_short, returns_bool}
use Rattle.jc_api_framework.specs.Apdu.Class.{class_byte, is_interindustry, is_valid_class, is_chained, is_secured, channel_of}

-- what is answered while data are received: from the first receipt on, and before anything is sent
abbrev pub while_received : ApduPhase → ℤ → NativeProgram
while_received Waiting answer = throw_exception illegal_use
while_received (Received n) answer = returns_short answer
while_received (Outgoing most) answer = throw_exception illegal_use
while_received (Sending left) answer = throw_exception illegal_use

-- APDU.getIncomingLength: how many bytes of data the command has, modulo 2^16
abbrev pub apdu_get_incoming_length : MemoryState → ApduPhase → NativeProgram
apdu_get_incoming_length m phase = while_received phase (cast_signed w16 (length (data_of m.command)))

-- APDU.getOffsetCdata: where they begin in the buffer
abbrev pub apdu_get_offset_cdata : MemoryState → ApduPhase → NativeProgram
apdu_get_offset_cdata m phase = while_received phase (pos (data_offset m.command))

-- how far the answer has come, when this many bytes were sent and this many are left: STATE_OUTGOING_LENGTH_KNOWN,
-- STATE_FULL_OUTGOING, STATE_PARTIAL_OUTGOING
abbrev pub state_of_answer : ℕ → ℕ → ℤ
state_of_answer sent left = if sent == 0 then pos 4 else (if left == 0 then pos 6 else pos 5)

-- how far the data have come, of which n were received: STATE_PARTIAL_INCOMING, STATE_FULL_INCOMING
abbrev pub state_of_data : List ℕ → ℕ → ℤ
state_of_data command n = if nat_lt n (length (data_of command)) then pos 1 else pos 2

-- how far a command has come, when this many bytes were sent: STATE_INITIAL, how far its data have, STATE_OUTGOING, or how far
-- the answer has
abbrev pub state_number : List ℕ → ApduPhase → ℕ → ℤ
state_number command Waiting sent = pos 0
state_number command (Received n) sent = state_of_data command n
state_number command (Outgoing most) sent = pos 3
state_number command (Sending left) sent = state_of_answer sent left

-- APDU.getCurrentState: how far the command has come
abbrev pub apdu_get_current_state : MemoryState → ApduPhase → NativeProgram
apdu_get_current_state m phase = returns_short (state_number m.command phase (length m.sent))

-- the one where the image takes commands in the extended form, so that the protocol is T=1; the other one where it is T=0
abbrev pub by_protocol : MemoryState → ℤ → ℤ → NativeProgram
by_protocol m one zero = returns_short (if takes_extended_length m.ram.sizes then one else zero)

-- APDU.getProtocol: T=1 or T=0
abbrev pub apdu_get_protocol : MemoryState → NativeProgram
apdu_get_protocol m = by_protocol m (pos 1) (pos 0)

-- APDU.getNAD: no node addresses are used
abbrev pub apdu_get_nad : NativeProgram
apdu_get_nad = returns_short (pos 0)

-- APDU.getInBlockSize, APDU.getOutBlockSize: T=1 has blocks of 254 bytes; T=0 receives single ones, and sends 256 and the status word
abbrev pub apdu_get_in_block_size : MemoryState → NativeProgram
apdu_get_in_block_size m = by_protocol m (pos 254) (pos 1)

abbrev pub apdu_get_out_block_size : MemoryState → NativeProgram
apdu_get_out_block_size m = by_protocol m (pos 254) (pos 258)

-- APDU.isISOInterindustryCLA
abbrev pub apdu_is_iso_interindustry_cla : MemoryState → NativeProgram
apdu_is_iso_interindustry_cla m = returns_bool (is_interindustry (class_byte m.command))

-- APDU.isCommandChainingCLA
abbrev pub apdu_is_command_chaining_cla : MemoryState → NativeProgram
apdu_is_command_chaining_cla m = returns_bool (is_chained (class_byte m.command))

-- APDU.isSecureMessagingCLA
abbrev pub apdu_is_secure_messaging_cla : MemoryState → NativeProgram
apdu_is_secure_messaging_cla m = returns_bool (is_secured (class_byte m.command))

-- APDU.isValidCLA
abbrev pub apdu_is_valid_cla : MemoryState → NativeProgram
apdu_is_valid_cla m = returns_bool (is_valid_class (class_byte m.command))

-- APDU.getCLAChannel
abbrev pub apdu_get_cla_channel : MemoryState → NativeProgram
apdu_get_cla_channel m = returns_short (pos (channel_of (class_byte m.command)))
