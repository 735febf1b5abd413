-- APDU (API specification): how far the command has come, and what its methods do.
pub mod Buffer
pub mod Class
pub mod Current
pub mod Queries
use Rattle.std.specs.Prelude.{ℕ, ℤ, pos, negsuc, ◌+◌, ◌-◌, ◌==◌, ◌||◌, nat_lt, nat_le, min, take, drop, Bool, false, List, length, if◌then◌else◌, Result, Ok, Err}
use Rattle.std.specs.Int.{w16, cast_signed}
use Rattle.jc_frames.specs.declared.cell.Cell.{Cell}
use Rattle.jc_frames.specs.declared.cell.Cell.TheVariants.{Reference}
use Rattle.jc_frames.specs.Reasons.{bad_length, buffer_bounds, illegal_use}
use Rattle.jc_frames.specs.declared.exceptions.Exception.TheVariants.{SecurityException}
use Rattle.jc_frames.specs.declared.outcome.FrameExit.{FrameExit}
use Rattle.jc_frames.specs.declared.outcome.FrameExit.TheVariants.{Throw}
use Rattle.jc_memory.specs.declared.registers.ApduPhase.{ApduPhase}
use Rattle.jc_memory.specs.declared.registers.ApduPhase.TheVariants.{Waiting, Received, Outgoing, Sending}
use Rattle.jc_memory.specs.declared.registers.Registers.{Registers}
use Rattle.jc_memory.specs.State.{MemoryState, SetRegisters, SendBytes}
use Rattle.jc_memory.specs.Programs.{Perform, bind}
use Rattle.jc_memory.specs.Cells.{bytes_at, cells_refusal, cells_effect}
use Rattle.jc_memory.specs.Commands.{data_of, data_offset, most_answer, most_sent, most_short, takes_extended_length}
use Rattle.jc_linker.specs.Values.{Packages}
use Rattle.jc_platform.specs.declared.names.ApdusMethod.{ApdusMethod}
use Rattle.jc_platform.specs.declared.names.ApdusMethod.TheVariants.{ApduGetBuffer, ApduReceiveBytes, ApduSendBytes, ApduSetIncomingAndReceive}
use Rattle.jc_platform.specs.declared.names.ApdusMethod.TheVariants.{ApduSetOutgoing, ApduSetOutgoingAndSend, ApduSetOutgoingLength, ApduGetIncomingLength}
use Rattle.jc_platform.specs.declared.names.ApdusMethod.TheVariants.{ApduGetOffsetCdata, ApduSendBytesLong, ApduGetCurrentState, ApduGetProtocol, ApduGetNad}
use Rattle.jc_platform.specs.declared.names.ApdusMethod.TheVariants.{ApduGetClaChannel, ApduGetInBlockSize, ApduGetOutBlockSize, ApduIsIsoInterindustryCla}
use Rattle.jc_platform.specs.declared.names.ApdusMethod.TheVariants.{ApduIsCommandChainingCla, ApduIsSecureMessagingCla, ApduIsValidCla}
use Rattle.jc_platform.specs.declared.names.ApdusMethod.TheVariants.{ApduSetOutgoingNoChaining, ApduWaitExtension, ApduGetCurrentApdu}
use Rattle.jc_platform.specs.declared.names.ApdusMethod.TheVariants.{ApduGetCurrentApduBuffer}
use Rattle.jc_world.specs.declared.native_result.NativeResult.TheVariants.{ReturnVoid, ReturnValue}
use Rattle.jc_world.specs.NativeCalls.{NativeProgram, return_value, throw_exception, if_some, if_ok, unless}
use Rattle.jc_world.specs.Objects.{short_argument}
use Rattle.jc_world.specs.Answers.{returns_short}
use Rattle.jc_world.specs.declared.arrays.Stretch.{Stretch}
use Rattle.jc_world.specs.Arrays.{bytes_in}
use Rattle.jc_api_framework.specs.declared.apdu.send.Piece.{Piece}
use Rattle.jc_api_framework.specs.Apdu.Buffer.{buffer_length, buffer_of}
use Rattle.jc_api_framework.specs.Apdu.Current.{has_command, apdu_object}
use Rattle.jc_api_framework.specs.Apdu.Queries.{apdu_get_incoming_length, apdu_get_offset_cdata, apdu_get_current_state, apdu_get_protocol, apdu_get_nad}
use Rattle.jc_api_framework.specs.Apdu.Queries.{apdu_get_in_block_size, apdu_get_out_block_size, apdu_is_iso_interindustry_cla, apdu_is_command_chaining_cla}
use Rattle.jc_api_framework.specs.Apdu.Queries.{apdu_is_secure_messaging_cla, apdu_is_valid_cla, apdu_get_cla_channel}
use Rattle.jc_api.specs.Arguments.{counted_of}

abbrev pub phase_of : MemoryState → ApduPhase
phase_of m = m.registers.apdu.phase

-- the registers of a command that has come so far
abbrev pub with_phase : MemoryState → ApduPhase → Registers
with_phase m phase = record m.registers { apdu = record m.registers.apdu { phase = phase } }

abbrev pub with_phase_set : MemoryState → ApduPhase → NativeProgram → NativeProgram
with_phase_set m phase rest = Perform (SetRegisters (with_phase m phase)) rest

-- APDU.getBuffer: the APDU buffer
abbrev pub apdu_get_buffer : MemoryState → NativeProgram
apdu_get_buffer m = if_some (buffer_of m) (λ buffer. return_value (ReturnValue (Reference buffer)))

-- the next of a command's data, of which n were received: as many as a buffer of this size takes from a place on
abbrev pub next_piece : List ℕ → ℕ → ℕ → ℕ → List ℕ
next_piece command n size at = take (size - at) (drop n (data_of command))

-- this piece of the data, of which n were received before it, stands in the buffer from a place on; how many it has is returned
abbrev pub receive_piece : MemoryState → ℕ → ℕ → ℕ → List ℕ → NativeProgram
receive_piece m buffer n at piece = unless (cells_refusal m buffer at piece) (Perform (cells_effect m buffer at piece)
    (with_phase_set m (Received (n + length piece)) (returns_short (cast_signed w16 (length piece)))))

-- the next piece stands in the buffer from a place on
abbrev pub receive_at : MemoryState → ℕ → ℕ → ℕ → NativeProgram
receive_at m buffer n at = receive_piece m buffer n at (next_piece m.command n (buffer_length m buffer) at)

-- setIncomingAndReceive, by how far the command has come
abbrev pub receive_in_phase : MemoryState → ApduPhase → NativeProgram
receive_in_phase m Waiting = if_some (buffer_of m) (λ buffer. receive_at m buffer 0 (data_offset m.command))
receive_in_phase m (Received n) = throw_exception illegal_use
receive_in_phase m (Outgoing most) = throw_exception illegal_use
receive_in_phase m (Sending left) = throw_exception illegal_use

-- APDU.setIncomingAndReceive: the first of the data, as many as have room, stand in the buffer after the header, and their number is
-- returned; once, and before anything is sent
unfoldable pub apdu_set_incoming_and_receive : MemoryState → NativeProgram
apdu_set_incoming_and_receive m = receive_in_phase m (phase_of m)

-- the next piece from a place on, where the buffer has this place
abbrev pub receive_from : MemoryState → ℕ → ℤ → NativeProgram
receive_from m n (pos at) = if_some (buffer_of m) (λ buffer. if nat_le (buffer_length m buffer) at then throw_exception buffer_bounds else receive_at m buffer n at)
receive_from m n (negsuc k) = throw_exception buffer_bounds

-- receiveBytes, by how far the command has come: 0 is returned where all data were received, whatever the place is
abbrev pub receive_more : MemoryState → ApduPhase → ℤ → NativeProgram
receive_more m Waiting at = throw_exception illegal_use
receive_more m (Received n) at = if nat_le (length (data_of m.command)) n then returns_short (pos 0) else receive_from m n at
receive_more m (Outgoing most) at = throw_exception illegal_use
receive_more m (Sending left) at = throw_exception illegal_use

-- APDU.receiveBytes: the next of the data, as many as have room, stand in the buffer from a place on, and their number is returned
unfoldable pub apdu_receive_bytes : ℤ → MemoryState → NativeProgram
apdu_receive_bytes at m = receive_more m (phase_of m) at

-- how many bytes the command expects: as many as it says, 32,767 at most; where it says 0 or nothing, as many as an answer to it has at most
abbrev pub expected_of : MemoryState → ℕ
expected_of m = if m.registers.apdu.expected == 0 then most_answer m.command else min m.registers.apdu.expected most_sent

-- setOutgoing where at most this many bytes may be sent, by how far the command has come
abbrev pub set_outgoing_in_phase : MemoryState → ApduPhase → ℕ → NativeProgram
set_outgoing_in_phase m Waiting most = with_phase_set m (Outgoing most) (returns_short (cast_signed w16 (expected_of m)))
set_outgoing_in_phase m (Received n) most = with_phase_set m (Outgoing most) (returns_short (cast_signed w16 (expected_of m)))
set_outgoing_in_phase m (Outgoing other) most = throw_exception illegal_use
set_outgoing_in_phase m (Sending left) most = throw_exception illegal_use

-- APDU.setOutgoing: the number of bytes that the command expects; once
unfoldable pub apdu_set_outgoing : MemoryState → NativeProgram
apdu_set_outgoing m = set_outgoing_in_phase m (phase_of m) (most_answer m.command)

-- how many bytes may be sent in one block: T=0 has no chains of blocks; a block of T=1 has 254 bytes, of which two are the status word
abbrev pub most_unchained : MemoryState → ℕ
most_unchained m = if takes_extended_length m.ram.sizes then 252 else most_short

-- APDU.setOutgoingNoChaining: the same, where what is sent has to fit into one block
unfoldable pub apdu_set_outgoing_no_chaining : MemoryState → NativeProgram
apdu_set_outgoing_no_chaining m = set_outgoing_in_phase m (phase_of m) (most_unchained m)

-- a number of bytes, of which at most this many may be sent
abbrev pub length_of : ℕ → ℤ → Result ℕ FrameExit
length_of most (pos n) = if nat_le n most then Ok n else Err (Throw bad_length)
length_of most (negsuc n) = Err (Throw bad_length)

-- setOutgoingLength, by how far the command has come
abbrev pub set_length_in_phase : MemoryState → ApduPhase → ℤ → NativeProgram
set_length_in_phase m Waiting count = throw_exception illegal_use
set_length_in_phase m (Received n) count = throw_exception illegal_use
set_length_in_phase m (Outgoing most) count = if_ok (length_of most count) (λ n. with_phase_set m (Sending n) (return_value ReturnVoid))
set_length_in_phase m (Sending left) count = throw_exception illegal_use

-- APDU.setOutgoingLength: the number of bytes that are going to be sent; once, after setOutgoing
unfoldable pub apdu_set_outgoing_length : ℤ → MemoryState → NativeProgram
apdu_set_outgoing_length count m = set_length_in_phase m (phase_of m) count

-- more bytes than are left, or than an answer has
abbrev pub is_too_much : MemoryState → ℕ → ℤ → Bool
is_too_much m left (pos n) = nat_lt left n || nat_lt most_sent (length m.sent + n)
is_too_much m left (negsuc n) = false

-- this many bytes of a buffer of this size, from one on
abbrev pub buffer_piece : ℕ → ℤ → ℤ → Result Piece FrameExit
buffer_piece size (pos start) (pos count) = if nat_le (start + count) size then Ok (record { start = start; count = count }) else Err (Throw buffer_bounds)
buffer_piece size (pos start) (negsuc n) = Err (Throw buffer_bounds)
buffer_piece size (negsuc n) count = Err (Throw buffer_bounds)

-- what sendBytes may send of a buffer of this size
unfoldable pub piece_of : MemoryState → ℕ → ℕ → ℤ → ℤ → Result Piece FrameExit
piece_of m size left start count = if is_too_much m left count then Err (Throw illegal_use) else buffer_piece size start count

-- sendBytes, by how far the command has come
abbrev pub send_in_phase : MemoryState → ApduPhase → ℤ → ℤ → NativeProgram
send_in_phase m Waiting start count = throw_exception illegal_use
send_in_phase m (Received n) start count = throw_exception illegal_use
send_in_phase m (Outgoing most) start count = throw_exception illegal_use
send_in_phase m (Sending left) start count = if_some (buffer_of m) (λ buffer. if_ok (piece_of m (buffer_length m buffer) left start count) (λ piece.
    Perform (SendBytes (bytes_at m buffer piece.start piece.count)) (with_phase_set m (Sending (left - piece.count)) (return_value ReturnVoid))))

-- APDU.sendBytes: bytes of the buffer are sent, no more than are left
unfoldable pub apdu_send_bytes : ℤ → ℤ → MemoryState → NativeProgram
apdu_send_bytes start count m = send_in_phase m (phase_of m) start count

-- first this, and then that, unless this throws
abbrev pub then_call : MemoryState → (MemoryState → NativeProgram) → (MemoryState → NativeProgram) → NativeProgram
then_call m first next = bind (first m) m (λ answer v. if_ok answer (λ a. next v))

-- APDU.setOutgoingAndSend: setOutgoing, setOutgoingLength and sendBytes in a row; what passed before one of
-- them throws stays
unfoldable pub apdu_set_outgoing_and_send : ℤ → ℤ → MemoryState → NativeProgram
apdu_set_outgoing_and_send start count m = then_call m apdu_set_outgoing (λ v. then_call v (apdu_set_outgoing_length count) (apdu_send_bytes start count))

-- sendBytesLong, by how far the command has come
abbrev pub send_elements_in_phase : MemoryState → ApduPhase → Stretch → NativeProgram
send_elements_in_phase m Waiting e = throw_exception illegal_use
send_elements_in_phase m (Received n) e = throw_exception illegal_use
send_elements_in_phase m (Outgoing most) e = throw_exception illegal_use
send_elements_in_phase m (Sending left) e =
    if is_too_much m left (pos e.count) then throw_exception illegal_use
    else Perform (SendBytes (bytes_in m e)) (with_phase_set m (Sending (left - e.count)) (return_value ReturnVoid))

-- APDU.sendBytesLong: elements of an array of bytes are sent, no more than are left
unfoldable pub apdu_send_bytes_long : List Cell → Packages → MemoryState → NativeProgram
apdu_send_bytes_long args p m = if_ok (counted_of 1 args p m) (λ e. send_elements_in_phase m (phase_of m) e)

-- the code that runs asks for its command; else the call throws
abbrev pub if_own_command : MemoryState → NativeProgram → NativeProgram
if_own_command m answer = if has_command m then answer else throw_exception SecurityException

-- APDU.getCurrentAPDU: the APDU object, within process of the selected applet
unfoldable pub apdu_get_current_apdu : MemoryState → NativeProgram
apdu_get_current_apdu m = if_own_command m (if_some (apdu_object m) (λ apdu. return_value (ReturnValue (Reference apdu))))

-- APDU.getCurrentAPDUBuffer: the APDU buffer, within process of the selected applet
unfoldable pub apdu_get_current_apdu_buffer : MemoryState → NativeProgram
apdu_get_current_apdu_buffer m = if_own_command m (apdu_get_buffer m)

-- APDU.waitExtension: nobody waits
abbrev pub apdu_wait_extension : NativeProgram
apdu_wait_extension = return_value ReturnVoid

-- what a call of a method of APDU may do
unfoldable pub apdu_call : ApdusMethod → List Cell → Packages → MemoryState → NativeProgram
apdu_call ApduGetBuffer args p m = apdu_get_buffer m
apdu_call ApduReceiveBytes args p m = if_some (short_argument args 1) (λ at. apdu_receive_bytes at m)
apdu_call ApduSendBytes args p m = if_some (short_argument args 1) (λ start. if_some (short_argument args 2) (λ count. apdu_send_bytes start count m))
apdu_call ApduSetIncomingAndReceive args p m = apdu_set_incoming_and_receive m
apdu_call ApduSetOutgoing args p m = apdu_set_outgoing m
apdu_call ApduSetOutgoingAndSend args p m = if_some (short_argument args 1) (λ start. if_some (short_argument args 2)
    (λ count. apdu_set_outgoing_and_send start count m))
apdu_call ApduSetOutgoingLength args p m = if_some (short_argument args 1) (λ count. apdu_set_outgoing_length count m)
apdu_call ApduGetIncomingLength args p m = apdu_get_incoming_length m (phase_of m)
apdu_call ApduGetOffsetCdata args p m = apdu_get_offset_cdata m (phase_of m)
apdu_call ApduSendBytesLong args p m = apdu_send_bytes_long args p m
apdu_call ApduGetCurrentState args p m = apdu_get_current_state m (phase_of m)
apdu_call ApduGetProtocol args p m = apdu_get_protocol m
apdu_call ApduGetNad args p m = apdu_get_nad
apdu_call ApduGetClaChannel args p m = apdu_get_cla_channel m
apdu_call ApduGetInBlockSize args p m = apdu_get_in_block_size m
apdu_call ApduGetOutBlockSize args p m = apdu_get_out_block_size m
apdu_call ApduIsIsoInterindustryCla args p m = apdu_is_iso_interindustry_cla m
apdu_call ApduIsCommandChainingCla args p m = apdu_is_command_chaining_cla m
apdu_call ApduIsSecureMessagingCla args p m = apdu_is_secure_messaging_cla m
apdu_call ApduIsValidCla args p m = apdu_is_valid_cla m
apdu_call ApduSetOutgoingNoChaining args p m = apdu_set_outgoing_no_chaining m
apdu_call ApduWaitExtension args p m = apdu_wait_extension
apdu_call ApduGetCurrentApdu args p m = apdu_get_current_apdu m
apdu_call ApduGetCurrentApduBuffer args p m = apdu_get_current_apdu_buffer m
