-- APDU: what its calls may do.
pub mod Each
pub mod Checks
pub mod InARow
use Rattle.std.specs.Int.{w16, cast_signed}
use Rattle.std.specs.Prelude.{pos}
use Rattle.std.proofs.Common.{ℕ, List, length}
use Rattle.jc_memory.specs.Commands.{data_of, data_offset}
use Rattle.jc_memory.specs.State.{MemoryState, Effect}
use Rattle.jc_platform.specs.declared.names.ApdusMethod.{ApdusMethod}
use Rattle.jc_platform.specs.declared.names.ApdusMethod.TheVariants as apdus
use Rattle.jc_platform.specs.declared.names.PlatformMethod.TheVariants as rooms
use Rattle.jc_linker.specs.Values.{Packages}
use Rattle.jc_frames.specs.declared.cell.Cell.{Cell}
use Rattle.jc_world.specs.Objects.{short_argument}
use Rattle.jc_api.proofs.Due.{IsPlainCall, called_some}
use Rattle.jc_api.proofs.Passing.{Turns}
use Rattle.jc_api_framework.specs.Apdu.{apdu_call, phase_of}
use Rattle.jc_api_framework.proofs.ApduCalls.Each.{buffer_got_due, while_received_due, current_apdu_due, current_buffer_due, outgoing_due, unchained_due}
use Rattle.jc_api_framework.proofs.ApduCalls.Each.{length_due, sent_due, sent_long_due, all_sent_due, received_due, received_more_due}
use Rattle.jc_api_framework.proofs.Passing.{AnswersSo, MethodPasses}

module _ (P : Effect → MemoryState → Type 0) (L : MemoryState → ℕ → Type 0) (Q : MemoryState → Type 0) (turns : Turns P Q) (args : List Cell) (p : Packages)
    (m : MemoryState) (so : Q m) (refers : AnswersSo L m) where
  pub apdus_due : (method : ApdusMethod) → MethodPasses P (rooms.Apdus method) args p m → IsPlainCall P L (apdu_call method args p m) m
  unfolding apdu_call
  apdus_due apdus.ApduGetBuffer pass = buffer_got_due P L args p m refers
  apdus_due apdus.ApduReceiveBytes pass = called_some P L m (short_argument args 1) _
      (λ at is. received_more_due P L Q turns (rooms.Apdus apdus.ApduReceiveBytes) args p m so pass at)
  apdus_due apdus.ApduSendBytes pass = called_some P L m (short_argument args 1) _ (λ start is. called_some P L m (short_argument args 2) _
      (λ count there. sent_due P L Q turns m so start count))
  apdus_due apdus.ApduSetIncomingAndReceive pass = received_due P L Q turns (rooms.Apdus apdus.ApduSetIncomingAndReceive) args p m so pass
  apdus_due apdus.ApduSetOutgoing pass = outgoing_due P L Q turns m so
  apdus_due apdus.ApduSetOutgoingAndSend pass = called_some P L m (short_argument args 1) _
      (λ start is. called_some P L m (short_argument args 2) _ (λ count there. all_sent_due P L Q turns m so start count))
  apdus_due apdus.ApduSetOutgoingLength pass = called_some P L m (short_argument args 1) _ (λ count is. length_due P L Q turns m so count)
  apdus_due apdus.ApduGetIncomingLength pass = while_received_due P L args p m (phase_of m) (cast_signed w16 (length (data_of m.command)))
  apdus_due apdus.ApduGetOffsetCdata pass = while_received_due P L args p m (phase_of m) (pos (data_offset m.command))
  apdus_due apdus.ApduSendBytesLong pass = sent_long_due P L Q turns args p m so
  apdus_due apdus.ApduSetOutgoingNoChaining pass = unchained_due P L Q turns m so
  apdus_due apdus.ApduGetCurrentApdu pass = current_apdu_due P L args p m refers
  apdus_due apdus.ApduGetCurrentApduBuffer pass = current_buffer_due P L args p m refers
  apdus_due _ pass = tt
