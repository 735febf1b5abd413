-- APDU: what each call may do.
use Rattle.std.specs.Prelude.{ℤ, pos, negsuc, nat_le}
use Rattle.std.proofs.Common.{◌≡◌, ◌≤◌, ℕ, List, length, sym, subst, arith, refl, Option, Some, None, ap}
use Rattle.std.proofs.lemmas.Bool.{leb-false}
use Rattle.jc_transient.specs.declared.cell.ClearEvent.{ClearEvent}
use Rattle.jc_heap.specs.Heap.{facts}
use Rattle.jc_memory.specs.Cells.{bytes_at, cells_effect_in, cells_refusal, cells_effect}
use Rattle.jc_memory.specs.Commands.{data_of, data_offset, most_answer}
use Rattle.jc_memory.specs.State.{MemoryState, Effect, SendBytes, apply_effect}
use Rattle.jc_memory.specs.declared.registers.ApduPhase.{ApduPhase}
use Rattle.jc_memory.specs.declared.registers.ApduPhase.TheVariants.{Waiting, Received, Outgoing, Sending}
use Rattle.jc_platform.specs.declared.names.PlatformMethod.{PlatformMethod}
use Rattle.jc_linker.specs.Values.{Packages}
use Rattle.jc_frames.specs.declared.cell.Cell.{Cell}
use Rattle.jc_world.specs.Arrays.{bytes_in}
use Rattle.jc_world.specs.declared.arrays.Stretch.{Stretch}
use Rattle.jc_api.specs.Arguments.{counted_of}
use Rattle.jc_api_framework.proofs.ArgumentExits.{plain_counted}
use Rattle.jc_api.proofs.Due.{IsPlainCall, called_some, called_if, called_ok, called_then, called_unless}
use Rattle.jc_api.proofs.Passing.{Turns}
use Rattle.jc_api_framework.specs.Apdu.{apdu_get_buffer, apdu_receive_bytes, apdu_get_current_apdu, apdu_get_current_apdu_buffer, set_outgoing_in_phase}
use Rattle.jc_api_framework.specs.Apdu.{apdu_set_outgoing, apdu_set_outgoing_no_chaining, most_unchained, phase_of, length_of, set_length_in_phase, apdu_set_outgoing_length, send_in_phase, piece_of}
use Rattle.jc_api_framework.specs.Apdu.{apdu_send_bytes, is_too_much, send_elements_in_phase, apdu_send_bytes_long, apdu_set_outgoing_and_send}
use Rattle.jc_api_framework.specs.Apdu.{receive_in_phase, receive_at, receive_from, receive_more, next_piece, apdu_set_incoming_and_receive}
use Rattle.jc_api_framework.specs.Apdu.Buffer.{buffer_length, buffer_of}
use Rattle.jc_api_framework.specs.Apdu.Current.{apdu_object, has_command}
use Rattle.jc_api_framework.specs.Apdu.Queries.{while_received}
use Rattle.jc_api_framework.proofs.ApduCalls.Checks.{IsCommandBuffer, buffer_is, apdu_is, offset_few, piece_fits, plain_length, plain_piece}
use Rattle.jc_api_framework.proofs.Passing.{AnswersSo, MethodPasses}

module _ (P : Effect → MemoryState → Type 0) (L : MemoryState → ℕ → Type 0) (args : List Cell) (p : Packages) (m : MemoryState) where
  -- APDU
  pub buffer_got_due : AnswersSo L m → IsPlainCall P L (apdu_get_buffer m) m
  buffer_got_due so = called_some P L m (buffer_of m) _ (λ r there. subst (L m) (sym (buffer_is m r there).is) (so.fixed 16 (omega arith)))

  pub while_received_due : (phase : ApduPhase) (answer : ℤ) → IsPlainCall P L (while_received phase answer) m
  while_received_due (Received n) answer = tt
  while_received_due _ answer = tt

  pub current_apdu_due : AnswersSo L m → IsPlainCall P L (apdu_get_current_apdu m) m
  unfolding apdu_get_current_apdu
  current_apdu_due so = called_if P L m (has_command m) _ _ (λ on. called_some P L m (apdu_object m) _ (λ r there. subst (L m) (apdu_is m r there) (so.fixed 15 (omega arith)))) (λ off. tt)

  pub current_buffer_due : AnswersSo L m → IsPlainCall P L (apdu_get_current_apdu_buffer m) m
  unfolding apdu_get_current_apdu_buffer
  current_buffer_due so = called_if P L m (has_command m) _ _ (λ on. buffer_got_due so) (λ off. tt)

module _ (P : Effect → MemoryState → Type 0) (L : MemoryState → ℕ → Type 0) (Q : MemoryState → Type 0) (turns : Turns P Q) where
  outgoing_in_due : (m : MemoryState) → Q m → (phase : ApduPhase) (most : ℕ) → IsPlainCall P L (set_outgoing_in_phase m phase most) m
  outgoing_in_due m so Waiting most = (turns.turns _ m so refl refl refl, tt)
  outgoing_in_due m so (Received n) most = (turns.turns _ m so refl refl refl, tt)
  outgoing_in_due m so _ most = tt

  pub outgoing_due : (m : MemoryState) → Q m → IsPlainCall P L (apdu_set_outgoing m) m
  unfolding apdu_set_outgoing
  outgoing_due m so = outgoing_in_due m so (phase_of m) (most_answer m.command)

  pub unchained_due : (m : MemoryState) → Q m → IsPlainCall P L (apdu_set_outgoing_no_chaining m) m
  unfolding apdu_set_outgoing_no_chaining
  unchained_due m so = outgoing_in_due m so (phase_of m) (most_unchained m)

  length_in_due : (m : MemoryState) → Q m → (phase : ApduPhase) (count : ℤ) → IsPlainCall P L (set_length_in_phase m phase count) m
  length_in_due m so (Outgoing most) count = called_ok P L m (length_of most count) _ (plain_length most count) (λ n is. (turns.turns _ m so refl refl refl, tt))
  length_in_due m so _ count = tt

  pub length_due : (m : MemoryState) → Q m → (count : ℤ) → IsPlainCall P L (apdu_set_outgoing_length count m) m
  unfolding apdu_set_outgoing_length
  length_due m so count = length_in_due m so (phase_of m) count

  sent_in_due : (m : MemoryState) → Q m → (phase : ApduPhase) (start count : ℤ) → IsPlainCall P L (send_in_phase m phase start count) m
  sent_in_due m so (Sending left) start count = called_some P L m (buffer_of m) _ (λ buffer there.
      called_ok P L m (piece_of m (buffer_length m buffer) left start count) _ (plain_piece m (buffer_length m buffer) left start count) (λ piece is.
      let sends = turns.sends (bytes_at m buffer piece.start piece.count) m in
      (sends, (turns.turns _ _ (turns.keeps (SendBytes (bytes_at m buffer piece.start piece.count)) m sends so) refl refl refl, tt))))
  sent_in_due m so _ start count = tt

  pub sent_due : (m : MemoryState) → Q m → (start count : ℤ) → IsPlainCall P L (apdu_send_bytes start count m) m
  unfolding apdu_send_bytes
  sent_due m so start count = sent_in_due m so (phase_of m) start count

  elements_sent_due : (m : MemoryState) → Q m → (phase : ApduPhase) (e : Stretch) → IsPlainCall P L (send_elements_in_phase m phase e) m
  elements_sent_due m so (Sending left) e = called_if P L m (is_too_much m left (pos e.count)) _ _ (λ on. tt) (λ off.
      let sends = turns.sends (bytes_in m e) m in
      (sends, (turns.turns _ _ (turns.keeps (SendBytes (bytes_in m e)) m sends so) refl refl refl, tt)))
  elements_sent_due m so _ e = tt

  pub sent_long_due : (args : List Cell) (p : Packages) (m : MemoryState) → Q m → IsPlainCall P L (apdu_send_bytes_long args p m) m
  unfolding apdu_send_bytes_long
  sent_long_due args p m so = called_ok P L m (counted_of 1 args p m) _ (plain_counted args 1 p m) (λ e there. elements_sent_due m so (phase_of m) e)

  pub all_sent_due : (m : MemoryState) → Q m → (start count : ℤ) → IsPlainCall P L (apdu_set_outgoing_and_send start count m) m
  unfolding apdu_set_outgoing_and_send
  all_sent_due m so start count = called_then P L Q turns.keeps _ (λ v next. called_then P L Q turns.keeps _ (λ w last. sent_due w last start count)
      (apdu_set_outgoing_length count v) v next (length_due v next count)) (apdu_set_outgoing m) m so (outgoing_due m so)

-- a run of cells that is set leaves the registers
same_registers : (event : Option ClearEvent) (r i : ℕ) (words : List ℕ) (m : MemoryState)
    → (apply_effect (cells_effect_in event r i words) m).registers ≡ m.registers
same_registers None r i words m = refl
same_registers (Some event) r i words m = refl

module _ (P : Effect → MemoryState → Type 0) (L : MemoryState → ℕ → Type 0) (Q : MemoryState → Type 0) (turns : Turns P Q) (method : PlatformMethod)
    (args : List Cell) (p : Packages) (m : MemoryState) (so : Q m) (pass : MethodPasses P method args p m) where
  -- APDU
  piece_due : (buffer n at : ℕ) → IsCommandBuffer m buffer → at ≤ buffer_length m buffer → IsPlainCall P L (receive_at m buffer n at) m
  piece_due buffer n at is within =
      let piece : List ℕ = next_piece m.command n (buffer_length m buffer) at in
      let sets = pass.buffer buffer at piece is (piece_fits m.command n (buffer_length m buffer) at within) in
      let same = same_registers (facts m.heap.now buffer).event buffer at piece m in
      called_unless P L m (cells_refusal m buffer at piece) _ (λ room. (
        sets,
        (
          turns.turns _ _ (turns.keeps (cells_effect m buffer at piece) m sets so) (ap (λ g. g.active) (sym same))
              (ap (λ g. g.installation) (sym same)) (ap (λ g. g.selected) (sym same)),
          tt,
        ),
      ))

  received_in_due : (phase : ApduPhase) → IsPlainCall P L (receive_in_phase m phase) m
  received_in_due Waiting = called_some P L m (buffer_of m) _ (λ buffer there.
      let is = buffer_is m buffer there in
      piece_due buffer 0 (data_offset m.command) is (let long = is.long in let few = offset_few m.command in omega (arith, long, few)))
  received_in_due _ = tt

  pub received_due : IsPlainCall P L (apdu_set_incoming_and_receive m) m
  unfolding apdu_set_incoming_and_receive
  received_due = received_in_due (phase_of m)

  received_from_due : (n : ℕ) (at : ℤ) → IsPlainCall P L (receive_from m n at) m
  received_from_due n (pos at) = called_some P L m (buffer_of m) _ (λ buffer there. called_if P L m (nat_le (buffer_length m buffer) at) _ _ (λ on. tt)
      (λ off. piece_due buffer n at (buffer_is m buffer there) (let above = leb-false (buffer_length m buffer) at off in omega (arith, above))))
  received_from_due n (negsuc k) = tt

  more_in_due : (phase : ApduPhase) (at : ℤ) → IsPlainCall P L (receive_more m phase at) m
  more_in_due (Received n) at = called_if P L m (nat_le (length (data_of m.command)) n) _ _ (λ on. tt) (λ off. received_from_due n at)
  more_in_due _ at = tt

  pub received_more_due : (at : ℤ) → IsPlainCall P L (apdu_receive_bytes at m) m
  unfolding apdu_receive_bytes
  received_more_due at = more_in_due (phase_of m) at
