-- Bytes that are sent in pieces.
use Rattle.std.proofs.Common.{◌≡◌, ◌∙◌, List, [], ◌∷◌, ◌++◌, ℕ, zero, suc, ◌+◌, ◌%◌, Option, None, Some, refl, ap, sym, append_assoc, arith}
use Rattle.std.specs.Prelude.{map}
use Rattle.std.specs.List.{range_with_len}
use Rattle.jc_transient.specs.declared.cell.ClearEvent.{ClearEvent}
use Rattle.jc_heap.specs.Heap.{facts}
use Rattle.jc_memory.specs.Cells.{byte_at, bytes_at, word_in}
use Rattle.jc_memory.specs.State.{MemoryState, SendBytes, apply_effect}

-- what stands at the indices from one on: at the first of them, and then at the others
split_at : {A : Type 0} (f : ℕ → A) (i k n : ℕ)
    → map f (range_with_len i (k + n)) ≡ map f (range_with_len i k) ++ map f (range_with_len (i + k) n)
split_at f i zero n =
    let none : 0 + n ≡ n = omega arith in
    let here : i + 0 ≡ i = omega arith in
    rw (none, here) refl
split_at f i (suc k) n =
    let more : suc k + n ≡ suc (k + n) = omega arith in
    let next : i + suc k ≡ (i + 1) + k = omega arith in
    rw (more, next) (ap (λ l. f i ∷ l) (split_at f (i + 1) k n))

-- what was sent changes no cell
word_kept : (event : Option ClearEvent) (bytes : List ℕ) (m : MemoryState) (r i : ℕ)
    → word_in event (apply_effect (SendBytes bytes) m) r i ≡ word_in event m r i
word_kept None bytes m r i = refl
word_kept (Some event) bytes m r i = refl

bytes_kept : (bytes : List ℕ) (m : MemoryState) (r : ℕ) (at : List ℕ)
    → map (byte_at (apply_effect (SendBytes bytes) m) r) at ≡ map (byte_at m r) at
bytes_kept bytes m r [] = refl
bytes_kept bytes m r (i ∷ at) =
    ap (λ w. (w % 256) ∷ map (byte_at (apply_effect (SendBytes bytes) m) r) at) (word_kept (facts m.heap.now r).event bytes m r i)
    ∙ ap (λ l. byte_at m r i ∷ l) (bytes_kept bytes m r at)

-- bytes of an object that are sent one piece after another are sent as at once
pub sent_in_pieces : (m : MemoryState) (r i k n count : ℕ) → k + n ≡ count
    → apply_effect (SendBytes (bytes_at (apply_effect (SendBytes (bytes_at m r i k)) m) r (i + k) n)) (apply_effect (SendBytes (bytes_at m r i k)) m)
    ≡ apply_effect (SendBytes (bytes_at m r i count)) m
sent_in_pieces m r i k n count all =
    let whole = sym (ap (bytes_at m r i) (sym all) ∙ split_at _ i k n) in
    ap (λ l. record m { sent = (m.sent ++ bytes_at m r i k) ++ l }) (bytes_kept (bytes_at m r i k) m r (range_with_len (i + k) n))
    ∙ ap (λ l. record m { sent = l }) (append_assoc m.sent _ _ ∙ ap (λ l. m.sent ++ l) whole)
