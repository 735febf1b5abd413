-- APDU: what its checks give where a call does not go on, and what they say where it does.
use Rattle.std.specs.Option.{option_map}
use Rattle.std.specs.Prelude.{ℤ, pos, negsuc, ◌&&◌, nat_le, nat_lt, slice_index, take, drop}
use Rattle.std.proofs.Common.{◌+◌, ◌-◌, ◌≡◌, ◌≤◌, ℕ, true, refl, arith, Bool, false, Option, Some, None, subst, if◌then◌else◌, List, [], length}
use Rattle.std.proofs.lemmas.Bool.{and_parts, leb-true}
use Rattle.std.proofs.lemmas.List.{length-take}
use Rattle.std.proofs.lemmas.Option.{none-some, same_Some}
use Rattle.jc_transient.specs.State.{buffer_size, most_buffer}
use Rattle.jc_heap.specs.Heap.{facts}
use Rattle.jc_heap.specs.declared.object.Facts.{Facts}
use Rattle.jc_heap.specs.declared.object.Kind.{Kind}
use Rattle.jc_heap.specs.declared.object.Kind.TheVariants.{ByteArray, Instance, BooleanArray, ShortArray, ReferenceArray}
use Rattle.jc_memory.specs.Cells.{header_at}
use Rattle.jc_memory.specs.Commands.{data_of, data_offset, has_extended_length}
use Rattle.jc_memory.specs.State.{MemoryState}
use Rattle.jc_api.proofs.Exits.{FaultsOnly, plain_if}
use Rattle.jc_api.proofs.Reaching.{header_is}
use Rattle.jc_api_framework.specs.Apdu.{length_of, buffer_piece, is_too_much, next_piece, piece_of}
use Rattle.jc_api_framework.specs.Apdu.Buffer.{is_buffer_of, is_buffer, buffer_of}
use Rattle.jc_api_framework.specs.Apdu.Current.{apdu_object}

pub plain_length : (most : ℕ) (v : ℤ) → FaultsOnly (length_of most v)
plain_length most (pos n) = plain_if (nat_le n most) _ _ tt tt
plain_length most (negsuc n) = tt

plain_buffer_piece : (size : ℕ) (start count : ℤ) → FaultsOnly (buffer_piece size start count)
plain_buffer_piece size (pos start) (pos count) = plain_if (nat_le (start + count) size) _ _ tt tt
plain_buffer_piece size (pos start) (negsuc n) = tt
plain_buffer_piece size (negsuc n) count = tt

pub plain_piece : (m : MemoryState) (size left : ℕ) (start count : ℤ) → FaultsOnly (piece_of m size left start count)
unfolding piece_of
plain_piece m size left start count = plain_if (is_too_much m left count) _ _ tt (plain_buffer_piece size start count)

-- the APDU buffer, where it is there
pub record IsCommandBuffer (m : MemoryState) (r : ℕ) : Type 0 where
  pub is : r ≡ slice_index m.fixed 16
  pub kind : (facts m.heap.now r).kind ≡ ByteArray
  pub long : buffer_size ≤ (facts m.heap.now r).length

buffer_kind : (kind : Kind) (n : ℕ) → is_buffer_of kind n ≡ true → (kind ≡ ByteArray) × (buffer_size ≤ n)
buffer_kind Instance n e = absurd cc
buffer_kind BooleanArray n e = absurd cc
buffer_kind ByteArray n e = (refl, leb-true buffer_size n (and_parts (nat_le buffer_size n) (nat_le n most_buffer) e).0)
buffer_kind ShortArray n e = absurd cc
buffer_kind ReferenceArray n e = absurd cc

buffer_in : (m : MemoryState) (f : Option Facts) → header_at m (slice_index m.fixed 16) ≡ f → (b : Bool) → is_buffer f ≡ b → (r : ℕ)
    → (if b then Some (slice_index m.fixed 16) else None) ≡ Some r → IsCommandBuffer m r
buffer_in m f is false off r e = absurd (none-some r e)
buffer_in m None is true on r e = absurd cc
buffer_in m (Some f) is true on r e =
    let bytes = buffer_kind f.kind f.length on in
    let header = (header_is m (slice_index m.fixed 16) f is).1 in
    let kind : (facts m.heap.now (slice_index m.fixed 16)).kind ≡ ByteArray = subst (λ g. g.kind ≡ ByteArray) header bytes.0 in
    let long : buffer_size ≤ (facts m.heap.now (slice_index m.fixed 16)).length = subst (λ g. buffer_size ≤ g.length) header bytes.1 in
    subst (IsCommandBuffer m) (same_Some (slice_index m.fixed 16) r e) (record { is = refl; kind = kind; long = long })

pub buffer_is : (m : MemoryState) (r : ℕ) → buffer_of m ≡ Some r → IsCommandBuffer m r
unfolding buffer_of
buffer_is m r e = buffer_in m (header_at m (slice_index m.fixed 16)) refl (is_buffer (header_at m (slice_index m.fixed 16))) refl r e

-- the object that is answered for APDU is the sixteenth of the environment
apdu_found : (m : MemoryState) (o : Option Facts) (r : ℕ) → option_map (λ f. slice_index m.fixed 15) o ≡ Some r → slice_index m.fixed 15 ≡ r
apdu_found m None r is = absurd (none-some r is)
apdu_found m (Some f) r is = same_Some (slice_index m.fixed 15) r is

pub apdu_is : (m : MemoryState) (r : ℕ) → apdu_object m ≡ Some r → slice_index m.fixed 15 ≡ r
unfolding apdu_object
apdu_is m r is = apdu_found m (header_at m (slice_index m.fixed 15)) r is

-- the data begin at the sixth byte or at the eighth
pub offset_few : (command : List ℕ) → data_offset command ≤ 7
offset_few command = either (has_extended_length command && nat_lt 7 (length command))
  where
    either : (b : Bool) → (if b then 7 else 5) ≤ 7
    either true = omega arith
    either false = omega arith

-- a piece fits into the buffer
pub piece_fits : (command : List ℕ) (n size at : ℕ) → at ≤ size → at + length (next_piece command n size at) ≤ size
piece_fits command n size at within = let few = length-take (size - at) (drop n (data_of command)) in omega (arith, few, within)
