-- OwnerPIN: what its checks give where a call does not go on.
use Rattle.std.specs.Prelude.{ℤ, pos, negsuc, nat_le, Option, Some, None, ℕ}
use Rattle.jc_heap.specs.Heap.{facts}
use Rattle.jc_heap.specs.declared.object.Facts.{Facts}
use Rattle.jc_firewall.specs.Situation.{same_context}
use Rattle.jc_memory.specs.Cells.{header_at}
use Rattle.jc_transient.specs.Owners.{owner_of}
use Rattle.jc_memory.specs.State.{MemoryState}
use Rattle.jc_environment.specs.Pins.{record_of}
use Rattle.jc_world.specs.Contexts.{context_of}
use Rattle.jc_api.proofs.Exits.{FaultsOnly, plain_if}
use Rattle.jc_api_framework.specs.OwnerPin.{at_least_1, is_in_context_of, is_own_value}

pub plain_least : (v : ℤ) → FaultsOnly (at_least_1 v)
plain_least (pos n) = plain_if (nat_le 1 n) _ _ tt tt
plain_least (negsuc n) = tt

plain_context : (m : MemoryState) (pin : Facts) (o : Option Facts) → FaultsOnly (is_in_context_of m pin o)
plain_context m pin None = tt
plain_context m pin (Some f) = plain_if (same_context (context_of m (owner_of f.owner)) (context_of m (owner_of pin.owner))) _ _ tt tt

pub plain_own : (m : MemoryState) (pin : ℕ) → FaultsOnly (is_own_value m pin)
plain_own m pin = plain_context m (facts m.heap.now pin) (header_at m (record_of m pin).value)
