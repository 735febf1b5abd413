-- New images, and what effects leave of a heap's beginning.
use Rattle.std.specs.Prelude.{ℕ, ◌≡◌, ◌≤◌, List, [], Ok}
use Rattle.jc_words.specs.Layout.{least_size}
use Rattle.jc_transient.specs.State.{AreSizes}
use Rattle.jc_image.specs.declared.laying.ImageRoom.{ImageRoom}
use Rattle.jc_memory.specs.State.{MemoryState, Effect, apply_effect}
use Rattle.jc_platform.specs.Tokens.{Tokens}
use Rattle.jc_platform.specs.Table.{Reads}
use Rattle.jc_card.specs.Fixed.{fixed_of}
use Rattle.jc_card.specs.ProductImages.{new_card_heap}
use Rattle.law_theorems.specs.Heaps.{HasBeginning, IsOwnHeap}

-- the heap of a new image fits its packages, of which there are none
abbrev pub NewImagesFit : Type 0
NewImagesFit = (n : ℕ) (room : ImageRoom) (text : List ℕ) (t : Tokens) → least_size ≤ n → AreSizes room.cells room.buffer → Reads text (Ok t)
    → IsOwnHeap n t (record { platform = t; loaded = [] }) (new_card_heap n room text t)

-- a memory's heap, and the one that a loss of power leaves, have their beginning, and the same objects of the runtime environment, which are
-- those that the memory knows
pub record KeepsBeginning (n : ℕ) (t : Tokens) (m : MemoryState) : Type 0 where
  pub now : HasBeginning n t m.heap.now
  pub durable : HasBeginning n t m.heap.durable
  pub fixed : m.fixed ≡ fixed_of t m.heap.durable
  pub same : fixed_of t m.heap.now ≡ fixed_of t m.heap.durable

-- whatever effect comes, it is so after it
abbrev pub EffectsKeepBeginnings : Type 0
EffectsKeepBeginnings = (n : ℕ) (t : Tokens) (e : Effect) (m : MemoryState) → KeepsBeginning n t m → KeepsBeginning n t (apply_effect e m)
