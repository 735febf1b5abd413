-- The word after one of a static image.
use Rattle.std.proofs.Common.{ℕ, ◌+◌, ◌<◌, List, length, arith}
use Rattle.jc_heap.specs.Statics.{IsStatic}

pub is_static_behind : (words : List ℕ) (j : ℕ) → IsStatic words j → j + 1 < length words → IsStatic words (j + 1)
is_static_behind words j h inside = record { begin = h.begin; image = h.image; behind = omega arith; within = inside }
