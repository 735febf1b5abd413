-- The objects of a heap by their numbers.
use Rattle.std.proofs.Common.{◌≡◌, ◌∙◌, ℕ, ◌+◌, ◌-◌, ◌<◌, length, slice_index, refl, ap, arith, add-one}
use Rattle.std.proofs.lemmas.List.FromFn.{get_or-map-range_with_len, length-map-range_with_len}
use Rattle.jc_environment.specs.Objects.{fixed_count, last_of}
use Rattle.jc_environment.proofs.ObjectCounts.{least_count}
use Rattle.jc_platform.specs.Tokens.{Tokens}
use Rattle.jc_heap.specs.Heap.{HeapState}
use Rattle.jc_card.specs.Fixed.{fixed_of, last_fixed, object_number, next_or_null}

pub zeroth : (h : HeapState) → object_number h 0 ≡ 0
unfolding object_number
zeroth h = refl

pub next_number : (h : HeapState) (k : ℕ) → object_number h (k + 1) ≡ next_or_null h (object_number h k)
unfolding object_number
next_number h k = ap (object_number h) (add-one k)

-- the last one of the runtime environment's
pub last_numbered : (t : Tokens) (h : HeapState) → last_of (fixed_of t h) ≡ last_fixed t h
last_numbered t h =
    let n : ℕ = fixed_count t in
    let long : length (fixed_of t h) ≡ n = length-map-range_with_len (object_number h) 1 n in
    let low : n - 1 < n = omega (arith, least_count t) in
    let place : 1 + (n - 1) ≡ n = omega (arith, least_count t) in
    ap (λ k. slice_index (fixed_of t h) (k - 1)) long ∙ get_or-map-range_with_len (object_number h) 1 n (n - 1) n 0 low place
