-- What a loss of power leaves, by induction on the moves.
use Rattle.std.proofs.Common.{ℕ, ◌+◌, ◌-◌, ◌<◌, ◌≤◌, ◌≡◌, Bool, true, false, List, [], ◌∷◌, ◌++◌, refl, sym, ap, ◌∙◌, inl, inr, arith, if◌then◌else◌}
use Rattle.std.specs.Prelude.{nat_le}
use Rattle.std.proofs.lemmas.Bool.Decides.{nat_tests}
use Rattle.jc_words.specs.Count.{saturating_count}
use Rattle.jc_heap.specs.Heap.{HeapState, HeapView}
use Rattle.jc_heap.specs.Moves.{Move, Write, SetPlaces, WriteNonAtomic, SetCells, AddObject, AddTransient, AddPackage, Begin, Commit, Abort}
use Rattle.jc_heap.specs.Moves.{TornMovesLeave, apply_move, apply_moves, writes_of}
use Rattle.jc_heap.specs.HeapLaws.{IsBehindFirst, IsExactCut, LeaveWhatIsComplete, durable_behind, writes_of_moves}

none_more : (p : ℕ) → p ≡ saturating_count p 0
none_more p = omega arith

none_before : (p n : ℕ) → saturating_count p (0 + n) ≡ saturating_count p n
none_before p n = omega arith

pub counts : (m : Move) (h : HeapView) → (apply_move m h).passed ≡ saturating_count h.passed (writes_of m h)
counts (Write p v) h = none_before h.passed (writes_of (Write p v) h)
counts (SetPlaces cs) h = none_before h.passed (writes_of (SetPlaces cs) h)
counts (WriteNonAtomic p v) h = refl
counts (SetCells r i vs) h = none_before h.passed (writes_of (SetCells r i vs) h)
counts (AddObject o size) h = refl
counts (AddTransient kind event class owner long) h = refl
counts (AddPackage components arrays rest) h = refl
counts Begin h = none_more h.passed
counts Commit h = refl
counts Abort h = refl

-- below its last value a count is of all that passed
from_there : (p a : ℕ) → a ≤ p → p ≡ a + (p - a)
from_there p a le = omega (arith, le)

before_all : (p a w : ℕ) → a ≤ p → p < a + w → p - a < w
before_all p a w le lt = omega (arith, le, lt)

tells_more : (p a w k : ℕ) → p ≡ saturating_count a w + k → p < 18446744073709551615 → p ≡ a + (w + k)
tells_more p a w k is small = omega (arith, is, small)

not_all : (w n : ℕ) → n < w → nat_le w n ≡ false
not_all w n h = grind (arith, nat_tests)

all_of : (w k : ℕ) → nat_le w (w + k) ≡ true
all_of w k = grind (arith, nat_tests)

rest_of : (w k : ℕ) → (w + k) - w ≡ k
rest_of w k = omega arith

step_over : (m : Move) (ms : List Move) (h : HeapView) (k : ℕ) → durable_behind (m ∷ ms) h (writes_of m h + k) ≡ durable_behind ms (apply_move m h) k
step_over m ms h k =
    ap (λ (b : Bool). if b then durable_behind ms (apply_move m h) ((writes_of m h + k) - writes_of m h) else h.durable) (all_of (writes_of m h) k)
    ∙ ap (λ (n : ℕ). durable_behind ms (apply_move m h) n) (rest_of (writes_of m h) k)

pub exact : (ms : List Move) (h : HeapView) (p : ℕ) (d : HeapState) → p < 18446744073709551615 → TornMovesLeave ms h p d → IsExactCut ms h p d
exact [] h p d small left = absurd left
exact (m ∷ ms) h p d small (inl e) =
    let n = p - h.passed in
    let within : n < writes_of m h = before_all p h.passed (writes_of m h) e.1.0 (e.1.1 small) in (
      n,
      from_there p h.passed e.1.0,
      omega (arith, within),
      e.0 ∙ sym (ap (λ (b : Bool). if b then durable_behind ms (apply_move m h) (n - writes_of m h) else h.durable) (not_all (writes_of m h) n within)),
    )
exact (m ∷ ms) h p d small (inr left) =
    let q : IsExactCut ms (apply_move m h) p d = exact ms (apply_move m h) p d small left in
    let within : q.0 < writes_of_moves ms (apply_move m h) = q.2 in (
      writes_of m h + q.0,
      tells_more p h.passed (writes_of m h) q.0 (q.1 ∙ ap (λ (c : ℕ). c + q.0) (counts m h)) small,
      omega (arith, within),
      q.3 ∙ sym (step_over m ms h q.0),
    )

sum_first : (w t k : ℕ) → (w + t) + k ≡ w + (t + k)
sum_first w t k = omega arith

none_at_all : (k : ℕ) → 0 + k ≡ k
none_at_all k = omega arith

pub stays : (ms more : List Move) (h : HeapView) (k : ℕ) → durable_behind (ms ++ more) h (writes_of_moves ms h + k) ≡ durable_behind more (apply_moves ms h) k
stays [] more h k = ap (λ (n : ℕ). durable_behind more h n) (none_at_all k)
stays (m ∷ ms) more h k =
    ap (λ (n : ℕ). durable_behind (m ∷ (ms ++ more)) h n) (sum_first (writes_of m h) (writes_of_moves ms (apply_move m h)) k)
    ∙ step_over m (ms ++ more) h (writes_of_moves ms (apply_move m h) + k)
    ∙ stays ms more (apply_move m h) k

pub first : (ms : List Move) (h : HeapView) (k : ℕ) → IsBehindFirst ms h (durable_behind ms h k)
first [] h k = ([], [], refl, refl)
first (m ∷ ms) h k = by (first ms (apply_move m h) (k - writes_of m h)) (nat_le (writes_of m h) k)
  where
    by : IsBehindFirst ms (apply_move m h) (durable_behind ms (apply_move m h) (k - writes_of m h)) → (b : Bool)
        → IsBehindFirst (m ∷ ms) h (if b then durable_behind ms (apply_move m h) (k - writes_of m h) else h.durable)
    by q true = (m ∷ q.0, q.1, ap (λ (l : List Move). m ∷ l) q.2, q.3)
    by q false = ([], m ∷ ms, refl, refl)

pub kept : (ms more : List Move) (h : HeapView) (k : ℕ)
    → IsBehindFirst more (apply_moves ms h) (durable_behind (ms ++ more) h (writes_of_moves ms h + k))
kept ms more h k = let q = first more (apply_moves ms h) k in (q.0, q.1, q.2, stays ms more h k ∙ q.3)

pub complete : LeaveWhatIsComplete
complete = record { counts = counts; exact = exact; first = first; kept = kept }
