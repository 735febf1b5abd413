-- Fresh words written piece by piece.
use Rattle.std.proofs.Common.{◌≡◌, ℕ, ◌+◌, ◌<◌, ◌≤◌, List, [], ◌∷◌, ◌++◌, length, take, get_or, refl, sym, ◌∙◌, ap, subst, arith}
use Rattle.std.proofs.lemmas.List.{take_more, length-take-le, length-append}
use Rattle.jc_commit.specs.State.{State, after_write_in_place}
use Rattle.jc_heap.specs.Fresh.{IsFree, KeepsBelow, Fills}
use Rattle.jc_heap.proofs.FreshRuns.{keeps_more, fills_more, keeps_then, fills_then, free_stays}

-- one word more
pub word_push : (at k v : ℕ) (xs : List ℕ) (old j new : State) → KeepsBelow at old j → Fills at xs old j → length xs ≡ k → at + k < length old.plain
    → new ≡ after_write_in_place j (at + k) v →
    KeepsBelow at old new × Fills at (xs ++ v ∷ []) old new
word_push at k v xs old j new b f e h is = (
  subst (KeepsBelow at old) (sym is) (keeps_more at old j (at + k) v b (omega arith)),
  subst (Fills at (xs ++ v ∷ []) old) (ap (λ n. after_write_in_place j (at + n) v) e ∙ sym is) (fills_more at xs old j v f (omega (arith, b.size))),
)

-- one word of some words more
pub word_more : (at k v : ℕ) (words : List ℕ) (old j new : State) → KeepsBelow at old j → Fills at (take k words) old j → k < length words
    → v ≡ get_or words k 0 → at + length words ≤ length old.plain →
    new ≡ after_write_in_place j (at + k) v → KeepsBelow at old new × Fills at (take (k + 1) words) old new
word_more at k v words old j new b f h e fits is =
    let long : length (take k words) ≡ k = length-take-le k words (omega arith) in
    let p : KeepsBelow at old new × Fills at (take k words ++ v ∷ []) old new = word_push at k v (take k words) old j new b f long (omega arith) is in
    (p.0, subst (λ l. Fills at l old new) (ap (λ w. take k words ++ w ∷ []) e ∙ sym (take_more words k 0 h)) p.1)

-- one piece after another
pub piece_below : (at next : ℕ) (xs : List ℕ) (a b c : State) → KeepsBelow at a b → next ≡ at + length xs → KeepsBelow next b c → KeepsBelow at a c
piece_below at next xs a b c k e m = keeps_then at (length xs) a b c k (subst (λ n. KeepsBelow n b c) e m)

pub piece_more : (at next : ℕ) (xs ys zs : List ℕ) (a b c : State) → Fills at xs a b → next ≡ at + length xs → Fills next ys b c → xs ++ ys ≡ zs
    → Fills at zs a c × (next + length ys ≡ at + length zs)
piece_more at next xs ys zs a b c f e g is = (
  subst (λ l. Fills at l a c) is (fills_then at xs ys a b c f (subst (λ n. Fills n ys b c) e g)),
  omega (arith, e, ap length is, length-append xs ys),
)

-- the words left are free
pub free_left : (at next n m : ℕ) (xs : List ℕ) (a b : State) → IsFree at n a → KeepsBelow at a b → Fills at xs a b → next ≡ at + length xs → length xs + m ≤ n
    → IsFree next m b
free_left at next n m xs a b free k f e le =
    let s : IsFree at n b = free_stays at n a b free k f.down in
    record {
      up = s.up;
      low = omega (arith, s.low, e);
      above = omega (arith, s.above, e);
      above_recovered = omega (arith, s.above_recovered, e);
      fits = omega (arith, s.fits, e);
      small = s.small;
    }

pub free_fewer : (at n m : ℕ) (a : State) → IsFree at n a → m ≤ n → IsFree at m a
free_fewer at n m a s le = record {
  up = s.up;
  low = s.low;
  above = s.above;
  above_recovered = s.above_recovered;
  fits = omega (arith, s.fits);
  small = s.small;
}

-- what stands after some pieces, and the address after it
pub record Stands (at next : ℕ) (xs : List ℕ) (a b : State) : Type 0 where
  pub below : KeepsBelow at a b
  pub words : Fills at xs a b
  pub behind : next ≡ at + length xs

pub first_piece : (at next : ℕ) (xs : List ℕ) (a b : State) → KeepsBelow at a b → Fills at xs a b → next ≡ at + length xs → Stands at next xs a b
first_piece at next xs a b k f e = record { below = k; words = f; behind = e }

pub next_piece : (at next after : ℕ) (xs ys : List ℕ) (a b c : State) → Stands at next xs a b → KeepsBelow next b c → Fills next ys b c
    → after ≡ next + length ys → Stands at after (xs ++ ys) a c
next_piece at next after xs ys a b c s k f e = record {
  below = piece_below at next xs a b c s.below s.behind k;
  words = (piece_more at next xs ys (xs ++ ys) a b c s.words s.behind f refl).0;
  behind = omega (arith, e, s.behind, length-append xs ys);
}

pub stands_below : (at next : ℕ) (xs : List ℕ) (a b c : State) → Stands at next xs a b → KeepsBelow next b c → KeepsBelow at a c
stands_below at next xs a b c s k = piece_below at next xs a b c s.below s.behind k

pub stands_free : (at next n m : ℕ) (xs : List ℕ) (a b : State) → IsFree at n a → Stands at next xs a b → length xs + m ≤ n → IsFree next m b
stands_free at next n m xs a b free s le = free_left at next n m xs a b free s.below s.words s.behind le
