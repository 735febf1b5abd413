-- Copies of the top of the stack.
use Rattle.std.proofs.Common.{◌≡◌, ℕ, ◌+◌, ◌-◌, ◌≤◌, List, [], ◌++◌, length, take, drop, refl, sym, ◌∙◌, ap, arith, Bool, true, ◌⊎◌, inl, inr, ⊎_elim}
use Rattle.std.proofs.Common.{length-append, append_assoc}
use Rattle.std.specs.Prelude.{nat_le, if◌then◌else◌, ◌&&◌, IsTrue}
use Rattle.std.proofs.lemmas.Grind.{common_steps}
use Rattle.std.proofs.lemmas.Bool.Decides.{nat_tests}
use Rattle.jc_frames.specs.Table.{can_duplicate_below}
use Rattle.jc_frames.specs.Frames.{Frame, Frames, GoesOn, Ends, in_frame, with_stack, copy_below}
use Rattle.jc_frames.specs.declared.outcome.Outcome.TheVariants.{Fault}
use Rattle.jc_frames.specs.declared.cell.Cell.{Cell}

-- what the operands of dup_x say of the depth
pub depth_is_zero_or_near : (m n : ℕ) → IsTrue (can_duplicate_below m n) → (n ≡ 0) ⊎ ((m ≤ n) × (n ≤ m + 4))
depth_is_zero_or_near m n h = grind (arith, nat_tests)

then_is : {S : Type 0} (b : Bool) (x y : S) → b ≡ true → x ≡ (if b then x else y)
then_is b x y h = rw h refl

fits_test : (m n len limit : ℕ) → m ≤ len → n ≤ len → len + m ≤ limit → (nat_le m len && nat_le n len && nat_le (len + m) limit) ≡ true
fits_test m n len limit c d e = grind (arith, nat_tests)

empty_of : (xs : List Cell) → length xs ≡ 0 → xs ≡ []
empty_of xs h = grind (arith, common_steps)

take_front : (xs ys : List Cell) (n : ℕ) → length xs ≡ n → take n (xs ++ ys) ≡ xs
take_front xs ys n h = grind (arith, common_steps)

drop_front : (xs ys : List Cell) (n : ℕ) → length xs ≡ n → drop n (xs ++ ys) ≡ ys
drop_front xs ys n h = grind (arith, common_steps)

whole : (top mid rest : List Cell) (m n : ℕ) → length top ≡ m → length mid ≡ n - m → (n ≡ 0) ⊎ ((m ≤ n) × (n ≤ m + 4)) →
    top ++ (mid ++ (top ++ rest)) ≡ take n (top ++ (mid ++ rest)) ++ (take m (top ++ (mid ++ rest)) ++ drop n (top ++ (mid ++ rest)))
whole top mid rest m n t d (inl z) =
    let none : mid ≡ [] = empty_of mid (omega arith) in
    rw (z, none, take_front top rest m t) refl
whole top mid rest m n t d (inr h) =
    let both : length (top ++ mid) ≡ n = omega (arith, length-append top mid) in
    let e : top ++ (mid ++ rest) ≡ (top ++ mid) ++ rest = grind (arith, common_steps) in
    rw (take_front top (mid ++ rest) m t, e, take_front (top ++ mid) rest n both, drop_front (top ++ mid) rest n both)
    (sym (append_assoc top mid (top ++ rest)))

-- the top cells, then those down to the depth, then the top cells again over the rest: that is the copy
copied_is : (m n : ℕ) (s f : Frame) (top mid rest : List Cell) → f ≡ record s { stack = top ++ (mid ++ (top ++ rest)) } → top ++ (mid ++ rest) ≡ s.stack →
    length top ≡ m → length mid ≡ n - m → (n ≡ 0) ⊎ ((m ≤ n) × (n ≤ m + 4)) → length s.stack + m ≤ s.limit → GoesOn f ≡ copy_below m n s
copied_is m n s f top mid rest e parts t d b room =
    let long : length s.stack ≡ length top + (length mid + length rest) = omega (
      arith,
      ap length (sym parts),
      length-append top (mid ++ rest),
      length-append mid rest,
    ) in
    let deep : n ≤ length s.stack = ⊎_elim (λ z. omega arith) (λ h. omega arith) b in
    rw e (then_is _ (GoesOn (record s { stack = top ++ (mid ++ (top ++ rest)) })) (Ends Fault) (fits_test m n (length s.stack) s.limit (omega arith) deep room)
    ∙ ap (λ l. if (nat_le m (length s.stack) && nat_le n (length s.stack) && nat_le (length s.stack + m) s.limit) then GoesOn
    (record s { stack = l }) else Ends Fault) (rw (← parts) (whole top mid rest m n t d b)))

pub copied_in : (m n : ℕ) (s f : Frames) (top mid rest : List Cell) → f ≡ with_stack s (top ++ (mid ++ (top ++ rest))) → top ++ (mid ++ rest) ≡ s.current.stack
    →
    length top ≡ m → length mid ≡ n - m → (n ≡ 0) ⊎ ((m ≤ n) × (n ≤ m + 4)) → length s.current.stack + m ≤ s.current.limit
    → GoesOn f ≡ in_frame s (copy_below m n s.current)
copied_in m n s f top mid rest e parts t d b room =
    rw e (ap (in_frame s) (copied_is m n s.current (record s.current { stack = top ++ (mid ++ (top ++ rest)) }) top mid rest refl parts t d b room))
