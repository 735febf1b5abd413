-- The arguments on top of a stack, in the one array that holds the cells of all frames.
use Rattle.std.proofs.Common.{◌≡◌, ℕ, ◌+◌, ◌-◌, ◌≤◌, List, length, take, drop, refl, sym, ◌∙◌, ap, subst, arith, Bool, true, Some, None, length-drop}
use Rattle.std.specs.Prelude.{nat_le, if◌then◌else◌, reverse}
use Rattle.std.proofs.lemmas.List.{take-take, drop-drop, take_all, length-reverse}
use Rattle.jc_frames.specs.declared.cell.Cell.{Cell}
use Rattle.jc_frames.specs.declared.frames.Region.{Region}
use Rattle.jc_frames.specs.declared.frames.SavedFrame.{SavedFrame}
use Rattle.jc_frames.specs.Frames.{Frame, Caller, Frames, with_stack, callers_in, frames_of}
use Rattle.jc_frames.specs.Calls.{arguments_on}
use Rattle.jc_frames.proofs.Entered.{top_cells, caller_is, is_le}

stack_length : (xs : List Cell) (r : Region) → length (reverse (drop r.bottom xs)) ≡ length xs - r.bottom
stack_length xs r = length-reverse (drop r.bottom xs) ∙ length-drop r.bottom xs

in_stack : (n : ℕ) (stack : List Cell) (b : Bool) → nat_le n (length stack) ≡ b → arguments_on n stack ≡ (if b then Some (reverse (take n stack)) else None)
in_stack n stack b e = rw (← e) refl

tail_is : (xs : List Cell) (r : Region) (n : ℕ) → r.bottom ≤ length xs → n ≤ length xs - r.bottom
    → drop (length xs - n) xs ≡ reverse (take n (reverse (drop r.bottom xs)))
tail_is xs r n low fits =
    let q = length xs - r.bottom - n in
    let start : length xs - n ≡ r.bottom + q = omega arith in
    ap (λ j. drop j xs) start ∙ sym (drop-drop q r.bottom xs) ∙ sym (top_cells q n (drop r.bottom xs) (omega (arith, length-drop r.bottom xs)))

pub arguments_are : (xs ys : List Cell) (r : Region) (sv : List SavedFrame) (s : Frames) (n k : ℕ) → ys ≡ xs → k ≡ length xs - n → frames_of xs r sv ≡ s
    → r.bottom ≤ length xs → n ≤ length xs - r.bottom →
    Some (take (length ys - k) (drop k ys)) ≡ arguments_on n s.current.stack
arguments_are xs ys r sv s n k same place is low fits =
    rw (same, place, ← is)
    (ap Some (take_all (length xs - (length xs - n)) (drop (length xs - n) xs) (omega (arith, length-drop (length xs - n) xs)) ∙ tail_is xs r n low fits)
    ∙ sym (in_stack n (reverse (drop r.bottom xs)) true (is_le _ _ (omega (arith, stack_length xs r)))))

two : {A B C : Type 0} (f : A → B → C) (a x : A) (b y : B) → a ≡ x → b ≡ y → f a b ≡ f x y
two f a x b y e g = rw (e, g) refl

abbrev frames_with : Frame → List Caller → Frames
frames_with current callers = record { current = current; callers = callers }

discarded : (xs : List Cell) (r : Region) (sv : List SavedFrame) (n q b : ℕ) → r.base ≤ r.bottom → length xs ≡ r.bottom + (q + n) → b ≡ r.bottom + q →
    frames_of (take b xs) r sv ≡ with_stack (frames_of xs r sv) (drop n (reverse (drop r.bottom xs)))
discarded xs r sv n q b order long is =
    two frames_with _ _ _ _ (caller_is xs r n q b order long is) (ap (λ h. callers_in h sv) (take-take r.base b xs (omega arith)))

pub discards : (xs ys : List Cell) (r : Region) (sv : List SavedFrame) (s : Frames) (n k : ℕ) → ys ≡ take k xs → k ≡ length xs - n → frames_of xs r sv ≡ s
    → r.base ≤ r.bottom → r.bottom ≤ length xs → n ≤ length s.current.stack →
    frames_of ys r sv ≡ with_stack s (drop n s.current.stack)
discards xs ys r sv s n k same place is order low fits =
    let there : n ≤ length (reverse (drop r.bottom xs)) = subst (λ t. n ≤ length t.current.stack) (sym is) fits in
    rw (same, ← is) (discarded xs r sv n (length xs - r.bottom - n) k order (omega (arith, there, stack_length xs r))
    (omega (arith, place, there, stack_length xs r)))
