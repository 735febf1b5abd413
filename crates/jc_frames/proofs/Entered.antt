-- A call, in the one array that holds the cells of all frames.
use Rattle.std.proofs.Common.{◌≡◌, ℕ, suc, ◌+◌, ◌-◌, ◌<◌, ◌≤◌, List, [], ◌∷◌, ◌++◌, length, take, drop, replicate, pos, refl, sym, ◌∙◌, ap, arith, Bool, true}
use Rattle.std.proofs.Common.{false, length-append, length-take, length-drop}
use Rattle.std.specs.Prelude.{nat_le, if◌then◌else◌, ◌&&◌, reverse}
use Rattle.std.proofs.lemmas.Grind.{common_steps}
use Rattle.std.proofs.lemmas.Bool.Decides.{nat_tests}
use Rattle.std.proofs.lemmas.List.{take-append-drop, take-append-le, drop-append-le, take-take, drop-drop, drop-take, take_all, drop_all, reverse-append}
use Rattle.std.proofs.lemmas.List.{reverse-reverse, length-reverse, length-replicate}
use Rattle.jc_frames.specs.declared.cell.Cell.{Cell}
use Rattle.jc_frames.specs.declared.cell.Cell.TheVariants.{Short}
use Rattle.jc_frames.specs.declared.frames.Region.{Region}
use Rattle.jc_frames.specs.declared.frames.SavedFrame.{SavedFrame}
use Rattle.jc_frames.specs.declared.method.Entry.{Entry}
use Rattle.jc_frames.specs.declared.method.Origin.{Origin}
use Rattle.jc_frames.specs.declared.outcome.Outcome.TheVariants.{Fault}
use Rattle.jc_frames.specs.Frames.{Frame, Caller, Frames, GoesOn, Ends, frame_of_region, frame_in, caller_of, callers_in, frames_of, AreStacked}
use Rattle.jc_frames.specs.Calls.{first_frame, calling_cells, counted_cells, frames_in_callee, call_or_fault}

-- ---- the top cells of a stack, seen from the array

take_front : (xs ys : List Cell) (n : ℕ) → length xs ≡ n → take n (xs ++ ys) ≡ xs
take_front xs ys n h = grind (arith, common_steps)

drop_front : (xs ys : List Cell) (n : ℕ) → length xs ≡ n → drop n (xs ++ ys) ≡ ys
drop_front xs ys n h = grind (arith, common_steps)

in_two : (q : ℕ) (ys : List Cell) → reverse ys ≡ reverse (drop q ys) ++ reverse (take q ys)
in_two q ys = ap reverse (sym (take-append-drop q ys)) ∙ reverse-append (take q ys) (drop q ys)

top_length : (q n : ℕ) (ys : List Cell) → length ys ≡ q + n → length (reverse (drop q ys)) ≡ n
top_length q n ys h = omega (arith, length-reverse (drop q ys), length-drop q ys)

pub top_cells : (q n : ℕ) (ys : List Cell) → length ys ≡ q + n → reverse (take n (reverse ys)) ≡ drop q ys
top_cells q n ys h =
    ap reverse (ap (take n) (in_two q ys) ∙ take_front (reverse (drop q ys)) (reverse (take q ys)) n (top_length q n ys h)) ∙ reverse-reverse (drop q ys)

lower_cells : (q n : ℕ) (ys : List Cell) → length ys ≡ q + n → drop n (reverse ys) ≡ reverse (take q ys)
lower_cells q n ys h = ap (drop n) (in_two q ys) ∙ drop_front (reverse (drop q ys)) (reverse (take q ys)) n (top_length q n ys h)

-- ---- the frames after a call

abbrev zeros : ℕ → List Cell
zeros k = replicate k (Short (pos 0))

abbrev whole_frame : List Cell → List Cell → ℕ → ℕ → Origin → Frame
whole_frame locals stack limit place origin = record { locals = locals; stack = stack; limit = limit; place = place; origin = origin }

three : {A B C D : Type 0} (f : A → B → C → D) (a x : A) (b y : B) (c z : C) → a ≡ x → b ≡ y → c ≡ z → f a b c ≡ f x y z
three f a x b y c z e g h = rw (e, g, h) refl

two : {A B C : Type 0} (f : A → B → C) (a x : A) (b y : B) → a ≡ x → b ≡ y → f a b ≡ f x y
two f a x b y e g = rw (e, g) refl

current_is : (xs : List Cell) (bottom n q b t l k m place : ℕ) (origin : Origin) → length xs ≡ bottom + (q + n) → b ≡ bottom + q → t ≡ length xs + k → l ≡ t + m
    →
    whole_frame (drop b (take t (xs ++ zeros k))) (reverse (drop t (xs ++ zeros k))) (l - t) place origin
    ≡ first_frame (reverse (take n (reverse (drop bottom xs)))) k m place origin
current_is xs bottom n q b t l k m place origin long low high top =
    let all : length (xs ++ zeros k) ≤ t = omega (arith, length-append xs (zeros k), length-replicate k (Short (pos 0))) in
    let stack_length : length (drop bottom xs) ≡ q + n = omega (arith, length-drop bottom xs) in
    let within : b ≤ length xs = omega arith in
    let tail : drop b xs ≡ reverse (take n (reverse (drop bottom xs))) = ap (λ j. drop j xs) low ∙ sym (drop-drop q bottom xs)
    ∙ sym (top_cells q n (drop bottom xs) stack_length) in
    let limit : l - t ≡ m = omega arith in
    three (λ locals stack limit. whole_frame locals stack limit place origin) _ _ _ _ _ _
    (ap (drop b) (take_all t (xs ++ zeros k) all) ∙ drop-append-le b xs (zeros k) within ∙ ap (λ h. h ++ zeros k) tail)
    (ap reverse (drop_all t (xs ++ zeros k) all))
    limit

pub caller_is : (xs : List Cell) (r : Region) (n q b : ℕ) → r.base ≤ r.bottom → length xs ≡ r.bottom + (q + n) → b ≡ r.bottom + q →
    frame_in (take b xs) r ≡ frame_of_region (drop r.base (take r.bottom xs)) (drop n (reverse (drop r.bottom xs))) r
caller_is xs r n q b low long is =
    let below : r.bottom ≤ b = omega arith in
    let stack_length : length (drop r.bottom xs) ≡ q + n = omega (arith, length-drop r.bottom xs) in
    two (λ locals stack. frame_of_region locals stack r) _ _ _ _
    (ap (drop r.base) (take-take r.bottom b xs below))
    (ap reverse (ap (λ j. drop r.bottom (take j xs)) is ∙ drop-take r.bottom q xs) ∙ sym (lower_cells q n (drop r.bottom xs) stack_length))

abbrev frames_with : Frame → List Caller → Frames
frames_with current callers = record { current = current; callers = callers }

called_is : (xs : List Cell) (r : Region) (sv : List SavedFrame) (e : Entry) (b t l q : ℕ) → r.base ≤ r.bottom → length xs ≡ r.bottom + (q + e.arguments)
    → b ≡ r.bottom + q → t ≡ length xs + e.locals → l ≡ t + e.limit →
    frames_of (xs ++ zeros e.locals) (record { base = b; bottom = t; ceiling = l; place = e.place; origin = e.origin })
    (record { region = r; resume = e.resume } ∷ sv) ≡ frames_in_callee e (frames_of xs r sv)
called_is xs r sv e b t l q order long low high top =
    let within : b ≤ length xs = omega arith in
    let deeper : r.base ≤ b = omega arith in
    let front : take b (xs ++ zeros e.locals) ≡ take b xs = take-append-le b xs (zeros e.locals) within in
    two frames_with _ _ _ _
    (current_is xs r.bottom e.arguments q b t l e.locals e.limit e.place e.origin long low high top)
    (two (λ f cs. caller_of f e.resume ∷ cs) _ _ _ _
    (ap (λ h. frame_in h r) front ∙ caller_is xs r e.arguments q b order long low)
    (ap (λ h. callers_in (take r.base h) sv) front ∙ ap (λ h. callers_in h sv) (take-take r.base b xs deeper)))

-- ---- what the limits count

calling_is : (sv : List SavedFrame) (xs : List Cell) (top : ℕ) → length xs ≡ top → AreStacked top sv → calling_cells (callers_in xs sv) ≡ top
calling_is [] xs top long stacked = sym stacked
calling_is (s ∷ rest) xs top long stacked =
    let low : s.region.base ≤ s.region.bottom = stacked.0 in
    let high : s.region.bottom ≤ top = stacked.1 in
    let shorter : length (take s.region.base xs) ≡ s.region.base = omega (arith, length-take s.region.base xs) in
    omega (
      arith,
      calling_is rest (take s.region.base xs) s.region.base shorter stacked.4,
      length-drop s.region.base (take s.region.bottom xs),
      length-take s.region.bottom xs,
      length-reverse (drop s.region.bottom xs),
      length-drop s.region.bottom xs,
    )

callers_length : (sv : List SavedFrame) (xs : List Cell) → length (callers_in xs sv) ≡ length sv
callers_length [] xs = refl
callers_length (s ∷ rest) xs = ap suc (callers_length rest (take s.region.base xs))

counted_is : (xs : List Cell) (r : Region) (sv : List SavedFrame) (e : Entry) → r.base ≤ r.bottom → r.bottom + e.arguments ≤ length xs → AreStacked r.base sv →
    counted_cells (frames_in_callee e (frames_of xs r sv)) ≡ length xs + e.locals + e.limit
counted_is xs r sv e order fits stacked =
    let ys = reverse (drop r.bottom xs) in
    let shorter : length (take r.base xs) ≡ r.base = omega (arith, length-take r.base xs) in
    omega (
      arith,
      calling_is sv (take r.base xs) r.base shorter stacked,
      length-append (reverse (take e.arguments (reverse (drop r.bottom xs)))) (zeros e.locals),
      length-replicate e.locals (Short (pos 0)),
      length-reverse (take e.arguments (reverse (drop r.bottom xs))),
      length-take e.arguments (reverse (drop r.bottom xs)),
      length-drop e.arguments (reverse (drop r.bottom xs)),
      length-reverse (drop r.bottom xs),
      length-drop r.bottom xs,
      length-drop r.base (take r.bottom xs),
      length-take r.bottom xs,
    )

pub ceiling_counts : (xs : List Cell) (r : Region) (sv : List SavedFrame) → r.base ≤ r.bottom → r.bottom ≤ length xs → r.bottom ≤ r.ceiling
    → AreStacked r.base sv → counted_cells (frames_of xs r sv) ≡ r.ceiling
ceiling_counts xs r sv order fits high stacked =
    let shorter : length (take r.base xs) ≡ r.base = omega (arith, length-take r.base xs) in
    omega (
      arith,
      calling_is sv (take r.base xs) r.base shorter stacked,
      length-drop r.base (take r.bottom xs),
      length-take r.bottom xs,
    )

-- ---- how a call ends

decided : (e : Entry) (s : Frames) (a b c : Bool) → nat_le e.arguments (length s.current.stack) ≡ a → nat_le (length (frames_in_callee e s).callers) 31 ≡ b
    → nat_le (counted_cells (frames_in_callee e s)) 512 ≡ c →
    call_or_fault e s ≡ (if a then (if b && c then GoesOn (frames_in_callee e s) else Ends Fault) else Ends Fault)
decided e s a b c f g h = rw (← f, ← g, ← h) refl

pub is_le : (m n : ℕ) → m ≤ n → nat_le m n ≡ true
is_le m n h = grind (arith, nat_tests)

is_more : (m n : ℕ) → n < m → nat_le m n ≡ false
is_more m n h = grind (arith, nat_tests)

stack_length : (xs : List Cell) (r : Region) (sv : List SavedFrame) → length (frames_of xs r sv).current.stack ≡ length xs - r.bottom
stack_length xs r sv = length-reverse (drop r.bottom xs) ∙ length-drop r.bottom xs

depth : (xs : List Cell) (r : Region) (sv : List SavedFrame) (e : Entry) → length (frames_in_callee e (frames_of xs r sv)).callers ≡ suc (length sv)
depth xs r sv e = ap suc (callers_length sv (take r.base xs))

pub lacks_arguments : (xs : List Cell) (r : Region) (sv : List SavedFrame) (e : Entry) (s : Frames) → frames_of xs r sv ≡ s → length xs - r.bottom < e.arguments
    → Ends Fault ≡ call_or_fault e s
lacks_arguments xs r sv e s is h =
    rw (← is) (sym (decided e (frames_of xs r sv) false _ _ (is_more _ _ (omega (arith, stack_length xs r sv))) refl refl))

pub is_too_deep : (xs : List Cell) (r : Region) (sv : List SavedFrame) (e : Entry) (s : Frames) → frames_of xs r sv ≡ s → e.arguments ≤ length xs - r.bottom
    → 31 ≤ length sv → Ends Fault ≡ call_or_fault e s
is_too_deep xs r sv e s is fits h =
    rw (← is) (sym (decided e (frames_of xs r sv) true false _ (is_le _ _ (omega (arith, stack_length xs r sv)))
    (is_more _ _ (omega (arith, depth xs r sv e))) refl))

pub is_too_large : (xs : List Cell) (r : Region) (sv : List SavedFrame) (e : Entry) (s : Frames) → frames_of xs r sv ≡ s → r.base ≤ r.bottom
    → r.bottom ≤ length xs → AreStacked r.base sv →
    e.arguments ≤ length xs - r.bottom → length sv < 31 → 512 < length xs + e.locals + e.limit → Ends Fault ≡ call_or_fault e s
is_too_large xs r sv e s is order fits stacked there room h =
    rw (← is) (sym (decided e (frames_of xs r sv) true true false (is_le _ _ (omega (arith, stack_length xs r sv))) (is_le _ _ (omega (arith, depth xs r sv e)))
    (is_more _ _ (omega (arith, counted_is xs r sv e order (omega arith) stacked)))))

pub enters : (xs ys : List Cell) (r : Region) (sv more : List SavedFrame) (e : Entry) (s : Frames) (b t l : ℕ) → frames_of xs r (reverse sv) ≡ s
    → r.base ≤ r.bottom → r.bottom ≤ length xs → AreStacked r.base (reverse sv) →
    e.arguments ≤ length xs - r.bottom → length sv < 31 → length xs + e.locals + e.limit ≤ 512 →
    ys ≡ xs ++ replicate e.locals (Short (pos 0)) → more ≡ sv ++ (record { region = r; resume = e.resume } ∷ []) → b ≡ length xs - e.arguments
    → t ≡ length xs + e.locals → l ≡ t + e.limit →
    GoesOn (frames_of ys (record { base = b; bottom = t; ceiling = l; place = e.place; origin = e.origin }) (reverse more)) ≡ call_or_fault e s
enters xs ys r sv more e s b t l is order fits stacked there room small cells saved low high top =
    let q : length xs ≡ r.bottom + ((length xs - r.bottom - e.arguments) + e.arguments) = omega arith in
    let start : b ≡ r.bottom + (length xs - r.bottom - e.arguments) = omega arith in
    let turned : reverse (sv ++ (record { region = r; resume = e.resume } ∷ [])) ≡ record { region = r; resume = e.resume } ∷ reverse sv =
    reverse-append sv (record { region = r; resume = e.resume } ∷ []) in
    rw (cells, saved, turned, ← is)
    (ap GoesOn (called_is xs r (reverse sv) e b t l (length xs - r.bottom - e.arguments) order q start high top)
    ∙ sym (decided e (frames_of xs r (reverse sv)) true true true (is_le _ _ (omega (arith, stack_length xs r (reverse sv))))
    (is_le _ _ (omega (arith, depth xs r (reverse sv) e, length-reverse sv)))
    (is_le _ _ (omega (arith, counted_is xs r (reverse sv) e order (omega arith) stacked)))))
