-- How many words' old values changes have to keep.
use Rattle.std.proofs.Common.{◌≡◌, ℕ, zero, suc, ◌+◌, ◌<◌, Bool, true, false, cond, not, List, [], ◌∷◌, length, map, take, filter, get_or, refl, sym}
use Rattle.std.proofs.Common.{◌∙◌, ap, arith, add-one, nat_le}
use Rattle.std.specs.Prelude.{if◌then◌else◌}
use Rattle.std.proofs.lemmas.Bool.Decides.{nat_tests}
use Rattle.jc_commit.specs.Keep.{Keeping, goes_back as journal_goes_back, unlogged_addresses, has_room_for as journal_room}
use Rattle.jc_commit.specs.State.{State, keeping as journal_keeping}
use Rattle.jc_heap.specs.declared.touch.Touch.{Touch}
use Rattle.jc_heap.specs.Image.{IsWellFormed}
use Rattle.jc_heap.specs.Heap.{HeapView, heap_view, goes_back, unlogged_places, has_room_for}
use Rattle.jc_heap.specs.Touch.{touch_word, touch_words}
use Rattle.jc_heap.proofs.JournalViews.{keeping_view}

-- of these words those that do not go back yet
abbrev pub staying : HeapView → List ℕ → List ℕ
staying v words = filter (λ word. not (goes_back v word)) words

one_more : (b : Bool) (w : ℕ) → length (cond b (w ∷ []) []) ≡ (if b then 1 else 0)
one_more true w = refl
one_more false w = refl

pick : (b : Bool) (w : ℕ) (us vs : List ℕ) (m : ℕ) → length us ≡ length vs + m → length (cond b (w ∷ us) us) ≡ length (cond b (w ∷ vs) vs) + m
pick true w us vs m e = omega (arith, e)
pick false w us vs m e = omega (arith, e)

module _ (f : Touch → ℕ) (p : ℕ → Bool) where
  more_at : (ts : List Touch) (k : ℕ) (d : Touch) → k < length ts → length (filter p (map f (take (suc k) ts)))
      ≡ length (filter p (map f (take k ts))) + (if p (f (get_or ts k d)) then 1 else 0)
  more_at [] k d lt = absurd (omega (arith, lt))
  more_at (t ∷ ts) zero d lt = omega (arith, one_more (p (f t)) (f t))
  more_at (t ∷ ts) (suc k) d lt =
      pick (p (f t)) (f t) (filter p (map f (take (suc k) ts))) (filter p (map f (take k ts)))
      (if p (f (get_or ts k d)) then 1 else 0) (more_at ts k d (omega (arith, lt)))

-- one word more: it counts unless it goes back
pub staying_more : (v : HeapView) (ts : List Touch) (k : ℕ) (d : Touch) (b : Bool) → k < length ts → goes_back v (touch_word v.now (get_or ts k d)) ≡ b
    → length (staying v (touch_words v.now (take (k + 1) ts))) ≡ length (staying v (touch_words v.now (take k ts))) + (if b then 0 else 1)
staying_more v ts k d b lt is =
    ap (λ (n : ℕ). length (staying v (touch_words v.now (take n ts)))) (add-one k)
    ∙ more_at (touch_word v.now) (λ word. not (goes_back v word)) ts k d lt
    ∙ ap (λ (c : Bool). length (staying v (touch_words v.now (take k ts))) + (if not c then 1 else 0)) is
    ∙ ap (λ (m : ℕ). length (staying v (touch_words v.now (take k ts))) + m) (turned b)
  where
    turned : (c : Bool) → ◌≡◌ {A = ℕ} (if not c then 1 else 0) (if c then 0 else 1)
    turned true = refl
    turned false = refl

-- what the journal says of a word
pub told : (j : State) (v : HeapView) (n word : ℕ) (r : Bool) → heap_view j n ≡ v → IsWellFormed j.recovered → r ≡ journal_goes_back (journal_keeping j) word
    → goes_back v word ≡ r
told j v n word r is back e =
    ap (λ (u : HeapView). goes_back u word) (sym is) ∙ ap (λ (k : Keeping). journal_goes_back k word) (keeping_view j n back) ∙ sym e

pub cost_inside : (v : HeapView) (words : List ℕ) → v.begun ≡ true → unlogged_places v words ≡ staying v words
unfolding unlogged_addresses
cost_inside v words e = ap (λ (b : Bool). if b then staying v words else []) e

pub cost_outside : (v : HeapView) (words : List ℕ) → v.begun ≡ false → unlogged_places v words ≡ []
unfolding unlogged_addresses
cost_outside v words e = ap (λ (b : Bool). if b then staying v words else []) e

pub fits_inside : (v : HeapView) (words : List ℕ) (room cost : ℕ) → v.begun ≡ true → room + length v.touched ≡ v.durable.capacity → cost
    ≡ length (unlogged_places v words)
    → nat_le cost room ≡ has_room_for v words
unfolding journal_room
fits_inside v words room cost e left is =
    same_test cost room (length v.touched) left ∙ ap (λ (n : ℕ). nat_le (length v.touched + n) v.durable.capacity) is
    ∙ sym (ap (λ (b : Bool). if b then nat_le (length v.touched + length (unlogged_places v words)) v.durable.capacity else nat_le (length words) v.durable.capacity) e)
  where
    same_test : (c r t : ℕ) → r + t ≡ v.durable.capacity → nat_le c r ≡ nat_le (t + c) v.durable.capacity
    same_test c r t sum = grind (arith, nat_tests)

pub fits_outside : (v : HeapView) (words : List ℕ) → v.begun ≡ false → nat_le (length words) v.durable.capacity ≡ has_room_for v words
unfolding journal_room
fits_outside v words e =
    sym (ap (λ (b : Bool). if b then nat_le (length v.touched + length (unlogged_places v words)) v.durable.capacity else nat_le (length words) v.durable.capacity) e)
