-- What a change keeps.
use Rattle.std.proofs.Common.{◌≡◌, ◌≢◌, ℕ, zero, suc, ◌+◌, ◌<◌, ◌≤◌, ◌||◌, ◌&&◌, ◌==◌, ◌⊎◌, Bool, true, false, cond, not, List, [], ◌∷◌, ◌++◌, length}
use Rattle.std.proofs.Common.{get_or, All, Contains, filter, refl, sym, ◌∙◌, ap, subst, arith, inl, inr, eq-eqb, eqb-true, le-leb, leb-true}
use Rattle.std.proofs.Common.{append_assoc, append-nil}
use Rattle.std.specs.Prelude.{if◌then◌else◌, nat_le}
use Rattle.std.specs.List.{list_any}
use Rattle.std.proofs.lemmas.Bool.{cases_Bool, false≢true}
use Rattle.std.proofs.lemmas.List.{length-append}
use Rattle.std.proofs.lemmas.List.Elements.{filter-append, All-head, All-tail}
use Rattle.std.proofs.lemmas.List.Folds.{list_any-append, list_any_at}
use Rattle.std.proofs.lemmas.List.Quantifiers.{all_pairs_push}
use Rattle.std.proofs.lemmas.Map.Views.{Contains-from_any}
use Rattle.jc_commit.specs.Entries.{AreDistinct}
use Rattle.jc_commit.specs.Keep.{Keeping, goes_back, unlogged_addresses, with_kept, has_room_for, KeepsOldValues}

-- ---- of two tests

or-first : (a b : Bool) → a ≡ true → (a || b) ≡ true
or-first true b e = refl
or-first false b e = absurd (false≢true e)

or-second : (a b : Bool) → b ≡ true → (a || b) ≡ true
or-second true b e = refl
or-second false b e = e

or-either : (a a' b : Bool) → (a ≡ true → a' ≡ true) → (a || b) ≡ true → (a' || b) ≡ true
or-either true a' b more e = or-first a' b (more refl)
or-either false a' b more e = or-second a' b e

or_both : (a b b' : Bool) → (b ≡ true → b' ≡ true) → (a || b) ≡ true → (a || b') ≡ true
or_both true b b' more e = refl
or_both false b b' more e = more e

and-second : (a b b' : Bool) → (b ≡ true → b' ≡ true) → (a && b) ≡ true → (a && b') ≡ true
and-second true b b' more e = more e
and-second false b b' more e = absurd (false≢true e)

not-true : (b : Bool) → not b ≡ true → b ≡ false
not-true true e = absurd (false≢true e)
not-true false e = refl

pub true-not : (b : Bool) → b ≡ false → not b ≡ true
true-not true e = absurd (false≢true (sym e))
true-not false e = refl

-- ---- of a filter

here : {X : Type 0} (b : Bool) (x : X) (us : List X) → b ≡ true → Contains (cond b (x ∷ us) us) x
here true x us is = (0, omega arith, refl)
here false x us is = absurd (false≢true is)

later : {X : Type 0} (b : Bool) (x y : X) (us : List X) → Contains us y → Contains (cond b (x ∷ us) us) y
later true x y us r = (suc r.0, omega (arith, r.1), r.2)
later false x y us r = r

pub contains_filter : {X : Type 0} (p : X → Bool) (xs : List X) (k : ℕ) (y : X) → k < length xs → get_or xs k y ≡ y → p y ≡ true → Contains (filter p xs) y
contains_filter p [] k y within is passes = absurd (omega (arith, within))
contains_filter p (x ∷ xs) zero y within is passes = subst (Contains (filter p (x ∷ xs))) is
    (here (p x) x (filter p xs) (subst (λ z. p z ≡ true) (sym is) passes))
contains_filter p (x ∷ xs) (suc k) y within is passes = later (p x) x y (filter p xs) (contains_filter p xs k y (omega (arith, within)) is passes)

less_step : (b c : Bool) (x : ℕ) (us vs : List ℕ) → (b ≡ true → c ≡ true) → length us ≤ length vs → length (cond b (x ∷ us) us) ≤ length (cond c (x ∷ vs) vs)
less_step true true x us vs both le = omega (arith, le)
less_step true false x us vs both le = absurd (false≢true (both refl))
less_step false true x us vs both le = omega (arith, le)
less_step false false x us vs both le = le

filter_less : (q p : ℕ → Bool) (xs : List ℕ) → ((x : ℕ) → q x ≡ true → p x ≡ true) → length (filter q xs) ≤ length (filter p xs)
filter_less q p [] both = omega arith
filter_less q p (x ∷ xs) both = less_step (q x) (p x) x (filter q xs) (filter p xs) (both x) (filter_less q p xs both)

none_step : (b : Bool) (x : ℕ) (us : List ℕ) → b ≡ false → us ≡ [] → cond b (x ∷ us) us ≡ []
none_step true x us is none = absurd (false≢true (sym is))
none_step false x us is none = none

filter_none : (p : ℕ → Bool) (xs : List ℕ) → All (λ x. p x ≡ false) xs → filter p xs ≡ []
filter_none p [] all = refl
filter_none p (x ∷ xs) all = none_step (p x) x (filter p xs) (All-head (λ y. p y ≡ false) x xs all) (filter_none p xs (All-tail (λ y. p y ≡ false) x xs all))

-- ---- the laws

pub outside-added : (k : Keeping) (xs : List ℕ) → k.begun ≡ false → unlogged_addresses k xs ≡ []
unfolding unlogged_addresses
outside-added k xs e = ap (λ (b : Bool). if b then filter (λ a. not (goes_back k a)) xs else []) e

pub outside-back : (k : Keeping) (a : ℕ) → k.begun ≡ false → goes_back k a ≡ false
unfolding goes_back
outside-back k a e = ap (λ (b : Bool). b && (list_any (λ x. x == a) k.touched || nat_le k.born a)) e

inside-added : (k : Keeping) (xs : List ℕ) → k.begun ≡ true → unlogged_addresses k xs ≡ filter (λ a. not (goes_back k a)) xs
unfolding unlogged_addresses
inside-added k xs e = ap (λ (b : Bool). if b then filter (λ a. not (goes_back k a)) xs else []) e

stays : (k : Keeping) (xs : List ℕ) (a : ℕ) → goes_back k a ≡ true → goes_back (with_kept k xs) a ≡ true
unfolding goes_back
stays k xs a back =
    and-second k.begun _ _ (or-either (list_any (λ x. x == a) k.touched) _ (nat_le k.born a)
    (λ e. list_any-append (λ x. x == a) k.touched (unlogged_addresses k xs) ∙ or-first (list_any (λ x. x == a) k.touched) _ e)) back

named : (k : Keeping) (xs : List ℕ) (a : ℕ) → k.begun ≡ true → Contains (unlogged_addresses k xs) a → goes_back (with_kept k xs) a ≡ true
unfolding goes_back
named k xs a begun r =
    ap (λ (b : Bool). b && (list_any (λ x. x == a) (k.touched ++ unlogged_addresses k xs) || nat_le k.born a)) begun
    ∙ or-first (list_any (λ x. x == a) (k.touched ++ unlogged_addresses k xs)) _
    (list_any-append (λ x. x == a) k.touched (unlogged_addresses k xs) ∙ or-second (list_any (λ x. x == a) k.touched) _
    (list_any_at (λ x. x == a) (unlogged_addresses k xs) r.0 a r.1 (eq-eqb (get_or (unlogged_addresses k xs) r.0 a) a r.2)))

each : (k : Keeping) (xs : List ℕ) (a : ℕ) → k.begun ≡ true → Contains xs a → goes_back (with_kept k xs) a ≡ true
each k xs a begun there = elim (cases_Bool (goes_back k a)) [
  | inl back ↦ stays k xs a back
  | inr needs ↦ named k xs a begun (subst (λ (l : List ℕ). Contains l a) (sym (inside-added k xs begun))
      (contains_filter (λ x. not (goes_back k x)) xs there.0 a there.1 there.2 (true-not (goes_back k a) needs)))
]

free : (k : Keeping) (xs : List ℕ) → k.begun ≡ true → All (λ a. goes_back k a ≡ true) xs → unlogged_addresses k xs ≡ []
free k xs begun all = inside-added k xs begun ∙ filter_none (λ a. not (goes_back k a)) xs (λ i d within. ap not (all i d within))

pub room-inside : (k : Keeping) (xs : List ℕ) → k.begun ≡ true → has_room_for k xs ≡ nat_le (length k.touched + length (unlogged_addresses k xs)) k.capacity
unfolding has_room_for
room-inside k xs e = ap (λ (b : Bool). if b then nat_le (length k.touched + length (unlogged_addresses k xs)) k.capacity else nat_le (length xs) k.capacity) e

pub room-outside : (k : Keeping) (xs : List ℕ) → k.begun ≡ false → has_room_for k xs ≡ nat_le (length xs) k.capacity
unfolding has_room_for
room-outside k xs e = ap (λ (b : Bool). if b then nat_le (length k.touched + length (unlogged_addresses k xs)) k.capacity else nat_le (length xs) k.capacity) e

added-append : (k : Keeping) (xs ys : List ℕ) → k.begun ≡ true → length (unlogged_addresses k (xs ++ ys))
    ≡ length (unlogged_addresses k xs) + length (filter (λ a. not (goes_back k a)) ys)
added-append k xs ys begun =
    ap (λ (l : List ℕ). length l) (inside-added k (xs ++ ys) begun ∙ filter-append (λ a. not (goes_back k a)) xs ys)
    ∙ length-append (filter (λ a. not (goes_back k a)) xs) (filter (λ a. not (goes_back k a)) ys)
    ∙ ap (λ (l : List ℕ). length l + length (filter (λ a. not (goes_back k a)) ys)) (sym (inside-added k xs begun))

first : (k : Keeping) (xs ys : List ℕ) → has_room_for k (xs ++ ys) ≡ true → has_room_for k xs ≡ true
first k xs ys room = elim (cases_Bool k.begun) [
  | inl begun ↦
      let all : length k.touched + length (unlogged_addresses k (xs ++ ys)) ≤ k.capacity = leb-true _ _ (sym (room-inside k (xs ++ ys) begun) ∙ room) in
      room-inside k xs begun ∙ le-leb _ _ (omega (arith, all, added-append k xs ys begun))
  | inr shut ↦
      let all : length (xs ++ ys) ≤ k.capacity = leb-true _ _ (sym (room-outside k (xs ++ ys) shut) ∙ room) in
      room-outside k xs shut ∙ le-leb _ _ (omega (arith, all, length-append xs ys))
]

second : (k : Keeping) (xs ys : List ℕ) → k.begun ≡ true → has_room_for k (xs ++ ys) ≡ true → has_room_for (with_kept k xs) ys ≡ true
second k xs ys begun room =
    let all : length k.touched + length (unlogged_addresses k (xs ++ ys)) ≤ k.capacity = leb-true _ _ (sym (room-inside k (xs ++ ys) begun) ∙ room) in
    let now : Keeping = with_kept k xs in
    let fewer : length (filter (λ a. not (goes_back now a)) ys) ≤ length (filter (λ a. not (goes_back k a)) ys) =
    filter_less (λ a. not (goes_back now a)) (λ a. not (goes_back k a)) ys (λ x needs. true-not (goes_back k x)
    (not_before x (not-true (goes_back now x) needs))) in
    let cost : length (unlogged_addresses now ys) ≡ length (filter (λ a. not (goes_back now a)) ys) =
    ap (λ (l : List ℕ). length l) (inside-added now ys begun) in
    let kept : length now.touched ≡ length k.touched + length (unlogged_addresses k xs) = length-append k.touched (unlogged_addresses k xs) in
    room-inside now ys begun ∙ le-leb _ _ (omega (arith, all, added-append k xs ys begun, fewer, cost, kept))
  where
    not_before : (x : ℕ) → goes_back (with_kept k xs) x ≡ false → goes_back k x ≡ false
    not_before x is = elim (cases_Bool (goes_back k x)) [
      | inl back ↦ absurd (false≢true (sym is ∙ stays k xs x back))
      | inr other ↦ other
    ]

alone : (k : Keeping) (xs : List ℕ) → k.begun ≡ false → length xs ≤ k.capacity → has_room_for k xs ≡ true
alone k xs shut few = room-outside k xs shut ∙ le-leb _ _ few

-- ---- how much is kept

shorter_step : (b : Bool) (x : ℕ) (us xs : List ℕ) → length us ≤ length xs → length (cond b (x ∷ us) us) ≤ length (x ∷ xs)
shorter_step true x us xs le = omega (arith, le)
shorter_step false x us xs le = omega (arith, le)

shorter : (p : ℕ → Bool) (xs : List ℕ) → length (filter p xs) ≤ length xs
shorter p [] = omega arith
shorter p (x ∷ xs) = shorter_step (p x) x (filter p xs) xs (shorter p xs)

few : (k : Keeping) (xs : List ℕ) → length (unlogged_addresses k xs) ≤ length xs
few k xs = elim (cases_Bool k.begun) [
  | inl begun ↦ omega (arith, ap (λ (l : List ℕ). length l) (inside-added k xs begun), shorter (λ a. not (goes_back k a)) xs)
  | inr shut ↦ omega (arith, ap (λ (l : List ℕ). length l) (outside-added k xs shut))
]

enough : (k : Keeping) (xs : List ℕ) → length k.touched + length xs ≤ k.capacity → has_room_for k xs ≡ true
enough k xs le = elim (cases_Bool k.begun) [
  | inl begun ↦ room-inside k xs begun ∙ le-leb _ _ (omega (arith, le, few k xs))
  | inr shut ↦ room-outside k xs shut ∙ le-leb _ _ (omega (arith, le))
]

-- ---- nothing else goes back

any_step : (b : Bool) (a x : ℕ) (us vs : List ℕ) → (list_any (λ y. y == a) us ≡ true → list_any (λ y. y == a) vs ≡ true)
    → list_any (λ y. y == a) (cond b (x ∷ us) us) ≡ true → list_any (λ y. y == a) (x ∷ vs) ≡ true
any_step true a x us vs more is = or_both (x == a) (list_any (λ y. y == a) us) (list_any (λ y. y == a) vs) more is
any_step false a x us vs more is = or-second (x == a) (list_any (λ y. y == a) vs) (more is)

any_filter : (p : ℕ → Bool) (xs : List ℕ) (a : ℕ) → list_any (λ y. y == a) (filter p xs) ≡ true → list_any (λ y. y == a) xs ≡ true
any_filter p [] a is = is
any_filter p (x ∷ xs) a is = any_step (p x) a x (filter p xs) xs (any_filter p xs a) is

-- what goes back then, and did not before, is among what the change adds
added_any : (begun x y b : Bool) → (begun && ((x || y) || b)) ≡ true → (begun && (x || b)) ≡ false → y ≡ true
added_any true true y b is not_before = absurd (false≢true (sym not_before))
added_any true false true b is not_before = refl
added_any true false false b is not_before = absurd (false≢true (sym not_before ∙ is))
added_any false x y b is not_before = absurd (false≢true is)

added_there : (k : Keeping) (xs : List ℕ) (a : ℕ) → list_any (λ y. y == a) (unlogged_addresses k xs) ≡ true → list_any (λ y. y == a) xs ≡ true
added_there k xs a is = elim (cases_Bool k.begun) [
  | inl begun ↦ any_filter (λ x. not (goes_back k x)) xs a (ap (list_any (λ y. y == a)) (sym (inside-added k xs begun)) ∙ is)
  | inr shut ↦ absurd (false≢true (ap (list_any (λ y. y == a)) (sym (outside-added k xs shut)) ∙ is))
]

new_back : (k : Keeping) (xs : List ℕ) (a : ℕ) → goes_back (with_kept k xs) a ≡ true → goes_back k a ≡ false → list_any (λ y. y == a) (unlogged_addresses k xs)
    ≡ true
unfolding goes_back
new_back k xs a is before =
    added_any k.begun (list_any (λ y. y == a) k.touched) (list_any (λ y. y == a) (unlogged_addresses k xs)) (nat_le k.born a)
    (ap (λ (t : Bool). k.begun && (t || nat_le k.born a)) (sym (list_any-append (λ y. y == a) k.touched (unlogged_addresses k xs))) ∙ is) before

only : (k : Keeping) (xs : List ℕ) (a : ℕ) → goes_back (with_kept k xs) a ≡ true → (goes_back k a ≡ true) ⊎ Contains xs a
only k xs a is = elim (cases_Bool (goes_back k a)) [
  | inl back ↦ inl back
  | inr new ↦ inr (Contains-from_any {eq = λ x y. y == x} (λ x y same. sym (eqb-true y x same)) a xs (added_there k xs a (new_back k xs a is new)))
]

-- ---- each is kept once

abbrev IsNew : List ℕ → ℕ → Type 0
IsNew ts x = (i d : ℕ) → i < length ts → get_or ts i d ≢ x

tail_apart : (x : ℕ) (xs : List ℕ) → AreDistinct (x ∷ xs) → AreDistinct xs
tail_apart x xs apart i j d less within = apart (suc i) (suc j) d (omega (arith, less)) (omega (arith, within))

head_apart : (x : ℕ) (xs : List ℕ) → AreDistinct (x ∷ xs) → All (λ y. x ≢ y) xs
head_apart x xs apart j d within = apart 0 (suc j) d (omega arith) (omega (arith, within))

pushed_new : (ts : List ℕ) (x y : ℕ) → IsNew ts y → x ≢ y → IsNew (ts ++ x ∷ []) y
pushed_new [] x y new other zero d within same = other same
pushed_new [] x y new other (suc i) d within same = absurd (omega (arith, within))
pushed_new (t ∷ ts) x y new other zero d within same = new 0 d (omega arith) same
pushed_new (t ∷ ts) x y new other (suc i) d within same = pushed_new ts x y (λ j e lt. new (suc j) e (omega (arith, lt))) other i d (omega (arith, within)) same

-- what passes a test after what is kept: each passing element is new, and they are distinct
once_more : (p : ℕ → Bool) (ts xs : List ℕ) → ((x : ℕ) → p x ≡ true → All (λ y. y ≡ x → IsNew ts y) xs) → AreDistinct ts → AreDistinct xs
    → AreDistinct (ts ++ filter p xs)
once_more p ts [] new apart rest = subst AreDistinct (sym (append-nil ts)) apart
once_more p ts (x ∷ xs) new apart rest = elim (cases_Bool (p x)) [
  | inl passes ↦
      let own : IsNew ts x = All-head (λ y. y ≡ x → IsNew ts y) x xs (new x passes) refl in
      let more : AreDistinct (ts ++ x ∷ []) = all_pairs_push (λ a b. a ≢ b) ts x apart (λ i d within. own i d within) in
      let others : (z : ℕ) → p z ≡ true → All (λ y. y ≡ z → IsNew (ts ++ x ∷ []) y) xs = λ z is j d within same.
      pushed_new ts x (get_or xs j d) (All-tail (λ y. y ≡ z → IsNew ts y) x xs (new z is) j d within same) (head_apart x xs rest j d within) in
      subst (λ (l : List ℕ). AreDistinct (ts ++ l)) (sym (ap (λ (b : Bool). cond b (x ∷ filter p xs) (filter p xs)) passes))
      (subst AreDistinct (append_assoc ts (x ∷ []) (filter p xs)) (once_more p (ts ++ x ∷ []) xs others more (tail_apart x xs rest)))
  | inr fails ↦
      subst (λ (l : List ℕ). AreDistinct (ts ++ l)) (sym (ap (λ (b : Bool). cond b (x ∷ filter p xs) (filter p xs)) fails))
      (once_more p ts xs (λ z is. All-tail (λ y. y ≡ z → IsNew ts y) x xs (new z is)) apart (tail_apart x xs rest))
]

-- what does not go back is not among what is kept
unkept : (k : Keeping) (a : ℕ) → k.begun ≡ true → goes_back k a ≡ false → IsNew k.touched a
unfolding goes_back
unkept k a begun needs i d within same =
    false≢true (sym needs ∙ ap (λ (b : Bool). b && (list_any (λ x. x == a) k.touched || nat_le k.born a)) begun
    ∙ or-first (list_any (λ x. x == a) k.touched) _ (list_any_at (λ x. x == a) k.touched i d within (eq-eqb (get_or k.touched i d) a same)))

once : (k : Keeping) (xs : List ℕ) → AreDistinct k.touched → AreDistinct xs → AreDistinct (with_kept k xs).touched
once k xs apart distinct = elim (cases_Bool k.begun) [
  | inl begun ↦
      subst (λ (l : List ℕ). AreDistinct (k.touched ++ l)) (sym (inside-added k xs begun))
      (once_more (λ a. not (goes_back k a)) k.touched xs (λ x passes j d within same. unkept k (get_or xs j d) begun (ap (goes_back k) same
      ∙ not-true (goes_back k x) passes)) apart distinct)
  | inr shut ↦ subst (λ (l : List ℕ). AreDistinct (k.touched ++ l)) (sym (outside-added k xs shut)) (subst AreDistinct (sym (append-nil k.touched)) apart)
]

pub keeps_old_values : KeepsOldValues
keeps_old_values = record {
  outside = λ k xs e. (outside-added k xs e, λ a. outside-back k a e);
  stays = stays;
  each = each;
  only = only;
  free = free;
  few = few;
  enough = enough;
  first = first;
  second = second;
  alone = alone;
  once = once;
}
