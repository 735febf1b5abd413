-- Tests of all that a list has.
use Rattle.std.proofs.Common.{◌≡◌, ℕ, zero, suc, ◌+◌, ◌≤◌, Bool, true, false, ◌&&◌, List, [], ◌∷◌, length, drop, Option, Some, refl, sym, ap, ◌∙◌, arith}
use Rattle.std.specs.Prelude.{slice_get}
use Rattle.std.proofs.lemmas.List.{drop_all}
use Rattle.jc_cap.specs.Tables.{all_of_list}
use Rattle.jc_cap.specs.ClassValues.{RecordAt, contents_of}

some_is : {A : Type 0} (x y : A) → ◌≡◌ {A = Option A} (Some x) (Some y) → x ≡ y
some_is x y e = cc

every_from : {A : Type 0} (test : A → Bool) (xs : List A) (i : ℕ) (x : A) → slice_get xs i ≡ Some x
    → all_of_list test (drop i xs) ≡ (test x && all_of_list test (drop (suc i) xs))
every_from test [] i x e = absurd cc
every_from test (y ∷ xs) zero x e = ap (λ z. test z && all_of_list test xs) (some_is y x e)
every_from test (y ∷ xs) (suc i) x e = every_from test xs i x e

one_on : {A : Type 0} (test : A → Bool) (xs : List A) (i : ℕ) → all_of_list test (drop (suc i) xs) ≡ all_of_list test (drop (i + 1) xs)
one_on test xs i = ap (λ (k : ℕ). all_of_list test (drop k xs)) (let e : suc i ≡ i + 1 = omega arith in e)

-- one that passes, and the others
pub every_goes_on : {A : Type 0} (test : A → Bool) (xs : List A) (i : ℕ) (x : A) (all : Bool) → slice_get xs i ≡ Some x → test x ≡ true
    → all_of_list test (drop i xs) ≡ all → all_of_list test (drop (i + 1) xs) ≡ all
every_goes_on test xs i x all e passes so_far =
    let one : all_of_list test (drop i xs) ≡ all_of_list test (drop (suc i) xs) = every_from test xs i x e
    ∙ ap (λ (b : Bool). b && all_of_list test (drop (suc i) xs)) passes in
    sym (one_on test xs i) ∙ sym one ∙ so_far

pub every_fails : {A : Type 0} (test : A → Bool) (xs : List A) (i : ℕ) (x : A) (all : Bool) → slice_get xs i ≡ Some x → test x ≡ false
    → all_of_list test (drop i xs) ≡ all → false ≡ all
every_fails test xs i x all e fails so_far =
    let one : all_of_list test (drop i xs) ≡ false = every_from test xs i x e ∙ ap (λ (b : Bool). b && all_of_list test (drop (suc i) xs)) fails in
    sym one ∙ so_far

pub every_ends : {A : Type 0} (test : A → Bool) (xs : List A) (i : ℕ) (all : Bool) → length xs ≤ i → all_of_list test (drop i xs) ≡ all → true ≡ all
every_ends test xs i all le so_far = sym (ap (all_of_list test) (drop_all i xs le)) ∙ so_far

pub contents-length : (rs : List RecordAt) → length (contents_of rs) ≡ length rs
contents-length [] = refl
contents-length (r ∷ rs) = ap suc (contents-length rs)
