-- Each row of the lists is that of its own name, wherever it was found.
use Rattle.std.proofs.Common.{◌≡◌, ◌<◌, ◌+◌, ◌==◌, ◌&&◌, cond, ℕ, zero, suc, Bool, true, false, List, [], ◌∷◌, Option, Some, None, length, get_or, refl, ap, sym, subst, ◌∙◌, arith}
use Rattle.std.specs.Prelude.{find, slice_get}
use Rattle.std.specs.List.{filter}
use Rattle.std.proofs.lemmas.Bool.Decides.{Decides-eqb}
use Rattle.jc_platform.specs.declared.names.PlatformClass.{PlatformClass}
use Rattle.jc_platform.specs.NamePlaces.{class_of, entry_of_class, entry_of_method}
use Rattle.jc_platform.specs.Names.{ClassEntry, MethodEntry, classes, methods, no_class, no_method}
use Rattle.jc_platform.specs.Names.{objects_rows, exceptions_rows, utilities_rows, system_rows, aids_rows, pins_rows, applets_rows, apdus_rows, events_rows, engines_rows}
use Rattle.jc_platform.specs.Names.{keys_rows, key_interfaces_rows, ciphers_rows}
use Rattle.jc_platform.specs.Names.{rsa_keys_rows, ec_keys_rows, rsa_interfaces_rows, ec_interfaces_rows, key_pairs_rows}
use Rattle.jc_platform.specs.Numbers.{class_number, method_number, same_class}
use Rattle.jc_platform.proofs.Facts.{at_number, class_at_place}
use Rattle.jc_platform.proofs.Lists.{and_true, numbered}

-- each element of a list has this
abbrev pub Each : {X : Type 0} → (X → Type 0) → List X → Type 0
Each P [] = Unit {0}
Each P (x ∷ xs) = P x × Each P xs

-- so does one that was found
found_case : {X : Type 0} (P : X → Type 0) (x e : X) (o : Option X) (b : Bool) → P x → (o ≡ Some e → P e) → cond b (Some x) o ≡ Some e → P e
found_case P x e o true here later h = let g : Some x ≡ Some e = h in let same : x ≡ e = cc in subst P same here
found_case P x e o false here later h = later h

pub found_one : {X : Type 0} (P : X → Type 0) (p : X → Bool) (xs : List X) (e : X) → Each P xs → find p xs ≡ Some e → P e
found_one P p [] e all h = absurd (let g : None ≡ Some e = h in cc)
found_one P p (x ∷ xs) e all h = found_case P x e (find p xs) (p x) all.0 (found_one P p xs e all.1) h

-- it passes the test
passing_found : {X : Type 0} (p : X → Bool) (x e : X) (o : Option X) (b : Bool) → p x ≡ b → (o ≡ Some e → p e ≡ true) → cond b (Some x) o ≡ Some e → p e ≡ true
passing_found p x e o true is later h = let g : Some x ≡ Some e = h in let same : x ≡ e = cc in subst (λ y. p y ≡ true) same is
passing_found p x e o false is later h = later h

pub found_passes : {X : Type 0} (p : X → Bool) (xs : List X) (e : X) → find p xs ≡ Some e → p e ≡ true
found_passes p [] e h = absurd (let g : None ≡ Some e = h in cc)
found_passes p (x ∷ xs) e h = passing_found p x e (find p xs) (p x) refl (found_passes p xs e) h

-- so does one at a place
pub placed_one : {X : Type 0} (P : X → Type 0) (xs : List X) (k : ℕ) (e : X) → Each P xs → slice_get xs k ≡ Some e → P e
placed_one P [] k e all h = absurd (let g : None ≡ Some e = h in cc)
placed_one P (x ∷ xs) zero e all h = let g : Some x ≡ Some e = h in let same : x ≡ e = cc in subst P same all.0
placed_one P (x ∷ xs) (suc k) e all h = placed_one P xs k e all.1 h

-- so do those that are left of it
filtered_case : {X : Type 0} (P : X → Type 0) (x : X) (xs : List X) (b : Bool) → P x → Each P xs → Each P (cond b (x ∷ xs) xs)
filtered_case P x xs true here all = (here, all)
filtered_case P x xs false here all = all

pub each_filtered : {X : Type 0} (P : X → Type 0) (p : X → Bool) (xs : List X) → Each P xs → Each P (filter p xs)
each_filtered P p [] all = tt
each_filtered P p (x ∷ xs) all = filtered_case P x (filter p xs) (p x) all.0 (each_filtered P p xs all.1)

-- what is left passes
passing_case : {X : Type 0} (p : X → Bool) (x : X) (xs : List X) (b : Bool) → p x ≡ b → Each (λ y. p y ≡ true) xs → Each (λ y. p y ≡ true) (cond b (x ∷ xs) xs)
passing_case p x xs true is all = (is, all)
passing_case p x xs false is all = all

pub each_passes : {X : Type 0} (p : X → Bool) (xs : List X) → Each (λ x. p x ≡ true) (filter p xs)
each_passes p [] = tt
each_passes p (x ∷ xs) = passing_case p x (filter p xs) (p x) refl (each_passes p xs)

-- elements that are numbered in their order are those at their numbers
numbered_are : {X : Type 0} (f : X → ℕ) (all xs : List X) (d : X) (n : ℕ) → numbered f n xs ≡ true
    → ((k : ℕ) → k < length xs → get_or all (n + k) d ≡ get_or xs k d) → Each (λ x. x ≡ get_or all (f x) d) xs
numbered_are f all [] d n e at = tt
numbered_are f all (x ∷ xs) d n e at =
    let b = and_true (f x == n) (numbered f (n + 1) xs) e in
    let place : f x ≡ n + 0 = let p : f x ≡ n = (Decides-eqb (f x) n).0 b.0 in omega arith in
    let own : x ≡ get_or all (f x) d = sym (ap (λ (j : ℕ). get_or all j d) place ∙ at 0 (omega arith)) in (
      own,
      numbered_are f all xs d (n + 1) b.1
          (λ k h. let j : (n + 1) + k ≡ n + suc k = omega arith in ap (λ (i : ℕ). get_or all i d) j ∙ at (suc k) (omega (arith, h))),
    )

from_first : {X : Type 0} (f : X → ℕ) (xs : List X) (d : X) → numbered f 0 xs ≡ true → Each (λ x. x ≡ get_or xs (f x) d) xs
from_first f xs d e = numbered_are f xs xs d 0 e (λ k h. let j : 0 + k ≡ k = omega arith in ap (λ (i : ℕ). get_or xs i d) j)

classes_numbered : numbered (λ e. class_number e.class) 0 classes ≡ true
unfolding classes
classes_numbered = refl

pub each_class : Each (λ e. e ≡ entry_of_class e.class) classes
each_class = from_first (λ e. class_number e.class) classes no_class classes_numbered

methods_numbered : numbered (λ e. method_number e.method) 0 methods ≡ true
unfolding objects_rows exceptions_rows utilities_rows system_rows aids_rows pins_rows applets_rows apdus_rows events_rows engines_rows keys_rows key_interfaces_rows ciphers_rows rsa_keys_rows ec_keys_rows rsa_interfaces_rows ec_interfaces_rows key_pairs_rows
methods_numbered = refl

each_numbered : Each (λ e. e ≡ get_or methods (method_number e.method) no_method) methods
each_numbered = from_first (λ e. method_number e.method) methods no_method methods_numbered

each_again : {X : Type 0} (P Q : X → Type 0) (xs : List X) → ((x : X) → P x → Q x) → Each P xs → Each Q xs
each_again P Q [] to all = tt
each_again P Q (x ∷ xs) to all = (to x all.0, each_again P Q xs to all.1)

pub each_method : Each (λ e. e ≡ entry_of_method e.method) methods
each_method = each_again (λ e. e ≡ get_or methods (method_number e.method) no_method) (λ e. e ≡ entry_of_method e.method) methods
    (λ e own. own ∙ at_number e.method) each_numbered

-- classes with one number are one
pub same_class_is : (c d : PlatformClass) → same_class c d ≡ true → c ≡ d
same_class_is c d e =
    sym (class_at_place c) ∙ ap (λ (n : ℕ). (get_or classes n no_class).class) ((Decides-eqb (class_number c) (class_number d)).0 e) ∙ class_at_place d
