-- Lists that go on until a fault.
use Rattle.std.proofs.Common.{◌≡◌, ◌<◌, ◌≤◌, ◌+◌, ℕ, Bool, true, false, List, [], ◌∷◌, ◌++◌, Option, Some, None, Result, Ok, Err, length, drop, refl, ap, sym, subst, ◌∙◌, append_assoc}
use Rattle.std.specs.Prelude.{slice_get, if◌then◌else◌}
use Rattle.std.proofs.lemmas.List.{append-nil, drop_all}
use Rattle.jc_cap.specs.Packages.{NamedPackage}
use Rattle.jc_cap.specs.declared.pool.Entry.{Entry}
use Rattle.jc_linker.specs.declared.target.Target.{Target}
use Rattle.jc_linker.specs.Resolve.{resolution}
use Rattle.jc_linker.specs.Lookups.{package_with_aid}
use Rattle.jc_linker.specs.Values.{Packages}
use Rattle.jc_linker.specs.declared.fault.LinkFault.{LinkFault}
use Rattle.jc_linker.specs.declared.fault.LinkFault.TheVariants.{ImportMissing, ImportVersion, Unresolved, NoMemory}
use Rattle.jc_linker.specs.Answers.{IsFault, list_append, then_on}
use Rattle.jc_linker.specs.Imports.{AreFound, fits, if_fits, import_number, import_numbers, version_of}
use Rattle.jc_linker.specs.Linking.{targets_from}
use Rattle.jc_linker.proofs.Walks.{dropped_next}

pub onto_nothing : {A : Type 0} (r : Result (List A) LinkFault) → r ≡ list_append [] r
unfolding list_append
onto_nothing (Ok xs) = refl
onto_nothing (Err e) = refl

onto_next : {A : Type 0} (xs : List A) (x : A) (r : Result (List A) LinkFault) → list_append xs (then_on r (λ ys. Ok (x ∷ ys))) ≡ list_append (xs ++ x ∷ []) r
unfolding list_append
onto_next xs x (Ok ys) = ap Ok (sym (append_assoc xs (x ∷ []) ys))
onto_next xs x (Err e) = refl

onto_fault : {A : Type 0} (xs : List A) (e : LinkFault) → list_append xs (Err e) ≡ Err e
unfolding list_append
onto_fault xs e = refl

onto_end : {A : Type 0} (xs : List A) → list_append xs (Ok []) ≡ Ok xs
unfolding list_append
onto_end xs = ap Ok (append-nil xs)

-- a fault is the answer
pub is_fault : {Y : Type 0} (e : LinkFault) (said : Result Y LinkFault) → said ≡ Err e → IsFault e said
is_fault ImportMissing said h = h
is_fault ImportVersion said h = h
is_fault (Unresolved index) said h = h
is_fault NoMemory said h = tt

-- ---- imports

imports_cons : (p : Packages) (i : NamedPackage) (is : List NamedPackage) → import_numbers p (i ∷ is)
    ≡ then_on (import_number p i) (λ n. then_on (import_numbers p is) (λ ns. Ok (n ∷ ns)))
unfolding import_numbers
imports_cons p i is = refl

imports_nil : (p : Packages) → import_numbers p [] ≡ Ok []
unfolding import_numbers
imports_nil p = refl

pub imports_next : (p : Packages) (all : List NamedPackage) (k : ℕ) (i : NamedPackage) (n : ℕ) (ns : List ℕ) → slice_get all k ≡ Some i
    → import_number p i ≡ Ok n → list_append ns (import_numbers p (drop k all)) ≡ list_append (ns ++ n ∷ []) (import_numbers p (drop (k + 1) all))
imports_next p all k i n ns at is =
    ap (λ rest. list_append ns (import_numbers p rest)) (dropped_next all k i at) ∙ ap (list_append ns) (imports_cons p i (drop (k + 1) all))
    ∙ ap (λ r. list_append ns (then_on r (λ m. then_on (import_numbers p (drop (k + 1) all)) (λ ms. Ok (m ∷ ms))))) is
    ∙ onto_next ns n (import_numbers p (drop (k + 1) all))

pub imports_fault : (p : Packages) (all : List NamedPackage) (k : ℕ) (i : NamedPackage) (e : LinkFault) (ns : List ℕ) → slice_get all k ≡ Some i
    → import_number p i ≡ Err e → list_append ns (import_numbers p (drop k all)) ≡ Err e
imports_fault p all k i e ns at is =
    ap (λ rest. list_append ns (import_numbers p rest)) (dropped_next all k i at) ∙ ap (list_append ns) (imports_cons p i (drop (k + 1) all))
    ∙ ap (λ r. list_append ns (then_on r (λ m. then_on (import_numbers p (drop (k + 1) all)) (λ ms. Ok (m ∷ ms))))) is ∙ onto_fault ns e

pub imports_end : (p : Packages) (all : List NamedPackage) (k : ℕ) (ns : List ℕ) → length all ≤ k → list_append ns (import_numbers p (drop k all)) ≡ Ok ns
imports_end p all k ns h = ap (λ rest. list_append ns (import_numbers p rest)) (drop_all k all h) ∙ ap (list_append ns) (imports_nil p) ∙ onto_end ns

-- no memory was asked for
abbrev AsksNothing : {Y : Type 0} → Result Y LinkFault → Type 0
AsksNothing (Ok x) = Unit {0}
AsksNothing (Err ImportMissing) = Unit {0}
AsksNothing (Err ImportVersion) = Unit {0}
AsksNothing (Err (Unresolved index)) = Unit {0}
AsksNothing (Err NoMemory) = ⊥

both_ask_nothing : {A B : Type 0} (r : Result A LinkFault) (f : A → Result B LinkFault) → AsksNothing r → ((x : A) → AsksNothing (f x))
    → AsksNothing (then_on r f)
both_ask_nothing (Ok x) f h g = g x
both_ask_nothing (Err ImportMissing) f h g = tt
both_ask_nothing (Err ImportVersion) f h g = tt
both_ask_nothing (Err (Unresolved index)) f h g = tt
both_ask_nothing (Err NoMemory) f h g = h

if_asks_nothing : (number : ℕ) (b : Bool) → AsksNothing (if b then Ok number else Err ImportVersion)
if_asks_nothing number true = tt
if_asks_nothing number false = tt

fitting_asks_nothing : (p : Packages) (i : NamedPackage) (o : Option ℕ) → AsksNothing (if_fits p i o)
fitting_asks_nothing p i None = tt
fitting_asks_nothing p i (Some number) = if_asks_nothing number (fits i (version_of p number))

import_asks_nothing : (p : Packages) (i : NamedPackage) → AsksNothing (import_number p i)
unfolding import_number
import_asks_nothing p i = fitting_asks_nothing p i (package_with_aid p i.aid)

imports_ask_nothing : (p : Packages) (is : List NamedPackage) → AsksNothing (import_numbers p is)
unfolding import_numbers
imports_ask_nothing p [] = tt
imports_ask_nothing p (i ∷ is) = both_ask_nothing (import_number p i) (λ n. then_on (import_numbers p is) (λ ns. Ok (n ∷ ns))) (import_asks_nothing p i)
    (λ n. both_ask_nothing (import_numbers p is) (λ ns. Ok (n ∷ ns)) (imports_ask_nothing p is) (λ ns. tt))

-- imports have no such fault
never_no_memory : (p : Packages) (is : List NamedPackage) → import_numbers p is ≡ Err NoMemory → ⊥
never_no_memory p is e = subst AsksNothing e (imports_ask_nothing p is)

abbrev fault_of : {Y : Type 0} → Result Y LinkFault → LinkFault
fault_of (Ok x) = NoMemory
fault_of (Err e) = e

-- a fault is reported as it is
pub told_as_it_is : {X : Type 0} (e told : LinkFault) (result : Result X LinkFault) → result ≡ Err told → told ≡ e → result ≡ Err NoMemory → e ≡ NoMemory
told_as_it_is e told result left same refused = sym same ∙ ap fault_of (sym left ∙ refused)

-- want of memory is no fault of imports
pub are_found : (p : Packages) (is : List NamedPackage) (e : LinkFault) → import_numbers p is ≡ Err e → e ≡ NoMemory → AreFound p is
are_found p is e said memory = elim (never_no_memory p is (said ∙ ap Err memory)) [ ]

-- ---- entries

targets_nil : (p : Packages) (number index : ℕ) → targets_from p number index [] ≡ Ok []
unfolding targets_from
targets_nil p number index = refl

targets_cons : (p : Packages) (number index : ℕ) (e : Entry) (es : List Entry) (t : Target) → resolution p number e ≡ Some t
    → targets_from p number index (e ∷ es) ≡ then_on (targets_from p number (index + 1) es) (λ ts. Ok (t ∷ ts))
unfolding targets_from
targets_cons p number index e es t is = rw is refl

targets_none : (p : Packages) (number index : ℕ) (e : Entry) (es : List Entry) → resolution p number e ≡ None
    → targets_from p number index (e ∷ es) ≡ Err (Unresolved index)
unfolding targets_from
targets_none p number index e es is = rw is refl

pub targets_next : (p : Packages) (number : ℕ) (all : List Entry) (k : ℕ) (e : Entry) (t : Target) (ts : List Target) → slice_get all k ≡ Some e
    → resolution p number e ≡ Some t → list_append ts (targets_from p number k (drop k all))
    ≡ list_append (ts ++ t ∷ []) (targets_from p number (k + 1) (drop (k + 1) all))
targets_next p number all k e t ts at is =
    ap (λ rest. list_append ts (targets_from p number k rest)) (dropped_next all k e at)
    ∙ ap (list_append ts) (targets_cons p number k e (drop (k + 1) all) t is) ∙ onto_next ts t (targets_from p number (k + 1) (drop (k + 1) all))

pub targets_fault : (p : Packages) (number : ℕ) (all : List Entry) (k : ℕ) (e : Entry) (ts : List Target) → slice_get all k ≡ Some e
    → resolution p number e ≡ None → list_append ts (targets_from p number k (drop k all)) ≡ Err (Unresolved k)
targets_fault p number all k e ts at is =
    ap (λ rest. list_append ts (targets_from p number k rest)) (dropped_next all k e at) ∙ ap (list_append ts) (targets_none p number k e (drop (k + 1) all) is)
    ∙ onto_fault ts (Unresolved k)

pub targets_end : (p : Packages) (number : ℕ) (all : List Entry) (k : ℕ) (ts : List Target) → length all ≤ k
    → list_append ts (targets_from p number k (drop k all)) ≡ Ok ts
targets_end p number all k ts h = ap (λ rest. list_append ts (targets_from p number k rest)) (drop_all k all h) ∙ ap (list_append ts) (targets_nil p number k)
    ∙ onto_end ts
