-- Offsets among others.
use Rattle.std.proofs.Common.{◌≡◌, ℕ, zero, suc, ◌<◌, Bool, true, false, ◌||◌, eqb, List, [], ◌∷◌, length, get_or, refl, ap, sym, arith, inl, inr, ◌⊎◌}
use Rattle.std.specs.Prelude.{Contains}
use Rattle.std.specs.List.{list_any}
use Rattle.std.proofs.lemmas.Bool.{eqb-true, eq-eqb}
use Rattle.jc_cap.specs.declared.class_refs.ClassRef.{ClassRef}
use Rattle.jc_cap.specs.declared.class_refs.ClassRef.TheVariants.{Internal, External}
use Rattle.jc_cap.specs.declared.class_records.ClassRecord.{ClassRecord}
use Rattle.jc_cap.specs.declared.class_records.ClassRecord.TheVariants as records
use Rattle.jc_cap.specs.ClassReading.{is_among, is_earlier, any_class}
use Rattle.jc_cap.specs.Classes.{IsEarlier, AreEarlier, LooksBack}

either : (a b : Bool) → (a || b) ≡ true → (a ≡ true) ⊎ (b ≡ true)
either true b e = inl refl
either false b e = inr e

or_left : (a b : Bool) → a ≡ true → (a || b) ≡ true
or_left a b e = rw e refl

or_right : (a b : Bool) → b ≡ true → (a || b) ≡ true
or_right true b e = refl
or_right false b e = e

same_either_way : (a b : ℕ) → eqb a b ≡ eqb b a
same_either_way a b = grind arith

pub any_among : (n : ℕ) (xs : List ℕ) → list_any (λ y. eqb y n) xs ≡ is_among n xs
any_among n [] = refl
any_among n (x ∷ xs) = rw (same_either_way x n) (ap (λ (b : Bool). eqb n x || b) (any_among n xs))

pub among_contains : (n : ℕ) (xs : List ℕ) → is_among n xs ≡ true → Contains xs n
among_contains n [] e = absurd cc
among_contains n (x ∷ xs) e = elim (either (eqb n x) (is_among n xs) e) [
  | inl here ↦ (0, omega arith, sym (eqb-true n x here))
  | inr there ↦ let c = among_contains n xs there in (suc c.0, omega (arith, c.1), c.2)
]

among_place : (n : ℕ) (xs : List ℕ) (k : ℕ) → k < length xs → get_or xs k n ≡ n → is_among n xs ≡ true
among_place n [] k lt e = absurd (omega (arith, lt))
among_place n (x ∷ xs) zero lt e = or_left (eqb n x) (is_among n xs) (eq-eqb n x (sym e))
among_place n (x ∷ xs) (suc k) lt e = or_right (eqb n x) (is_among n xs) (among_place n xs k (omega (arith, lt)) e)

pub contains_among : (n : ℕ) (xs : List ℕ) → Contains xs n → is_among n xs ≡ true
contains_among n xs c = among_place n xs c.0 c.1 c.2

pub earlier_is : (before : List ℕ) (c : ClassRef) → is_earlier before c ≡ true → IsEarlier before c
earlier_is before (Internal offset) e = among_contains offset before e
earlier_is before (External package_token class_token) e = tt

pub is_earlier_so : (before : List ℕ) (c : ClassRef) → IsEarlier before c → is_earlier before c ≡ true
is_earlier_so before (Internal offset) e = contains_among offset before e
is_earlier_so before (External package_token class_token) e = refl

-- all of them are known
abbrev pub AllKnown : (ClassRef → Bool) → List ClassRef → Type 0
AllKnown known [] = Unit {0}
AllKnown known (c ∷ cs) = (known c ≡ true) × AllKnown known cs

abbrev pub Knows : (ClassRef → Bool) → ClassRecord → Type 0
Knows known (records.Interface i) = AllKnown known i.superinterfaces
Knows known (records.Class c) = known c.superclass ≡ true

all_earlier : (before : List ℕ) (cs : List ClassRef) → AllKnown (is_earlier before) cs → AreEarlier before cs
all_earlier before [] k = tt
all_earlier before (c ∷ cs) k = (earlier_is before c k.0, all_earlier before cs k.1)

all_known : (before : List ℕ) (cs : List ClassRef) → AreEarlier before cs → AllKnown (is_earlier before) cs
all_known before [] k = tt
all_known before (c ∷ cs) k = (is_earlier_so before c k.0, all_known before cs k.1)

pub looks_back : (before : List ℕ) (r : ClassRecord) → Knows (is_earlier before) r → LooksBack before r
looks_back before (records.Interface i) k = all_earlier before i.superinterfaces k
looks_back before (records.Class c) k = earlier_is before c.superclass k

pub knows_back : (before : List ℕ) (r : ClassRecord) → LooksBack before r → Knows (is_earlier before) r
knows_back before (records.Interface i) k = all_known before i.superinterfaces k
knows_back before (records.Class c) k = is_earlier_so before c.superclass k

all_any : (cs : List ClassRef) → AllKnown any_class cs
all_any [] = tt
all_any (c ∷ cs) = (refl, all_any cs)

pub knows_any : (r : ClassRecord) → Knows any_class r
knows_any (records.Interface i) = all_any i.superinterfaces
knows_any (records.Class c) = refl
