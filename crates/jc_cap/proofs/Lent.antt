-- Lists that are lent: what their count, their places and their readers say.
use Rattle.std.proofs.Common.{◌≡◌, ℕ, ◌-◌, ◌+◌, ◌*◌, ◌≤◌, ◌<◌, List, [], ◌∷◌, length, drop, Some, Ok, Err, sym, ap, subst, ◌∙◌, arith}
use Rattle.std.specs.Prelude.{slice_get}
use Rattle.jc_cap.specs.declared.fault.CapFault.{CapFault}
use Rattle.jc_cap.specs.Reading.{Field, u1_at, u2_at, many_at, rest_after, list_or_empty, BeginsWithList}
use Rattle.jc_cap.specs.Places.{IsList, IsAtPlace}
use Rattle.jc_cap.proofs.Many.{BeginsWithList-length, BeginsWithList-nil, BeginsWithList-begins_above, Begins-reads, Begins-no_fault, is_read, ok_is}
use Rattle.jc_cap.proofs.Walk.{HasSize, from_place, place_of, place_is, place_reads}

-- a list whose end was found is one
pub is_list : {A : Type 0} (read : List ℕ → Field A) (n : ℕ) (bytes rest : List ℕ) → rest_after (many_at read n bytes) ≡ Ok rest → IsList read n bytes
is_list read n bytes rest e = (rest, is_read (many_at read n bytes) rest e)

-- the count is the length of the value
pub count_is : {A : Type 0} (read : List ℕ → Field A) (n : ℕ) (bytes : List ℕ) (value : List A) → IsList read n bytes
    → list_or_empty (many_at read n bytes) ≡ value → n ≡ length value
count_is read n bytes value h e = sym (BeginsWithList-length read n bytes (list_or_empty (many_at read n bytes)) h) ∙ ap length e

pub place_within : {A : Type 0} (read : List ℕ → Field A) (size : ℕ) → HasSize read size → (i n : ℕ) (bytes : List ℕ) (value : List A) → IsList read n bytes
    → list_or_empty (many_at read n bytes) ≡ value → i < length value → i * size ≤ length bytes
place_within read size sized i n bytes value h e lt =
    (from_place read size sized i n bytes (list_or_empty (many_at read n bytes)) (BeginsWithList-length read n bytes (list_or_empty (many_at read n bytes)) h)
    (omega (arith, lt, count_is read n bytes value h e)) h).within

pub value_at : {A : Type 0} (read : List ℕ → Field A) (size : ℕ) → HasSize read size → (i n : ℕ) (bytes place rest : List ℕ) (value : List A) (x : A)
    → IsList read n bytes → list_or_empty (many_at read n bytes) ≡ value → i < length value
    → place ≡ drop (i * size) bytes → read place ≡ Ok (x, rest) → slice_get value i ≡ Some x
value_at read size sized i n bytes place rest value x h e lt there r =
    let at = place_of read size sized i n bytes (omega (arith, lt, count_is read n bytes value h e)) h in
    subst (λ (v : List _). slice_get v i ≡ Some x) e (place_is read i n bytes (drop (i * size) bytes) rest x at (ap read (sym there) ∙ r))

pub never_at : {A : Type 0} (read : List ℕ → Field A) (size : ℕ) → HasSize read size → (i n : ℕ) (bytes place : List ℕ) (value : List A) (f : CapFault)
    → IsList read n bytes → list_or_empty (many_at read n bytes) ≡ value → i < length value
    → place ≡ drop (i * size) bytes → read place ≡ Err f → ⊥
never_at read size sized i n bytes place value f h e lt there r =
    let at = place_of read size sized i n bytes (omega (arith, lt, count_is read n bytes value h e)) h in
    place_reads read i n bytes (drop (i * size) bytes) f at (ap read (sym there) ∙ r)

-- the same for a place that was sought
pub value_sought : {A : Type 0} (read : List ℕ → Field A) (i n : ℕ) (bytes place rest : List ℕ) (value : List A) (x : A)
    → list_or_empty (many_at read n bytes) ≡ value → IsAtPlace read i n bytes place → read place ≡ Ok (x, rest) → slice_get value i ≡ Some x
value_sought read i n bytes place rest value x e at r = subst (λ (v : List _). slice_get v i ≡ Some x) e (place_is read i n bytes place rest x at r)

pub u1_size : HasSize u1_at 1
u1_size [] x rest e = absurd cc
u1_size (a ∷ bytes) x rest e = (omega arith, ap (λ (p : ℕ × List ℕ). p.1) (ok_is (a, bytes) (x, rest) e))

pub u2_size : HasSize u2_at 2
u2_size [] x rest e = absurd cc
u2_size (a ∷ []) x rest e = absurd cc
u2_size (a ∷ b ∷ bytes) x rest e = (omega arith, ap (λ (p : ℕ × List ℕ). p.1) (ok_is (a * 256 + b, bytes) (x, rest) e))

-- ---- the first one, and the others

pub is_empty : {A : Type 0} (read : List ℕ → Field A) (n : ℕ) (bytes : List ℕ) (value : List A) → n ≡ 0 → IsList read n bytes
    → list_or_empty (many_at read n bytes) ≡ value → value ≡ []
is_empty read n bytes value none h e =
    sym e ∙ BeginsWithList-nil read bytes (list_or_empty (many_at read n bytes)) (subst
    (λ (k : ℕ). BeginsWithList read k bytes (list_or_empty (many_at read n bytes))) none h)

pub first_is : {A : Type 0} (read : List ℕ → Field A) (n : ℕ) (bytes next : List ℕ) (value : List A) (x : A) → 0 < n → IsList read n bytes
    → list_or_empty (many_at read n bytes) ≡ value → read bytes ≡ Ok (x, next)
    → IsList read (n - 1) next × (value ≡ x ∷ list_or_empty (many_at read (n - 1) next))
first_is read n bytes next value x above h e r =
    let both = Begins-reads read (n - 1) bytes (list_or_empty (many_at read n bytes)) x next
    (BeginsWithList-begins_above read n bytes (list_or_empty (many_at read n bytes)) above h) r in
    (both.0, sym e ∙ both.1)

pub never_first : {A : Type 0} (read : List ℕ → Field A) (n : ℕ) (bytes : List ℕ) (f : CapFault) → 0 < n → IsList read n bytes → read bytes ≡ Err f → ⊥
never_first read n bytes f above h r = Begins-no_fault read (n - 1) bytes (list_or_empty (many_at read n bytes)) f
    (BeginsWithList-begins_above read n bytes (list_or_empty (many_at read n bytes)) above h) r
