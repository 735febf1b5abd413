-- Superclasses and superinterfaces are class references.
use Rattle.std.proofs.Common.{◌≡◌, ℕ, zero, suc, Bool, true, List, Ok, sym, ap, ◌∙◌}
use Rattle.jc_cap.specs.declared.fault.CapFault.TheVariants.{BadOffset}
use Rattle.jc_cap.specs.declared.class_refs.ClassRef.{ClassRef}
use Rattle.jc_cap.specs.Reading.{Field, many_at, rest_after, list_or_empty}
use Rattle.jc_cap.specs.ClassRefs.{class_ref_at}
use Rattle.jc_cap.specs.Places.{IsList}
use Rattle.jc_cap.proofs.Many.{bind_ok, ok_is, is_read, listed_as}
use Rattle.jc_cap.proofs.Telling.{wanted_ok}
use Rattle.jc_cap.specs.ClassReading.{super_at}

-- what is read as known is read, and is known
pub super_is : (known : ClassRef → Bool) (bytes : List ℕ) (x : ClassRef) (rest : List ℕ) → super_at known bytes ≡ Ok (x, rest)
    → (class_ref_at bytes ≡ Ok (x, rest)) × (known x ≡ true)
unfolding super_at
super_is known bytes x rest e =
    let class = bind_ok (class_ref_at bytes) _ (x, rest) e in
    let found = wanted_ok (known class.0.0) BadOffset _ _ class.2 in
    let same = ok_is class.0 (x, rest) found.1 in
    (class.1 ∙ ap Ok same, sym (ap (λ (y : ClassRef × List ℕ). known y.0) same) ∙ found.0)

-- what one reader reads in each case, another reads in every list
pub many_so : {A : Type 0} (read other : List ℕ → Field A) → ((bytes : List ℕ) (x : A) (rest : List ℕ) → read bytes ≡ Ok (x, rest) → other bytes ≡ Ok (x, rest))
    → (n : ℕ) (bytes : List ℕ) (xs : List A) (rest : List ℕ) → many_at read n bytes ≡ Ok (xs, rest) → many_at other n bytes ≡ Ok (xs, rest)
unfolding many_at
many_so read other so zero bytes xs rest e = e
many_so read other so (suc n) bytes xs rest e =
    let a = bind_ok (read bytes) _ (xs, rest) e in
    let b = bind_ok (many_at read n a.0.1) _ (xs, rest) a.2 in
    rw (so bytes a.0.0 a.0.1 a.1, many_so read other so n a.0.1 b.0.0 b.0.1 b.1) b.2

pub supers_are : (known : ClassRef → Bool) (n : ℕ) (bytes : List ℕ) (xs : List ClassRef) (rest : List ℕ) → many_at (super_at known) n bytes ≡ Ok (xs, rest)
    → many_at class_ref_at n bytes ≡ Ok (xs, rest)
supers_are known n bytes xs rest e = many_so (super_at known) class_ref_at (λ b x r h. (super_is known b x r h).0) n bytes xs rest e

-- where their end was found, they are a list, and the same one
pub supers_list : (known : ClassRef → Bool) (n : ℕ) (bytes rest : List ℕ) → rest_after (many_at (super_at known) n bytes) ≡ Ok rest
    → IsList class_ref_at n bytes
supers_list known n bytes rest e =
    let h = supers_are known n bytes (list_or_empty (many_at (super_at known) n bytes)) rest (is_read (many_at (super_at known) n bytes) rest e) in
    (rest, rw (listed_as (many_at class_ref_at n bytes) (list_or_empty (many_at (super_at known) n bytes)) rest h) h)

pub supers_read : (known : ClassRef → Bool) (n : ℕ) (bytes rest : List ℕ) → rest_after (many_at (super_at known) n bytes) ≡ Ok rest
    → many_at (super_at known) n bytes ≡ Ok (list_or_empty (many_at class_ref_at n bytes), rest)
supers_read known n bytes rest e =
    let read = is_read (many_at (super_at known) n bytes) rest e in
    let h = supers_are known n bytes (list_or_empty (many_at (super_at known) n bytes)) rest read in
    read ∙ ap (λ (xs : List ClassRef). Ok (xs, rest)) (sym (listed_as (many_at class_ref_at n bytes) (list_or_empty (many_at (super_at known) n bytes)) rest h))
