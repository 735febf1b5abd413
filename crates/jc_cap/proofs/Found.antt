-- What is found again in an info that was read before.
use Rattle.std.proofs.Common.{◌≡◌, ℕ, zero, suc, ◌+◌, ◌*◌, ◌≤◌, List, [], ◌∷◌, length, drop, Result, Ok, Err, refl, sym, ap, ◌∙◌, arith}
use Rattle.std.proofs.lemmas.List.{drop-drop, length-drop}
use Rattle.jc_cap.specs.declared.fault.CapFault.{CapFault}
use Rattle.jc_cap.specs.Reading.{◌>>=◌, Field, u1_at, many_at, list_or_empty, IsReadable}
use Rattle.jc_cap.specs.Places.{IsList}
use Rattle.jc_cap.proofs.Many.{bind_ok, ok_is, listed_as}
use Rattle.jc_cap.proofs.Walk.{HasSize}
use Rattle.jc_cap.specs.ClassReading.{records_or_none}
use Rattle.jc_cap.specs.ClassValues.{RecordAt}
use Rattle.jc_cap.specs.MethodReading.{handler_at, methods_of}

-- what stands after a list of parts of one size
sized_many : {A : Type 0} (read : List ℕ → Field A) (size : ℕ) → HasSize read size → (n : ℕ) (bytes : List ℕ) (xs : List A) (rest : List ℕ)
    → many_at read n bytes ≡ Ok (xs, rest) → (n * size ≤ length bytes) × (drop (n * size) bytes ≡ rest)
unfolding many_at
sized_many read size sized zero bytes xs rest e =
    let none : 0 * size ≡ 0 = omega arith in
    (omega (arith, none), ap (λ (k : ℕ). drop k bytes) none ∙ ap (λ (p : List _ × List ℕ). p.1) (ok_is ([], bytes) (xs, rest) e))
sized_many read size sized (suc n) bytes xs rest e =
    let a = bind_ok (read bytes) (λ first. many_at read n first.1 >>= λ others. Ok (first.0 ∷ others.0, others.1)) (xs, rest) e in
    let b = bind_ok (many_at read n a.0.1) (λ others. Ok (a.0.0 ∷ others.0, others.1)) (xs, rest) a.2 in
    let step = sized bytes a.0.0 a.0.1 a.1 in
    let later = sized_many read size sized n a.0.1 b.0.0 b.0.1 b.1 in
    let ends : b.0.1 ≡ rest = ap (λ (p : List _ × List ℕ). p.1) (ok_is (a.0.0 ∷ b.0.0, b.0.1) (xs, rest) b.2) in
    let sum : suc n * size ≡ size + n * size = omega arith in
    let behind : drop (suc n * size) bytes ≡ drop (n * size) (drop size bytes) = ap (λ (k : ℕ). drop k bytes) sum ∙ sym (drop-drop (n * size) size bytes) in
    let short : n * size ≤ length (drop size bytes) = rw step.1 later.0 in
    (omega (arith, sum, short, step.0, length-drop size bytes), behind ∙ ap (drop (n * size)) step.1 ∙ later.1 ∙ ends)

-- a list of parts of one size, and what stands after it
pub record Whole {A : Type 0} (read : List ℕ → Field A) (size n : ℕ) (bytes : List ℕ) : Type 0 where
  pub within : n * size ≤ length bytes
  pub list : IsList read n bytes
  pub is : many_at read n bytes ≡ Ok (list_or_empty (many_at read n bytes), drop (n * size) bytes)

pub sized_list : {A : Type 0} (read : List ℕ → Field A) (size : ℕ) → HasSize read size → (n : ℕ) (bytes : List ℕ) → IsReadable (many_at read n bytes)
    → Whole read size n bytes
sized_list read size sized n bytes given =
    let said : list_or_empty (many_at read n bytes) ≡ given.0.0 = listed_as (many_at read n bytes) given.0.0 given.0.1 given.1 in
    let there = sized_many read size sized n bytes given.0.0 given.0.1 given.1 in
    let is : many_at read n bytes ≡ Ok (list_or_empty (many_at read n bytes), given.0.1) = given.1 ∙ ap (λ xs. Ok (xs, given.0.1)) (sym said) in
    record {
      within = there.0;
      list = (given.0.1, is);
      is = is ∙ ap (λ (t : List ℕ). Ok (list_or_empty (many_at read n bytes), t)) (sym there.1);
    }

-- the records that were read
pub records_read : (r : Result (List RecordAt) CapFault) → IsReadable r → r ≡ Ok (records_or_none r)
records_read (Ok rs) given = refl
records_read (Err fault) given = absurd cc

-- the handlers of such an info
pub handlers_read : (info bytes : List ℕ) (count : ℕ) → IsReadable (methods_of info) → u1_at info ≡ Ok (count, bytes) → IsReadable (many_at handler_at count bytes)
unfolding methods_of
handlers_read info bytes count given is =
    let a = bind_ok (u1_at info) _ given.0 given.1 in
    let same = ok_is a.0 (count, bytes) (sym a.1 ∙ is) in
    let b = bind_ok (many_at handler_at a.0.0 a.0.1) _ given.0 a.2 in
    (b.0, ap (λ (p : ℕ × List ℕ). many_at handler_at p.0 p.1) (sym same) ∙ b.1)

pub never_methods : (info : List ℕ) (fault : CapFault) → IsReadable (methods_of info) → u1_at info ≡ Err fault → ⊥
unfolding methods_of
never_methods info fault given is =
    let a = bind_ok (u1_at info) _ given.0 given.1 in
    cc
