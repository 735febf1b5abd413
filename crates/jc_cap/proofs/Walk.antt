-- Walking to the part at a place.
use Rattle.std.proofs.Common.{◌≡◌, ℕ, zero, suc, ◌-◌, ◌+◌, ◌*◌, ◌≤◌, ◌<◌, List, ◌∷◌, length, drop, get_or, Some, Result, Ok, Err, sym, ap}
use Rattle.std.proofs.Common.{subst, ◌∙◌, arith}
use Rattle.std.specs.Prelude.{slice_get}
use Rattle.std.proofs.lemmas.List.{drop_more, drop-drop, length-drop}
use Rattle.std.proofs.lemmas.Option.{slice_get-get_or}
use Rattle.jc_cap.specs.declared.fault.CapFault.{CapFault}
use Rattle.jc_cap.specs.Reading.{Field, many_at, rest_after, list_or_empty, BeginsWithList}
use Rattle.jc_cap.specs.Places.{IsList, IsAtPlace}
use Rattle.jc_cap.proofs.Many.{Begins, BeginsWithList-begins, BeginsWithList-length, Begins-no_fault, after_ok, after_err, ok_is}

-- what stands at place i of n
pub begins_at : {A : Type 0} (read : List ℕ → Field A) (i n : ℕ) (bytes : List ℕ) (xs : List A) → i < n → BeginsWithList read (n - i) bytes (drop i xs)
    → Begins read (n - (i + 1)) bytes (drop i xs)
begins_at read i n bytes xs lt h =
    let e : n - i ≡ suc (n - (i + 1)) = omega (arith, lt) in
    BeginsWithList-begins read (n - (i + 1)) bytes (drop i xs) (subst (λ (k : ℕ). BeginsWithList read k bytes (drop i xs)) e h)

tail_is : {A : Type 0} (i : ℕ) (xs ys : List A) (x y : A) → get_or xs i x ∷ drop (i + 1) xs ≡ y ∷ ys → (get_or xs i x ≡ y) × (drop (i + 1) xs ≡ ys)
tail_is i xs ys x y e = (cc, cc)

next_is : {A : Type 0} (x y : A) (s t : List ℕ) (r : Field A) → r ≡ Ok (x, s) → r ≡ Ok (y, t) → (x ≡ y) × (s ≡ t)
next_is x y s t r e f =
    let same = ok_is (x, s) (y, t) (sym e ∙ f) in
    (ap (λ (p : _ × List ℕ). p.0) same, ap (λ (p : _ × List ℕ). p.1) same)

pub step_at : {A : Type 0} (read : List ℕ → Field A) (i n : ℕ) (bytes next : List ℕ) (xs : List A) → length xs ≡ n → i < n
    → BeginsWithList read (n - i) bytes (drop i xs) → rest_after (read bytes) ≡ Ok next → BeginsWithList read (n - (i + 1)) next (drop (i + 1) xs)
step_at read i n bytes next xs len lt h e =
    let b = begins_at read i n bytes xs lt h in
    let r = after_ok (read bytes) next e in
    let same = next_is b.first r.0 b.next next (read bytes) b.reads r.1 in
    let parts = tail_is i xs b.others b.first b.first (sym (drop_more xs i b.first (omega (arith, len, lt))) ∙ b.parts) in
    subst (λ (t : List ℕ). BeginsWithList read (n - (i + 1)) t (drop (i + 1) xs)) same.1
    (subst (λ (t : List _). BeginsWithList read (n - (i + 1)) b.next t) (sym parts.1) b.held)

-- the part there
pub found_at : {A : Type 0} (read : List ℕ → Field A) (i n : ℕ) (bytes : List ℕ) (xs : List A) → length xs ≡ n → i < n
    → BeginsWithList read (n - i) bytes (drop i xs) → (x : A) × (rest : List ℕ) × (read bytes ≡ Ok (x, rest)) × (slice_get xs i ≡ Some x)
found_at read i n bytes xs len lt h =
    let b = begins_at read i n bytes xs lt h in
    let within : i < length xs = omega (arith, len, lt) in
    let parts = tail_is i xs b.others b.first b.first (sym (drop_more xs i b.first within) ∙ b.parts) in
    (b.first, b.next, b.reads, slice_get-get_or xs i b.first within ∙ ap Some parts.0)

pub no_fault_there : {A : Type 0} (read : List ℕ → Field A) (i n : ℕ) (bytes : List ℕ) (xs : List A) (f : CapFault) → i < n
    → BeginsWithList read (n - i) bytes (drop i xs) → rest_after (read bytes) ≡ Err f → ⊥
no_fault_there read i n bytes xs f lt h e = Begins-no_fault read (n - (i + 1)) bytes (drop i xs) f (begins_at read i n bytes xs lt h)
    (after_err (read bytes) f e)

-- what a reader answers at a place
pub place_is : {A : Type 0} (read : List ℕ → Field A) (i n : ℕ) (bytes place rest : List ℕ) (x : A) → IsAtPlace read i n bytes place → read place ≡ Ok (x, rest)
    → slice_get (list_or_empty (many_at read n bytes)) i ≡ Some x
place_is read i n bytes place rest x at e = at.3 ∙ ap Some (next_is at.0 x at.1 rest (read place) at.2 e).0

clash : {A : Type 0} (x : A) (f : CapFault) (r : Result A CapFault) → r ≡ Ok x → r ≡ Err f → ⊥
clash x f r e h = cc

pub place_reads : {A : Type 0} (read : List ℕ → Field A) (i n : ℕ) (bytes place : List ℕ) (f : CapFault) → IsAtPlace read i n bytes place → read place ≡ Err f
    → ⊥
place_reads read i n bytes place f at e = clash (at.0, at.1) f (read place) at.2 e

-- ---- parts of one size

-- Each part that is read has size bytes.
abbrev pub HasSize : {A : Type 0} → (List ℕ → Field A) → ℕ → Type 0
HasSize read size = (bytes : List ℕ) (x : _) (rest : List ℕ) → read bytes ≡ Ok (x, rest) → (size ≤ length bytes) × (drop size bytes ≡ rest)

-- the list from place i on stands in the bytes from size times i on
pub record From {A : Type 0} (read : List ℕ → Field A) (size i n : ℕ) (bytes : List ℕ) (xs : List A) : Type 0 where
  pub within : i * size ≤ length bytes
  pub held : BeginsWithList read (n - i) (drop (i * size) bytes) (drop i xs)

pub from_place : {A : Type 0} (read : List ℕ → Field A) (size : ℕ) → HasSize read size → (i n : ℕ) (bytes : List ℕ) (xs : List A) → length xs ≡ n → i ≤ n
    → BeginsWithList read n bytes xs → From read size i n bytes xs
from_place read size sized zero n bytes xs len le h =
    let whole : bytes ≡ drop (0 * size) bytes = ap (λ (k : ℕ). drop k bytes) (let e : 0 ≡ 0 * size = omega arith in e) in
    record {
      within = omega arith;
      held = subst (λ (t : List ℕ). BeginsWithList read (n - 0) t xs) whole
          (subst (λ (k : ℕ). BeginsWithList read k bytes xs) (let e : n ≡ n - 0 = omega arith in e) h);
    }
from_place read size sized (suc i) n bytes xs len le h =
    let before = from_place read size sized i n bytes xs len (omega (arith, le)) h in
    let b = begins_at read i n (drop (i * size) bytes) xs (omega (arith, le)) before.held in
    let step = sized (drop (i * size) bytes) b.first b.next b.reads in
    let next_there : drop ((i + 1) * size) bytes ≡ b.next =
    ap (λ (k : ℕ). drop k bytes) (let e : (i + 1) * size ≡ i * size + size = omega arith in e) ∙ sym (drop-drop size (i * size) bytes) ∙ step.1 in
    let at = step_at read i n (drop (i * size) bytes) b.next xs len (omega (arith, le)) before.held (ap rest_after b.reads) in
    let one : From read size (i + 1) n bytes xs = record {
      within = (let e : (i + 1) * size ≡ i * size + size = omega arith in omega (arith, before.within, step.0, length-drop (i * size) bytes, e));
      held = subst (λ (s : List ℕ). BeginsWithList read (n - (i + 1)) s (drop (i + 1) xs)) (sym next_there) at;
    } in
    let e : i + 1 ≡ suc i = omega arith in
    subst (λ (k : ℕ). From read size k n bytes xs) e one

pub place_of : {A : Type 0} (read : List ℕ → Field A) (size : ℕ) → HasSize read size → (i n : ℕ) (bytes : List ℕ) → i < n → IsList read n bytes
    → IsAtPlace read i n bytes (drop (i * size) bytes)
place_of read size sized i n bytes lt h =
    let xs = list_or_empty (many_at read n bytes) in
    let len = BeginsWithList-length read n bytes xs h in
    let here = from_place read size sized i n bytes xs len (omega (arith, lt)) h in
    found_at read i n (drop (i * size) bytes) xs len lt here.held
