-- Counted lists, read one after the other.
use Rattle.std.proofs.Common.{◌≡◌, ℕ, zero, suc, ◌-◌, ◌+◌, ◌≤◌, ◌<◌, List, [], ◌∷◌, length, drop, Some, Result, Ok, Err, refl, sym, ap, subst, ◌∙◌, arith}
use Rattle.std.specs.Prelude.{slice_get}
use Rattle.jc_cap.specs.declared.fault.CapFault.{CapFault}
use Rattle.jc_cap.specs.Reading.{◌>>=◌, Field, many_at, rest_after, list_or_empty, BeginsWithList}

-- the value of a step that did not fail
pub bind_ok : {A B : Type 0} (r : Result A CapFault) (f : A → Result B CapFault) (y : B) → (r >>= f) ≡ Ok y → (x : A) × (r ≡ Ok x) × (f x ≡ Ok y)
bind_ok (Ok x) f y e = (x, refl, e)
bind_ok (Err d) f y e = absurd cc

abbrev done : {A : Type 0} → A → Result A CapFault
done x = Ok x

pub ok_is : {A : Type 0} (x y : A) → done x ≡ done y → x ≡ y
ok_is x y e = cc

no : {A : Type 0} (x : A) (f : CapFault) → done x ≡ Err f → ⊥
no x f e = cc

dropped : {A : Type 0} (x : A) (r : Field (List A)) → rest_after (r >>= λ o. Ok (x ∷ o.0, o.1)) ≡ rest_after r
dropped x (Ok o) = refl
dropped x (Err f) = refl

pub goes_on : {A : Type 0} (read : List ℕ → Field A) (count i : ℕ) (bytes : List ℕ) (x : A) (next : List ℕ) (total : Result (List ℕ) CapFault) → i < count
    → read bytes ≡ Ok (x, next)
    → rest_after (many_at read (count - i) bytes) ≡ total → rest_after (many_at read (count - (i + 1)) next) ≡ total
unfolding many_at
goes_on read count i bytes x next total lt h so_far =
    let k : count - i ≡ suc (count - (i + 1)) = omega arith in
    let one : rest_after (many_at read (count - i) bytes) ≡ rest_after (many_at read (count - (i + 1)) next) =
    rw (k, h) (dropped x (many_at read (count - (i + 1)) next)) in
    sym one ∙ so_far

pub ends : {A : Type 0} (f : CapFault) (read : List ℕ → Field A) (count i : ℕ) (bytes : List ℕ) (total : Result (List ℕ) CapFault) → i < count
    → read bytes ≡ Err f
    → rest_after (many_at read (count - i) bytes) ≡ total → total ≡ Err f
unfolding many_at
ends f read count i bytes total lt h so_far =
    let k : count - i ≡ suc (count - (i + 1)) = omega arith in
    let one : rest_after (many_at read (count - i) bytes) ≡ Err f = rw (k, h) refl in
    sym so_far ∙ one

pub is_done : {A : Type 0} (read : List ℕ → Field A) (count i : ℕ) (bytes : List ℕ) (total : Result (List ℕ) CapFault) → count ≤ i
    → rest_after (many_at read (count - i) bytes) ≡ total → total ≡ Ok bytes
unfolding many_at
is_done read count i bytes total le so_far =
    let k : count - i ≡ 0 = omega arith in
    let one : rest_after (many_at read (count - i) bytes) ≡ Ok bytes = rw k refl in
    sym so_far ∙ one

-- where the list's end is found, the list is read
pub is_read : {A : Type 0} (r : Field (List A)) (rest : List ℕ) → rest_after r ≡ Ok rest → r ≡ Ok (list_or_empty r, rest)
is_read (Ok x) rest e = ap (λ (t : List ℕ). Ok (x.0, t)) (ok_is x.1 rest e)
is_read (Err f) rest e = absurd cc

listed_is : {A : Type 0} (r : Field (List A)) (xs : List A) (rest : List ℕ) → r ≡ Ok (xs, rest) → list_or_empty r ≡ xs
listed_is r xs rest e = rw e refl

pub BeginsWithList-list_or_empty : {A : Type 0} (read : List ℕ → Field A) (n : ℕ) (bytes : List ℕ) (xs : List A) → BeginsWithList read n bytes xs
    → list_or_empty (many_at read n bytes) ≡ xs
BeginsWithList-list_or_empty read n bytes xs h = listed_is (many_at read n bytes) xs h.0 h.1

-- what a list that holds one more begins with
pub record Begins {A : Type 0} (read : List ℕ → Field A) (n : ℕ) (bytes : List ℕ) (xs : List A) : Type 0 where
  pub first : A
  pub next : List ℕ
  pub others : List A
  pub reads : read bytes ≡ Ok (first, next)
  pub held : BeginsWithList read n next others
  pub parts : xs ≡ first ∷ others

pub BeginsWithList-begins : {A : Type 0} (read : List ℕ → Field A) (n : ℕ) (bytes : List ℕ) (xs : List A) → BeginsWithList read (suc n) bytes xs
    → Begins read n bytes xs
unfolding many_at
BeginsWithList-begins read n bytes xs h =
    let a = bind_ok (read bytes) (λ first. many_at read n first.1 >>= λ others. Ok (first.0 ∷ others.0, others.1)) (xs, h.0) h.1 in
    let b = bind_ok (many_at read n a.0.1) (λ others. Ok (a.0.0 ∷ others.0, others.1)) (xs, h.0) a.2 in
    record {
      first = a.0.0;
      next = a.0.1;
      others = b.0.0;
      reads = a.1;
      held = (b.0.1, b.1);
      parts = ap (λ (p : _ × List ℕ). p.0) (sym (ok_is (a.0.0 ∷ b.0.0, b.0.1) (xs, h.0) b.2));
    }

pub BeginsWithList-nil : {A : Type 0} (read : List ℕ → Field A) (bytes : List ℕ) (xs : List A) → BeginsWithList read 0 bytes xs → xs ≡ []
unfolding many_at
BeginsWithList-nil read bytes xs h = ap (λ (p : _ × List ℕ). p.0) (sym (ok_is ([], bytes) (xs, h.0) h.1))

pub BeginsWithList-length : {A : Type 0} (read : List ℕ → Field A) (n : ℕ) (bytes : List ℕ) (xs : List A) → BeginsWithList read n bytes xs → length xs ≡ n
BeginsWithList-length read zero bytes xs h = rw (BeginsWithList-nil read bytes xs h) refl
BeginsWithList-length read (suc n) bytes xs h =
    let b = BeginsWithList-begins read n bytes xs h in
    rw b.parts (ap suc (BeginsWithList-length read n b.next b.others b.held))

-- the same, for a count that is not 0
pub BeginsWithList-begins_above : {A : Type 0} (read : List ℕ → Field A) (n : ℕ) (bytes : List ℕ) (xs : List A) → 0 < n → BeginsWithList read n bytes xs
    → Begins read (n - 1) bytes xs
BeginsWithList-begins_above read n bytes xs above h =
    let e : n ≡ suc (n - 1) = omega arith in
    BeginsWithList-begins read (n - 1) bytes xs (subst (λ (k : ℕ). BeginsWithList read k bytes xs) e h)

-- what a reader answered there
pub Begins-reads : {A : Type 0} (read : List ℕ → Field A) (n : ℕ) (bytes : List ℕ) (xs : List A) (x : A) (next : List ℕ) → Begins read n bytes xs
    → read bytes ≡ Ok (x, next)
    → BeginsWithList read n next (list_or_empty (many_at read n next)) × (xs ≡ x ∷ list_or_empty (many_at read n next))
Begins-reads read n bytes xs x next b e =
    let same : (b.first, b.next) ≡ (x, next) = ok_is (b.first, b.next) (x, next) (sym b.reads ∙ e) in
    let x-is : b.first ≡ x = ap (λ (p : _ × List ℕ). p.0) same in
    let next-is : b.next ≡ next = ap (λ (p : _ × List ℕ). p.1) same in
    let held : BeginsWithList read n next b.others = subst (λ (t : List ℕ). BeginsWithList read n t b.others) next-is b.held in
    let all : list_or_empty (many_at read n next) ≡ b.others = BeginsWithList-list_or_empty read n next b.others held in
    (rw all held, b.parts ∙ rw (all, x-is) refl)

pub Begins-no_fault : {A : Type 0} (read : List ℕ → Field A) (n : ℕ) (bytes : List ℕ) (xs : List A) (f : CapFault) → Begins read n bytes xs → read bytes ≡ Err f
    → ⊥
Begins-no_fault read n bytes xs f b e = no (b.first, b.next) f (sym b.reads ∙ e)

-- ---- walking to the one at a place

-- the element there, and the rest
pub record AtPlace {A : Type 0} (read : List ℕ → Field A) (i : ℕ) (xs : List A) (x : A) (next : List ℕ) : Type 0 where
  pub found : slice_get xs i ≡ Some x
  pub held : BeginsWithList read (length xs - (i + 1)) next (drop (i + 1) xs)

-- ---- a loop whose step says only what stands after

pub after_ok : {A : Type 0} (r : Field A) (next : List ℕ) → rest_after r ≡ Ok next → (x : A) × (r ≡ Ok (x, next))
after_ok (Ok x) next e = (x.0, ap (λ (t : List ℕ). Ok (x.0, t)) (ok_is x.1 next e))
after_ok (Err f) next e = absurd cc

pub after_err : {A : Type 0} (r : Field A) (f : CapFault) → rest_after r ≡ Err f → r ≡ Err f
after_err (Ok x) f e = absurd cc
after_err (Err g) f e = cc

pub listed_as : {A : Type 0} (r : Field (List A)) (xs : List A) (rest : List ℕ) → r ≡ Ok (xs, rest) → list_or_empty r ≡ xs
listed_as r xs rest e = rw e refl
