-- Lists that are found again in an info that was read before.
use Rattle.std.proofs.Common.{◌≡◌, ℕ, List, [], Result, Ok, Err, sym, ap, ◌∙◌}
use Rattle.jc_cap.specs.declared.fault.CapFault.{CapFault}
use Rattle.jc_cap.specs.Reading.{◌>>=◌, Field, many_at, list_or_empty, value_of_whole, IsReadable}
use Rattle.jc_cap.specs.Places.{IsList}
use Rattle.jc_cap.proofs.Many.{listed_as}
use Rattle.jc_cap.proofs.Wholes.{whole_reads}

-- the first of two steps, which found this
after : {A B : Type 0} (r : Result A CapFault) (f : A → Result B CapFault) (x : A) (y : B) → (r >>= f) ≡ Ok y → r ≡ Ok x → f x ≡ Ok y
after r f x y e is = sym (ap (λ z. z >>= f) is) ∙ e

-- the list that a whole info is, after its count
pub counted_again : {A : Type 0} (read : List ℕ → Field A) (count : Field ℕ) (n : ℕ) (bytes : List ℕ)
    → IsReadable (value_of_whole (count >>= λ c. many_at read c.0 c.1)) → count ≡ Ok (n, bytes)
    → IsList read n bytes × (value_of_whole (count >>= λ c. many_at read c.0 c.1) ≡ Ok (list_or_empty (many_at read n bytes)))
counted_again read count n bytes given is =
    let whole = whole_reads (count >>= λ c. many_at read c.0 c.1) given.0 given.1 in
    let there : many_at read n bytes ≡ Ok (given.0, []) = after count (λ c. many_at read c.0 c.1) (n, bytes) (given.0, []) whole is in
    let said : list_or_empty (many_at read n bytes) ≡ given.0 = listed_as (many_at read n bytes) given.0 [] there in
    (([], there ∙ ap (λ xs. Ok (xs, [])) (sym said)), given.1 ∙ ap Ok (sym said))

-- a step of such an info has a value
pub never_counted : {A : Type 0} (read : List ℕ → Field A) (count : Field ℕ) (fault : CapFault)
    → IsReadable (value_of_whole (count >>= λ c. many_at read c.0 c.1)) → count ≡ Err fault → ⊥
never_counted read (Ok c) fault given is = cc
never_counted read (Err e) fault given is = absurd cc
