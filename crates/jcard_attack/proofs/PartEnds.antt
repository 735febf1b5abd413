-- What parts state of the command without a fault.
use Rattle.std.proofs.Common.{arith, ◌≡◌, ◌∙◌, ℕ, ◌+◌, ◌<◌, ◌≤◌, Bool, true, false, List, [], ◌∷◌, ◌++◌, length, get_or, take, replicate, ap, sym}
use Rattle.std.specs.Borrow.{Bor}
use Rattle.std.specs.Str.{bytes_eq}
use Rattle.std.proofs.lemmas.List.{get_or-replicate, length-replicate, take_all, take_more, replicate_more}
use Rattle.jcard_outcomes.proofs.Ends.{lent, lent_at, lent_length, nothing}
use Rattle.jcard_outcomes.proofs.Splits.{other, same}

-- one more states the same
pub same_next : (ends : List (Bor (List ℕ))) (i : ℕ) (u : List ℕ) (r : Bool) → i < length ends → take i (lent ends) ≡ replicate i u
    → r ≡ bytes_eq (get_or ends i nothing).now u → r ≡ true → take (i + 1) (lent ends) ≡ replicate (i + 1) u
same_next ends i u r h e b y =
    let it : get_or (lent ends) i [] ≡ u = lent_at ends i h ∙ same (get_or ends i nothing).now u r b y in
    take_more (lent ends) i [] (omega (arith, lent_length ends, h)) ∙ ap (λ l. l ++ get_or (lent ends) i [] ∷ []) e ∙ ap (λ x. replicate i u ++ x ∷ []) it
    ∙ replicate_more i u

-- all do
pub all_same : (ends : List (Bor (List ℕ))) (parts i : ℕ) (u : List ℕ) → take i (lent ends) ≡ replicate i u → length ends ≤ i → i ≤ parts → parts ≤ length ends
    → lent ends ≡ replicate parts u
all_same ends parts i u e h low high =
    let exact : i ≡ parts = omega (arith, h, low, high) in
    sym (take_all i (lent ends) (omega (arith, lent_length ends, h))) ∙ e ∙ ap (λ k. replicate k u) exact

as_many : (ends : List (Bor (List ℕ))) (parts : ℕ) (u : List ℕ) → lent ends ≡ replicate parts u → length ends ≡ parts
as_many ends parts u e = sym (lent_length ends) ∙ ap length e ∙ length-replicate parts u

-- there are fewer than there are parts
pub too_few : (ends : List (Bor (List ℕ))) (parts : ℕ) (u : List ℕ) → length ends < parts → lent ends ≡ replicate parts u → ⊥
too_few ends parts u few e = absurd (omega (arith, few, as_many ends parts u e))

-- or more
pub too_many : (ends : List (Bor (List ℕ))) (parts i : ℕ) (u : List ℕ) → i < length ends → parts ≤ i → lent ends ≡ replicate parts u → ⊥
too_many ends parts i u h past e = absurd (omega (arith, h, past, as_many ends parts u e))

-- or one states another
pub another : (ends : List (Bor (List ℕ))) (parts i : ℕ) (u : List ℕ) (r : Bool) → i < length ends
    → r ≡ bytes_eq (get_or ends i nothing).now (get_or ends 0 nothing).now → r ≡ false → lent ends ≡ replicate parts u → ⊥
another ends parts i u r h b n e =
    let some : 0 < length ends = omega (arith, h) in
    let count = as_many ends parts u e in
    let here : (get_or ends i nothing).now ≡ u = sym (lent_at ends i h) ∙ ap (λ l. get_or l i []) e ∙ get_or-replicate parts i u [] (omega (arith, h, count)) in
    let first : (get_or ends 0 nothing).now ≡ u = sym (lent_at ends 0 some) ∙ ap (λ l. get_or l 0 []) e ∙ get_or-replicate parts 0 u [] (omega (arith, some, count)) in
    other (get_or ends i nothing).now (get_or ends 0 nothing).now r b n (here ∙ sym first)
