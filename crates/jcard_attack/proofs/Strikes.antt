-- Faults from one on.
use Rattle.std.proofs.Common.{◌≡◌, ◌∙◌, ℕ, ◌+◌, ◌<◌, ◌≤◌, true, false, if◌then◌else◌, List, length, get_or, drop, ap, Some, None}
use Rattle.std.proofs.lemmas.List.{drop_all}
use Rattle.jcard_texts.proofs.Items.{drop_at}
use Rattle.jcard_attack.specs.Report.{count_of, first_of, is_outcome}
use Rattle.jcard_attack.specs.declared.outcomes.Outcome.{Outcome}
use Rattle.jcard_attack.specs.declared.outcomes.Struck.{Struck}

-- one that came to this is the first from it on
pub first_at : (o : Outcome) (xs : List Struck) (i : ℕ) (s : Struck) → i < length xs → s ≡ get_or xs i s → is_outcome o s.outcome ≡ true
    → first_of o (drop i xs) ≡ Some s.fault
unfolding first_of
first_at o xs i s h e is = ap (first_of o) (drop_at xs i s h e) ∙ ap (λ b. if b then Some s.fault else first_of o (drop (i + 1) xs)) is

-- one that came to something else is passed over
pub first_past : (o : Outcome) (xs : List Struck) (i : ℕ) (s : Struck) → i < length xs → s ≡ get_or xs i s → is_outcome o s.outcome ≡ false
    → first_of o (drop i xs) ≡ first_of o (drop (i + 1) xs)
unfolding first_of
first_past o xs i s h e is = ap (first_of o) (drop_at xs i s h e) ∙ ap (λ b. if b then Some s.fault else first_of o (drop (i + 1) xs)) is

pub first_end : (o : Outcome) (xs : List Struck) (i : ℕ) → length xs ≤ i → first_of o (drop i xs) ≡ None
unfolding first_of
first_end o xs i h = ap (first_of o) (drop_all i xs h)

-- so they are counted
pub count_one : (o : Outcome) (xs : List Struck) (i : ℕ) (s : Struck) → i < length xs → s ≡ get_or xs i s → is_outcome o s.outcome ≡ true
    → count_of o (drop i xs) ≡ count_of o (drop (i + 1) xs) + 1
unfolding count_of
count_one o xs i s h e is = ap (count_of o) (drop_at xs i s h e) ∙ ap (λ b. if b then count_of o (drop (i + 1) xs) + 1 else count_of o (drop (i + 1) xs)) is

pub count_none : (o : Outcome) (xs : List Struck) (i : ℕ) (s : Struck) → i < length xs → s ≡ get_or xs i s → is_outcome o s.outcome ≡ false
    → count_of o (drop i xs) ≡ count_of o (drop (i + 1) xs)
unfolding count_of
count_none o xs i s h e is = ap (count_of o) (drop_at xs i s h e) ∙ ap (λ b. if b then count_of o (drop (i + 1) xs) + 1 else count_of o (drop (i + 1) xs)) is

pub count_end : (o : Outcome) (xs : List Struck) (i : ℕ) → length xs ≤ i → count_of o (drop i xs) ≡ 0
unfolding count_of
count_end o xs i h = ap (count_of o) (drop_all i xs h)
