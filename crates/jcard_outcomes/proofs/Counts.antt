-- Steps of the counts over all cuts.
use Rattle.std.proofs.Common.{◌≡◌, ◌∙◌, ℕ, ◌+◌, ◌<◌, ◌≤◌, ◌||◌, if◌then◌else◌, true, false, List, length, get_or, drop, ap, Some, None}
use Rattle.std.proofs.lemmas.List.{drop_all}
use Rattle.jcard_outcomes.specs.Report.{any_but_tries, broken_by_calls, count_before, first_broken, is_after, is_before, is_but_tries, is_by_calls}
use Rattle.jcard_outcomes.specs.declared.standing.Cut.{Cut}
use Rattle.jcard_texts.proofs.Items.{drop_at}

-- a cut that left what was before counts
pub count_one : (cuts : List Cut) (i : ℕ) (c : Cut) → i < length cuts → c ≡ get_or cuts i c → is_before c.standing ≡ true
    → count_before (drop i cuts) ≡ count_before (drop (i + 1) cuts) + 1
unfolding count_before
count_one cuts i c h e y = ap count_before (drop_at cuts i c h e)
    ∙ ap (λ b. if b then count_before (drop (i + 1) cuts) + 1 else count_before (drop (i + 1) cuts)) y

-- another does not
pub count_none : (cuts : List Cut) (i : ℕ) (c : Cut) → i < length cuts → c ≡ get_or cuts i c → is_before c.standing ≡ false
    → count_before (drop i cuts) ≡ count_before (drop (i + 1) cuts)
unfolding count_before
count_none cuts i c h e n = ap count_before (drop_at cuts i c h e)
    ∙ ap (λ b. if b then count_before (drop (i + 1) cuts) + 1 else count_before (drop (i + 1) cuts)) n

pub count_end : (cuts : List Cut) (i : ℕ) → length cuts ≤ i → count_before (drop i cuts) ≡ 0
unfolding count_before
count_end cuts i h = ap count_before (drop_all i cuts h)

pub tries_found : (cuts : List Cut) (i : ℕ) (c : Cut) → i < length cuts → c ≡ get_or cuts i c → is_but_tries c.standing ≡ true
    → any_but_tries (drop i cuts) ≡ true
unfolding any_but_tries
tries_found cuts i c h e y = ap any_but_tries (drop_at cuts i c h e) ∙ ap (λ b. b || any_but_tries (drop (i + 1) cuts)) y

pub tries_passed : (cuts : List Cut) (i : ℕ) (c : Cut) → i < length cuts → c ≡ get_or cuts i c → is_but_tries c.standing ≡ false
    → any_but_tries (drop i cuts) ≡ any_but_tries (drop (i + 1) cuts)
unfolding any_but_tries
tries_passed cuts i c h e n = ap any_but_tries (drop_at cuts i c h e) ∙ ap (λ b. b || any_but_tries (drop (i + 1) cuts)) n

pub tries_end : (cuts : List Cut) (i : ℕ) → length cuts ≤ i → any_but_tries (drop i cuts) ≡ false
unfolding any_but_tries
tries_end cuts i h = ap any_but_tries (drop_all i cuts h)

-- whether a cut left what was before or what comes after
pub broken_found : (cuts : List Cut) (k i : ℕ) (c : Cut) → i < length cuts → c ≡ get_or cuts i c
    → (is_before c.standing || is_after c.standing) ≡ false → first_broken k (drop i cuts) ≡ Some k
unfolding first_broken
broken_found cuts k i c h e n = ap (first_broken k) (drop_at cuts i c h e)
    ∙ ap (λ b. if b then first_broken (k + 1) (drop (i + 1) cuts) else Some k) n

pub broken_passed : (cuts : List Cut) (k i : ℕ) (c : Cut) → i < length cuts → c ≡ get_or cuts i c
    → (is_before c.standing || is_after c.standing) ≡ true → first_broken k (drop i cuts) ≡ first_broken (k + 1) (drop (i + 1) cuts)
unfolding first_broken
broken_passed cuts k i c h e y = ap (first_broken k) (drop_at cuts i c h e)
    ∙ ap (λ b. if b then first_broken (k + 1) (drop (i + 1) cuts) else Some k) y

pub broken_end : (cuts : List Cut) (k i : ℕ) → length cuts ≤ i → first_broken k (drop i cuts) ≡ None
unfolding first_broken
broken_end cuts k i h = ap (first_broken k) (drop_all i cuts h)

-- whether it was changed by non-atomic calls
pub by_calls_found : (cuts : List Cut) (i : ℕ) (c : Cut) → i < length cuts → c ≡ get_or cuts i c
    → (is_before c.standing || is_after c.standing) ≡ false → broken_by_calls (drop i cuts) ≡ is_by_calls c.standing
unfolding broken_by_calls
by_calls_found cuts i c h e n = ap broken_by_calls (drop_at cuts i c h e)
    ∙ ap (λ b. if b then broken_by_calls (drop (i + 1) cuts) else is_by_calls c.standing) n

pub by_calls_passed : (cuts : List Cut) (i : ℕ) (c : Cut) → i < length cuts → c ≡ get_or cuts i c
    → (is_before c.standing || is_after c.standing) ≡ true → broken_by_calls (drop i cuts) ≡ broken_by_calls (drop (i + 1) cuts)
unfolding broken_by_calls
by_calls_passed cuts i c h e y = ap broken_by_calls (drop_at cuts i c h e)
    ∙ ap (λ b. if b then broken_by_calls (drop (i + 1) cuts) else is_by_calls c.standing) y

pub by_calls_end : (cuts : List Cut) (i : ℕ) → length cuts ≤ i → broken_by_calls (drop i cuts) ≡ false
unfolding broken_by_calls
by_calls_end cuts i h = ap broken_by_calls (drop_all i cuts h)
