-- Steps of the search for a difference, and of the count of ways.
use Rattle.std.proofs.Common.{◌≡◌, ◌∙◌, ℕ, ◌+◌, ◌<◌, ◌≤◌, List, length, get_or, drop, max, min, ap, Option, Some, None}
use Rattle.std.proofs.lemmas.List.{drop_all}
use Rattle.jcard_outcomes.specs.Recoveries.{difference_or, first_difference, ways_from}
use Rattle.jcard_outcomes.specs.Report.{most_lost_from}
use Rattle.jcard_outcomes.specs.declared.standing.Cut.{Cut}
use Rattle.jcard_texts.proofs.Items.{drop_at}

-- after this cut a recovery made a difference
pub difference_found : (cuts : List Cut) (k i n : ℕ) (c : Cut) → i < length cuts → c ≡ get_or cuts i c → c.recoveries.difference ≡ Some n
    → first_difference k (drop i cuts) ≡ Some (k, n)
unfolding first_difference
difference_found cuts k i n c h e found = ap (first_difference k) (drop_at cuts i c h e)
    ∙ ap (λ (d : Option ℕ). difference_or k d (first_difference (k + 1) (drop (i + 1) cuts))) found

-- after this one none did
pub difference_passed : (cuts : List Cut) (k i : ℕ) (c : Cut) → i < length cuts → c ≡ get_or cuts i c → c.recoveries.difference ≡ None
    → first_difference k (drop i cuts) ≡ first_difference (k + 1) (drop (i + 1) cuts)
unfolding first_difference
difference_passed cuts k i c h e none = ap (first_difference k) (drop_at cuts i c h e)
    ∙ ap (λ (d : Option ℕ). difference_or k d (first_difference (k + 1) (drop (i + 1) cuts))) none

pub difference_end : (cuts : List Cut) (k i : ℕ) → length cuts ≤ i → first_difference k (drop i cuts) ≡ None
unfolding first_difference
difference_end cuts k i h = ap (first_difference k) (drop_all i cuts h)

-- the most that cuts lost, with one more
pub most_next : (cuts : List Cut) (n i : ℕ) (c : Cut) → i < length cuts → c ≡ get_or cuts i c
    → most_lost_from n (drop i cuts) ≡ most_lost_from (max n c.lost) (drop (i + 1) cuts)
unfolding most_lost_from
most_next cuts n i c h e = ap (most_lost_from n) (drop_at cuts i c h e)

pub most_end : (cuts : List Cut) (n i : ℕ) → length cuts ≤ i → most_lost_from n (drop i cuts) ≡ n
unfolding most_lost_from
most_end cuts n i h = ap (most_lost_from n) (drop_all i cuts h)

-- the ways after one cut more
pub ways_next : (cuts : List Cut) (n i : ℕ) (c : Cut) → i < length cuts → c ≡ get_or cuts i c
    → ways_from n (drop i cuts) ≡ ways_from (min (n + c.recoveries.ways) 18446744073709551615) (drop (i + 1) cuts)
unfolding ways_from
ways_next cuts n i c h e = ap (ways_from n) (drop_at cuts i c h e)

pub ways_end : (cuts : List Cut) (n i : ℕ) → length cuts ≤ i → ways_from n (drop i cuts) ≡ n
unfolding ways_from
ways_end cuts n i h = ap (ways_from n) (drop_all i cuts h)
