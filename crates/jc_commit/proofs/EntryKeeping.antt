-- What a change in a transaction keeps.
use Rattle.std.proofs.Common.{◌≡◌, ℕ, zero, suc, ◌+◌, ◌*◌, ◌<◌, ◌≤◌, ◌||◌, ◌==◌, ◌⊎◌, Bool, true, false, cond, not, List, [], ◌∷◌, ◌++◌, Option, Some, IsSome}
use Rattle.std.proofs.Common.{length, map, get_or, set, take, drop, slice_index, All, Contains, filter, refl, sym, ◌∙◌, ap, subst, arith, inl, inr, ⊎_elim}
use Rattle.std.proofs.Common.{take-append-drop, ext_get_or, get_or-set_other, get_or-set_same, leb-true, eqb-true, eq-eqb, ne_eqb, is_some}
use Rattle.std.specs.List.{list_any, range_with_len}
use Rattle.std.specs.Prelude.{if◌then◌else◌, nat_le}
use Rattle.std.proofs.lemmas.Bool.{cases_Bool, cases_eq, false≢true}
use Rattle.std.proofs.lemmas.List.{length-append, length-map, length-set, take_more, get_or_default}
use Rattle.std.proofs.lemmas.List.Filters.{length-filter_both}
use Rattle.std.proofs.lemmas.List.Elements.{filter-append, All-filter}
use Rattle.jc_words.specs.Layout.{log_end, top_address, count_address}
use Rattle.jc_words.specs.Refusals.{Refusals}
use Rattle.jc_words.specs.Image.{log_of}
use Rattle.jc_words.specs.declared.log.Log.{Log}
use Rattle.jc_commit.specs.Image.{address_at, old_at, entries, old_value, count_of, capacity_of, limit_of, plain_of, recovered_of, touched_of, top_of, IsPlace}
use Rattle.jc_commit.specs.Image.{IsGoodLog}
use Rattle.jc_commit.specs.Entries.{addresses_of, ArePlaces, IsBeside, AreBeside, SameBefore}
use Rattle.jc_commit.specs.State.{State, IsSound, live_words, born_of}
use Rattle.jc_commit.specs.Writing.{HasLog, IsFreeFrom, KeepsTransaction, ArePut}
use Rattle.jc_commit.specs.Keep.{writes_inside, is_taken_back}
use Rattle.jc_commit.specs.EntryIndex.{named_by, needing, with_entries, IsIndexOf, GoBack}
use Rattle.jc_commit.proofs.Words.{bounds_of, place_spot, log-set}
use Rattle.jc_commit.proofs.Steps.{limit-same, IsGoodLog-set_place, entries-set_place, plain-set_place}
use Rattle.jc_commit.proofs.Entries.{HasEntries, same_after, target, place_one, places_beside}
use Rattle.jc_commit.proofs.Counted.{entry_of, named_new, kept_before, Counted, counted_at}
use Rattle.jc_commit.proofs.InPlace.{listed, unlisted, recovered-set_place, live_words-set}
use Rattle.jc_commit.proofs.WhatIsKept.{contains_filter, true-not}
use Rattle.jc_commit.proofs.Views.{length-touched, length-addresses}
use Rattle.jc_commit.proofs.Changing.{new_ones, state_of}
use Rattle.jc_commit.proofs.Indexes.{get_or-named_by, length-named_by, IsIndexOf-same}

-- ---- which changes need an entry

pub needing_one : (touched : List ℕ) (born : ℕ) (change : ℕ × ℕ) → is_taken_back touched born change.0 ≡ false → needing touched born (change ∷ []) ≡ change ∷ []
needing_one touched born change new = ap (λ (b : Bool). cond (not b) (change ∷ []) []) new

pub needing_more : (touched : List ℕ) (born : ℕ) (changes : List (ℕ × ℕ)) (i : ℕ) → i < length changes →
    needing touched born (take (i + 1) changes) ≡ needing touched born (take i changes) ++ needing touched born (get_or changes i (0, 0) ∷ [])
needing_more touched born changes i within =
    let p : ℕ × ℕ → Bool = λ c. not (is_taken_back touched born c.0) in
    ap (filter p) (take_more changes i (0, 0) within) ∙ filter-append p (take i changes) (get_or changes i (0, 0) ∷ [])

pub needing_part : (touched : List ℕ) (born : ℕ) (changes : List (ℕ × ℕ)) (i : ℕ) → length (needing touched born (take i changes)) ≤ length
    (needing touched born changes)
needing_part touched born changes i =
    let p : ℕ × ℕ → Bool = λ c. not (is_taken_back touched born c.0) in
    let parts : filter p changes ≡ filter p (take i changes) ++ filter p (drop i changes) =
    ap (filter p) (sym (take-append-drop i changes)) ∙ filter-append p (take i changes) (drop i changes) in
    let long : length (filter p changes) ≡ length (filter p (take i changes)) + length (filter p (drop i changes)) =
    ap (λ (l : List (ℕ × ℕ)). length l) parts ∙ length-append (filter p (take i changes)) (filter p (drop i changes)) in
    omega (arith, long)

pub needing_few : (touched : List ℕ) (born : ℕ) (changes : List (ℕ × ℕ)) → length (needing touched born changes) ≤ length changes
needing_few touched born changes =
    let both = length-filter_both (λ (c : ℕ × ℕ). is_taken_back touched born c.0) (λ c. not (is_taken_back touched born c.0)) (λ c. refl) changes in omega (arith, both)

all_places : (n : ℕ) (changes : List (ℕ × ℕ)) → ArePlaces n changes → All (λ (c : ℕ × ℕ). IsPlace n c.0) changes
all_places n changes places k d within = subst (λ (c : ℕ × ℕ). IsPlace n c.0) (get_or_default changes k (0, 0) d within) (places k within)

pub places_needing : (touched : List ℕ) (born n : ℕ) (changes : List (ℕ × ℕ)) → ArePlaces n changes → ArePlaces n (needing touched born changes)
places_needing touched born n changes places k within =
    All-filter (λ c. not (is_taken_back touched born c.0)) (λ (c : ℕ × ℕ). IsPlace n c.0) changes (all_places n changes places) k (0, 0) within

-- ---- entries that are put

abbrev pub after_entry : Log → List ℕ → ℕ → ℕ × ℕ → List ℕ
after_entry l w k change = set (set w (l.start + 2 * k) change.0) (l.start + 2 * k + 1) (slice_index w change.0)

pub same_more : (l : Log) (first k : ℕ) (old w v : List ℕ) → first ≤ k → SameBefore l first old w → SameBefore l k w v → SameBefore l first old v
same_more l first k old w v order was is = (is.0 ∙ was.0, λ a free. is.1 a (λ h. free (omega (arith, order, h))) ∙ was.1 a free)

pub entry_same : (l : Log) (w : List ℕ) (k : ℕ) (change : ℕ × ℕ) → k < l.capacity → SameBefore l k w (after_entry l w k change)
entry_same l w k change few =
    same_after l w w (after_entry l w k change) k (l.start + 2 * k) change.0 (slice_index w change.0) (omega arith) (omega (arith, few)) refl
    (refl, λ a free. refl)

length-after : (l : Log) (w : List ℕ) (k : ℕ) (change : ℕ × ℕ) → length (after_entry l w k change) ≡ length w
length-after l w k change = length-set (set w (l.start + 2 * k) change.0) (l.start + 2 * k + 1) (slice_index w change.0)
    ∙ length-set w (l.start + 2 * k) change.0

pub with_entries-append : (l : Log) (w : List ℕ) (k : ℕ) (xs ys : List (ℕ × ℕ)) → with_entries l w k (xs ++ ys) ≡ with_entries l (with_entries l w k xs) (k + length xs) ys
with_entries-append l w k [] ys = let e : k ≡ k + 0 = omega arith in ap (λ (j : ℕ). with_entries l w j ys) e
with_entries-append l w k (x ∷ xs) ys =
    let e : k + 1 + length xs ≡ k + suc (length xs) = omega arith in
    with_entries-append l (after_entry l w k x) (k + 1) xs ys ∙ ap (λ (j : ℕ). with_entries l (with_entries l (after_entry l w k x) (k + 1) xs) j ys) e

pub same_with : (l : Log) (w : List ℕ) (k : ℕ) (changes : List (ℕ × ℕ)) → k + length changes ≤ l.capacity → SameBefore l k w (with_entries l w k changes)
same_with l w k [] few = (refl, λ a free. refl)
same_with l w k (c ∷ cs) few =
    let rest = same_with l (after_entry l w k c) (k + 1) cs (omega (arith, few)) in
    same_more l k (k + 1) w (after_entry l w k c) (with_entries l (after_entry l w k c) (k + 1) cs) (omega arith) (entry_same l w k c (omega (arith, few))) rest

-- a word that an entry may name is no word of an entry
pub beside_entry : (l : Log) (w : List ℕ) (k n a : ℕ) (change : ℕ × ℕ) → k < l.capacity → IsBeside l n a → slice_index (after_entry l w k change) a ≡ slice_index w a
beside_entry l w k n a change few place =
    let beside = place.beside in
    get_or-set_other (set w (l.start + 2 * k) change.0) (l.start + 2 * k + 1) a (slice_index w change.0) 0 (λ e. absurd (omega (arith, few, beside, e)))
    ∙ get_or-set_other w (l.start + 2 * k) a change.0 0 (λ e. absurd (omega (arith, few, beside, e)))

pub has_with : (l : Log) (w : List ℕ) (k : ℕ) (changes : List (ℕ × ℕ)) → k + length changes ≤ l.capacity → l.start + 2 * l.capacity ≤ length w → AreBeside l (length w) changes
    → HasEntries l k changes w (with_entries l w k changes)
has_with l w k [] few size places j within = absurd (omega (arith, within))
has_with l w k (c ∷ cs) few size places zero within =
    let v = with_entries l (after_entry l w k c) (k + 1) cs in
    let kept : SameBefore l (k + 1) (after_entry l w k c) v = same_with l (after_entry l w k c) (k + 1) cs (omega (arith, few)) in
    let e : k + 0 ≡ k = omega arith in (
      ap (λ (j : ℕ). address_at l v j) e ∙ kept.1 (l.start + 2 * k) (λ h. absurd (omega (arith, h)))
          ∙ get_or-set_other (set w (l.start + 2 * k) c.0) (l.start + 2 * k + 1) (l.start + 2 * k) (slice_index w c.0) 0
          (λ same. absurd (omega (arith, same)))
          ∙ get_or-set_same w (l.start + 2 * k) c.0 0 (omega (arith, few, size)),
      ap (λ (j : ℕ). old_at l v j) e ∙ kept.1 (l.start + 2 * k + 1) (λ h. absurd (omega (arith, h)))
          ∙ get_or-set_same (set w (l.start + 2 * k) c.0) (l.start + 2 * k + 1) (slice_index w c.0) 0
          (omega (arith, few, size, length-set w (l.start + 2 * k) c.0)),
    )
has_with l w k (c ∷ cs) few size places (suc j) within =
    let v = with_entries l (after_entry l w k c) (k + 1) cs in
    let long = length-after l w k c in
    let rest = has_with l (after_entry l w k c) (k + 1) cs (omega (arith, few)) (omega (arith, size, long))
    (λ i lt. subst (λ (n : ℕ). IsBeside l n (get_or cs i (0, 0)).0) (sym long) (places (suc i) (omega (arith, lt)))) j (omega (arith, within)) in
    let e : k + suc j ≡ k + 1 + j = omega arith in (
      ap (λ (i : ℕ). address_at l v i) e ∙ rest.0,
      ap (λ (i : ℕ). old_at l v i) e ∙ rest.1 ∙ beside_entry l w k (length w) (target cs j) c (omega (arith, few)) (places (suc j) within),
    )

pub named_by_same : (l : Log) (w v : List ℕ) (n : ℕ) → SameBefore l n w v → (k : ℕ) → k < n → address_at l v k ≡ address_at l w k
named_by_same l w v n same k below = same.1 (l.start + 2 * k) (λ h. absurd (omega (arith, h, below)))

pub named_by_kept : (l : Log) (w v : List ℕ) (n : ℕ) → SameBefore l n w v → named_by l v n ≡ named_by l w n
named_by_kept l w v n same =
    ext_get_or 0 (named_by l v n) (named_by l w n) (length-named_by l v n ∙ sym (length-named_by l w n))
    (λ k within. let below : k < n = omega (arith, within, length-named_by l v n) in get_or-named_by l v n k 0 below ∙ named_by_same l w v n same k below
    ∙ sym (get_or-named_by l w n k 0 below))

pub index_kept : (l : Log) (w v : List ℕ) (n : ℕ) (numbers : List ℕ) → SameBefore l n w v → IsIndexOf l w n numbers → IsIndexOf l v n numbers
index_kept l w v n numbers same index = IsIndexOf-same l w v n numbers (named_by_same l w v n same) index

mapped_twice : (l : Log) (w : List ℕ) (ks : List ℕ) → map (address_at l w) ks ≡ map (λ (e : ℕ × ℕ). e.0) (map (λ (j : ℕ). (address_at l w j, old_at l w j)) ks)
mapped_twice l w [] = refl
mapped_twice l w (k ∷ ks) = ap (λ (ls : List ℕ). address_at l w k ∷ ls) (mapped_twice l w ks)

-- the addresses that the entries name are those that count
pub named_touched : (w : List ℕ) → named_by (log_of w) w (count_of w) ≡ touched_of w
unfolding named_by touched_of
named_touched w = mapped_twice (log_of w) w (range_with_len 0 (count_of w))

pub names_touched : (l : Log) (w : List ℕ) → l ≡ log_of w → named_by l w (count_of w) ≡ touched_of w
names_touched l w is = ap (λ (m : Log). named_by m w (count_of w)) is ∙ named_touched w

-- ---- the entries are counted, where there are more

counted_by : (w v u : List ℕ) (first : ℕ) (changes : List (ℕ × ℕ)) (b : Bool) → IsGoodLog w → ArePlaces (limit_of w) changes → first ≡ count_of w
    → first + length changes ≤ capacity_of w →
    SameBefore (log_of w) first w v → HasEntries (log_of w) first changes w v → (b ≡ true → changes ≡ []) → u ≡ (if b then v else set v count_address (first + length changes))
    → Counted w changes u
counted_by w v u first changes true good places is room same has none written =
    subst (λ (cs : List (ℕ × ℕ)). Counted w cs u) (sym (none refl)) (subst (Counted w []) (sym written) (kept_before w v first good is same))
counted_by w v u first changes false good places is room same has none written =
    subst (Counted w changes) (sym written) (counted_at w v first changes good places is room same has)

-- no changes, where there are no more entries
none_more : (first : ℕ) (changes : List (ℕ × ℕ)) → (first == first + length changes) ≡ true → changes ≡ []
none_more first [] is = refl
none_more first (c ∷ cs) is = absurd (omega (arith, eqb-true first (first + length (c ∷ cs)) is))

-- how many writes that is
pub inside_sum : (first behind n m : ℕ) → behind ≡ first + m → writes_inside n m ≡ 2 * m + (if first == behind then 0 else 1) + n
inside_sum first behind n m all = elim (cases_eq m 0) [
  | inl none ↦
      let same : ◌≡◌ {A = ℕ} (if first == behind then 0 else 1) 0 = ap (λ (b : Bool). if b then 0 else 1) (eq-eqb first behind (omega (arith, all, none))) in
      let cost : writes_inside n m ≡ n + 0 = ap (λ (b : Bool). n + (if b then 0 else 2 * m + 1)) (eq-eqb m 0 none) in
      omega (arith, same, cost, none)
  | inr some ↦
      let other : ◌≡◌ {A = ℕ} (if first == behind then 0 else 1) 1 = ap (λ (b : Bool). if b then 0 else 1) (ne_eqb first behind (λ e. some (omega (arith, all, e)))) in
      let cost : writes_inside n m ≡ n + (2 * m + 1) = ap (λ (b : Bool). n + (if b then 0 else 2 * m + 1)) (ne_eqb m 0 some) in
      omega (arith, other, cost)
]

-- what needs an entry, by the entries' own words
pub needing_names : (l : Log) (w : List ℕ) (first born : ℕ) (changes : List (ℕ × ℕ)) → l ≡ log_of w → first ≡ count_of w
    → length (needing (named_by l w first) born changes) ≡ length (needing (touched_of w) born changes)
needing_names l w first born changes log is =
    ap (λ (t : List ℕ). length (needing t born changes)) (ap (named_by l w) is ∙ names_touched l w log)

pub stays_counted : {w u : List ℕ} {changes : List (ℕ × ℕ)} → Counted w changes u → KeepsTransaction w u
stays_counted now = record { good = now.good; size = now.size; log = now.log; live = ap live_words now.recovered; top = ap top_of now.recovered }

-- before the entries are counted
pub stays_put : {l : Log} {w v : List ℕ} {first : ℕ} → HasLog l w → first ≡ count_of w → SameBefore l first w v → KeepsTransaction w v
stays_put {w = w} {v = v} {first = first} has is same =
    stays_counted (kept_before w v first has.good is (subst (λ (m : Log). SameBefore m first w v) has.stands same))

-- what is free stays so
pub free_kept : {w u : List ℕ} {born : ℕ} → KeepsTransaction w u → IsFreeFrom w born → IsFreeFrom u born
free_kept {w = w} {u = u} stays free a high below =
    let above = free a high (omega (arith, below, limit-same w u stays.size stays.log)) in
    let top = stays.top in omega (arith, above, top)

-- and once they are: the words stand for the same
pub record Counting (l : Log) (w u : List ℕ) (first behind born : ℕ) (changes : List (ℕ × ℕ)) : Type 0 where
  pub done : Counted w (needing (touched_of w) born changes) u
  pub writes : (n : ℕ) → writes_inside n (length (needing (touched_of w) born changes))
      ≡ 2 * length (needing (named_by l w first) born changes) + (if first == behind then 0 else 1) + n
  pub count : (x : List ℕ) → touched_of x ≡ touched_of w ++ addresses_of (needing (touched_of w) born changes) → count_of x ≡ behind

pub counting : {l : Log} {w v : List ℕ} {first behind born : ℕ} (u : List ℕ) (changes : List (ℕ × ℕ)) → HasLog l w → ArePlaces (limit_of w) changes
    → count_of w + length (needing (touched_of w) born changes) ≤ l.capacity → first ≡ count_of w
    → ArePut l first (needing (named_by l w first) born changes) w v behind → u ≡ (if first == behind then v else set v count_address behind)
    → Counting l w u first behind born changes
counting {l = l} {w = w} {v = v} {first = first} {behind = behind} {born = born} u changes has in_heap fits is put written =
    let needed : List (ℕ × ℕ) = needing (touched_of w) born changes in
    let names : named_by l w first ≡ touched_of w = ap (named_by l w) is ∙ names_touched l w has.stands in
    let words : v ≡ with_entries (log_of w) w first needed = put.words ∙ (λ i. with_entries (has.stands i) w first (needing (names i) born changes)) in
    let room : first + length needed ≤ capacity_of w = omega (arith, fits, is, ap (λ (m : Log). m.capacity) has.stands) in
    let all : behind ≡ first + length needed = put.next ∙ ap (λ (t : List ℕ). first + length (needing t born changes)) names in
    let places : ArePlaces (limit_of w) needed = places_needing (touched_of w) born (limit_of w) changes in_heap in
    let same : SameBefore (log_of w) first w v = subst (SameBefore (log_of w) first w) (sym words) (same_with (log_of w) w first needed room) in
    let entries : HasEntries (log_of w) first needed w v = subst (HasEntries (log_of w) first needed w) (sym words)
    (has_with (log_of w) w first needed room (bounds_of w has.good).within (places_beside w needed has.good places)) in
    record {
      done = counted_by w v u first needed (first == first + length needed) has.good places is room same entries (none_more first needed)
          (written ∙ ap (λ (n : ℕ). if first == n then v else set v count_address n) all);
      writes = λ n. inside_sum first behind n (length needed) all
          ∙ ap (λ (t : List ℕ). 2 * length (needing t born changes) + (if first == behind then 0 else 1) + n) (sym names);
      count = λ x grown. omega (
        arith,
        length-touched x,
        ap (λ (xs : List ℕ). length xs) grown,
        length-append (touched_of w) (addresses_of needed),
        length-addresses needed,
        length-touched w,
        all,
        is,
      );
    }

-- ---- then each word goes back

some_step : (b : Bool) (x : ℕ) (o p : Option ℕ) → (IsSome o → IsSome p) → IsSome (cond b (Some x) o) → IsSome (cond b (Some x) p)
some_step true x o p rest some = refl
some_step false x o p rest some = rest some

some_append : (es more : List (ℕ × ℕ)) (a : ℕ) → IsSome (old_value es a) → IsSome (old_value (es ++ more) a)
some_append [] more a some = absurd (false≢true some)
some_append (e ∷ es) more a some = some_step (e.0 == a) e.1 (old_value es a) (old_value (es ++ more) a) (some_append es more a) some

or_cases : (a b : Bool) → (a || b) ≡ true → (a ≡ true) ⊎ (b ≡ true)
or_cases true b is = inl refl
or_cases false b is = inr is

some_is : (o : Option ℕ) (y : ℕ) → o ≡ Some y → IsSome o
some_is o y is = ap is_some is

new_named : (w : List ℕ) (es changes : List (ℕ × ℕ)) (c : ℕ × ℕ) → Contains changes c → IsSome (old_value (es ++ map (entry_of w) changes) c.0)
new_named w es changes c r = subst (λ (b : ℕ). IsSome (old_value (es ++ map (entry_of w) changes) b))
    (ap (λ (d : ℕ × ℕ). d.0) (get_or_default changes r.0 (0, 0) c r.1 ∙ r.2)) (named_new w es changes r.0 r.1)

is_taken_back_one : (w : List ℕ) (es changes : List (ℕ × ℕ)) (born k : ℕ) → k < length changes →
    IsSome (old_value (es ++ map (entry_of w) (needing (map (λ (e : ℕ × ℕ). e.0) es) born changes)) (target changes k)) ⊎ (born ≤ target changes k)
is_taken_back_one w es changes born k within =
    let touched : List ℕ = map (λ (e : ℕ × ℕ). e.0) es in
    let a : ℕ = target changes k in
    elim (cases_Bool (is_taken_back touched born a)) [
      | inl back ↦ elim (or_cases (list_any (λ x. x == a) touched) (nat_le born a) back) [
        | inl named ↦ let y = listed es a named in inl (some_append es (map (entry_of w) (needing touched born changes)) a (some_is (old_value es a) y.0 y.1))
        | inr high ↦ inr (leb-true born a high)
      ]
      | inr needs ↦ inl (new_named w es (needing touched born changes) (get_or changes k (0, 0))
          (contains_filter (λ c. not (is_taken_back touched born c.0)) changes k (get_or changes k (0, 0)) within
          (get_or_default changes k (get_or changes k (0, 0)) (0, 0) within) (true-not (is_taken_back touched born a) needs)))
    ]

-- the same of one word whose old value has to be kept
pub counting_one : {l : Log} {w v : List ℕ} {n born a : ℕ} (u : List ℕ) (x : ℕ) → HasLog l w → IsPlace (limit_of w) a → n < l.capacity → n ≡ count_of w
    → is_taken_back (touched_of w) born a ≡ false → v ≡ with_entries l w n ((a, 0) ∷ []) → u ≡ (if n == n + 1 then v else set v count_address (n + 1))
    → Counting l w u n (n + 1) born ((a, x) ∷ [])
counting_one {l = l} {w = w} {v = v} {n = n} {born = born} {a = a} u x has place room is new entry written =
    let names : named_by l w n ≡ touched_of w = ap (named_by l w) is ∙ names_touched l w has.stands in
    let one : needing (touched_of w) born ((a, x) ∷ []) ≡ (a, x) ∷ [] = needing_one (touched_of w) born (a, x) new in
    let named : needing (named_by l w n) born ((a, x) ∷ []) ≡ (a, x) ∷ [] = ap (λ (t : List ℕ). needing t born ((a, x) ∷ [])) names ∙ one in
    counting u ((a, x) ∷ []) has (place_one (limit_of w) a x place) (omega (arith, room, is, ap (λ (l : List (ℕ × ℕ)). length l) one)) is
    (subst (λ (xs : List (ℕ × ℕ)). ArePut l n xs w v (n + 1)) (sym named) (record { next = refl; words = entry })) written

pub all_go_back : (w u : List ℕ) (born : ℕ) (changes : List (ℕ × ℕ)) → entries u ≡ entries w ++ map (entry_of w) (needing (touched_of w) born changes)
    → GoBack u born changes
unfolding touched_of
all_go_back w u born changes is k within =
    subst (λ (es : List (ℕ × ℕ)). IsSome (old_value es (target changes k)) ⊎ (born ≤ target changes k)) (sym is)
    (is_taken_back_one w (entries w) changes born k within)

-- ---- a word that goes back is written

pub record Through (w : List ℕ) (a x : ℕ) (v : List ℕ) : Type 0 where
  pub stays : KeepsTransaction w v
  pub entries : entries v ≡ entries w
  pub plain : plain_of v ≡ set (plain_of w) a x

abbrev SameLive : List ℕ → List ℕ → Type 0
SameLive old new = (live_words new ≡ live_words old) × (top_of new ≡ top_of old)

same_live : (b : Bool) (p : List ℕ) (a x : ℕ) → (b ≡ false → (top_of p ≤ a) × (log_end ≤ a)) → SameLive p (if b then p else set p a x)
same_live true p a x high = (refl, refl)
same_live false p a x high =
    let h = high refl in (live_words-set p a x h.0 h.1, get_or-set_other p a top_address x 0 (λ same. absurd (omega (arith, h.1, same))))

pub through : (w : List ℕ) (a x born : ℕ) → IsGoodLog w → IsPlace (limit_of w) a → IsFreeFrom w born → IsSome (old_value (entries w) a) ⊎ (born ≤ a) → Through w a x (set w a x)
unfolding touched_of
through w a x born good place free back =
    let read = place_spot w a good place in
    let named : Bool = list_any (λ b. b == a) (touched_of w) in
    let high : named ≡ false → (top_of (recovered_of w) ≤ a) × (log_end ≤ a) = λ unnamed. ⊎_elim
    (λ some. absurd (false≢true (sym (ap is_some (unlisted (entries w) a unnamed)) ∙ some)))
    (λ le. let above = free a le place.below in (omega (arith, above), omega (arith, above)))
    back in
    let is : recovered_of (set w a x) ≡ (if named then recovered_of w else set (recovered_of w) a x) = recovered-set_place w a x good read in
    let both : SameLive (recovered_of w) (recovered_of (set w a x)) = subst (λ (r : List ℕ). SameLive (recovered_of w) r) (sym is)
    (same_live named (recovered_of w) a x high) in
    record {
      stays = record { good = IsGoodLog-set_place w a x good read; size = length-set w a x; log = log-set w a x read; live = both.0; top = both.1 };
      entries = entries-set_place w a x good read;
      plain = plain-set_place w a x good read;
    }

-- ---- a state and its words

mapped_step : (b : Bool) (c : ℕ × ℕ) (us : List (ℕ × ℕ)) → addresses_of (cond b (c ∷ us) us) ≡ cond b (c.0 ∷ addresses_of us) (addresses_of us)
mapped_step true c us = refl
mapped_step false c us = refl

pub mapped_filter : (q : ℕ → Bool) (cs : List (ℕ × ℕ)) → addresses_of (filter (λ c. q c.0) cs) ≡ filter q (addresses_of cs)
mapped_filter q [] = refl
mapped_filter q (c ∷ cs) = mapped_step (q c.0) c (filter (λ d. q d.0) cs) ∙ ap (λ (l : List ℕ). cond (q c.0) (c.0 ∷ l) l) (mapped_filter q cs)

-- what goes back, by the index and the births of an open transaction
pub back_by : {w numbers : List ℕ} {d t : Bool} {l : Log} {born n p : ℕ} {r : Refusals} {s : State} → IsSound w d t l born numbers → state_of w t d p r ≡ s
    → s.down ≡ false → t ≡ true → n ≡ count_of w → (a : ℕ) → is_taken_back (named_by l w n) born a ≡ is_taken_back s.touched (born_of s.recovered) a
back_by {w = w} {l = l} sound v up inside is a =
    (λ i. is_taken_back (ap (named_by l w) is i) (sound.births inside (ap (λ (s : State). s.down) v ∙ up) i) a)
    ∙ (λ i. is_taken_back (names_touched l w sound.stands i) (born_of (recovered_of w)) a) ∙ ap (λ (s : State). is_taken_back s.touched (born_of s.recovered) a) v

-- the addresses of what needs an entry are those that a state adds
pub needing_is : (w : List ℕ) (s : State) (born : ℕ) (changes : List (ℕ × ℕ)) → touched_of w ≡ s.touched → recovered_of w ≡ s.recovered → born
    ≡ born_of (recovered_of w) →
    addresses_of (needing (touched_of w) born changes) ≡ new_ones s (addresses_of changes)
needing_is w s born changes touched recovered is =
    mapped_filter (λ a. not (is_taken_back (touched_of w) born a)) changes
    ∙ ap (λ (t : List ℕ). filter (λ a. not (is_taken_back t born a)) (addresses_of changes)) touched
    ∙ ap (λ (b : ℕ). filter (λ a. not (is_taken_back s.touched b a)) (addresses_of changes)) (is ∙ ap born_of recovered)

pub length-needing : (w : List ℕ) (s : State) (born : ℕ) (changes : List (ℕ × ℕ)) → touched_of w ≡ s.touched → recovered_of w ≡ s.recovered → born
    ≡ born_of (recovered_of w) →
    length (needing (touched_of w) born changes) ≡ length (new_ones s (addresses_of changes))
length-needing w s born changes touched recovered is =
    sym (length-map (needing (touched_of w) born changes) (λ (c : ℕ × ℕ). c.0)) ∙ ap (λ (l : List ℕ). length l)
    (needing_is w s born changes touched recovered is)

-- the entries are part of it
pub most_kept : (n m : ℕ) → 2 * m ≤ writes_inside n m
most_kept n m = elim (cases_eq m 0) [
  | inl none ↦ omega (arith, none)
  | inr some ↦
      let cost : writes_inside n m ≡ n + (2 * m + 1) = ap (λ (b : Bool). n + (if b then 0 else 2 * m + 1)) (ne_eqb m 0 some) in
      omega (arith, cost)
]
