-- The index of entries: what is found in it, and one entry more.
use Rattle.std.proofs.Common.{◌≡◌, ℕ, ◌+◌, ◌-◌, ◌<◌, ◌≤◌, ◌==◌, ◌++◌, true, false, List, [], length, get_or, slice_index, is_ok, MatchResult, sym, subst, ◌∙◌, ap, arith}
use Rattle.std.proofs.Common.{Result, Ok, Err, inl, inr, insert, eq-eqb, ne_eqb, length-append, Bool, ◌||◌}
use Rattle.std.specs.Prelude.{nat_le}
use Rattle.std.proofs.lemmas.List.{get_or_append_left}
use Rattle.std.specs.List.{list_any}
use Rattle.std.proofs.lemmas.Bool.{cases_eq, cases_lt}
use Rattle.std.proofs.lemmas.List.Edits.{length-insert, get_or-insert_below, get_or-insert_at, get_or-insert_above}
use Rattle.std.proofs.lemmas.List.Folds.{list_any_none, list_any_at}
use Rattle.std.proofs.lemmas.List.FromFn.{length-map-range_with_len, get_or-map-range_with_len}
use Rattle.jc_commit.specs.Image.{address_at}
use Rattle.jc_words.specs.declared.log.Log.{Log}
use Rattle.jc_commit.specs.Entries.{AreDistinct}
use Rattle.jc_commit.specs.EntryIndex.{named_by, IsIndexOf, StandsAt, IsGapFor}
use Rattle.jc_commit.specs.Keep.{is_taken_back}

pub length-named_by : (l : Log) (w : List ℕ) (n : ℕ) → length (named_by l w n) ≡ n
unfolding named_by
length-named_by l w n = length-map-range_with_len (address_at l w) 0 n

pub get_or-named_by : (l : Log) (w : List ℕ) (n k d : ℕ) → k < n → get_or (named_by l w n) k d ≡ address_at l w k
unfolding named_by
get_or-named_by l w n k d below = get_or-map-range_with_len (address_at l w) 0 n k k d below (omega arith)

-- where an entry stands that names an address, one names it
pub stands_named : (l : Log) (w numbers : List ℕ) (n a i : ℕ) → IsIndexOf l w n numbers → StandsAt l w numbers a i → list_any (λ x. x == a) (named_by l w n) ≡ true
stands_named l w numbers n a i index found =
    let k : ℕ = slice_index numbers i in
    let below : k < n = index.counted i found.within in
    list_any_at (λ x. x == a) (named_by l w n) k 0 (omega (arith, below, length-named_by l w n))
    (eq-eqb (get_or (named_by l w n) k 0) a (get_or-named_by l w n k 0 below ∙ found.names))

-- entries before a lower one are lower, those after a higher one are higher
pub lower_to : (l : Log) (w numbers : List ℕ) (n a m : ℕ) → IsIndexOf l w n numbers → m < length numbers → address_at l w (slice_index numbers m) < a
    → (k : ℕ) → k ≤ m → address_at l w (slice_index numbers k) < a
lower_to l w numbers n a m index within lower k to = elim (cases_lt k m) [
  | inl before ↦ let rising = index.rising k m before within in omega (arith, rising, lower)
  | inr there ↦ subst (λ (j : ℕ). address_at l w (slice_index numbers j) < a) (omega (arith, there, to)) lower
]

pub higher_from : (l : Log) (w numbers : List ℕ) (n a m : ℕ) → IsIndexOf l w n numbers → a < address_at l w (slice_index numbers m)
    → (k : ℕ) → m ≤ k → k < length numbers → a < address_at l w (slice_index numbers k)
higher_from l w numbers n a m index higher k from within = elim (cases_lt m k) [
  | inl behind ↦ let rising = index.rising m k behind within in omega (arith, rising, higher)
  | inr there ↦ subst (λ (j : ℕ). a < address_at l w (slice_index numbers j)) (omega (arith, there, from)) higher
]

-- gaps before the first entry and after the last one
pub gap_in_none : (l : Log) (w numbers : List ℕ) (a : ℕ) → length numbers ≡ 0 → IsGapFor l w numbers a 0
gap_in_none l w numbers a none = record { within = omega arith; lower = λ k before. omega (arith, before); higher = λ k _ within. omega (arith, within, none) }

pub gap_first : (l : Log) (w numbers : List ℕ) (n a : ℕ) → IsIndexOf l w n numbers → a < address_at l w (slice_index numbers 0) → IsGapFor l w numbers a 0
gap_first l w numbers n a index higher =
    record { within = omega arith; lower = λ k before. omega (arith, before); higher = higher_from l w numbers n a 0 index higher }

pub gap_last : (l : Log) (w numbers : List ℕ) (n a : ℕ) → IsIndexOf l w n numbers → (length numbers ≡ 0 → ⊥)
    → address_at l w (slice_index numbers (length numbers - 1)) < a → IsGapFor l w numbers a (length numbers)
gap_last l w numbers n a index some lower = record {
  within = omega arith;
  lower = λ k before. lower_to l w numbers n a (length numbers - 1) index (omega (arith, some)) lower k (omega (arith, before));
  higher = λ k behind within. omega (arith, behind, within);
}

-- in a gap none does
pub gap_named : (l : Log) (w numbers : List ℕ) (n a i : ℕ) → IsIndexOf l w n numbers → IsGapFor l w numbers a i → list_any (λ x. x == a) (named_by l w n) ≡ false
gap_named l w numbers n a i index gap =
    list_any_none (λ x. x == a) (named_by l w n) (λ k d within.
    let below : k < n = omega (arith, within, length-named_by l w n) in
    ne_eqb (get_or (named_by l w n) k d) a (λ same. none (index.all k below).0 (index.all k below).1 (ap (address_at l w) (index.all k below).2
    ∙ sym (get_or-named_by l w n k d below) ∙ same)))
  where
    none : (j : ℕ) → j < length numbers → address_at l w (slice_index numbers j) ≡ a → ⊥
    none j within same = elim (cases_lt j i) [
      | inl before ↦ let l = gap.lower j before in omega (arith, l, same)
      | inr behind ↦ let h = gap.higher j behind within in omega (arith, h, same)
    ]

pub found_named : (l : Log) (w numbers : List ℕ) (n a : ℕ) (r : Result ℕ ℕ) → IsIndexOf l w n numbers → MatchResult r (StandsAt l w numbers a) (IsGapFor l w numbers a)
    → is_ok r ≡ list_any (λ x. x == a) (named_by l w n)
found_named l w numbers n a (Ok i) index found = sym (stands_named l w numbers n a i index found)
found_named l w numbers n a (Err i) index gap = sym (gap_named l w numbers n a i index gap)

-- an index is one of words whose entries name the same
pub IsIndexOf-same : (l : Log) (w v : List ℕ) (n : ℕ) (numbers : List ℕ) → ((k : ℕ) → k < n → address_at l v k ≡ address_at l w k) → IsIndexOf l w n numbers
    → IsIndexOf l v n numbers
IsIndexOf-same l w v n numbers same index = record {
  long = index.long;
  counted = index.counted;
  rising = λ i j less within.
      let r = index.rising i j less within in
      let a = same (slice_index numbers i) (index.counted i (omega (arith, less, within))) in
      let b = same (slice_index numbers j) (index.counted j within) in
      omega (arith, r, a, b);
  all = index.all;
}

-- the first entries name the same where all name more
pub address_later : (l : Log) (w u : List ℕ) (n m : ℕ) (numbers more : List ℕ) → named_by l u m ≡ named_by l w n ++ more → (k : ℕ) → k < n
    → address_at l u k ≡ address_at l w k
address_later l w u n m numbers more names k below =
    let long : m ≡ n + length more = sym (length-named_by l u m) ∙ ap (λ (xs : List ℕ). length xs) names ∙ length-append (named_by l w n) more
    ∙ ap (λ (k : ℕ). k + length more) (length-named_by l w n) in
    sym (get_or-named_by l u m k 0 (omega (arith, below, long))) ∙ ap (λ (xs : List ℕ). get_or xs k 0) names
    ∙ get_or_append_left (named_by l w n) more 0 k (omega (arith, below, length-named_by l w n)) ∙ get_or-named_by l w n k 0 below

-- and an index is one of words whose entries name more
pub index_later : (l : Log) (w u : List ℕ) (n m : ℕ) (numbers more : List ℕ) → named_by l u m ≡ named_by l w n ++ more → IsIndexOf l w n numbers → IsIndexOf l u n numbers
index_later l w u n m numbers more names index = IsIndexOf-same l w u n numbers (address_later l w u n m numbers more names) index

-- what an index is of are different words
pub index_distinct : (l : Log) (w : List ℕ) (n : ℕ) (numbers : List ℕ) → IsIndexOf l w n numbers → AreDistinct (named_by l w n)
index_distinct l w n numbers index i j d less within same =
    let below : j < n = omega (arith, within, length-named_by l w n) in
    let x = index.all i (omega (arith, less, below)) in
    let y = index.all j below in
    let addresses : address_at l w (slice_index numbers x.0) ≡ address_at l w (slice_index numbers y.0) =
    ap (address_at l w) x.2 ∙ sym (get_or-named_by l w n i d (omega (arith, less, below))) ∙ same ∙ get_or-named_by l w n j d below ∙ sym (ap (address_at l w) y.2) in
    elim (cases_lt x.0 y.0) [
      | inl before ↦ let r = index.rising x.0 y.0 before y.1 in omega (arith, r, addresses)
      | inr behind ↦ elim (cases_eq x.0 y.0) [
        | inl here ↦ let at = ap (slice_index numbers) here in omega (arith, at, x.2, y.2, less)
        | inr other ↦ let r = index.rising y.0 x.0 (omega (arith, behind, other)) x.1 in omega (arith, r, addresses)
      ]
    ]

-- of entries that name different words, so do the first
pub distinct_first : (l : Log) (w : List ℕ) (k n : ℕ) → k ≤ n → AreDistinct (named_by l w n) → AreDistinct (named_by l w k)
distinct_first l w k n few distinct i j d less within same =
    let below : j < k = omega (arith, within, length-named_by l w k) in
    distinct i j d less (omega (arith, below, few, length-named_by l w n))
    (get_or-named_by l w n i d (omega (arith, less, below, few)) ∙ sym (get_or-named_by l w k i d (omega (arith, less, below))) ∙ same
    ∙ get_or-named_by l w k j d below ∙ sym (get_or-named_by l w n j d (omega (arith, below, few))))

-- and none before one names its address
pub none_stands : (l : Log) (w numbers : List ℕ) (n a i : ℕ) → IsIndexOf l w n numbers → AreDistinct (named_by l w (n + 1)) → a ≡ address_at l w n
    → StandsAt l w numbers a i → ⊥
none_stands l w numbers n a i index distinct is found =
    let k : ℕ = slice_index numbers i in
    let below : k < n = index.counted i found.within in
    distinct k n 0 below (omega (arith, length-named_by l w (n + 1)))
    (get_or-named_by l w (n + 1) k 0 (omega (arith, below)) ∙ found.names ∙ is ∙ sym (get_or-named_by l w (n + 1) n 0 (omega arith)))

-- with no entry there is nothing in the index
pub index_none : (l : Log) (w : List ℕ) (n : ℕ) (numbers : List ℕ) → n ≡ 0 → numbers ≡ [] → IsIndexOf l w n numbers
index_none l w n numbers none empty = subst (λ (ns : List ℕ). IsIndexOf l w n ns) (sym empty) (record {
  long = sym none;
  counted = λ i within. absurd (omega (arith, within));
  rising = λ i j less within. absurd (omega (arith, within));
  all = λ k below. absurd (omega (arith, below, none));
})

-- whether an abort takes back the word that an entry names, and one that none names and that was not born in the transaction
pub taken_named : (l : Log) (w numbers : List ℕ) (n born a i : ℕ) → IsIndexOf l w n numbers → StandsAt l w numbers a i → is_taken_back (named_by l w n) born a ≡ true
taken_named l w numbers n born a i index found = ap (λ (b : Bool). b || nat_le born a) (stands_named l w numbers n a i index found)

pub not_taken_named : (l : Log) (w numbers : List ℕ) (n born a i : ℕ) → IsIndexOf l w n numbers → IsGapFor l w numbers a i → nat_le born a ≡ false
    → is_taken_back (named_by l w n) born a ≡ false
not_taken_named l w numbers n born a i index gap young = ap (λ (b : Bool). b || nat_le born a) (gap_named l w numbers n a i index gap) ∙ young

-- a gap for an address is one where entries are the same
pub gap_later : (l : Log) (w u : List ℕ) (n m a i : ℕ) (numbers more : List ℕ) → named_by l u m ≡ named_by l w n ++ more → IsIndexOf l w n numbers
    → IsGapFor l w numbers a i → IsGapFor l u numbers a i
gap_later l w u n m a i numbers more names index gap =
    let same : (k : ℕ) → k < length numbers → address_at l u (slice_index numbers k) ≡ address_at l w (slice_index numbers k) =
    λ k within. address_later l w u n m numbers more names (slice_index numbers k) (index.counted k within) in
    record {
      within = gap.within;
      lower = λ k before. subst (λ (x : ℕ). x < a) (sym (same k (omega (arith, before, gap.within)))) (gap.lower k before);
      higher = λ k behind within. subst (λ (x : ℕ). a < x) (sym (same k within)) (gap.higher k behind within);
    }

-- one entry more, in its gap
module _ (l : Log) (w numbers : List ℕ) (n i : ℕ) (index : IsIndexOf l w n numbers) (gap : IsGapFor l w numbers (address_at l w n) i) where
  abbrev more : List ℕ
  more = insert numbers i n

  long : length more ≡ length numbers + 1
  long = length-insert numbers i n gap.within

  -- a number stands where it stood, or one place on
  below_is : (k : ℕ) → k < i → slice_index more k ≡ slice_index numbers k
  below_is k less = get_or-insert_below numbers i n 0 k less gap.within

  here_is : slice_index more i ≡ n
  here_is = get_or-insert_at numbers i n 0 gap.within

  above_is : (k : ℕ) → i ≤ k → slice_index more (k + 1) ≡ slice_index numbers k
  above_is k le = get_or-insert_above numbers i n 0 k le gap.within

  -- what stands at a place after the new number's
  past_is : (k : ℕ) → i < k → slice_index more k ≡ slice_index numbers (k - 1)
  past_is k less = let e : k ≡ k - 1 + 1 = omega (arith, less) in ap (slice_index more) e ∙ above_is (k - 1) (omega (arith, less))

  counted_more : (k : ℕ) → k < length more → slice_index more k < n + 1
  counted_more k within = elim (cases_lt k i) [
    | inl less ↦ let c = index.counted k (omega (arith, less, gap.within)) in omega (arith, c, below_is k less)
    | inr le ↦ elim (cases_eq k i) [
      | inl same ↦ let h = ap (slice_index more) same ∙ here_is in omega (arith, h)
      | inr other ↦ let c = index.counted (k - 1) (omega (arith, within, long, le, other)) in let p =
          past_is k (omega (arith, le, other)) in omega (arith, c, p)
    ]
  ]

  abbrev key : ℕ → ℕ
  key k = address_at l w (slice_index more k)

  key_below : (k : ℕ) → k < i → key k ≡ address_at l w (slice_index numbers k)
  key_below k less = ap (address_at l w) (below_is k less)

  key_here : (k : ℕ) → k ≡ i → key k ≡ address_at l w n
  key_here k same = ap (λ j. address_at l w (slice_index more j)) same ∙ ap (address_at l w) here_is

  key_past : (k : ℕ) → i < k → key k ≡ address_at l w (slice_index numbers (k - 1))
  key_past k less = ap (address_at l w) (past_is k less)

  rising_more : (j k : ℕ) → j < k → k < length more → key j < key k
  rising_more j k less within = elim (cases_lt k i) [
    | inl low ↦ let r = index.rising j k less (omega (arith, low, gap.within)) in let a = key_below j (omega (arith, less, low)) in let b =
        key_below k low in omega (arith, r, a, b)
    | inr le ↦ elim (cases_eq k i) [
      | inl same ↦ let r = gap.lower j (omega (arith, less, same)) in let a = key_below j (omega (arith, less, same)) in let b =
          key_here k same in omega (arith, r, a, b)
      | inr other ↦ elim (cases_lt j i) [
        | inl low ↦
            let r = index.rising j (k - 1) (omega (arith, low, le, other)) (omega (arith, within, long, le, other)) in
            let a = key_below j low in let b = key_past k (omega (arith, le, other)) in omega (arith, r, a, b)
        | inr high ↦ elim (cases_eq j i) [
          | inl at ↦ let r = gap.higher (k - 1) (omega (arith, le, other)) (omega (arith, within, long, le, other)) in let a = key_here j at in let b =
              key_past k (omega (arith, le, other)) in omega (arith, r, a, b)
          | inr behind ↦
              let r = index.rising (j - 1) (k - 1) (omega (arith, less, high, behind)) (omega (arith, within, long, le, other)) in
              let a = key_past j (omega (arith, high, behind)) in let b = key_past k (omega (arith, le, other)) in omega (arith, r, a, b)
        ]
      ]
    ]
  ]

  all_more : (k : ℕ) → k < n + 1 → (j : ℕ) × (j < length more) × (slice_index more j ≡ k)
  all_more k below = elim (cases_eq k n) [
    | inl same ↦ (i, omega (arith, long, gap.within), here_is ∙ sym same)
    | inr other ↦
        let was = index.all k (omega (arith, below, other)) in
        elim (cases_lt was.0 i) [
          | inl low ↦ (was.0, omega (arith, long, was.1), below_is was.0 low ∙ was.2)
          | inr high ↦ (was.0 + 1, omega (arith, long, was.1), above_is was.0 high ∙ was.2)
        ]
  ]

  pub index_more : IsIndexOf l w (n + 1) more
  index_more = record { long = omega (arith, long, index.long); counted = counted_more; rising = rising_more; all = all_more }
