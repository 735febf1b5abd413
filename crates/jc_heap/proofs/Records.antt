-- What stays of a cut when words change or are added.
use Rattle.std.proofs.Common.{true, false, ◌≡◌, ℕ, zero, suc, ◌+◌, ◌<◌, ◌≤◌, inl, inr, List, [], ◌∷◌, ◌++◌, length, take, drop, set, get_or, refl, ◌∙◌, ap}
use Rattle.std.proofs.Common.{arith, add-zero}
use Rattle.std.proofs.lemmas.List.{take-append-le, take-set-le, length-take, length-take-le, get_or-take}
use Rattle.std.proofs.lemmas.Bool.{cases_eq, eq-eqb, ne_eqb, false≢true}
use Rattle.jc_heap.specs.Walk.{Sizes, records_from, missing_words, entry_or, has_entry, with_entry}

-- words before the next record don't matter to the cut
pub records_from-set_skipped : (more : Sizes) (s at : ℕ) (ws : List ℕ) (k v : ℕ) → k < s → records_from more s at (set ws k v) ≡ records_from more s at ws
records_from-set_skipped more s at [] k v h = refl
records_from-set_skipped more zero at (w ∷ ws) k v h = absurd (omega arith)
records_from-set_skipped more (suc s) at (w ∷ ws) zero v h = refl
records_from-set_skipped more (suc s) at (w ∷ ws) (suc k) v h = records_from-set_skipped more s (suc at) ws k v (omega arith)

pub missing_words-set_skipped : (more : Sizes) (s at : ℕ) (ws : List ℕ) (k v : ℕ) → k < s → missing_words more s at (set ws k v) ≡ missing_words more s at ws
missing_words-set_skipped more s at [] k v h = refl
missing_words-set_skipped more zero at (w ∷ ws) k v h = absurd (omega arith)
missing_words-set_skipped more (suc s) at (w ∷ ws) zero v h = refl
missing_words-set_skipped more (suc s) at (w ∷ ws) (suc k) v h = missing_words-set_skipped more s (suc at) ws k v (omega arith)

-- a whole table holds what it skips
pub skips_within : (more : Sizes) (s at : ℕ) (ws : List ℕ) → missing_words more s at ws ≡ 0 → s ≤ length ws
skips_within more s at [] e = omega arith
skips_within more zero at (w ∷ ws) e = omega arith
skips_within more (suc s) at (w ∷ ws) e = let h : s ≤ length ws = skips_within more s (suc at) ws e in omega arith

-- a record that is there lies after the skipped words
pub named_behind : (more : Sizes) (s at : ℕ) (ws : List ℕ) (r j : ℕ) → j < length (entry_or [] (records_from more s at ws) r) → at + s ≤ r
named_behind more s at [] r j h = absurd (omega arith)
named_behind more (suc s) at (w ∷ ws) r j h = let b : suc at + s ≤ r = named_behind more s (suc at) ws r j h in omega arith
named_behind more zero at (w ∷ ws) r j h = elim (cases_eq at r) [
  | inl e ↦ omega arith
  | inr n ↦
      let there : j < length (entry_or [] (records_from more (more at (w ∷ ws)) (suc at) ws) r) = rw (ne_eqb at r n) at h in
      let b : suc at + more at (w ∷ ws) ≤ r = named_behind more (more at (w ∷ ws)) (suc at) ws r j there in
      omega arith
]

-- how the sizes of records are read from the words
pub record Tells (more : Sizes) : Type 0 where
  -- of a whole record, from its own words
  pub whole : (at w : ℕ) (ws ys : List ℕ) → more at (w ∷ ws) ≤ length ws → more at (w ∷ ws ++ ys) ≡ more at (w ∷ ws)
  -- from the first four words
  pub header : (at : ℕ) (ws : List ℕ) (k v : ℕ) → 4 ≤ k → more at (set ws k v) ≡ more at ws

-- records after a whole table
pub records_from-append : (more : Sizes) → Tells more → (s at : ℕ) (xs ys : List ℕ) → missing_words more s at xs ≡ 0
    → records_from more s at (xs ++ ys) ≡ records_from more s at xs ++ records_from more 0 (at + length xs) ys
records_from-append more t s at [] ys e = rw (e, add-zero) refl
records_from-append more t (suc s) at (w ∷ xs) ys e =
    let here : suc at + length xs ≡ at + suc (length xs) = omega arith in
    records_from-append more t s (suc at) xs ys e ∙ ap (λ m. records_from more s (suc at) xs ++ records_from more 0 m ys) here
records_from-append more t zero at (w ∷ xs) ys e =
    let le : more at (w ∷ xs) ≤ length xs = skips_within more _ (suc at) xs e in
    let here : suc at + length xs ≡ at + suc (length xs) = omega arith in
    let ih : records_from more (more at (w ∷ xs)) (suc at) (xs ++ ys) ≡ records_from more (more at (w ∷ xs)) (suc at) xs
    ++ records_from more 0 (at + suc (length xs)) ys =
    records_from-append more t (more at (w ∷ xs)) (suc at) xs ys e ∙ ap (λ m. records_from more (more at (w ∷ xs)) (suc at) xs ++ records_from more 0 m ys) here
    in
    rw (t.whole at w xs ys le, take-append-le (more at (w ∷ xs)) xs ys le, ih) refl

pub take-set_comm : (n : ℕ) (ws : List ℕ) (i v : ℕ) → take n (set ws i v) ≡ set (take n ws) i v
take-set_comm zero ws i v = refl
take-set_comm (suc n) [] i v = refl
take-set_comm (suc n) (w ∷ ws) zero v = refl
take-set_comm (suc n) (w ∷ ws) (suc i) v = ap (λ l. w ∷ l) (take-set_comm n ws i v)

-- a word of one record, after its header, changes that record alone
pub records_from-set : (more : Sizes) → Tells more → (s at : ℕ) (ws : List ℕ) (r j i v : ℕ) → 4 ≤ j → j < length (entry_or [] (records_from more s at ws) r)
    → at + i ≡ r + j →
    records_from more s at (set ws i v) ≡ with_entry (records_from more s at ws) r (set (entry_or [] (records_from more s at ws) r) j v)
records_from-set more t s at [] r j i v four h e = refl
records_from-set more t (suc s) at (w ∷ ws) r j zero v four h e = let b : at + suc s ≤ r = named_behind more (suc s) at (w ∷ ws) r j h in absurd (omega arith)
records_from-set more t (suc s) at (w ∷ ws) r j (suc i) v four h e = records_from-set more t s (suc at) ws r j i v four h (omega arith)
records_from-set more t zero at (w ∷ ws) r j zero v four h e = let b : at + 0 ≤ r = named_behind more 0 at (w ∷ ws) r j h in absurd (omega arith)
records_from-set more t zero at (w ∷ ws) r j (suc i) v four h e =
    let size : more at (w ∷ set ws i v) ≡ more at (w ∷ ws) = t.header at (w ∷ ws) (suc i) v (omega (arith, named_behind more 0 at (w ∷ ws) r j h)) in
    elim (cases_eq at r) [
      | inl is ↦
          let je : j ≡ suc i = omega arith in
          let within : suc i < suc (length (take (more at (w ∷ ws)) ws)) = rw (eq-eqb at r is, je) at h in
          let near : i < more at (w ∷ ws) = omega (arith, length-take (more at (w ∷ ws)) ws) in
          rw (eq-eqb at r is, je, size, take-set_comm (more at (w ∷ ws)) ws i v, records_from-set_skipped more (more at (w ∷ ws)) (suc at) ws i v near) refl
      | inr n ↦
          let there : j < length (entry_or [] (records_from more (more at (w ∷ ws)) (suc at) ws) r) = rw (ne_eqb at r n) at h in
          let b : suc at + more at (w ∷ ws) ≤ r = named_behind more (more at (w ∷ ws)) (suc at) ws r j there in
          let far : more at (w ∷ ws) ≤ i = omega arith in
          rw (
            ne_eqb at r n,
            size,
            take-set-le (more at (w ∷ ws)) ws i v far,
            records_from-set more t (more at (w ∷ ws)) (suc at) ws r j i v four there
                (omega arith),
          ) refl
    ]

-- such a word leaves the table whole
pub missing_words-set : (more : Sizes) → Tells more → (s at : ℕ) (ws : List ℕ) (r j i v : ℕ) → 4 ≤ j → j < length (entry_or [] (records_from more s at ws) r)
    → at + i ≡ r + j →
    missing_words more s at (set ws i v) ≡ missing_words more s at ws
missing_words-set more t s at [] r j i v four h e = refl
missing_words-set more t (suc s) at (w ∷ ws) r j zero v four h e = refl
missing_words-set more t (suc s) at (w ∷ ws) r j (suc i) v four h e = missing_words-set more t s (suc at) ws r j i v four h (omega arith)
missing_words-set more t zero at (w ∷ ws) r j zero v four h e = let b : at + 0 ≤ r = named_behind more 0 at (w ∷ ws) r j h in absurd (omega arith)
missing_words-set more t zero at (w ∷ ws) r j (suc i) v four h e =
    let size : more at (w ∷ set ws i v) ≡ more at (w ∷ ws) = t.header at (w ∷ ws) (suc i) v (omega (arith, named_behind more 0 at (w ∷ ws) r j h)) in
    elim (cases_eq at r) [
      | inl is ↦
          let je : j ≡ suc i = omega arith in
          let within : suc i < suc (length (take (more at (w ∷ ws)) ws)) = rw (eq-eqb at r is, je) at h in
          let near : i < more at (w ∷ ws) = omega (arith, length-take (more at (w ∷ ws)) ws) in
          ap (λ n. missing_words more n (suc at) (set ws i v)) size ∙ missing_words-set_skipped more (more at (w ∷ ws)) (suc at) ws i v near
      | inr n ↦
          let there : j < length (entry_or [] (records_from more (more at (w ∷ ws)) (suc at) ws) r) = rw (ne_eqb at r n) at h in
          ap (λ n. missing_words more n (suc at) (set ws i v)) size ∙ missing_words-set more t (more at (w ∷ ws)) (suc at) ws r j i v four there (omega arith)
    ]

-- after a whole table, a table is as it stands alone
pub missing_words-append : (more : Sizes) → Tells more → (s at : ℕ) (xs ys : List ℕ) → missing_words more s at xs ≡ 0
    → missing_words more s at (xs ++ ys) ≡ missing_words more 0 (at + length xs) ys
missing_words-append more t s at [] ys e = rw (e, add-zero) refl
missing_words-append more t (suc s) at (w ∷ xs) ys e =
    let here : suc at + length xs ≡ at + suc (length xs) = omega arith in
    missing_words-append more t s (suc at) xs ys e ∙ ap (λ m. missing_words more 0 m ys) here
missing_words-append more t zero at (w ∷ xs) ys e =
    let le : more at (w ∷ xs) ≤ length xs = skips_within more _ (suc at) xs e in
    let here : suc at + length xs ≡ at + suc (length xs) = omega arith in
    ap (λ n. missing_words more n (suc at) (xs ++ ys)) (t.whole at w xs ys le) ∙ missing_words-append more t (more at (w ∷ xs)) (suc at) xs ys e
    ∙ ap (λ m. missing_words more 0 m ys) here

-- where a record's words stand
pub entry_or-records_from : (more : Sizes) (s at : ℕ) (ws : List ℕ) (r j i : ℕ) → j < length (entry_or [] (records_from more s at ws) r) → at + i ≡ r + j →
    (i < length ws) × (get_or (entry_or [] (records_from more s at ws) r) j 0 ≡ get_or ws i 0)
entry_or-records_from more s at [] r j i h e = absurd (omega arith)
entry_or-records_from more (suc s) at (w ∷ ws) r j zero h e = let b : at + suc s ≤ r = named_behind more (suc s) at (w ∷ ws) r j h in absurd (omega arith)
entry_or-records_from more (suc s) at (w ∷ ws) r j (suc i) h e =
    let ih : (i < length ws) × (get_or (entry_or [] (records_from more s (suc at) ws) r) j 0 ≡ get_or ws i 0) =
    entry_or-records_from more s (suc at) ws r j i h (omega arith) in
    (omega arith, ih.1)
entry_or-records_from more zero at (w ∷ ws) r j zero h e =
    let b : at + 0 ≤ r = named_behind more 0 at (w ∷ ws) r j h in
    let is : at ≡ r = omega arith in
    let je : j ≡ 0 = omega arith in
    rw (eq-eqb at r is, je) (omega arith, refl)
entry_or-records_from more zero at (w ∷ ws) r j (suc i) h e = elim (cases_eq at r) [
  | inl is ↦
      let je : j ≡ suc i = omega arith in
      let within : j < length (w ∷ take (more at (w ∷ ws)) ws) = rw (eq-eqb at r is) at h in
      let near : i < more at (w ∷ ws) = omega (arith, length-take (more at (w ∷ ws)) ws) in
      rw (eq-eqb at r is, je) (omega (arith, length-take (more at (w ∷ ws)) ws), get_or-take (more at (w ∷ ws)) ws i 0 near)
  | inr n ↦
      let there : j < length (entry_or [] (records_from more (more at (w ∷ ws)) (suc at) ws) r) = rw (ne_eqb at r n) at h in
      let ih : (i < length ws) × (get_or (entry_or [] (records_from more (more at (w ∷ ws)) (suc at) ws) r) j 0 ≡ get_or ws i 0) =
      entry_or-records_from more (more at (w ∷ ws)) (suc at) ws r j i there (omega arith) in
      rw (ne_eqb at r n) (omega arith, ih.1)
]

-- each record's address lies among the words
pub has_entry-cut_below : (more : Sizes) (s at : ℕ) (ws : List ℕ) (r : ℕ) → at + length ws ≤ r → has_entry (records_from more s at ws) r ≡ false
has_entry-cut_below more s at [] r h = refl
has_entry-cut_below more (suc s) at (w ∷ ws) r h = has_entry-cut_below more s (suc at) ws r (omega arith)
has_entry-cut_below more zero at (w ∷ ws) r h =
    let n : at ≡ r → ⊥ = λ e. omega arith in
    rw (ne_eqb at r n) (has_entry-cut_below more (more at (w ∷ ws)) (suc at) ws r (omega arith))

-- two ways to read sizes that agree at the addresses of these words
pub records_from-same_sizes : (more other : Sizes) (s at : ℕ) (ws : List ℕ) → ((a w : ℕ) (us : List ℕ) → a < at + length ws
    → more a (w ∷ us) ≡ other a (w ∷ us)) → records_from more s at ws ≡ records_from other s at ws
records_from-same_sizes more other s at [] same = refl
records_from-same_sizes more other (suc s) at (w ∷ ws) same = records_from-same_sizes more other s (suc at) ws (λ a u us h. same a u us (omega arith))
records_from-same_sizes more other zero at (w ∷ ws) same =
    rw (same at w ws (omega arith), records_from-same_sizes more other (other at (w ∷ ws)) (suc at) ws (λ a u us h. same a u us (omega arith))) refl

pub missing_words-same_sizes : (more other : Sizes) (s at : ℕ) (ws : List ℕ) → ((a w : ℕ) (us : List ℕ) → a < at + length ws
    → more a (w ∷ us) ≡ other a (w ∷ us)) → missing_words more s at ws ≡ missing_words other s at ws
missing_words-same_sizes more other s at [] same = refl
missing_words-same_sizes more other (suc s) at (w ∷ ws) same = missing_words-same_sizes more other s (suc at) ws (λ a u us h. same a u us (omega arith))
missing_words-same_sizes more other zero at (w ∷ ws) same =
    ap (λ n. missing_words more n (suc at) ws) (same at w ws (omega arith)) ∙ missing_words-same_sizes more other (other at (w ∷ ws)) (suc at) ws
    (λ a u us h. same a u us (omega arith))

-- a name lies after the skipped words
pub has_behind : (more : Sizes) (s at : ℕ) (ws : List ℕ) (r : ℕ) → has_entry (records_from more s at ws) r ≡ true → at + s ≤ r
has_behind more s at [] r h = absurd (false≢true h)
has_behind more (suc s) at (w ∷ ws) r h = let b : suc at + s ≤ r = has_behind more s (suc at) ws r h in omega arith
has_behind more zero at (w ∷ ws) r h = elim (cases_eq at r) [
  | inl e ↦ omega arith
  | inr n ↦
      let there : has_entry (records_from more (more at (w ∷ ws)) (suc at) ws) r ≡ true = rw (ne_eqb at r n) at h in
      let b : suc at + more at (w ∷ ws) ≤ r = has_behind more (more at (w ∷ ws)) (suc at) ws r there in
      omega arith
]

-- each record of a whole table is whole
pub length-record : (more : Sizes) (s at : ℕ) (ws : List ℕ) (r k : ℕ) → has_entry (records_from more s at ws) r ≡ true → missing_words more s at ws ≡ 0
    → at + k ≡ r →
    length (entry_or [] (records_from more s at ws) r) ≡ suc (more r (drop k ws))
length-record more s at [] r k h e is = absurd (false≢true h)
length-record more (suc s) at (w ∷ ws) r zero h e is = let b : at + suc s ≤ r = has_behind more (suc s) at (w ∷ ws) r h in absurd (omega arith)
length-record more (suc s) at (w ∷ ws) r (suc k) h e is = length-record more s (suc at) ws r k h e (omega arith)
length-record more zero at (w ∷ ws) r zero h e is =
    let here : at ≡ r = omega arith in
    let fits : more at (w ∷ ws) ≤ length ws = skips_within more (more at (w ∷ ws)) (suc at) ws e in
    rw (eq-eqb at r here) (ap suc (length-take-le (more at (w ∷ ws)) ws fits) ∙ ap (λ a. suc (more a (w ∷ ws))) here)
length-record more zero at (w ∷ ws) r (suc k) h e is =
    let n : at ≡ r → ⊥ = λ f. omega arith in
    let there : has_entry (records_from more (more at (w ∷ ws)) (suc at) ws) r ≡ true = rw (ne_eqb at r n) at h in
    rw (ne_eqb at r n) (length-record more (more at (w ∷ ws)) (suc at) ws r k there e (omega arith))
