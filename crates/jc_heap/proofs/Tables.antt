-- Look-ups in a table after a change.
use Rattle.std.proofs.Common.{◌≡◌, ℕ, true, false, eqb, ◌||◌, inl, inr, List, [], ◌∷◌, ◌++◌, map, refl, sym, ◌∙◌, ap}
use Rattle.std.proofs.lemmas.Bool.{cases_eq, eq-eqb, ne_eqb, true≢false, false≢true}
use Rattle.jc_heap.specs.Walk.{entry_or, has_entry, with_entry}

module _ {X : Type 0} where
  pub at_or-put_same : (d : X) (es : List (ℕ × X)) (q : ℕ) (x : X) → has_entry es q ≡ true → entry_or d (with_entry es q x) q ≡ x
  at_or-put_same d [] q x h = absurd (false≢true h)
  at_or-put_same d (e ∷ es) q x h = elim (cases_eq e.0 q) [
    | inl is ↦ rw (eq-eqb e.0 q is, eq-eqb e.0 q is) refl
    | inr n ↦ rw (ne_eqb e.0 q n, ne_eqb e.0 q n) (at_or-put_same d es q x (rw (ne_eqb e.0 q n) at h))
  ]

  pub at_or-put_other : (d : X) (es : List (ℕ × X)) (p q : ℕ) (x : X) → (p ≡ q → ⊥) → entry_or d (with_entry es p x) q ≡ entry_or d es q
  at_or-put_other d [] p q x n = refl
  at_or-put_other d (e ∷ es) p q x n = elim (cases_eq e.0 p) [
    | inl is ↦ let other : e.0 ≡ q → ⊥ = λ f. n (sym is ∙ f) in rw (eq-eqb e.0 p is, ne_eqb e.0 q other) refl
    | inr m ↦ rw (ne_eqb e.0 p m, at_or-put_other d es p q x n) refl
  ]

  pub has-put : (es : List (ℕ × X)) (p q : ℕ) (x : X) → has_entry (with_entry es p x) q ≡ has_entry es q
  has-put [] p q x = refl
  has-put (e ∷ es) p q x = elim (cases_eq e.0 p) [
    | inl is ↦ rw (eq-eqb e.0 p is) refl
    | inr m ↦ rw (ne_eqb e.0 p m) (ap (λ b. (eqb e.0 q) || b) (has-put es p q x))
  ]

  pub at_or-push_same : (d : X) (es : List (ℕ × X)) (q : ℕ) (x : X) → has_entry es q ≡ false → entry_or d (es ++ (q, x) ∷ []) q ≡ x
  at_or-push_same d [] q x h = rw (eq-eqb q q refl) refl
  at_or-push_same d (e ∷ es) q x h = elim (cases_eq e.0 q) [
    | inl is ↦ absurd (true≢false (rw (eq-eqb e.0 q is) at h))
    | inr n ↦ rw (ne_eqb e.0 q n) (at_or-push_same d es q x (rw (ne_eqb e.0 q n) at h))
  ]

  pub at_or-push_other : (d : X) (es : List (ℕ × X)) (p q : ℕ) (x : X) → (p ≡ q → ⊥) → entry_or d (es ++ (p, x) ∷ []) q ≡ entry_or d es q
  at_or-push_other d [] p q x n = rw (ne_eqb p q n) refl
  at_or-push_other d (e ∷ es) p q x n = elim (cases_eq e.0 q) [
    | inl is ↦ rw (eq-eqb e.0 q is) refl
    | inr m ↦ rw (ne_eqb e.0 q m) (at_or-push_other d es p q x n)
  ]

  pub has-push : (es : List (ℕ × X)) (p q : ℕ) (x : X) → (p ≡ q → ⊥) → has_entry (es ++ (p, x) ∷ []) q ≡ has_entry es q
  has-push [] p q x n = rw (ne_eqb p q n) refl
  has-push (e ∷ es) p q x n = ap (λ b. (eqb e.0 q) || b) (has-push es p q x n)

module _ {X Y : Type 0} (f : ℕ → X → Y) where
  abbrev pub each : ℕ × X → ℕ × Y
  each e = (e.0, f e.0 e.1)

  pub map-put : (es : List (ℕ × X)) (q : ℕ) (x : X) → map each (with_entry es q x) ≡ with_entry (map each es) q (f q x)
  map-put [] q x = refl
  map-put (e ∷ es) q x = elim (cases_eq e.0 q) [
    | inl is ↦ rw (eq-eqb e.0 q is) (ap (λ k. (e.0, f k x) ∷ map each es) is)
    | inr n ↦ rw (ne_eqb e.0 q n) (ap (λ l. each e ∷ l) (map-put es q x))
  ]

  pub at_or-map : (d : X) (d' : Y) (es : List (ℕ × X)) (q : ℕ) → has_entry es q ≡ true → entry_or d' (map each es) q ≡ f q (entry_or d es q)
  at_or-map d d' [] q h = absurd (false≢true h)
  at_or-map d d' (e ∷ es) q h = elim (cases_eq e.0 q) [
    | inl is ↦ rw (eq-eqb e.0 q is) (ap (λ k. f k e.1) is)
    | inr n ↦ rw (ne_eqb e.0 q n) (at_or-map d d' es q (rw (ne_eqb e.0 q n) at h))
  ]

  pub at_or-map_absent : (d' : Y) (es : List (ℕ × X)) (q : ℕ) → has_entry es q ≡ false → entry_or d' (map each es) q ≡ d'
  at_or-map_absent d' [] q h = refl
  at_or-map_absent d' (e ∷ es) q h = elim (cases_eq e.0 q) [
    | inl is ↦ absurd (true≢false (rw (eq-eqb e.0 q is) at h))
    | inr n ↦ rw (ne_eqb e.0 q n) (at_or-map_absent d' es q (rw (ne_eqb e.0 q n) at h))
  ]

  pub has-map : (es : List (ℕ × X)) (q : ℕ) → has_entry (map each es) q ≡ has_entry es q
  has-map [] q = refl
  has-map (e ∷ es) q = ap (λ b. (eqb e.0 q) || b) (has-map es q)

module _ {X : Type 0} where
  pub at_or-absent : (d : X) (es : List (ℕ × X)) (q : ℕ) → has_entry es q ≡ false → entry_or d es q ≡ d
  at_or-absent d [] q h = refl
  at_or-absent d (e ∷ es) q h = elim (cases_eq e.0 q) [
    | inl is ↦ absurd (true≢false (rw (eq-eqb e.0 q is) at h))
    | inr n ↦ rw (ne_eqb e.0 q n) (at_or-absent d es q (rw (ne_eqb e.0 q n) at h))
  ]

  pub put-absent : (es : List (ℕ × X)) (q : ℕ) (x : X) → has_entry es q ≡ false → with_entry es q x ≡ es
  put-absent [] q x h = refl
  put-absent (e ∷ es) q x h = elim (cases_eq e.0 q) [
    | inl is ↦ absurd (true≢false (rw (eq-eqb e.0 q is) at h))
    | inr n ↦ rw (ne_eqb e.0 q n) (ap (λ l. e ∷ l) (put-absent es q x (rw (ne_eqb e.0 q n) at h)))
  ]
