-- Words that cells name, and what stands there.
use Rattle.std.proofs.Common.{◌≡◌, ℕ, zero, suc, ◌+◌, ◌<◌, ◌≤◌, ◌==◌, ◌||◌, ◌↔◌, Bool, true, false, inl, inr, List, [], ◌∷◌, length, get_or, set, drop, ap, sym, ◌∙◌, subst, arith}
use Rattle.std.proofs.lemmas.Bool.{cases_Bool, cases_eq, cases_lt, eq-eqb, ne_eqb, false≢true}
use Rattle.std.proofs.lemmas.List.{get_or-set_same, get_or-set_other, length-set, length-take-le, drop_all}
use Rattle.jc_words.specs.Layout.{top_address}
use Rattle.jc_heap.specs.Walk.{records_from, has_entry}
use Rattle.jc_heap.specs.Object.{Item, is_object}
use Rattle.jc_heap.specs.Image.{image, base, package_addresses, is_package, sizes, item, IsWellFormed}
use Rattle.jc_heap.specs.Heap.{HeapState, heap_of, heap_item_at, read_image, is_allocated}
use Rattle.jc_heap.specs.WholeHeap.{IsReference, HoldsReferences}
use Rattle.jc_heap.proofs.Following.{base_is}
use Rattle.jc_heap.proofs.Laws.{is_allocated-heap_of, object_named}
use Rattle.jc_heap.proofs.Reading.{no_package, object_at}
use Rattle.jc_heap.proofs.Records.{has_behind}
use Rattle.jc_heap.proofs.Tables.{has-map}
use Rattle.jc_heap.proofs.Walks.{package_step}
use Rattle.jc_image.specs.Steps.{HasBounds, AreReferences}
use Rattle.jc_image.proofs.Stepping.{base_bounded}
use Rattle.jc_image.proofs.Marking.{or-true}
use Rattle.jc_image.proofs.Referring.{AllHold}

pub none_named : (h : HeapState) (named : List Bool) → ((r : ℕ) → get_or named r false ≡ false) → AreReferences h named
unfolding AreReferences
none_named h named none r e = absurd (false≢true (sym (none r) ∙ e))

pub named_reference : (h : HeapState) (named : List Bool) (r : ℕ) → AreReferences h named → get_or named r false ≡ true → IsReference h r
unfolding AreReferences
named_reference h named r all e = all r e

-- one word more
pub named_set : (h : HeapState) (named : List Bool) (word : ℕ) → word < length named
    → (AreReferences h (set named word true) ↔ (AreReferences h named × IsReference h word))
unfolding AreReferences
named_set h named word within = (
  (λ all. (
    (λ r e. elim (cases_eq r word) [
      | inl is ↦ subst (IsReference h) (sym is) (all word (get_or-set_same named word true false within))
      | inr n ↦ all r (get_or-set_other named word r true false n ∙ e)
    ]),
    all word (get_or-set_same named word true false within),
  )),
  λ both. λ r e. elim (cases_eq r word) [
    | inl is ↦ subst (IsReference h) (sym is) both.1
    | inr n ↦ both.0 r (sym (get_or-set_other named word r true false n) ∙ e)
  ],
)

-- one item further
pub held_step : (h : HeapState) (here left : List (ℕ × Item)) (at : ℕ) (t : Item) (before after all : Type 0) → here ≡ (at, t) ∷ left
    → (after ↔ (before × HoldsReferences h t)) → ((before × AllHold h here) ↔ all) → ((after × AllHold h left) ↔ all)
held_step h here left at t before after all is step both = (
  (λ x.
      let one : before × HoldsReferences h t = step.0 x.0 in
      both.0 (one.0, subst (AllHold h) (sym is) (one.1, x.1))),
  λ a.
      let two : before × AllHold h here = both.1 a in
      let split : HoldsReferences h t × AllHold h left = subst (AllHold h) is two.1 in
      (step.1 (two.0, split.0), split.1),
)

pub no_reference_high : (ws : List ℕ) → HasBounds ws → (r : ℕ) → get_or ws top_address 0 ≤ r → IsReference (heap_of ws) r → ⊥
no_reference_high ws bounds r le ref =
    let long : length (image ws) ≡ get_or ws top_address 0 = length-take-le (get_or ws top_address 0) ws bounds.fits in
    elim ref [
      | inl z ↦ omega (arith, z, le, bounds.based, base_bounded ws bounds)
      | inr o ↦ false≢true (sym (is_allocated-heap_of ws r (omega (arith, bounds.based, long)) (omega (arith, long, le))) ∙ object_named (heap_of ws) r o)
    ]

module _ (ws : List ℕ) (laid : IsWellFormed ws) where
  pub allocated_low : (r : ℕ) → is_allocated (heap_of ws) r ≡ true → 0 < r
  unfolding read_image is_allocated
  allocated_low r e =
      let there : has_entry (records_from (sizes (package_addresses (image ws))) 0 (base (image ws)) (drop (base (image ws)) (image ws))) r ≡ true =
      sym (has-map (item (package_addresses (image ws)))
      (records_from (sizes (package_addresses (image ws))) 0 (base (image ws)) (drop (base (image ws)) (image ws))) r) ∙ e in
      omega (arith, base_is ws laid, has_behind (sizes (package_addresses (image ws))) 0 (base (image ws)) (drop (base (image ws)) (image ws)) r there)

  module _ (marks named : List Bool) (marked : (r : ℕ) → get_or marks r false ≡ is_allocated (heap_of ws) r) where
    pub all_references : ((r : ℕ) → get_or ws top_address 0 ≤ r → get_or named r false ≡ false)
        → ((r : ℕ) → get_or named r false ≡ true → is_package (package_addresses (image ws)) r ≡ false)
        → ((r : ℕ) → 0 < r → r < get_or ws top_address 0 → get_or named r false ≡ true → get_or marks r false ≡ true)
        → AreReferences (heap_of ws) named
    unfolding AreReferences
    all_references below other met r e = elim (cases_eq r 0) [
      | inl z ↦ inl z
      | inr n ↦ elim (cases_lt r (get_or ws top_address 0)) [
        | inl lt ↦ inr (object_at ws r (sym (marked r) ∙ met r (omega (arith, n)) lt e) (other r e))
        | inr le ↦ absurd (false≢true (sym (below r le) ∙ e))
      ]
    ]

    pub named_met : AreReferences (heap_of ws) named → (r : ℕ) → 0 < r → get_or named r false ≡ true → get_or marks r false ≡ true
    named_met all r pos e = elim (named_reference (heap_of ws) named r all e) [
      | inl z ↦ absurd (omega (arith, z, pos))
      | inr o ↦ marked r ∙ object_named (heap_of ws) r o
    ]

-- a package after some of the packages is a package
still_package : (ps : List ℕ) (k a : ℕ) → is_package (drop k ps) a ≡ true → is_package ps a ≡ true
still_package ps zero a e = e
still_package [] (suc k) a e = e
still_package (p ∷ ps) (suc k) a e = ap (λ b. (p == a) || b) (still_package ps k a e) ∙ or-true (p == a)

-- what is marked of packages stands after an index, and all else is marked as it stands
pub record IsUnmarked (ws : List ℕ) (marks : List Bool) (k : ℕ) : Type 0 where
  pub long : length marks ≡ 65536
  pub others : (r : ℕ) → is_package (package_addresses (image ws)) r ≡ false → get_or marks r false ≡ is_allocated (heap_of ws) r
  pub left : (r : ℕ) → is_package (package_addresses (image ws)) r ≡ true → get_or marks r false ≡ true
      → is_package (drop k (package_addresses (image ws))) r ≡ true

pub unmark_one : (ws : List ℕ) (marks : List Bool) (k word : ℕ) → IsUnmarked ws marks k → k < length (package_addresses (image ws))
    → get_or (package_addresses (image ws)) k 0 ≡ word → word < 65536 → IsUnmarked ws (set marks word false) (k + 1)
unmark_one ws marks k word u near is small =
    let step : (a : ℕ) → is_package (drop k (package_addresses (image ws))) a
    ≡ ((get_or (package_addresses (image ws)) k 0 == a) || is_package (drop (k + 1) (package_addresses (image ws))) a) =
    λ a. package_step (package_addresses (image ws)) k a near in
    let there : is_package (package_addresses (image ws)) word ≡ true = still_package (package_addresses (image ws)) k word
    (step word ∙ ap (λ b. b || is_package (drop (k + 1) (package_addresses (image ws))) word) (eq-eqb _ _ is)) in
    record {
      long = length-set marks word false ∙ u.long;
      others = λ r other.
          get_or-set_other marks word r false false (λ e. false≢true (sym other ∙ ap (is_package (package_addresses (image ws))) e ∙ there))
          ∙ u.others r other;
      left = λ r listed marked. elim (cases_eq r word) [
        | inl e ↦ absurd (false≢true (sym (get_or-set_same marks word false false (omega (arith, u.long, small)))
            ∙ ap (λ q. get_or (set marks word false) q false) (sym e) ∙ marked))
        | inr n ↦ ap (λ b. b || is_package (drop (k + 1) (package_addresses (image ws))) r) (sym (ne_eqb _ _ (λ e. n (sym e ∙ is))))
            ∙ sym (step r) ∙ u.left r listed (sym (get_or-set_other marks word r false false n) ∙ marked)
      ];
    }

pub objects_left : (ws : List ℕ) (marks : List Bool) (k : ℕ) → IsWellFormed ws → IsUnmarked ws marks k → length (package_addresses (image ws)) ≤ k
    → (r : ℕ) → get_or marks r false ≡ is_object (heap_item_at (heap_of ws) r)
objects_left ws marks k laid u end r = elim (cases_Bool (is_package (package_addresses (image ws)) r)) [
  | inl listed ↦
      let no_object : is_object (heap_item_at (heap_of ws) r) ≡ false = elim (cases_Bool (is_object (heap_item_at (heap_of ws) r))) [
        | inl o ↦ absurd (false≢true (sym (no_package ws r laid o) ∙ listed))
        | inr o ↦ o
      ] in
      elim (cases_Bool (get_or marks r false)) [
        | inl m ↦ absurd (false≢true (ap (λ l. is_package l r) (sym (drop_all k (package_addresses (image ws)) end)) ∙ u.left r listed m))
        | inr m ↦ m ∙ sym no_object
      ]
  | inr other ↦ u.others r other ∙ elim (cases_Bool (is_allocated (heap_of ws) r)) [
    | inl a ↦ a ∙ sym (object_at ws r a other)
    | inr a ↦ elim (cases_Bool (is_object (heap_item_at (heap_of ws) r))) [
      | inl o ↦ absurd (false≢true (sym a ∙ object_named (heap_of ws) r o))
      | inr o ↦ a ∙ sym o
    ]
  ]
]
