-- Where a record's static image begins.
use Rattle.std.proofs.Common.{◌≡◌, ℕ, zero, suc, ◌+◌, ◌-◌, ◌<◌, ◌≤◌, get_or, inl, inr, List, [], ◌∷◌, length, set, take, drop, refl, sym, ◌∙◌, ap, subst, arith}
use Rattle.std.proofs.Common.{Option, Some, None, IfSome, if◌then◌else◌}
use Rattle.std.proofs.lemmas.List.{length-drop, get_or-take, get_or-drop, get_or-set_other, get_or_past}
use Rattle.std.proofs.lemmas.Bool.{cases_eq, cases_lt, eq-eqb, ne_eqb}
use Rattle.std.proofs.lemmas.Option.{none-some, same_Some}
use Rattle.jc_heap.specs.Walk.{records_from}
use Rattle.jc_heap.specs.Component.{words_for, part_sizes, record_parts}
use Rattle.jc_heap.specs.Statics.{image_from, statics_of, IsStatic}
use Rattle.jc_heap.proofs.Following.{records_from-step}

pub image-here : (at : ℕ) (ws : List ℕ) → 0 < length ws → get_or ws 0 0 ≡ 0 → image_from (records_from part_sizes 0 at ws) ≡ Some (at + 1)
image-here at ws there is =
    let first : get_or (take (part_sizes at ws + 1) ws) 0 0 ≡ 0 = get_or-take (part_sizes at ws + 1) ws 0 0 (omega arith) ∙ is in
    ap image_from (records_from-step part_sizes at ws there)
    ∙ ap (λ b. if b then Some (at + 1) else image_from (records_from part_sizes 0 (at + (part_sizes at ws + 1)) (drop (part_sizes at ws + 1) ws)))
    (eq-eqb _ _ first)

pub image-next : (at : ℕ) (ws : List ℕ) → 0 < length ws → (get_or ws 0 0 ≡ 0 → ⊥) →
    image_from (records_from part_sizes 0 at ws) ≡ image_from (records_from part_sizes 0 (at + (2 + words_for (get_or ws 1 0)))
    (drop (2 + words_for (get_or ws 1 0)) ws))
image-next at ws there more =
    let n : ℕ = 2 + words_for (get_or ws 1 0) in
    let size : part_sizes at ws + 1 ≡ 2 + words_for (get_or ws 1 0) = ap (λ b. (if b then length ws - 1 else 1 + words_for (get_or ws 1 0)) + 1)
    (ne_eqb (get_or ws 0 0) 0 more) ∙ (omega arith) in
    let first : get_or (take (2 + words_for (get_or ws 1 0)) ws) 0 0 ≡ get_or ws 0 0 = get_or-take (2 + words_for (get_or ws 1 0)) ws 0 0 (omega arith) in
    ap image_from (records_from-step part_sizes at ws there)
    ∙ ap (λ m. image_from ((at, take m ws) ∷ records_from part_sizes 0 (at + m) (drop m ws))) size
    ∙ ap (λ b. if b then Some (at + 1) else image_from (records_from part_sizes 0 (at + (2 + words_for (get_or ws 1 0)))
    (drop (2 + words_for (get_or ws 1 0)) ws))) (ne_eqb (get_or (take (2 + words_for (get_or ws 1 0)) ws) 0 0) 0 (λ e. more (sym first ∙ e)))

pub image-none : (at : ℕ) (ws : List ℕ) → length ws ≡ 0 → image_from (records_from part_sizes 0 at ws) ≡ None
image-none at [] e = refl
image-none at (w ∷ ws) e = absurd (omega arith)

pub image-records_from : (at : ℕ) (ws : List ℕ) → length ws ≡ 1 → (get_or ws 0 0 ≡ 0 → ⊥) → image_from (records_from part_sizes 0 at ws) ≡ None
image-records_from at ws one more =
    image-next at ws (omega arith) more
    ∙ image-none (at + (2 + words_for (get_or ws 1 0))) (drop (2 + words_for (get_or ws 1 0)) ws)
    (omega (arith, length-drop (2 + words_for (get_or ws 1 0)) ws))

wider : (at n : ℕ) (o : Option ℕ) → IfSome o (λ p. (suc at + 1 ≤ p) × (p ≤ suc at + n)) → IfSome o (λ p. (at + 1 ≤ p) × (p ≤ at + suc n))
wider at n None b = tt
wider at n (Some p) b = (omega (arith, b.0), omega (arith, b.1))

-- between which offsets it begins
image_bounds : (s at : ℕ) (ws : List ℕ) → IfSome (image_from (records_from part_sizes s at ws)) (λ o. (at + 1 ≤ o) × (o ≤ at + length ws))
image_bounds s at [] = tt
image_bounds (suc s) at (w ∷ ws) = wider at (length ws) (image_from (records_from part_sizes s (suc at) ws)) (image_bounds s (suc at) ws)
image_bounds zero at (w ∷ ws) = elim (cases_eq w 0) [
  | inl e ↦ subst (λ b. IfSome (if b then Some (at + 1) else image_from (records_from part_sizes (part_sizes at (w ∷ ws)) (suc at) ws))
      (λ o. (at + 1 ≤ o) × (o ≤ at + suc (length ws)))) (sym (eq-eqb w 0 e)) (omega arith, omega arith)
  | inr n ↦ subst (λ b. IfSome (if b then Some (at + 1) else image_from (records_from part_sizes (part_sizes at (w ∷ ws)) (suc at) ws))
      (λ o. (at + 1 ≤ o) × (o ≤ at + suc (length ws)))) (sym (ne_eqb w 0 n))
      (wider at (length ws) (image_from (records_from part_sizes (part_sizes at (w ∷ ws)) (suc at) ws)) (image_bounds (part_sizes at (w ∷ ws)) (suc at) ws))
]

lower : (a b : ℕ) (o : Option ℕ) (n : ℕ) → b ≤ a → IfSome o (λ p. (a + 1 ≤ p) × (p ≤ n)) → IfSome o (λ p. b + 1 ≤ p)
lower a b None n le h = tt
lower a b (Some p) n le h = omega (arith, h.0)

upper : (a n m : ℕ) (o : Option ℕ) → n ≤ m → IfSome o (λ p. (a ≤ p) × (p ≤ n)) → IfSome o (λ p. p ≤ m)
upper a n m None le h = tt
upper a n m (Some p) le h = omega (arith, h.1)

long_enough : (words : List ℕ) → (get_or words 1 0 ≡ 0 → ⊥) → 1 < length words
long_enough words n = elim (cases_lt 1 (length words)) [ inl h ↦ h | inr h ↦ absurd (n (get_or_past words 1 0 h)) ]

pub statics_within : (words : List ℕ) → 0 < length words → IfSome (statics_of words) (λ o. o ≤ length words)
unfolding statics_of
statics_within words some = elim (cases_eq (get_or words 1 0) 0) [
  | inl e ↦ subst (λ b. IfSome (if b then None else image_from (record_parts words)) (λ o. o ≤ length words)) (sym (eq-eqb (get_or words 1 0) 0 e)) tt
  | inr n ↦ subst (λ b. IfSome (if b then None else image_from (record_parts words)) (λ o. o ≤ length words)) (sym (ne_eqb (get_or words 1 0) 0 n))
      (upper 2 (1 + length (drop 1 words)) (length words) (image_from (record_parts words)) (omega (arith, length-drop 1 words))
      (image_bounds 0 1 (drop 1 words)))
]

statics_behind : (words : List ℕ) → IfSome (statics_of words) (λ o. 4 ≤ o)
unfolding statics_of
statics_behind words = elim (cases_eq (get_or words 1 0) 0) [
  | inl e ↦ subst (λ b. IfSome (if b then None else image_from (record_parts words)) (λ o. 4 ≤ o)) (sym (eq-eqb (get_or words 1 0) 0 e)) tt
  | inr n ↦
      let first : get_or (drop 1 words) 0 0 ≡ get_or words 1 0 = get_or-drop 1 words 0 0 in
      let there : 0 < length (drop 1 words) = omega (arith, length-drop 1 words, long_enough words n) in
      let next : image_from (record_parts words) ≡ image_from (records_from part_sizes 0 (1 + (2 + words_for (get_or (drop 1 words) 1 0)))
      (drop (2 + words_for (get_or (drop 1 words) 1 0)) (drop 1 words))) =
      image-next 1 (drop 1 words) there (λ e. n (sym first ∙ e)) in
      subst (λ b. IfSome (if b then None else image_from (record_parts words)) (λ o. 4 ≤ o)) (sym (ne_eqb (get_or words 1 0) 0 n))
      (subst (λ t. IfSome t (λ o. 4 ≤ o)) (sym next)
      (lower (1 + (2 + words_for (get_or (drop 1 words) 1 0))) 3 (image_from (records_from part_sizes 0 (1 + (2 + words_for (get_or (drop 1 words) 1 0)))
      (drop (2 + words_for (get_or (drop 1 words) 1 0)) (drop 1 words))))
      (1 + (2 + words_for (get_or (drop 1 words) 1 0)) + length (drop (2 + words_for (get_or (drop 1 words) 1 0)) (drop 1 words))) (omega arith)
      (image_bounds 0 (1 + (2 + words_for (get_or (drop 1 words) 1 0))) (drop (2 + words_for (get_or (drop 1 words) 1 0)) (drop 1 words)))))
]

pub static_behind : (words : List ℕ) (j : ℕ) → IsStatic words j → 4 ≤ j
static_behind words j s = let low : 4 ≤ s.begin = subst (λ t. IfSome t (λ o. 4 ≤ o)) s.image (statics_behind words) in omega (arith, low, s.behind)

-- a word after its begin does not say it
low_of : (s at : ℕ) (ws : List ℕ) (b : ℕ) → image_from (records_from part_sizes s at ws) ≡ Some b → at + 1 ≤ b
low_of s at ws b e = (subst (λ o. IfSome o (λ n. (at + 1 ≤ n) × (n ≤ at + length ws))) e (image_bounds s at ws)).0

image_set : (s at : ℕ) (ws : List ℕ) (q v b : ℕ) → image_from (records_from part_sizes s at ws) ≡ Some b → b ≤ at + q
    → image_from (records_from part_sizes s at (set ws q v)) ≡ Some b
image_set s at [] q v b e le = e
image_set (suc s) at (w ∷ ws) zero v b e le = absurd (let low = low_of s (suc at) ws b e in omega (arith, low, le))
image_set (suc s) at (w ∷ ws) (suc q) v b e le = image_set s (suc at) ws q v b e (omega (arith, le))
image_set zero at (w ∷ ws) zero v b e le = absurd (let low = low_of zero at (w ∷ ws) b e in omega (arith, low, le))
image_set zero at (w ∷ ws) (suc q) v b e le = elim (cases_eq w 0) [
  | inl z ↦
      ap (λ c. if c then Some (at + 1) else image_from (records_from part_sizes (part_sizes at (w ∷ set ws q v)) (suc at) (set ws q v))) (eq-eqb w 0 z)
      ∙ sym (ap (λ c. if c then Some (at + 1) else image_from (records_from part_sizes (part_sizes at (w ∷ ws)) (suc at) ws)) (eq-eqb w 0 z)) ∙ e
  | inr ne ↦
      let rest : image_from (records_from part_sizes (part_sizes at (w ∷ ws)) (suc at) ws) ≡ Some b =
      sym (ap (λ c. if c then Some (at + 1) else image_from (records_from part_sizes (part_sizes at (w ∷ ws)) (suc at) ws)) (ne_eqb w 0 ne)) ∙ e in
      let low : suc at + 1 ≤ b = low_of (part_sizes at (w ∷ ws)) (suc at) ws b rest in
      let size : part_sizes at (w ∷ set ws q v) ≡ part_sizes at (w ∷ ws) =
      ap (λ c. if c then length (w ∷ set ws q v) - 1 else 1 + words_for (get_or (set ws q v) 0 0)) (ne_eqb w 0 ne)
      ∙ ap (λ n. 1 + words_for n) (get_or-set_other ws q 0 v 0 (λ z. omega (arith, z, low, le)))
      ∙ sym (ap (λ c. if c then length (w ∷ ws) - 1 else 1 + words_for (get_or ws 0 0)) (ne_eqb w 0 ne)) in
      ap (λ c. if c then Some (at + 1) else image_from (records_from part_sizes (part_sizes at (w ∷ set ws q v)) (suc at) (set ws q v))) (ne_eqb w 0 ne)
      ∙ ap (λ n. image_from (records_from part_sizes n (suc at) (set ws q v))) size
      ∙ image_set (part_sizes at (w ∷ ws)) (suc at) ws q v b rest (omega (arith, le))
]

image_is : (w : ℕ) (ws : List ℕ) (b : ℕ) → statics_of (w ∷ ws) ≡ Some b → (get_or ws 0 0 ≡ 0 → ⊥) × (image_from (records_from part_sizes 0 1 ws) ≡ Some b)
unfolding statics_of
image_is w ws b e = elim (cases_eq (get_or ws 0 0) 0) [
  | inl z ↦ absurd (none-some b (sym (ap (λ c. if c then None else image_from (records_from part_sizes 0 1 ws)) (eq-eqb (get_or ws 0 0) 0 z)) ∙ e))
  | inr ne ↦ (ne, sym (ap (λ c. if c then None else image_from (records_from part_sizes 0 1 ws)) (ne_eqb (get_or ws 0 0) 0 ne)) ∙ e)
]

is_image : (w : ℕ) (ws : List ℕ) (b : ℕ) → (get_or ws 0 0 ≡ 0 → ⊥) → image_from (records_from part_sizes 0 1 ws) ≡ Some b → statics_of (w ∷ ws) ≡ Some b
unfolding statics_of
is_image w ws b ne e = ap (λ c. if c then None else image_from (records_from part_sizes 0 1 ws)) (ne_eqb (get_or ws 0 0) 0 ne) ∙ e

pub statics_set_at : (words : List ℕ) (j v b : ℕ) → 4 ≤ j → statics_of words ≡ Some b → b ≤ j → statics_of (set words j v) ≡ Some b
statics_set_at [] j v b four e le = e
statics_set_at (w ∷ ws) zero v b four e le = absurd (omega (arith, four))
statics_set_at (w ∷ ws) (suc q) v b four e le =
    let parts = image_is w ws b e in
    is_image w (set ws q v) b (λ z. parts.0 (sym (get_or-set_other ws q 0 v 0 (λ n. omega (arith, n, four))) ∙ z))
    (image_set 0 1 ws q v b parts.1 (omega (arith, le)))

-- a word of the image does not say where it begins
pub statics_set : (words : List ℕ) (j v b : ℕ) → IsStatic words j → statics_of words ≡ Some b → statics_of (set words j v) ≡ Some b
statics_set words j v b there e =
    let same : there.begin ≡ b = same_Some there.begin b (sym there.image ∙ e) in
    let behind : there.begin ≤ j = there.behind in
    statics_set_at words j v b (static_behind words j there) e (omega (arith, same, behind))

-- from where it begins to the record's end each word is one of it
pub all_static : (words : List ℕ) (o : Option ℕ) → o ≡ statics_of words → IfSome o (λ b. (j : ℕ) → b ≤ j → j < length words → IsStatic words j)
all_static words None e = tt
all_static words (Some b) e = λ j le lt. record { begin = b; image = sym e; behind = le; within = lt }

-- a record of one word has none
pub statics-short : (words : List ℕ) → length words ≡ 1 → statics_of words ≡ None
unfolding statics_of
statics-short words e = ap (λ b. if b then None else image_from (record_parts words)) (eq-eqb (get_or words 1 0) 0 (get_or_past words 1 0 (omega arith)))

pub statics-zero : (words : List ℕ) → get_or words 1 0 ≡ 0 → statics_of words ≡ None
unfolding statics_of
statics-zero words e = ap (λ b. if b then None else image_from (record_parts words)) (eq-eqb (get_or words 1 0) 0 e)

pub statics-walk : (words : List ℕ) → (get_or words 1 0 ≡ 0 → ⊥) → statics_of words ≡ image_from (record_parts words)
unfolding statics_of
statics-walk words n = ap (λ b. if b then None else image_from (record_parts words)) (ne_eqb (get_or words 1 0) 0 n)
