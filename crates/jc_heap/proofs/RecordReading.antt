-- Walks over the parts of a package's record.
use Rattle.std.proofs.Common.{◌≡◌, ℕ, zero, suc, ◌+◌, ◌-◌, ◌||◌, ◌<◌, ◌≤◌, ◌==◌, get_or, nat_lt, true, inl, inr, List, [], ◌∷◌, length, take, drop, refl, sym}
use Rattle.std.proofs.Common.{◌∙◌, ap, subst, arith, add-zero, max, min, map, Some, None, IfSome, if◌then◌else◌}
use Rattle.std.proofs.lemmas.List.{length-drop, length-take, length-take-le, get_or-take, get_or-drop, drop-drop, drop-take, take-take}
use Rattle.std.proofs.lemmas.Bool.{cases_Bool, cases_eq, cases_lt, eq-eqb, ne_eqb, lt-ltb, le-ltb, false≢true}
use Rattle.jc_heap.specs.Walk.{Sizes, records_from, entry_or, has_entry}
use Rattle.jc_heap.specs.Object.{AnObject, APackage, object_of, payload}
use Rattle.jc_heap.specs.Image.{image, base, package_addresses, is_package, sizes, item, item_entry, records, missing_words_of_image, IsWellFormed}
use Rattle.jc_commit.specs.State.{State}
use Rattle.jc_heap.specs.Heap.{HeapView, heap_view, heap_of, read_image, heap_item_at, is_allocated}
use Rattle.jc_heap.specs.Component.{words_of, record_of, words_for, part_sizes, span_in, info_span, info_of, IsWithin}
use Rattle.jc_heap.proofs.Records.{has_behind, length-record}
use Rattle.jc_heap.proofs.Tables.{at_or-map, at_or-map_absent, has-map}
use Rattle.jc_heap.proofs.Following.{records_from-step}
use Rattle.jc_heap.proofs.Walks.{length-packages, package_read}
use Rattle.std.proofs.Math.Bool.{or-true}
use Rattle.jc_words.specs.Layout.{top_address, packages_address, addresses_start, most_packages, text_start}

-- a word of a part of the words
pub word_in : (ws : List ℕ) (base long at i : ℕ) → at + i < long → get_or (drop at (take long (drop base ws))) i 0 ≡ get_or ws (base + (at + i)) 0
word_in ws base long at i h =
    get_or-drop at (take long (drop base ws)) i 0
    ∙ get_or-take long (drop base ws) (at + i) 0 h
    ∙ get_or-drop base ws (at + i) 0

pub length_left : (ws : List ℕ) (base long at : ℕ) → base + long ≤ length ws → length (drop at (take long (drop base ws))) ≡ long - at
length_left ws base long at h =
    omega (arith, length-drop at (take long (drop base ws)), length-take-le long (drop base ws) (omega (arith, length-drop base ws)))

-- the first part has the tag
pub info-here : (tag at : ℕ) (ws : List ℕ) → 0 < tag → 0 < length ws → get_or ws 0 0 ≡ tag
    → info_span (records_from part_sizes 0 at ws) tag ≡ span_in (at, take (2 + words_for (get_or ws 1 0)) ws)
info-here tag at ws some there is =
    let more : part_sizes at ws + 1 ≡ 2 + words_for (get_or ws 1 0) = ap (λ b. (if b then length ws - 1 else 1 + words_for (get_or ws 1 0)) + 1)
    (ne_eqb (get_or ws 0 0) 0 (λ e. omega arith)) ∙ (omega arith) in
    let first : get_or (take (2 + words_for (get_or ws 1 0)) ws) 0 0 ≡ tag = get_or-take (2 + words_for (get_or ws 1 0)) ws 0 0 (omega arith) ∙ is in
    ap (λ l. info_span l tag) (records_from-step part_sizes at ws there)
    ∙ ap (λ n. info_span ((at, take n ws) ∷ records_from part_sizes 0 (at + n) (drop n ws)) tag) more
    ∙ ap (λ b. if b then span_in (at, take (2 + words_for (get_or ws 1 0)) ws) else info_span
    (records_from part_sizes 0 (at + (2 + words_for (get_or ws 1 0))) (drop (2 + words_for (get_or ws 1 0)) ws)) tag) (eq-eqb _ _ first)

-- a step over a part with another tag
step_over : (tag at n : ℕ) (ws : List ℕ) → 0 < length ws → part_sizes at ws + 1 ≡ n → (get_or ws 0 0 ≡ tag → ⊥)
    → info_span (records_from part_sizes 0 at ws) tag ≡ info_span (records_from part_sizes 0 (at + n) (drop n ws)) tag
step_over tag at n ws there more other =
    let first : get_or (take n ws) 0 0 ≡ get_or ws 0 0 = get_or-take n ws 0 0 (omega arith) in
    ap (λ l. info_span l tag) (records_from-step part_sizes at ws there)
    ∙ ap (λ n. info_span ((at, take n ws) ∷ records_from part_sizes 0 (at + n) (drop n ws)) tag) more
    ∙ ap (λ b. if b then span_in (at, take n ws) else info_span (records_from part_sizes 0 (at + n) (drop n ws)) tag)
    (ne_eqb (get_or (take n ws) 0 0) tag (λ e. other (sym first ∙ e)))

pub info-next : (tag at : ℕ) (ws : List ℕ) → 0 < length ws → (get_or ws 0 0 ≡ tag → ⊥) → (get_or ws 0 0 ≡ 0 → ⊥) →
    info_span (records_from part_sizes 0 at ws) tag ≡ info_span (records_from part_sizes 0 (at + (2 + words_for (get_or ws 1 0)))
    (drop (2 + words_for (get_or ws 1 0)) ws)) tag
info-next tag at ws there other more = step_over tag at (2 + words_for (get_or ws 1 0)) ws there
    (ap (λ b. (if b then length ws - 1 else 1 + words_for (get_or ws 1 0)) + 1) (ne_eqb (get_or ws 0 0) 0 more) ∙ (omega arith)) other

-- after the last part there is none
pub info-none : (tag at : ℕ) (ws : List ℕ) → length ws ≡ 0 → info_span (records_from part_sizes 0 at ws) tag ≡ None
info-none tag at [] e = refl
info-none tag at (w ∷ ws) e = absurd (omega arith)

pub info-image : (tag at : ℕ) (ws : List ℕ) → 0 < length ws → (get_or ws 0 0 ≡ tag → ⊥) → get_or ws 0 0 ≡ 0
    → info_span (records_from part_sizes 0 at ws) tag ≡ None
info-image tag at ws there other is =
    step_over tag at (length ws) ws there (ap (λ b. (if b then length ws - 1 else 1 + words_for (get_or ws 1 0)) + 1) (eq-eqb (get_or ws 0 0) 0 is)
    ∙ (omega arith)) other
    ∙ info-none tag (at + length ws) (drop (length ws) ws) (omega (arith, length-drop (length ws) ws))

pub info-records_from : (tag at : ℕ) (ws : List ℕ) → length ws ≡ 1 → (get_or ws 0 0 ≡ tag → ⊥) → (get_or ws 0 0 ≡ 0 → ⊥)
    → info_span (records_from part_sizes 0 at ws) tag ≡ None
info-records_from tag at ws one other more =
    info-next tag at ws (omega arith) other more
    ∙ info-none tag (at + (2 + words_for (get_or ws 1 0))) (drop (2 + words_for (get_or ws 1 0)) ws)
    (omega (arith, length-drop (2 + words_for (get_or ws 1 0)) ws))

-- the span of a part, by how many words there are
pub span-whole : (at size : ℕ) (ws : List ℕ) → size ≡ get_or ws 1 0 → 2 + words_for size ≤ length ws
    → span_in (at, take (2 + words_for (get_or ws 1 0)) ws) ≡ Some (record { at = at + 2; size = size })
span-whole at size ws is fits =
    let n : ℕ = 2 + words_for (get_or ws 1 0) in
    let second : get_or (take (2 + words_for (get_or ws 1 0)) ws) 1 0 ≡ size = get_or-take (2 + words_for (get_or ws 1 0)) ws 1 0 (omega arith) ∙ sym is in
    let long : length (take (2 + words_for (get_or ws 1 0)) ws) ≡ 2 + words_for size =
    length-take-le (2 + words_for (get_or ws 1 0)) ws (subst (λ k. 2 + words_for k ≤ length ws) is fits) ∙ ap (λ k. 2 + words_for k) (sym is) in
    ap (λ k. if nat_lt (length (take (2 + words_for (get_or ws 1 0)) ws)) (2 + words_for k) then None else Some (record { at = at + 2; size = k })) second
    ∙ ap (λ b. if b then None else Some (record { at = at + 2; size = size })) (le-ltb (length (take (2 + words_for (get_or ws 1 0)) ws)) (2 + words_for size)
    (omega arith))

-- a record's words, among those that are cut
pub record-words : (more : Sizes) (s at : ℕ) (ws : List ℕ) (r k : ℕ) → has_entry (records_from more s at ws) r ≡ true → at + k ≡ r
    → entry_or [] (records_from more s at ws) r ≡ take (suc (more r (drop k ws))) (drop k ws)
record-words more s at [] r k h is = absurd (false≢true h)
record-words more (suc s) at (w ∷ ws) r zero h is = let b : at + suc s ≤ r = has_behind more (suc s) at (w ∷ ws) r h in absurd (omega arith)
record-words more (suc s) at (w ∷ ws) r (suc k) h is = record-words more s (suc at) ws r k h (omega arith)
record-words more zero at (w ∷ ws) r zero h is =
    let here : at ≡ r = omega arith in
    rw (eq-eqb at r here) (ap (λ a. w ∷ take (more a (w ∷ ws)) ws) here)
record-words more zero at (w ∷ ws) r (suc k) h is =
    let n : at ≡ r → ⊥ = λ f. omega arith in
    let there : has_entry (records_from more (more at (w ∷ ws)) (suc at) ws) r ≡ true = rw (ne_eqb at r n) at h in
    rw (ne_eqb at r n) (record-words more (more at (w ∷ ws)) (suc at) ws r k there (omega arith))

-- how many words the record at an address has
abbrev pub record_long : List ℕ → ℕ → ℕ
record_long ws r = max (get_or ws r 0) 1

-- a package's record, in all the words
module _ (ws : List ℕ) (r : ℕ) (laid : IsWellFormed ws) (there : 0 < length (record_of (heap_of ws) r)) where
  pub named : has_entry (records (image ws)) r ≡ true
  unfolding read_image heap_item_at
  named = elim (cases_Bool (has_entry (records (image ws)) r)) [
    | inl e ↦ e
    | inr e ↦ absurd (omega (
      arith,
      ap (λ t. length (words_of t)) (at_or-map_absent (item (package_addresses (image ws))) (APackage [])
          (records (image ws)) r e),
      there,
    ))
  ]

  abbrev pub rec : List ℕ
  rec = entry_or [] (records (image ws)) r

  pub is_item : heap_item_at (heap_of ws) r ≡ item (package_addresses (image ws)) r rec
  unfolding read_image heap_item_at
  is_item = at_or-map (item (package_addresses (image ws))) [] (APackage []) (records (image ws)) r named

  pub is_one : is_package (package_addresses (image ws)) r ≡ true
  is_one = elim (cases_Bool (is_package (package_addresses (image ws)) r)) [
    | inl e ↦ e
    | inr e ↦ absurd (omega (
      arith,
      there,
      ap (λ t. length (words_of t)) is_item,
      ap
          (λ b. length (words_of (if b then APackage rec else AnObject (object_of rec)))) e,
    ))
  ]

  pub is_record : record_of (heap_of ws) r ≡ rec
  is_record = ap words_of is_item ∙ ap (λ b. words_of (if b then APackage rec else AnObject (object_of rec))) is_one

  pub behind : base (image ws) ≤ r
  behind = omega (arith, has_behind (sizes (package_addresses (image ws))) 0 (base (image ws)) (drop (base (image ws)) (image ws)) r named)

  offset : base (image ws) + (r - base (image ws)) ≡ r
  offset = omega (arith, behind)

  tail : drop (r - base (image ws)) (drop (base (image ws)) (image ws)) ≡ drop r (image ws)
  tail = drop-drop (r - base (image ws)) (base (image ws)) (image ws) ∙ ap (λ k. drop k (image ws)) offset

  long_image : length (image ws) ≡ get_or ws top_address 0
  long_image = length-take-le (get_or ws top_address 0) ws laid.fits

  -- how many words the cut gives it
  sized : suc (sizes (package_addresses (image ws)) r (drop r (image ws))) ≡ max (get_or (drop r (image ws)) 0 0) 1
  sized = ap (λ b. suc (if b then get_or (drop r (image ws)) 0 0 - 1 else 3 + payload (get_or (drop r (image ws)) 0 0) (get_or (drop r (image ws)) 3 0))) is_one
      ∙ (omega arith)

  words_cut : rec ≡ take (max (get_or (drop r (image ws)) 0 0) 1) (drop r (image ws))
  words_cut =
      record-words (sizes (package_addresses (image ws))) 0 (base (image ws)) (drop (base (image ws)) (image ws)) r (r - base (image ws)) named offset
      ∙ ap (λ l. take (suc (sizes (package_addresses (image ws)) r l)) l) tail
      ∙ ap (λ n. take n (drop r (image ws))) sized

  whole : length rec ≡ max (get_or (drop r (image ws)) 0 0) 1
  unfolding missing_words_of_image
  whole =
      length-record (sizes (package_addresses (image ws))) 0 (base (image ws)) (drop (base (image ws)) (image ws)) r
      (r - base (image ws)) named laid.whole offset
      ∙ ap (λ l. suc (sizes (package_addresses (image ws)) r l)) tail
      ∙ sized

  inside : max (get_or (drop r (image ws)) 0 0) 1 ≤ get_or ws top_address 0 - r
  inside = omega (
    arith,
    whole,
    ap length words_cut,
    length-take (max (get_or (drop r (image ws)) 0 0) 1) (drop r (image ws)),
    length-drop r (image ws),
    long_image,
  )

  first : get_or (drop r (image ws)) 0 0 ≡ get_or ws r 0
  first = get_or-drop r (image ws) 0 0 ∙ ap (λ k. get_or (image ws) k 0) (add-zero r) ∙ get_or-take (get_or ws top_address 0) ws r 0 (omega (arith, inside))

  pub record_low : text_start ≤ r
  record_low = omega (arith, behind)

  pub record_high : r + record_long ws r ≤ get_or ws top_address 0
  record_high = omega (arith, inside, first)

  pub record_within : r + record_long ws r ≤ length ws
  record_within = omega (arith, record_high, laid.fits)

  pub record_is : record_of (heap_of ws) r ≡ take (record_long ws r) (drop r ws)
  record_is =
      is_record ∙ words_cut
      ∙ ap (λ w. take (max w 1) (drop r (image ws))) first
      ∙ sym (drop-take r (record_long ws r) (image ws))
      ∙ ap (drop r) (take-take (r + record_long ws r) (get_or ws top_address 0) ws record_high)
      ∙ drop-take r (record_long ws r) ws

pub record_view : (j : State) (v : HeapView) (n r : ℕ) → heap_view j n ≡ v → 0 < length (record_of v.now r) → 0 < length (record_of (heap_of j.plain) r)
record_view j v n r is there = subst (λ u. 0 < length (record_of (u.now) r)) (sym is) there

pub view_record : (j : State) (v : HeapView) (n r : ℕ) → heap_view j n ≡ v → IsWellFormed j.plain → 0 < length (record_of v.now r)
    → record_of v.now r ≡ take (record_long j.plain r) (drop r j.plain)
view_record j v n r is laid there = ap (λ u. record_of (u.now) r) (sym is) ∙ record_is j.plain r laid (record_view j v n r is there)

-- a span that is found lies within its record
span_within : (at : ℕ) (ws all : List ℕ) (m : ℕ) → at + length ws ≤ length all → IfSome (span_in (at, take m ws)) (λ s. IsWithin s all)
span_within at ws all m h = elim (cases_lt (length (take m ws)) (2 + words_for (get_or (take m ws) 1 0))) [
  | inl short ↦ subst (λ b. IfSome (if b then None else Some (record { at = at + 2; size = get_or (take m ws) 1 0 })) (λ s. IsWithin s all))
      (sym (lt-ltb (length (take m ws)) (2 + words_for (get_or (take m ws) 1 0)) short)) tt
  | inr fits ↦ subst (λ b. IfSome (if b then None else Some (record { at = at + 2; size = get_or (take m ws) 1 0 })) (λ s. IsWithin s all))
      (sym (le-ltb (length (take m ws)) (2 + words_for (get_or (take m ws) 1 0)) fits)) (omega (arith, h, fits, length-take m ws))
]

parts_within : (tag s at : ℕ) (ws all : List ℕ) → at + length ws ≤ length all → IfSome (info_span (records_from part_sizes s at ws) tag) (λ p. IsWithin p all)
parts_within tag s at [] all h = tt
parts_within tag (suc s) at (w ∷ ws) all h = parts_within tag s (suc at) ws all (omega arith)
parts_within tag zero at (w ∷ ws) all h = elim (cases_eq w tag) [
  | inl e ↦ subst (λ b. IfSome (if b then span_in (at, w ∷ take (part_sizes at (w ∷ ws)) ws) else info_span
      (records_from part_sizes (part_sizes at (w ∷ ws)) (suc at) ws) tag) (λ p. IsWithin p all)) (sym (eq-eqb w tag e))
      (span_within at (w ∷ ws) all (suc (part_sizes at (w ∷ ws))) h)
  | inr n ↦ subst (λ b. IfSome (if b then span_in (at, w ∷ take (part_sizes at (w ∷ ws)) ws) else info_span
      (records_from part_sizes (part_sizes at (w ∷ ws)) (suc at) ws) tag) (λ p. IsWithin p all)) (sym (ne_eqb w tag n))
      (parts_within tag (part_sizes at (w ∷ ws)) (suc at) ws all (omega arith))
]

pub info_within : (words : List ℕ) (tag : ℕ) → 0 < length words → IfSome (info_of words tag) (λ p. IsWithin p words)
unfolding info_of
info_within words tag some = parts_within tag 0 1 (drop 1 words) words (omega (arith, length-drop 1 words))

pub length_record : (j : State) (v : HeapView) (n r : ℕ) → heap_view j n ≡ v → IsWellFormed j.plain → 0 < length (record_of v.now r)
    → length (record_of v.now r) ≡ record_long j.plain r
length_record j v n r is laid there =
    ap length (view_record j v n r is laid there)
    ∙ length-take-le (record_long j.plain r) (drop r j.plain) (omega (
      arith,
      length-drop r j.plain,
      record_within j.plain r laid (record_view j v n r is there),
    ))

-- a word of a record
pub record_word : (j : State) (v : HeapView) (n r at i : ℕ) → heap_view j n ≡ v → IsWellFormed j.plain → at + i < length (record_of v.now r)
    → get_or (drop at (record_of v.now r)) i 0 ≡ get_or j.plain (r + (at + i)) 0
record_word j v n r at i is laid h =
    ap (λ l. get_or (drop at l) i 0) (view_record j v n r is laid (omega arith))
    ∙ word_in j.plain r (record_long j.plain r) at i (omega (arith, h, length_record j v n r is laid (omega arith)))

-- the registry's addresses of packages
pub view_packages : (j : State) (v : HeapView) (n : ℕ) → heap_view j n ≡ v → IsWellFormed j.plain
    → length (v.now.packages) ≡ min (get_or j.plain packages_address 0) most_packages
unfolding read_image
view_packages j v n is laid = ap (λ u. length (u.now.packages)) (sym is) ∙ length-packages j.plain (omega (arith, laid.based)) laid.fits

pub view_package : (j : State) (v : HeapView) (n k : ℕ) → heap_view j n ≡ v → IsWellFormed j.plain → k < length (v.now.packages)
    → get_or (v.now.packages) k 0 ≡ get_or j.plain (addresses_start + k) 0
unfolding read_image
view_package j v n k is laid h =
    ap (λ u. get_or (u.now.packages) k 0) (sym is) ∙ package_read j.plain k (omega (arith, laid.based)) laid.fits
    (omega (arith, h, view_packages j v n is laid))

is_package-at : (ps : List ℕ) (k : ℕ) → k < length ps → is_package ps (get_or ps k 0) ≡ true
is_package-at [] k h = absurd (omega arith)
is_package-at (p ∷ ps) zero h = ap (λ b. b || is_package ps p) (eq-eqb p p refl)
is_package-at (p ∷ ps) (suc k) h = ap (λ b. (p == get_or ps k 0) || b) (is_package-at ps k (omega arith)) ∙ or-true (p == get_or ps k 0)

-- where the registry names an address that is there, a package's record stands
there_words : (ws : List ℕ) (r : ℕ) → IsWellFormed ws → is_package (package_addresses (image ws)) r ≡ true → is_allocated (heap_of ws) r ≡ true
    → 0 < length (record_of (heap_of ws) r)
unfolding read_image heap_item_at is_allocated missing_words_of_image
there_words ws r laid one there =
    let named : has_entry (records (image ws)) r ≡ true = sym (has-map (item (package_addresses (image ws))) (records (image ws)) r) ∙ there in
    let low : base (image ws) ≤ r = omega (
      arith,
      has_behind (sizes (package_addresses (image ws))) 0 (base (image ws))
          (drop (base (image ws)) (image ws)) r named,
    ) in
    let long : length (entry_or [] (records (image ws)) r) ≡ suc (sizes (package_addresses (image ws)) r
    (drop (r - base (image ws)) (drop (base (image ws)) (image ws)))) =
    length-record (sizes (package_addresses (image ws))) 0 (base (image ws)) (drop (base (image ws)) (image ws)) r (r - base (image ws)) named laid.whole
    (omega (arith, low)) in
    let item : entry_or (APackage []) (map (item_entry (package_addresses (image ws))) (records (image ws))) r ≡ APackage (entry_or [] (records (image ws)) r) =
    at_or-map (item (package_addresses (image ws))) [] (APackage []) (records (image ws)) r named
    ∙ ap (λ b. if b then APackage (entry_or [] (records (image ws)) r) else AnObject (object_of (entry_or [] (records (image ws)) r))) one in
    omega (arith, ap (λ t. length (words_of t)) item, long)

pub package_there : (j : State) (v : HeapView) (n k : ℕ) → heap_view j n ≡ v → IsWellFormed j.plain → k < length (v.now.packages)
    → is_allocated v.now (get_or (v.now.packages) k 0) ≡ true → 0 < length (record_of v.now (get_or (v.now.packages) k 0))
unfolding read_image
package_there j v n k is laid = subst (λ u. k < length (u.now.packages) → is_allocated (u.now) (get_or (u.now.packages) k 0) ≡ true
    → 0 < length (record_of (u.now) (get_or (u.now.packages) k 0))) is
    (λ h there. there_words j.plain (get_or (package_addresses (image j.plain)) k 0) laid (is_package-at (package_addresses (image j.plain)) k h) there)
