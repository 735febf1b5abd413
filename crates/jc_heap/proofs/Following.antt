-- Walks over the records of a heap.
use Rattle.std.proofs.Common.{◌≡◌, ℕ, zero, suc, ◌+◌, ◌-◌, ◌/◌, ◌<◌, ◌≤◌, ◌&&◌, get_or, nat_lt, not, Bool, true, false, inl, inr, List, [], ◌∷◌, length, take}
use Rattle.std.proofs.Common.{drop, map, refl, sym, ◌∙◌, ap, arith, add-zero, Some, if◌then◌else◌}
use Rattle.std.proofs.lemmas.List.{length-drop, length-take-le, get_or-take, drop-drop}
use Rattle.std.proofs.lemmas.Bool.{cases_lt, cases_Bool, ne_eqb, le-ltb, lt-ltb, false≢true}
use Rattle.jc_words.specs.Layout.{top_address, text_length_address, text_start}
use Rattle.jc_heap.specs.Walk.{Sizes, records_from, missing_words, has_entry}
use Rattle.jc_heap.specs.Object.{Item, AnObject, APackage, object_of, is_object}
use Rattle.jc_heap.specs.Image.{item_entry, item, image, package_addresses, is_package, sizes, base, missing_words_of_image, IsWellFormed}
use Rattle.jc_heap.specs.Heap.{first_above, next_object, heap_of, read_image, IsObject}
use Rattle.jc_heap.proofs.Records.{has_behind}
use Rattle.jc_heap.proofs.Reading.{named, behind}
use Rattle.jc_heap.proofs.Walks.{walk_step, walk_short}

pub records_from-skip : (more : Sizes) (s at : ℕ) (ws : List ℕ) → records_from more s at ws ≡ records_from more 0 (at + s) (drop s ws)
records_from-skip more zero at ws = ap (λ a. records_from more 0 a ws) (sym (add-zero at))
records_from-skip more (suc s) at [] = refl
records_from-skip more (suc s) at (w ∷ ws) =
    let here : suc at + s ≡ at + suc s = omega arith in
    records_from-skip more s (suc at) ws ∙ ap (λ a. records_from more 0 a (drop s ws)) here

-- the first record, and those after it
pub records_from-step : (more : Sizes) (at : ℕ) (ws : List ℕ) → 0 < length ws → records_from more 0 at ws ≡ (at, take (more at ws + 1) ws)
    ∷ records_from more 0 (at + (more at ws + 1)) (drop (more at ws + 1) ws)
records_from-step more at [] h = absurd (omega arith)
records_from-step more at (w ∷ ws) h =
    let one : suc (more at (w ∷ ws)) ≡ more at (w ∷ ws) + 1 = omega arith in
    let here : suc at + more at (w ∷ ws) ≡ at + suc (more at (w ∷ ws)) = omega arith in
    ap (λ l. (at, w ∷ take (more at (w ∷ ws)) ws) ∷ l) (records_from-skip more (more at (w ∷ ws)) (suc at) ws
    ∙ ap (λ a. records_from more 0 a (drop (more at (w ∷ ws)) ws)) here)
    ∙ ap (λ n. (at, take n (w ∷ ws)) ∷ records_from more 0 (at + n) (drop n (w ∷ ws))) one

and-false : (b : Bool) → (b && false) ≡ false
and-false true = refl
and-false false = refl

skip_low : (e : ℕ × Item) (es : List (ℕ × Item)) (r : ℕ) → e.0 ≤ r → first_above (e ∷ es) r ≡ first_above es r
skip_low e es r h = ap (λ b. if b && is_object e.1 then Some e.0 else first_above es r) (le-ltb r e.0 h)

-- a search above a record may begin there
pub above_from : (ps : List ℕ) (more : Sizes) (s at : ℕ) (ws : List ℕ) (r k : ℕ) → has_entry (records_from more s at ws) r ≡ true → at + k ≡ r →
    first_above (map (item_entry ps) (records_from more s at ws)) r ≡ first_above (map (item_entry ps) (records_from more 0 r (drop k ws))) r
above_from ps more s at [] r k h e = absurd (false≢true h)
above_from ps more (suc s) at (w ∷ ws) r zero h e = let b : at + suc s ≤ r = has_behind more (suc s) at (w ∷ ws) r h in absurd (omega arith)
above_from ps more (suc s) at (w ∷ ws) r (suc k) h e = above_from ps more s (suc at) ws r k h (omega arith)
above_from ps more zero at (w ∷ ws) r zero h e =
    let here : at ≡ r = omega arith in
    ap (λ a. first_above (map (item_entry ps) (records_from more 0 a (w ∷ ws))) r) here
above_from ps more zero at (w ∷ ws) r (suc k) h e =
    let n : at ≡ r → ⊥ = λ f. omega arith in
    let there : has_entry (records_from more (more at (w ∷ ws)) (suc at) ws) r ≡ true = rw (ne_eqb at r n) at h in
    skip_low (item_entry ps (at, w ∷ take (more at (w ∷ ws)) ws)) (map (item_entry ps) (records_from more (more at (w ∷ ws)) (suc at) ws)) r (omega arith)
    ∙ above_from ps more (more at (w ∷ ws)) (suc at) ws r k there (omega arith)

-- a table that is whole is whole from each of its records on
pub lacking_from : (more : Sizes) (s at : ℕ) (ws : List ℕ) (r k : ℕ) → has_entry (records_from more s at ws) r ≡ true → at + k ≡ r
    → missing_words more s at ws ≡ missing_words more 0 r (drop k ws)
lacking_from more s at [] r k h e = absurd (false≢true h)
lacking_from more (suc s) at (w ∷ ws) r zero h e = let b : at + suc s ≤ r = has_behind more (suc s) at (w ∷ ws) r h in absurd (omega arith)
lacking_from more (suc s) at (w ∷ ws) r (suc k) h e = lacking_from more s (suc at) ws r k h (omega arith)
lacking_from more zero at (w ∷ ws) r zero h e =
    let here : at ≡ r = omega arith in
    ap (λ a. missing_words more 0 a (w ∷ ws)) here
lacking_from more zero at (w ∷ ws) r (suc k) h e =
    let n : at ≡ r → ⊥ = λ f. omega arith in
    let there : has_entry (records_from more (more at (w ∷ ws)) (suc at) ws) r ≡ true = rw (ne_eqb at r n) at h in
    lacking_from more (more at (w ∷ ws)) (suc at) ws r k there (omega arith)

-- one step of a walk over the records of an image
module _ (ws : List ℕ) (at size : ℕ) (laid : IsWellFormed ws) (below : at < get_or ws top_address 0)
    (whole : missing_words (sizes (package_addresses (image ws))) 0 at (drop at (image ws)) ≡ 0)
    (is : size ≡ sizes (package_addresses (image ws)) at (drop at (image ws)) + 1) where
  abbrev ps : List ℕ
  ps = package_addresses (image ws)

  abbrev tail : List ℕ
  tail = drop at (image ws)

  long : length (drop at (image ws)) ≡ get_or ws top_address 0 - at
  long = omega (arith, length-drop at (image ws), length-take-le (get_or ws top_address 0) ws laid.fits)

  fits : sizes (package_addresses (image ws)) at (drop at (image ws)) < length (drop at (image ws))
  fits = elim (cases_lt (sizes (package_addresses (image ws)) at (drop at (image ws))) (length (drop at (image ws)))) [
    | inl h ↦ h
    | inr h ↦ absurd (walk_short (sizes (package_addresses (image ws))) at (drop at (image ws)) (omega (arith, long)) h whole)
  ]

  pub step_fits : at + size ≤ get_or ws top_address 0
  step_fits = omega (arith, fits, long, is)

  tail_behind : drop size (drop at (image ws)) ≡ drop (at + size) (image ws)
  tail_behind = drop-drop size at (image ws)

  pub step_whole : missing_words (sizes (package_addresses (image ws))) 0 (at + size) (drop (at + size) (image ws)) ≡ 0
  step_whole =
      ap (λ l. missing_words (sizes ps) 0 (at + size) l) (sym tail_behind)
      ∙ ap (λ n. missing_words (sizes ps) 0 (at + n) (drop n tail)) is
      ∙ sym (walk_step (sizes ps) at tail fits)
      ∙ whole

  pub step_cut : records_from (sizes (package_addresses (image ws))) 0 at (drop at (image ws)) ≡ (at, take size (drop at (image ws)))
      ∷ records_from (sizes (package_addresses (image ws))) 0 (at + size) (drop (at + size) (image ws))
  step_cut =
      records_from-step (sizes ps) at tail (omega (arith, long))
      ∙ ap (λ n. (at, take n tail) ∷ records_from (sizes ps) 0 (at + n) (drop n tail)) (sym is)
      ∙ ap (λ l. (at, take size tail) ∷ records_from (sizes ps) 0 (at + size) l) tail_behind

  -- the records from here on, as items
  abbrev pub items_from : ℕ → List (ℕ × Item)
  items_from a = map (item_entry (package_addresses (image ws))) (records_from (sizes (package_addresses (image ws))) 0 a (drop a (image ws)))

  pub item_here : items_from at ≡ (at, item ps at (take size tail)) ∷ items_from (at + size)
  item_here = ap (map (item_entry ps)) step_cut

  -- it is passed where it lies below, or where it is a package
  pub step_low : (above : ℕ) → at ≤ above → first_above (items_from at) above ≡ first_above (items_from (at + size)) above
  step_low above h = ap (λ l. first_above l above) item_here ∙ skip_low (at, item ps at (take size tail)) (items_from (at + size)) above h

  pub step_package : (above : ℕ) → is_package (package_addresses (image ws)) at ≡ true
      → first_above (items_from at) above ≡ first_above (items_from (at + size)) above
  step_package above e =
      ap (λ l. first_above l above) item_here
      ∙ ap (λ b. if nat_lt above at && is_object (if b then APackage (take size tail) else AnObject (object_of (take size tail))) then Some at else first_above
      (items_from (at + size)) above) e
      ∙ ap (λ b. if b then Some at else first_above (items_from (at + size)) above) (and-false (nat_lt above at))

  -- and it is found where it is an object
  pub step_found : (above : ℕ) → above < at → is_package (package_addresses (image ws)) at ≡ false → first_above (items_from at) above ≡ Some at
  step_found above h e =
      ap (λ l. first_above l above) item_here
      ∙ ap (λ b. if b && is_object (item ps at (take size tail)) then Some at else first_above (items_from (at + size)) above) (lt-ltb above at h)
      ∙ ap (λ b. if is_object (if b then APackage (take size tail) else AnObject (object_of (take size tail))) then Some at else first_above
      (items_from (at + size)) above) e

  pub step_is : (above : ℕ) → (nat_lt above at && not (is_package (package_addresses (image ws)) at)) ≡ true → first_above (items_from at) above ≡ Some at
  step_is above e = elim (cases_lt above at) [
    | inl h ↦ elim (cases_Bool (is_package (package_addresses (image ws)) at)) [
      | inl p ↦ absurd (false≢true (sym (and-false (nat_lt above at)) ∙ ap (λ b. nat_lt above at && not b) (sym p) ∙ e))
      | inr p ↦ step_found above h p
    ]
    | inr h ↦ absurd (false≢true (ap (λ b. b && not (is_package (package_addresses (image ws)) at)) (sym (le-ltb above at h)) ∙ e))
  ]

  pub step_is_not : (above : ℕ) → (nat_lt above at && not (is_package (package_addresses (image ws)) at)) ≡ false
      → first_above (items_from at) above ≡ first_above (items_from (at + size)) above
  step_is_not above e = elim (cases_lt above at) [
    | inl h ↦ elim (cases_Bool (is_package (package_addresses (image ws)) at)) [
      | inl p ↦ step_package above p
      | inr p ↦ absurd (false≢true (sym e ∙ ap (λ b. b && not (is_package (package_addresses (image ws)) at)) (lt-ltb above at h) ∙ ap not p))
    ]
    | inr h ↦ step_low above h
  ]

-- the records from an object on
module _ (ws : List ℕ) (r : ℕ) (laid : IsWellFormed ws) (there : IsObject (heap_of ws) r) where
  offset : base (image ws) + (r - base (image ws)) ≡ r
  offset = omega (arith, behind ws r laid there)

  tail_is : drop (r - base (image ws)) (drop (base (image ws)) (image ws)) ≡ drop r (image ws)
  tail_is = drop-drop (r - base (image ws)) (base (image ws)) (image ws) ∙ ap (λ k. drop k (image ws)) offset

  pub whole_from : missing_words (sizes (package_addresses (image ws))) 0 r (drop r (image ws)) ≡ 0
  unfolding missing_words_of_image
  whole_from =
      ap (missing_words (sizes (package_addresses (image ws))) 0 r) (sym tail_is)
      ∙ sym (lacking_from (sizes (package_addresses (image ws))) 0 (base (image ws)) (drop (base (image ws)) (image ws)) r (r - base (image ws))
      (named ws r laid there) offset)
      ∙ laid.whole

  pub next_from : next_object (heap_of ws) r ≡ first_above (map (item_entry (package_addresses (image ws)))
      (records_from (sizes (package_addresses (image ws))) 0 r (drop r (image ws)))) r
  unfolding read_image next_object
  next_from =
      above_from (package_addresses (image ws)) (sizes (package_addresses (image ws))) 0 (base (image ws)) (drop (base (image ws)) (image ws)) r
      (r - base (image ws)) (named ws r laid there) offset
      ∙ ap (λ l. first_above (map (item_entry (package_addresses (image ws))) (records_from (sizes (package_addresses (image ws))) 0 r l)) r) tail_is

-- and from the first one on
pub whole_first : (ws : List ℕ) → IsWellFormed ws → missing_words (sizes (package_addresses (image ws))) 0 (base (image ws)) (drop (base (image ws)) (image ws))
    ≡ 0
unfolding missing_words_of_image
whole_first ws laid = laid.whole

pub next_first : (ws : List ℕ) → next_object (heap_of ws) 0 ≡ first_above (map (item_entry (package_addresses (image ws)))
    (records_from (sizes (package_addresses (image ws))) 0 (base (image ws)) (drop (base (image ws)) (image ws)))) 0
unfolding read_image next_object
next_first ws = refl

-- where the first one begins
pub base_is : (ws : List ℕ) → IsWellFormed ws → base (image ws) ≡ text_start + (get_or ws text_length_address 0 + 1) / 2
base_is ws laid = ap (λ n. text_start + (n + 1) / 2) (get_or-take (get_or ws top_address 0) ws text_length_address 0 (omega (arith, laid.based)))
