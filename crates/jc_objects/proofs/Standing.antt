-- The records from an address on that have all their words.
use Rattle.std.proofs.Common.{◌≡◌, ◌∙◌, ℕ, suc, ◌+◌, ◌-◌, ◌<◌, ◌≤◌, ◌==◌, Bool, true, false, List, [], ◌∷◌, length, take, drop, map}
use Rattle.std.proofs.Common.{ap, ap₂, refl, sym, arith}
use Rattle.std.proofs.lemmas.Bool.{false≢true, ne_eqb}
use Rattle.std.proofs.lemmas.List.{drop-drop, drop_all, length-drop, length-take-le, length-map, take-map}
use Rattle.jc_commit.specs.Image.{top_of}
use Rattle.jc_heap.specs.Walk.{Sizes, missing_words, records_from}
use Rattle.jc_heap.specs.Heap.{read_image}
use Rattle.jc_heap.specs.Image.{base, image, item_entry, missing_words_of_image, package_addresses}
use Rattle.jc_heap.proofs.Following.{records_from-step}
use Rattle.jc_heap.proofs.Walks.{walk_short, walk_step}
use Rattle.jc_objects.specs.Bounds.{first_record, IsBounded}
use Rattle.jc_objects.specs.Records.{are_whole, are_whole_from, is_whole_from, item_at, items_from, record_size, sizes_in, standing_items, whole_among, whole_from}
use Rattle.jc_objects.proofs.HeapBounds.{Bounds, base-first, bounds}

-- one before others, of which the last may lack words
among-more : {A : Type 0} (whole : Bool) (x : A) (xs : List A) → (whole ≡ false → 0 < length xs) → whole_among whole (x ∷ xs) ≡ x ∷ whole_among whole xs
among-more true x xs some = refl
among-more false x [] some = absurd (omega (arith, some refl))
among-more false x (y ∷ ys) some =
    let one : length (x ∷ y ∷ ys) - 1 ≡ suc (length (y ∷ ys) - 1) = omega arith in
    ap (λ (n : ℕ). take n (x ∷ y ∷ ys)) one

whole-map : {A B : Type 0} (f : A → B) (whole : Bool) (xs : List A) → map f (whole_among whole xs) ≡ whole_among whole (map f xs)
whole-map f true xs = refl
whole-map f false xs = sym (take-map f (length xs - 1) xs) ∙ ap (λ (n : ℕ). take (n - 1) (map f xs)) (sym (length-map xs f))

some_behind : (more : Sizes) (at : ℕ) (ws : List ℕ) → are_whole_from more at ws ≡ false → 0 < length (records_from more 0 at ws)
some_behind more at [] lacks = absurd (false≢true (sym lacks))
some_behind more at (w ∷ ws) lacks = omega arith

-- one that has all its words comes first, and then those after it
pub whole_step : (more : Sizes) (at : ℕ) (ws : List ℕ) → more at ws < length ws
    → (whole_from more at ws ≡ (at, take (more at ws + 1) ws) ∷ whole_from more (at + (more at ws + 1)) (drop (more at ws + 1) ws))
    × (are_whole_from more at ws ≡ are_whole_from more (at + (more at ws + 1)) (drop (more at ws + 1) ws))
whole_step more at ws fits =
    let size : ℕ = more at ws + 1 in
    let same : are_whole_from more at ws ≡ are_whole_from more (at + (more at ws + 1)) (drop (more at ws + 1) ws) =
    ap (λ (n : ℕ). n == 0) (walk_step more at ws fits) in (
      ap₂ (λ (b : Bool) (l : List (ℕ × List ℕ)). whole_among b l) same (records_from-step more at ws (omega (arith, fits)))
          ∙ among-more (are_whole_from more (at + size) (drop size ws)) (at, take size ws) (records_from more 0 (at + size) (drop size ws))
          (some_behind more (at + size) (drop size ws)),
      same,
    )

-- one that lacks words is the last, and none comes before it
pub whole_short : (more : Sizes) (at : ℕ) (ws : List ℕ) → 0 < length ws → length ws ≤ more at ws
    → (whole_from more at ws ≡ []) × (are_whole_from more at ws ≡ false)
whole_short more at ws some short =
    let size : ℕ = more at ws + 1 in
    let none : drop size ws ≡ [] = drop_all size ws (omega (arith, short)) in
    let one : records_from more 0 at ws ≡ (at, take size ws) ∷ [] = records_from-step more at ws some
    ∙ ap (λ (l : List ℕ). (at, take size ws) ∷ records_from more 0 (at + size) l) none in
    let no : are_whole_from more at ws ≡ false = ne_eqb (missing_words more 0 at ws) 0 (walk_short more at ws some short) in (
      ap₂ (λ (b : Bool) (l : List (ℕ × List ℕ)). whole_among b l) no one,
      no,
    )

-- after the last word there is none
pub whole_end : (more : Sizes) (at : ℕ) (ws : List ℕ) → length ws ≡ 0 → (whole_from more at ws ≡ []) × (are_whole_from more at ws ≡ true)
whole_end more at [] e = (refl, refl)
whole_end more at (w ∷ ws) e = absurd (omega (arith, e))

module _ (w : List ℕ) (h : IsBounded w) where
  b : Bounds w
  b = bounds w h

  left : (at : ℕ) → length (drop at (image w)) ≡ top_of w - at
  left at = length-drop at (image w) ∙ ap (λ (n : ℕ). n - at) (length-take-le (top_of w) w b.fits)

  pub items_step : (at : ℕ) → at + record_size w at ≤ top_of w → (items_from w at ≡ (at, item_at w at) ∷ items_from w (at + record_size w at))
      × (is_whole_from w at ≡ is_whole_from w (at + record_size w at))
  items_step at fits =
      let near : sizes_in w at (drop at (image w)) < length (drop at (image w)) = omega (arith, fits, left at) in
      let step = whole_step (sizes_in w) at (drop at (image w)) near in
      let behind : drop (record_size w at) (drop at (image w)) ≡ drop (at + record_size w at) (image w) = drop-drop (record_size w at) at (image w) in (
        ap (map (item_entry (package_addresses (image w)))) step.0
            ∙ ap (λ (l : List ℕ). (at, item_at w at) ∷ map (item_entry (package_addresses (image w))) (whole_from (sizes_in w) (at + record_size w at) l)) behind,
        step.1 ∙ ap (are_whole_from (sizes_in w) (at + record_size w at)) behind,
      )

  pub items_short : (at : ℕ) → at < top_of w → top_of w < at + record_size w at → (items_from w at ≡ []) × (is_whole_from w at ≡ false)
  items_short at below short =
      let far : length (drop at (image w)) ≤ sizes_in w at (drop at (image w)) = omega (arith, short, left at) in
      let last = whole_short (sizes_in w) at (drop at (image w)) (omega (arith, left at, below)) far in
      (ap (map (item_entry (package_addresses (image w)))) last.0, last.1)

  pub items_end : (at : ℕ) → top_of w ≤ at → (items_from w at ≡ []) × (is_whole_from w at ≡ true)
  items_end at past =
      let last = whole_end (sizes_in w) at (drop at (image w)) (omega (arith, left at, past)) in
      (ap (map (item_entry (package_addresses (image w)))) last.0, last.1)

  pub items_first : (items_from w (first_record w) ≡ standing_items w) × (is_whole_from w (first_record w) ≡ are_whole w)
  unfolding read_image missing_words_of_image
  items_first =
      let first : base (image w) ≡ first_record w = base-first w b.wide in
      let same : is_whole_from w (first_record w) ≡ are_whole w = ap (λ (a : ℕ). is_whole_from w a) (sym first) in (
        ap (items_from w) (sym first) ∙ whole-map (item_entry (package_addresses (image w))) (are_whole w)
            (records_from (sizes_in w) 0 (base (image w)) (drop (base (image w)) (image w))),
        same,
      )
