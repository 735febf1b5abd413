-- What stands at an address where a record begins, by the words from there on.
use Rattle.std.proofs.Common.{◌≡◌, ◌∙◌, ℕ, ◌+◌, ◌-◌, ◌<◌, ◌≤◌, ◌/◌, ◌%◌, ◌==◌, Bool, true, false, inl, inr, List, length, take, drop, get_or, Option, Some, None}
use Rattle.std.proofs.Common.{ap, refl, sym, subst, arith, if◌then◌else◌, is_some}
use Rattle.std.specs.Prelude.{unwrap_or}
use Rattle.std.proofs.lemmas.Bool.{cases_Bool, cases_eq, eq-eqb, false≢true, ne_eqb}
use Rattle.std.proofs.lemmas.List.{drop-take, get_or-take, length-drop, length-take-le, take-take}
use Rattle.jc_transient.specs.declared.cell.ClearEvent.{ClearEvent}
use Rattle.jc_commit.specs.Image.{top_of}
use Rattle.jc_heap.specs.Image.{image, is_package, package_addresses}
use Rattle.jc_heap.specs.Object.{AnObject, APackage, cells_of, event_of, is_header, is_packed, is_packed_header, kind_of, object_of, payload, words_of_cells}
use Rattle.jc_heap.specs.declared.object.Facts.{Facts}
use Rattle.jc_heap.specs.declared.object.Kind.{Kind}
use Rattle.jc_heap.proofs.Images.{IsCell, cell_offset, cell_said, object_cell}
use Rattle.jc_heap.proofs.Reading.{cells-object_of, persistent_of, said, said-object_of}
use Rattle.jc_heap.proofs.Walks.{word_from}
use Rattle.jc_objects.specs.Bounds.{IsBounded}
use Rattle.jc_objects.specs.Records.{IsRecord, item_at, object_in, record_size, record_words}
use Rattle.jc_objects.proofs.HeapBounds.{Bounds, bounds}

module _ (w : List ℕ) (at : ℕ) (h : IsBounded w) (there : IsRecord w at) where
  abbrev words : List ℕ
  words = record_words w at

  b : Bounds w
  b = bounds w h

  pub length-words : length (record_words w at) ≡ record_size w at
  length-words = length-take-le (record_size w at) (drop at (image w)) (omega (
    arith,
    there.whole,
    length-drop at (image w),
    length-take-le (top_of w) w b.fits,
  ))

  pub word_is : (k : ℕ) → k < record_size w at → get_or (record_words w at) k 0 ≡ get_or w (at + k) 0
  word_is k near = get_or-take (record_size w at) (drop at (image w)) k 0 near ∙ word_from w at k (omega (arith, near, there.whole))

  -- they are words of the image
  pub words_raw : record_words w at ≡ take (record_size w at) (drop at w)
  words_raw =
      let rest : at + (top_of w - at) ≡ top_of w = omega (arith, there.whole) in
      ap (λ (n : ℕ). take (record_size w at) (drop at (take n w))) (sym rest)
      ∙ ap (take (record_size w at)) (drop-take at (top_of w - at) w)
      ∙ take-take (record_size w at) (top_of w - at) (drop at w) (omega (arith, there.whole))

  -- where it is no package's
  module _ (object : is_package (package_addresses (image w)) at ≡ false) where
    pub item_is : item_at w at ≡ AnObject (object_of (record_words w at))
    item_is = ap (λ (p : Bool). if p then APackage words else AnObject (object_of words)) object

    size_is : record_size w at ≡ 4 + payload (get_or (drop at (image w)) 0 0) (get_or (drop at (image w)) 3 0)
    size_is =
        ap (λ (p : Bool). (if p then get_or (drop at (image w)) 0 0 - 1 else 3 + payload (get_or (drop at (image w)) 0 0) (get_or (drop at (image w)) 3 0)) + 1) object
        ∙ (omega arith)

    pub four : 4 ≤ record_size w at
    four = omega (arith, size_is)

    same_word : (k : ℕ) → k < record_size w at → get_or (drop at (image w)) k 0 ≡ get_or words k 0
    same_word k near = sym (get_or-take (record_size w at) (drop at (image w)) k 0 near)

    whole_record : length words ≡ 4 + payload (get_or words 0 0) (get_or words 3 0)
    whole_record = length-words ∙ size_is ∙ (λ i. 4 + payload (same_word 0 (omega (arith, four)) i) (same_word 3 (omega (arith, four)) i))

    at_least_one : (c : Bool) → 1 ≤ (if c then 1 else 65536)
    at_least_one true = omega arith
    at_least_one false = omega arith

    first_word : get_or words 0 0 ≡ get_or w at 0
    first_word = word_is 0 (omega (arith, four)) ∙ ap (λ (k : ℕ). get_or w k 0) (omega arith)

    pub five : (get_or w at 0 / 256 ≡ 0 → ⊥) → 4 < record_size w at
    five n =
        let other : get_or words 0 0 / 256 ≡ 0 → ⊥ = λ e. n (ap (λ (v : ℕ). v / 256) (sym first_word) ∙ e) in
        omega (
          arith,
          length-words,
          at_least_one (is_header (get_or words 0 0)),
          whole_record
              ∙ ap (λ (c : Bool). 4 + (if is_header (get_or words 0 0) then (if c then words_of_cells (is_packed_header (get_or words 0 0)) (get_or words 3 0) else 1) else 65536))
              (ne_eqb (get_or words 0 0 / 256) 0 other),
        )

    place_word : said (get_or words 0 0) (get_or words 1 0) (get_or words 2 0) (get_or words 3 0) (get_or words 4 0)
        ≡ said (get_or words 0 0) (get_or words 1 0) (get_or words 2 0) (get_or words 3 0) (get_or w (at + 4) 0)
    place_word = elim (cases_eq (get_or words 0 0 / 256) 0) [
      | inl e ↦ rw (eq-eqb (get_or words 0 0 / 256) 0 e) refl
      | inr n ↦ ap (said (get_or words 0 0) (get_or words 1 0) (get_or words 2 0) (get_or words 3 0))
          (word_is 4 (five (λ e. n (ap (λ (v : ℕ). v / 256) first_word ∙ e))))
    ]

    facts_are : (object_of (record_words w at)).facts ≡ said (get_or w at 0) (get_or w (at + 1) 0) (get_or w (at + 2) 0) (get_or w (at + 3) 0) (get_or w (at + 4) 0)
    facts_are =
        said-object_of words (omega (arith, four, length-words)) ∙ place_word
        ∙ (λ k. said (first_word k) (word_is 1 (omega (arith, four)) k) (word_is 2 (omega (arith, four)) k) (word_is 3 (omega (arith, four)) k) (get_or w (at + 4) 0))

    -- a header that is read word by word
    pub facts_built : (v : ℕ) (kind : Kind) (event : Option ClearEvent) (class owner long place : ℕ) (packed : Bool) → v ≡ get_or w at 0
        → kind ≡ kind_of (v % 256) → event ≡ event_of (v / 256) → class ≡ get_or w (at + 1) 0 → owner ≡ get_or w (at + 2) 0 → long ≡ get_or w (at + 3) 0
        → place ≡ (if v / 256 == 0 then 0 else get_or w (at + 4) 0) → packed ≡ is_packed_header v
        → (let built : Facts = record { kind = kind; event = event; class = class; owner = owner; length = long; place = place; packed = packed } in Some built)
        ≡ object_in (item_at w at)
    facts_built v kind event class owner long place packed ve ke ee ce oe le pe be =
        (λ i. Some (record {
          kind = (ke ∙ ap (λ (u : ℕ). kind_of (u % 256)) ve) i;
          event = (ee ∙ ap (λ (u : ℕ). event_of (u / 256)) ve) i;
          class = ce i;
          owner = oe i;
          length = le i;
          place = (pe ∙ ap (λ (u : ℕ). if u / 256 == 0 then 0 else get_or w (at + 4) 0) ve) i;
          packed = (be ∙ ap is_packed_header ve) i;
        }))
        ∙ ap Some (sym facts_are)
        ∙ ap object_in (sym item_is)

    -- it has as many cells as it says, where they are there
    pub cells_are : length w < 65536 → (f : Facts) → Some f ≡ object_in (item_at w at) → f.event ≡ None → length (cells_of (item_at w at)) ≡ f.length
    cells_are small f is none =
        let same : f ≡ (object_of words).facts = ap (λ (o : Option Facts). unwrap_or o f) (is ∙ ap object_in item_is) in
        let long : length words < 65536 = omega (arith, length-words, there.whole, b.fits, small) in
        let event : event_of (get_or words 0 0 / 256) ≡ None =
        ap (λ (g : Facts). g.event) (sym (said-object_of words (omega (arith, four, length-words)))) ∙ ap (λ (g : Facts). g.event) (sym same) ∙ none in
        ap (λ t. length (cells_of t)) item_is
        ∙ cells-object_of words whole_record long (persistent_of (get_or words 0 0 / 256) event)
        ∙ ap (λ (g : Facts). g.length) (sym (said-object_of words (omega (arith, four, length-words))))
        ∙ ap (λ (g : Facts). g.length) (sym same)

  -- a package has no header
  pub no_package : (f : Facts) → object_in (item_at w at) ≡ Some f → is_package (package_addresses (image w)) at ≡ false
  no_package f is = elim (cases_Bool (is_package (package_addresses (image w)) at)) [
    | inl e ↦ absurd (false≢true (ap is_some (sym (ap (λ (p : Bool). object_in (if p then APackage words else AnObject (object_of words))) e) ∙ is)))
    | inr e ↦ e
  ]

  -- where a cell stands, and what it is
  pub cell_is : (f : Facts) (i : ℕ) → object_in (item_at w at) ≡ Some f → i < length (cells_of (item_at w at))
      → (at + (4 + cell_offset (is_packed f) i) < top_of w)
      × (get_or (cells_of (item_at w at)) i 0 ≡ cell_said (is_packed f) (get_or w (at + (4 + cell_offset (is_packed f) i)) 0) i)
  cell_is f i is near =
      let object : is_package (package_addresses (image w)) at ≡ false = no_package f is in
      let same : (object_of words).facts ≡ f = ap (λ (o : Option Facts). unwrap_or o f) (sym (ap object_in (item_is object)) ∙ is) in
      let within : i < length ((object_of words).cells) = omega (arith, near, ap (λ t. length (cells_of t)) (item_is object)) in
      let cell : IsCell words (object_of words) i 0 (is_packed f) = subst (λ (g : Facts). IsCell words (object_of words) i 0 (is_packed g)) same
      (object_cell words i 0 within) in
      let inside : 4 + cell_offset (is_packed f) i < record_size w at = omega (arith, cell.within, length-words) in (
        omega (arith, inside, there.whole),
        ap (λ t. get_or (cells_of t) i 0) (item_is object) ∙ cell.said ∙ ap (λ (v : ℕ). cell_said (is_packed f) v i)
            (word_is (4 + cell_offset (is_packed f) i) inside),
      )

  -- the same, where it is known whether two stand in a word
  pub cell_by : (packed : Bool) (f : Facts) (i : ℕ) → is_packed f ≡ packed → object_in (item_at w at) ≡ Some f → i < length (cells_of (item_at w at))
      → (at + (4 + cell_offset packed i) < top_of w)
      × (get_or (cells_of (item_at w at)) i 0 ≡ cell_said packed (get_or w (at + (4 + cell_offset packed i)) 0) i)
  cell_by packed f i e is near = subst (λ (c : Bool). (at + (4 + cell_offset c i) < top_of w)
      × (get_or (cells_of (item_at w at)) i 0 ≡ cell_said c (get_or w (at + (4 + cell_offset c i)) 0) i)) e (cell_is f i is near)
