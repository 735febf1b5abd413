-- What the words of an object's record say.
use Rattle.std.proofs.Common.{◌≡◌, ℕ, suc, ◌+◌, ◌-◌, ◌*◌, ◌/◌, ◌%◌, min, ◌<◌, ◌≤◌, ◌==◌, Bool, true, false, inl, inr, List, [], ◌∷◌, length, get_or, drop, refl, sym, ◌∙◌}
use Rattle.std.proofs.Common.{ap, subst, arith, if◌then◌else◌, Option, Some, None, is_some, lit≤, IsTrue, not, ◌&&◌}
use Rattle.jc_transient.specs.declared.cell.ClearEvent.{ClearEvent}
use Rattle.jc_transient.specs.declared.cell.ClearEvent.TheVariants.{Reset, Deselect}
use Rattle.jc_heap.specs.declared.object.Kind.{Kind}
use Rattle.std.proofs.lemmas.List.{get_or-take, get_or-drop, length-drop, length-take}
use Rattle.std.proofs.lemmas.Bool.{cases_Bool, cases_eq, false≢true, eq-eqb, ne_eqb}
use Rattle.jc_words.specs.Layout.{top_address, text_start}
use Rattle.jc_commit.specs.State.{State}
use Rattle.jc_heap.specs.declared.object.Facts.{Facts}
use Rattle.jc_heap.specs.Walk.{entry_or, has_entry}
use Rattle.jc_heap.specs.Object.{AnObject, APackage, object_of, cells_of, facts_of, is_object, is_header, is_packed, is_packed_header, payload, kind_of, event_of}
use Rattle.jc_heap.specs.Object.{words_of_cells, cells_of_words}
use Rattle.jc_heap.proofs.Images.{packed_of}
use Rattle.jc_heap.proofs.PackedBytes.{length-bytes_of_packed}
use Rattle.std.proofs.Math.Nat.{min-eq_left}
use Rattle.jc_heap.specs.Image.{image, base, package_addresses, is_package, sizes, item, records, missing_words_of_image, IsWellFormed}
use Rattle.jc_heap.specs.Heap.{heap_of, read_image, heap_item_at, is_allocated, cells, facts, IsObject}
use Rattle.jc_heap.proofs.Records.{entry_or-records_from, has_behind, length-record}
use Rattle.jc_heap.proofs.Tables.{at_or-map, at_or-map_absent, has-map}

-- the facts that a header's words say, and the word after it
abbrev pub said : ℕ → ℕ → ℕ → ℕ → ℕ → Facts
said word class owner long place = record {
  kind = kind_of (word % 256);
  event = event_of (word / 256);
  class = class;
  owner = owner;
  length = long;
  place = (if word / 256 == 0 then 0 else place);
  packed = is_packed_header word;
}

pub said-object_of : (rec : List ℕ) → 4 ≤ length rec → (object_of rec).facts ≡ said (get_or rec 0 0) (get_or rec 1 0) (get_or rec 2 0) (get_or rec 3 0)
    (get_or rec 4 0)
said-object_of [] h = absurd (omega arith)
said-object_of (a ∷ []) h = absurd (omega arith)
said-object_of (a ∷ b ∷ []) h = absurd (omega arith)
said-object_of (a ∷ b ∷ c ∷ []) h = absurd (omega arith)
said-object_of (a ∷ b ∷ c ∷ d ∷ []) h = refl
said-object_of (a ∷ b ∷ c ∷ d ∷ e ∷ rest) h = refl

-- the words that n cells take hold n cells
pub length-cells_of_words : (packed : Bool) (long : ℕ) (words : List ℕ) → length words ≡ words_of_cells packed long → length (cells_of_words packed long words) ≡ long
length-cells_of_words false long words e = e
length-cells_of_words true long words e = length-bytes_of_packed (min long (2 * length words)) words ∙ min-eq_left (omega (arith, e))

pub cells-object_of : (rec : List ℕ) → length rec ≡ 4 + payload (get_or rec 0 0) (get_or rec 3 0) → length rec < 65536 → get_or rec 0 0 / 256 ≡ 0
    → length ((object_of rec).cells) ≡ get_or rec 3 0
cells-object_of [] h small e = absurd (omega (arith, h))
cells-object_of (a ∷ []) h small e = absurd (omega (arith, h))
cells-object_of (a ∷ b ∷ []) h small e = absurd (omega (arith, h))
cells-object_of (a ∷ b ∷ c ∷ []) h small e = absurd (omega (arith, h))
cells-object_of (a ∷ b ∷ c ∷ d ∷ rest) h small e =
    let t : (a / 256 == 0) ≡ true = eq-eqb (a / 256) 0 e in
    elim (cases_Bool (is_header a)) [
      | inl y ↦
          let n : length (a ∷ b ∷ c ∷ d ∷ rest) ≡ 4 + words_of_cells (is_packed_header a) d = h
          ∙ ap (λ g. 4 + (if g then (if a / 256 == 0 then words_of_cells (is_packed_header a) d else 1) else 65536)) y
          ∙ ap (λ g. 4 + (if g then words_of_cells (is_packed_header a) d else 1)) t in
          ap (λ g. length (if g then cells_of_words (is_packed_header a) d rest else [])) t
          ∙ length-cells_of_words (is_packed_header a) d rest (omega (arith, n))
      | inr y ↦
          let n : length (a ∷ b ∷ c ∷ d ∷ rest) ≡ 4 + 65536 = h
          ∙ ap (λ g. 4 + (if g then (if a / 256 == 0 then words_of_cells (is_packed_header a) d else 1) else 65536)) y in absurd (omega (arith, n, small))
    ]

at_least_one : (b : Bool) → 1 ≤ (if b then 1 else 65536)
at_least_one true = lit≤ tt
at_least_one false = lit≤ tt

module _ (ws : List ℕ) (r : ℕ) (laid : IsWellFormed ws) (there : IsObject (heap_of ws) r) where
  abbrev rec : List ℕ
  rec = entry_or [] (records (image ws)) r

  pub named : has_entry (records (image ws)) r ≡ true
  unfolding read_image heap_item_at
  named = elim (cases_Bool (has_entry (records (image ws)) r)) [
    | inl e ↦ e
    | inr e ↦ absurd (false≢true (ap is_object (sym (at_or-map_absent (item (package_addresses (image ws))) (APackage []) (records (image ws)) r e)) ∙ there))
  ]

  is_item : heap_item_at (heap_of ws) r ≡ item (package_addresses (image ws)) r rec
  unfolding read_image heap_item_at
  is_item = at_or-map (item (package_addresses (image ws))) [] (APackage []) (records (image ws)) r named

  pub no_package : is_package (package_addresses (image ws)) r ≡ false
  no_package = elim (cases_Bool (is_package (package_addresses (image ws)) r)) [
    | inl e ↦ absurd (false≢true (ap (λ b. is_object (if b then APackage rec else AnObject (object_of rec))) (sym e) ∙ ap is_object (sym is_item) ∙ there))
    | inr e ↦ e
  ]

  pub item_is : heap_item_at (heap_of ws) r ≡ AnObject (object_of rec)
  item_is = is_item ∙ ap (λ b. if b then APackage rec else AnObject (object_of rec)) no_package

  pub behind : base (image ws) ≤ r
  behind = omega (arith, has_behind (sizes (package_addresses (image ws))) 0 (base (image ws)) (drop (base (image ws)) (image ws)) r named)

  -- a word of the record
  word_is : (j : ℕ) → j < length rec → (r + j < get_or ws top_address 0) × (get_or rec j 0 ≡ get_or ws (r + j) 0)
  word_is j h =
      let offset : base (image ws) + (r + j - base (image ws)) ≡ r + j = omega (arith, behind) in
      let at : (r + j - base (image ws) < length (drop (base (image ws)) (image ws)))
      × (get_or rec j 0 ≡ get_or (drop (base (image ws)) (image ws)) (r + j - base (image ws)) 0) =
      entry_or-records_from (sizes (package_addresses (image ws))) 0 (base (image ws)) (drop (base (image ws)) (image ws)) r j
      (r + j - base (image ws)) h offset in
      let below : r + j < get_or ws top_address 0 = omega (
        arith,
        at.0,
        offset,
        length-drop (base (image ws)) (image ws),
        length-take (get_or ws top_address 0) ws,
      ) in (
        below,
        at.1 ∙ get_or-drop (base (image ws)) (image ws) (r + j - base (image ws)) 0 ∙ ap (λ k. get_or (image ws) k 0) offset
            ∙ get_or-take (get_or ws top_address 0) ws (r + j) 0 below,
      )

  -- the record is whole
  long_is : length rec ≡ suc (3 + payload (get_or (drop (r - base (image ws)) (drop (base (image ws)) (image ws))) 0 0)
      (get_or (drop (r - base (image ws)) (drop (base (image ws)) (image ws))) 3 0))
  unfolding missing_words_of_image
  long_is =
      length-record (sizes (package_addresses (image ws))) 0 (base (image ws)) (drop (base (image ws)) (image ws)) r (r - base (image ws)) named laid.whole
      (omega (arith, behind))
      ∙ ap (λ b. suc (if b then get_or (drop (r - base (image ws)) (drop (base (image ws)) (image ws))) 0 0 - 1 else 3
      + payload (get_or (drop (r - base (image ws)) (drop (base (image ws)) (image ws))) 0 0)
      (get_or (drop (r - base (image ws)) (drop (base (image ws)) (image ws))) 3 0))) no_package

  four : 4 ≤ length rec
  four = omega (arith, long_is)

  -- a word of the table is the record's
  same_word : (j : ℕ) → j < length rec → get_or (drop (r - base (image ws)) (drop (base (image ws)) (image ws))) j 0 ≡ get_or rec j 0
  same_word j h =
      let w : (r + j < get_or ws top_address 0) × (get_or rec j 0 ≡ get_or ws (r + j) 0) = word_is j h in
      let offset : base (image ws) + (r - base (image ws) + j) ≡ r + j = omega (arith, behind) in
      get_or-drop (r - base (image ws)) (drop (base (image ws)) (image ws)) j 0
      ∙ get_or-drop (base (image ws)) (image ws) (r - base (image ws) + j) 0
      ∙ ap (λ k. get_or (image ws) k 0) offset
      ∙ get_or-take (get_or ws top_address 0) ws (r + j) 0 w.0
      ∙ sym w.1

  pub whole_record : length rec ≡ 4 + payload (get_or rec 0 0) (get_or rec 3 0)
  whole_record = long_is ∙ ap (λ w. suc (3 + payload w (get_or (drop (r - base (image ws)) (drop (base (image ws)) (image ws))) 3 0)))
      (same_word 0 (omega (arith, four)))
      ∙ ap (λ l. suc (3 + payload (get_or rec 0 0) l)) (same_word 3 (omega (arith, four))) ∙ (omega arith)

  pub object_spot : (text_start ≤ r) × (r + 3 < get_or ws top_address 0)
  object_spot = (omega (arith, behind), (word_is 3 (omega (arith, four))).0)

  first_word : get_or rec 0 0 ≡ get_or ws r 0
  first_word = (word_is 0 (omega (arith, four))).1 ∙ ap (λ k. get_or ws k 0) (omega arith)

  five_words : (get_or rec 0 0 / 256 ≡ 0 → ⊥) → 4 < length rec
  five_words n = omega (
    arith,
    at_least_one (is_header (get_or rec 0 0)),
    whole_record
        ∙ ap (λ b. 4 + (if is_header (get_or rec 0 0) then (if b then words_of_cells (is_packed_header (get_or rec 0 0)) (get_or rec 3 0) else 1) else 65536)) (ne_eqb (get_or rec 0 0 / 256) 0 n),
  )

  -- the word after a transient object's header
  pub place_spot : (get_or ws r 0 / 256 ≡ 0 → ⊥) → r + 4 < get_or ws top_address 0
  place_spot n = (word_is 4 (five_words (λ e. n (ap (λ w. w / 256) (sym first_word) ∙ e)))).0

  last_word : said (get_or rec 0 0) (get_or rec 1 0) (get_or rec 2 0) (get_or rec 3 0) (get_or rec 4 0)
      ≡ said (get_or rec 0 0) (get_or rec 1 0) (get_or rec 2 0) (get_or rec 3 0) (get_or ws (r + 4) 0)
  last_word = elim (cases_eq (get_or rec 0 0 / 256) 0) [
    | inl e ↦ rw (eq-eqb (get_or rec 0 0 / 256) 0 e) refl
    | inr n ↦ ap (said (get_or rec 0 0) (get_or rec 1 0) (get_or rec 2 0) (get_or rec 3 0)) (word_is 4 (five_words n)).1
  ]

  pub facts_are : facts (heap_of ws) r ≡ said (get_or ws r 0) (get_or ws (r + 1) 0) (get_or ws (r + 2) 0) (get_or ws (r + 3) 0) (get_or ws (r + 4) 0)
  facts_are =
      ap facts_of item_is ∙ said-object_of rec four ∙ last_word
      ∙ (λ k. said (first_word k) ((word_is 1 (omega (arith, four))).1 k) ((word_is 2 (omega (arith, four))).1 k) ((word_is 3 (omega (arith, four))).1 k)
      (get_or ws (r + 4) 0))

  -- whether two of its elements stand in a word
  pub packed_said : is_packed (facts (heap_of ws) r) ≡ is_packed_header (get_or ws r 0)
  packed_said = ap (λ t. is_packed (facts_of t)) item_is ∙ packed_of rec ∙ ap (λ f. f.packed) (said-object_of rec four) ∙ ap is_packed_header first_word

  pub record_within : r + length rec ≤ get_or ws top_address 0
  record_within = omega (arith, four, (word_is (length rec - 1) (omega (arith, four))).0)

  -- the record begins with a header
  pub header_said : length ws < 65536 → is_header (get_or ws r 0) ≡ true
  header_said small = ap is_header (sym first_word) ∙ elim (cases_Bool (is_header (get_or rec 0 0))) [
    | inl e ↦ e
    | inr e ↦
        let long : length rec ≡ 4 + 65536 = whole_record
        ∙ ap (λ g. 4 + (if g then (if get_or rec 0 0 / 256 == 0 then words_of_cells (is_packed_header (get_or rec 0 0)) (get_or rec 3 0) else 1) else 65536)) e in
        absurd (omega (arith, long, record_within, laid.fits, small))
  ]

  pub cells_are : length ws < 65536 → get_or ws r 0 / 256 ≡ 0 → length (cells (heap_of ws) r) ≡ get_or ws (r + 3) 0
  cells_are small e =
      ap (λ t. length (cells_of t)) item_is
      ∙ cells-object_of rec whole_record (omega (arith, record_within, laid.fits)) (ap (λ w. w / 256) first_word ∙ e)
      ∙ (word_is 3 (omega (arith, four))).1

-- what stands at an address and is no package is an object
pub object_at : (ws : List ℕ) (r : ℕ) → is_allocated (heap_of ws) r ≡ true → is_package (package_addresses (image ws)) r ≡ false → IsObject (heap_of ws) r
unfolding read_image heap_item_at is_allocated
object_at ws r named other =
    let there : has_entry (records (image ws)) r ≡ true = sym (has-map (item (package_addresses (image ws))) (records (image ws)) r) ∙ named in
    ap is_object (at_or-map (item (package_addresses (image ws))) [] (APackage []) (records (image ws)) r there)
    ∙ ap (λ b. is_object (if b then APackage (entry_or [] (records (image ws)) r) else AnObject (object_of (entry_or [] (records (image ws)) r)))) other

names_found : (ws : List ℕ) (r : ℕ) → is_allocated (heap_of ws) r ≡ has_entry (records (image ws)) r
unfolding read_image is_allocated
names_found ws r = has-map (item (package_addresses (image ws))) (records (image ws)) r

-- by what a walk finds at an address, and by the packages' addresses
pub object_here : (ws : List ℕ) (r : ℕ) → IsWellFormed ws → (begins other : Bool) → begins ≡ has_entry (records (image ws)) r
    → other ≡ is_package (package_addresses (image ws)) r →
    (IsTrue (begins && not other) → IsObject (heap_of ws) r) × (IsObject (heap_of ws) r → IsTrue (begins && not other))
object_here ws r laid true false b p = (λ _. object_at ws r (names_found ws r ∙ sym b) (sym p), λ _. refl)
object_here ws r laid true true b p = (λ t. absurd (false≢true t), λ o. absurd (false≢true (sym (no_package ws r laid o) ∙ sym p)))
object_here ws r laid false other b p = (λ t. absurd (false≢true t), λ o. absurd (false≢true (b ∙ named ws r laid o)))

-- where an object's header stands
pub record Spot (j : State) (r : ℕ) : Type 0 where
  pub low : text_start ≤ r
  pub high : r + 3 < length j.plain
  pub behind : (get_or j.plain r 0 / 256 ≡ 0 → ⊥) → r + 4 < length j.plain
  pub small : length j.plain < 65536

pub spot_at : (j : State) (r a : ℕ) → IsWellFormed j.plain → length j.plain < 65536 → IsObject (heap_of j.plain) r → a ≡ r → Spot j a
spot_at j r a laid small there e =
    let here : Spot j r = record {
      low = (object_spot j.plain r laid there).0;
      high = omega (arith, (object_spot j.plain r laid there).1, laid.fits);
      behind = λ ne. omega (arith, place_spot j.plain r laid there ne, laid.fits);
      small = small;
    } in
    subst (Spot j) (sym e) here

-- facts read word by word are the object's
pub facts_built : (ws : List ℕ) (r : ℕ) → IsWellFormed ws → IsObject (heap_of ws) r →
    (w : ℕ) (kind : Kind) (event : Option ClearEvent) (class owner long place : ℕ) (packed : Bool) → w ≡ get_or ws r 0 → kind ≡ kind_of (w % 256) → event ≡ event_of (w / 256) →
    class ≡ get_or ws (r + 1) 0 → owner ≡ get_or ws (r + 2) 0 → long ≡ get_or ws (r + 3) 0 → place ≡ (if w / 256 == 0 then 0 else get_or ws (r + 4) 0) →
    packed ≡ is_packed_header w →
    (let built : Facts = record { kind = kind; event = event; class = class; owner = owner; length = long; place = place; packed = packed } in built)
    ≡ facts (heap_of ws) r
facts_built ws r laid there w kind event class owner long place packed we ke ee ce oe le pe ke_packed =
    (λ i. record {
      kind = (ke ∙ ap (λ u. kind_of (u % 256)) we) i;
      event = (ee ∙ ap (λ u. event_of (u / 256)) we) i;
      class = ce i;
      owner = oe i;
      length = le i;
      place = (pe ∙ ap (λ u. if u / 256 == 0 then 0 else get_or ws (r + 4) 0) we) i;
      packed = (ke_packed ∙ ap is_packed_header we) i;
    })
    ∙ sym (facts_are ws r laid there)

some_if : (b : Bool) → is_some (if b then Some Reset else Some Deselect) ≡ true
some_if true = refl
some_if false = refl

pub persistent_of : (n : ℕ) → event_of n ≡ None → n ≡ 0
persistent_of n e = elim (cases_eq n 0) [
  | inl z ↦ z
  | inr z ↦ absurd (false≢true (sym (ap is_some (rw (ne_eqb n 0 z) at e)) ∙ some_if (n == 1)))
]
