-- The cells of a PIN are set.
use Rattle.std.proofs.Common.{◌≡◌, ℕ, suc, ◌<◌, ◌≤◌, ◌==◌, ◌&&◌, true, false, inl, inr, List, [], ◌∷◌, ◌++◌, length, set, get_or, refl, sym, ◌∙◌, ap, subst}
use Rattle.std.proofs.Common.{arith, nat_le, if◌then◌else◌}
use Rattle.std.specs.Prelude.{not}
use Rattle.std.proofs.lemmas.List.{get_or-set_other}
use Rattle.std.proofs.lemmas.Bool.{and_parts, and_from, cases_Bool, cases_eq, false≢true, or_cases, or_right, and_left, ne_eqb, eqb-true, le-leb}
use Rattle.jc_platform.specs.declared.names.PlatformClass.TheVariants.{Aid, OwnerPin}
use Rattle.jc_heap.specs.declared.place.Place.{Place}
use Rattle.jc_heap.specs.declared.place.Place.TheVariants.{Cell, Static, Registry, AppletCount}
use Rattle.jc_heap.specs.Object.{header_only, is_object}
use Rattle.jc_heap.specs.Heap.{HeapState, IsObject, cells, facts, heap_item_at, set_cell}
use Rattle.jc_heap.specs.Place.{set_place, set_places, cell_changes}
use Rattle.jc_heap.specs.Statics.{set_word}
use Rattle.jc_heap.proofs.Laws.{header_only-set_cell, cells-set_other, facts-set_cell, same_facts}
use Rattle.jc_heap.proofs.Keeping.{object-header_only}
use Rattle.jc_memory.specs.State.{MemoryState}
use Rattle.jc_linker.specs.Classes.{reference_cell, is_a}
use Rattle.jc_linker.specs.Values.{Packages}
use Rattle.jc_environment.specs.Pins.PinInit.{first_record}
use Rattle.jc_packages.specs.Objects.{fits_pin, has_value, is_byte_array, is_bytes, is_instance, is_persistent_instance, is_reference}
use Rattle.jc_packages.specs.Objects.{is_object_address}
use Rattle.law_soundness.specs.MemoryLaws.State.{IsSoundUpTo}
use Rattle.law_soundness.specs.MemoryLaws.Fit.{IsPinObject}
use Rattle.law_soundness.proofs.HeapChanges.{Carries, IsSoundBut, but_one, pin_kept, pin_same, value_kept, with_one}
use Rattle.law_soundness.proofs.Cells.{CellFits, cell_carries, cell_kept, cells_set}
use Rattle.law_soundness.proofs.Values.{bytes_other, kept_aid, value_kept as array_kept}
use Rattle.law_soundness.proofs.Frames.{SameHeaders, places_headers}

-- a PIN, by what its header says
pub record PinAt (p : Packages) (h : HeapState) (r : ℕ) : Type 0 where
  pub there : IsObject h r
  pub kept : is_persistent_instance (facts h r) ≡ true
  pub aid : is_a p (facts h r).class Aid ≡ false
  pub numbers : (k : ℕ) → k < 4 → reference_cell p (facts h r).class k ≡ false

pub pin_at : (p : Packages) (m : MemoryState) (r : ℕ) → IsPinObject p m r → PinAt p m.heap.now r
pin_at p m r o = record { there = o.there; kept = o.kept; aid = o.aid; numbers = o.numbers }

pub object_still : (h g : HeapState) → SameHeaders h g → (q : ℕ) → IsObject h q → IsObject g q
object_still h g same q there = sym (object-header_only (heap_item_at g q)) ∙ ap is_object (same q) ∙ object-header_only (heap_item_at h q) ∙ there

facts_still : (h g : HeapState) → SameHeaders h g → (q : ℕ) → facts g q ≡ facts h q
facts_still h g same q = same_facts (heap_item_at g q) (heap_item_at h q) (same q)

pub pin_still : (p : Packages) (h g : HeapState) (r : ℕ) → header_only (heap_item_at g r) ≡ header_only (heap_item_at h r) → PinAt p h r → PinAt p g r
pin_still p h g r same pin =
    let header : facts g r ≡ facts h r = same_facts (heap_item_at g r) (heap_item_at h r) same in
    record {
      there = sym (object-header_only (heap_item_at g r)) ∙ ap is_object same ∙ object-header_only (heap_item_at h r) ∙ pin.there;
      kept = ap is_persistent_instance header ∙ pin.kept;
      aid = ap (λ f. is_a p f.class Aid) header ∙ pin.aid;
      numbers = λ k lt. ap (λ f. reference_cell p f.class k) header ∙ pin.numbers k lt;
    }

pub packages-set_place : (h : HeapState) (place : Place) (v : ℕ) → (set_place h place v).packages ≡ h.packages
unfolding set_cell set_word
packages-set_place h (Cell r i) v = refl
packages-set_place h (Static r j) v = refl
packages-set_place h (Registry i) v = refl
packages-set_place h AppletCount v = refl

packages-set_places : (cs : List (Place × ℕ)) (h : HeapState) → (set_places h cs).packages ≡ h.packages
packages-set_places [] h = refl
packages-set_places (c ∷ cs) h = packages-set_places cs (set_place h c.0 c.1) ∙ packages-set_place h c.0 c.1

pub places_carry : (cs : List (Place × ℕ)) (h : HeapState) → Carries h (set_places h cs)
places_carry cs h = record {
  there = object_still h (set_places h cs) (places_headers cs h);
  same = λ q there. facts_still h (set_places h cs) (places_headers cs h) q;
  packages = packages-set_places cs h;
}

-- what a PIN's cells say of one another
pub pin_holds : (p : Packages) (h : HeapState) (class : ℕ) (held : List ℕ) → get_or held 3 0 ≤ get_or held 1 0 → 0 < get_or held 4 0
    → is_object_address h (get_or held 4 0) ≡ true → is_byte_array (facts h (get_or held 4 0)) (get_or held 1 0) ≡ true →
    fits_pin p h class held ≡ true
pin_holds p h class held long some there bytes = or_right (not (is_a p class OwnerPin)) _
    (and_from (nat_le (get_or held 3 0) (get_or held 1 0)) _ (le-leb (get_or held 3 0) (get_or held 1 0) long)
    (rw (ne_eqb (get_or held 4 0) 0 (λ e. omega (arith, e, some))) (and_from (is_object_address h (get_or held 4 0)) _ there bytes)))

module _ (r most own : ℕ) (p : Packages) where
  pin_fits : (h : HeapState) (i v : ℕ) → PinAt p h r → i < 5 → (i ≡ 4 → is_reference h v ≡ true) → IsSoundBut r most p h own → CellFits r p h r i v
  pin_fits h i v pin low refers s = record {
    reference = λ kept is. elim (cases_eq i 4) [
      | inl e ↦ refers e
      | inr ne ↦ absurd (false≢true (sym (pin.numbers i (omega (arith, low, ne))) ∙ is))
    ];
    first = λ kept is z. absurd (false≢true (sym pin.aid ∙ is));
    pin = λ kept is ne. absurd (ne refl);
    apart = λ a lt is. absurd (false≢true (sym pin.aid ∙ (kept_aid p h a r (s.applets a lt) is).1));
  }

  pub pin_cell : (h : HeapState) (i v : ℕ) → PinAt p h r → i < 5 → (i ≡ 4 → is_reference h v ≡ true) → IsSoundBut r most p h own
      → IsSoundBut r most p (set_cell h r i v) own
  pin_cell h i v pin low refers s = cell_kept h r i v r most own p (pin_fits h i v pin low refers s) s

  step : (h : HeapState) (i v : ℕ) → PinAt p h r → PinAt p (set_cell h r i v) r
  step h i v pin = pin_still p h (set_cell h r i v) r (header_only-set_cell h r i v r) pin

  -- its counter of tries is none of them
  pub counter_kept : (h : HeapState) (v : ℕ) → PinAt p h r → IsSoundUpTo most p h own → IsSoundUpTo most p (set_cell h r 2 v) own
  counter_kept h v pin s = with_one r most p (set_cell h r 2 v) own rest (pin_cell h 2 v pin (omega arith) (λ e. absurd (omega (arith, e)))
      (but_one r most p h own s))
    where
      rest : own < r → IsObject (set_cell h r 2 v) r → is_persistent_instance (facts (set_cell h r 2 v) r) ≡ true
          → fits_pin p (set_cell h r 2 v) (facts (set_cell h r 2 v) r).class (cells (set_cell h r 2 v) r) ≡ true
      rest above there kept =
          (λ t. fits_pin p (set_cell h r 2 v) (facts-set_cell h r 2 v r t).class (cells_set h r 2 v pin.there t))
          ∙ pin_same p (set_cell h r 2 v) (facts h r).class (set (cells h r) 2 v) (cells h r) (get_or-set_other (cells h r) 2 1 v 0 (λ e. omega (arith, e)))
          (get_or-set_other (cells h r) 2 3 v 0 (λ e. omega (arith, e))) (get_or-set_other (cells h r) 2 4 v 0 (λ e. omega (arith, e)))
          ∙ pin_kept p h (set_cell h r 2 v) (cell_carries h r 2 v) (facts h r).class (cells h r) ((s.objects r above pin.there).values pin.kept).pin

-- ---- a PIN is set up

-- its cells
abbrev first_cells : List ℕ → ℕ → ℕ → ℕ → List ℕ
first_cells l limit maximum value = set (set (set (set (set l 0 limit) 1 maximum) 2 limit) 3 0) 4 value

first_read : (l : List ℕ) (limit maximum value : ℕ) → 5 ≤ length l → (get_or (first_cells l limit maximum value) 1 0 ≡ maximum)
    × (get_or (first_cells l limit maximum value) 3 0 ≡ 0) × (get_or (first_cells l limit maximum value) 4 0 ≡ value)
first_read [] limit maximum value long = absurd (omega (arith, long))
first_read (a ∷ []) limit maximum value long = absurd (omega (arith, long))
first_read (a ∷ b ∷ []) limit maximum value long = absurd (omega (arith, long))
first_read (a ∷ b ∷ c ∷ []) limit maximum value long = absurd (omega (arith, long))
first_read (a ∷ b ∷ c ∷ d ∷ []) limit maximum value long = absurd (omega (arith, long))
first_read (a ∷ b ∷ c ∷ d ∷ e ∷ l) limit maximum value long = (refl, refl, refl)

module _ (most own : ℕ) (p : Packages) (h : HeapState) (r limit maximum value : ℕ) (pin : PinAt p h r) (there : is_object_address h value ≡ true) where
  abbrev h1 : HeapState
  h1 = set_cell h r 0 limit

  abbrev h2 : HeapState
  h2 = set_cell h1 r 1 maximum

  abbrev h3 : HeapState
  h3 = set_cell h2 r 2 limit

  abbrev h4 : HeapState
  h4 = set_cell h3 r 3 0

  abbrev h5 : HeapState
  h5 = set_cell h4 r 4 value

  pin1 : PinAt p h1 r
  pin1 = step r most own p h 0 limit pin

  pin2 : PinAt p h2 r
  pin2 = step r most own p h1 1 maximum pin1

  pin3 : PinAt p h3 r
  pin3 = step r most own p h2 2 limit pin2

  pin4 : PinAt p h4 r
  pin4 = step r most own p h3 3 0 pin3

  cells5 : cells h5 r ≡ first_cells (cells h r) limit maximum value
  cells5 =
      cells_set h4 r 4 value pin4.there
      ∙ ap (λ l. set l 4 value) (cells_set h3 r 3 0 pin3.there
      ∙ ap (λ l. set l 3 0) (cells_set h2 r 2 limit pin2.there
      ∙ ap (λ l. set l 2 limit) (cells_set h1 r 1 maximum pin1.there
      ∙ ap (λ l. set l 1 maximum) (cells_set h r 0 limit pin.there))))

  refers : is_reference h4 value ≡ true
  refers = or_right (value == 0) (is_object_address h4 value) ((places_carry ((Cell r 0, limit) ∷ (Cell r 1, maximum) ∷ (Cell r 2, limit) ∷ (Cell r 3, 0) ∷ [])
      h).there value there)

  but5 : IsSoundBut r most p h own → IsSoundBut r most p h5 own
  but5 s =
      pin_cell r most own p h4 4 value pin4 (omega arith) (λ e. refers)
      (pin_cell r most own p h3 3 0 pin3 (omega arith) (λ e. absurd (omega (arith, e)))
      (pin_cell r most own p h2 2 limit pin2 (omega arith) (λ e. absurd (omega (arith, e)))
      (pin_cell r most own p h1 1 maximum pin1 (omega arith) (λ e. absurd (omega (arith, e)))
      (pin_cell r most own p h 0 limit pin (omega arith) (λ e. absurd (omega (arith, e))) s))))

  pub first_kept : 5 ≤ length (cells h r) → is_byte_array (facts h value) maximum ≡ true → 0 < value → IsSoundUpTo most p h own
      → IsSoundUpTo most p (set_places h (first_record r limit maximum value)) own
  first_kept long bytes some s = with_one r most p h5 own (λ above stood kept. right) (but5 (but_one r most p h own s))
    where
      carry : Carries h h5
      carry = places_carry (first_record r limit maximum value) h

      read : (get_or (cells h5 r) 1 0 ≡ maximum) × (get_or (cells h5 r) 3 0 ≡ 0) × (get_or (cells h5 r) 4 0 ≡ value)
      read = subst (λ l. (get_or l 1 0 ≡ maximum) × (get_or l 3 0 ≡ 0) × (get_or l 4 0 ≡ value)) (sym cells5) (first_read (cells h r) limit maximum value long)

      right : fits_pin p h5 (facts h5 r).class (cells h5 r) ≡ true
      right =
          let one = read.0 in let three = read.1 in let four = read.2 in
          pin_holds p h5 (facts h5 r).class (cells h5 r) (omega (arith, three)) (omega (arith, four, some))
          (ap (is_object_address h5) four ∙ carry.there value there)
          ((λ t. is_byte_array (facts h5 (four t)) (one t)) ∙ ap (λ f. is_byte_array f maximum) (carry.same value there) ∙ bytes)

-- ---- a PIN gets another value

bytes_kept : (x most own : ℕ) (p : Packages) (bytes : List ℕ) (h : HeapState) (array i : ℕ)
    → ((bytes ≡ [] → ⊥) → is_persistent_instance (facts h array) ≡ false) → IsSoundBut x most p h own
    → IsSoundBut x most p (set_places h (cell_changes array i bytes)) own
bytes_kept x most own p [] h array i none s = s
bytes_kept x most own p (b ∷ bytes) h array i none s =
    let no_instance : is_persistent_instance (facts h array) ≡ false = none (λ e. cons_nil b bytes e) in
    bytes_kept x most own p bytes (set_cell h array i b) array (suc i) (λ ne. ap is_persistent_instance (facts-set_cell h array i b array) ∙ no_instance)
    (array_kept x most own p h array i b (λ kept. absurd (false≢true (sym no_instance ∙ kept))) s)
  where
    cons_nil : (b : ℕ) (bytes : List ℕ) → b ∷ bytes ≡ [] → ⊥
    cons_nil b bytes e = let n : suc (length bytes) ≡ 0 = ap length e in omega (arith, n)

bytes_beside : (r : ℕ) (bytes : List ℕ) (h : HeapState) (array i : ℕ) → ((bytes ≡ [] → ⊥) → array ≡ r → ⊥)
    → cells (set_places h (cell_changes array i bytes)) r ≡ cells h r
bytes_beside r [] h array i ne = refl
bytes_beside r (b ∷ bytes) h array i ne =
    let other : array ≡ r → ⊥ = ne (λ e. let n : suc (length bytes) ≡ 0 = ap length e in omega (arith, n)) in
    bytes_beside r bytes (set_cell h array i b) array (suc i) (λ _. other) ∙ cells-set_other h array i b r other

places_joined : (xs ys : List (Place × ℕ)) (h : HeapState) → set_places h (xs ++ ys) ≡ set_places (set_places h xs) ys
places_joined [] ys h = refl
places_joined (x ∷ xs) ys h = places_joined xs ys (set_place h x.0 x.1)

third_set : (l : List ℕ) (n most : ℕ) → n ≤ most → get_or (set l 3 n) 3 0 ≤ most
third_set [] n most le = omega arith
third_set (a ∷ []) n most le = omega arith
third_set (a ∷ b ∷ []) n most le = omega arith
third_set (a ∷ b ∷ c ∷ []) n most le = omega arith
third_set (a ∷ b ∷ c ∷ d ∷ l) n most le = le

module _ (most own : ℕ) (p : Packages) (h : HeapState) (r limit : ℕ) (bytes : List ℕ) (pin : PinAt p h r) (is : is_a p (facts h r).class OwnerPin ≡ true)
    (above : own < r) (short : length bytes ≤ get_or (cells h r) 1 0) (s : IsSoundUpTo most p h own) where
  abbrev array : ℕ
  array = get_or (cells h r) 4 0

  -- what its cells say
  says : (nat_le (get_or (cells h r) 3 0) (get_or (cells h r) 1 0) && has_value h (cells h r)) ≡ true
  says = elim (or_cases (not (is_a p (facts h r).class OwnerPin)) _ ((s.objects r above pin.there).values pin.kept).pin) [
    | inl no_pin ↦ absurd (false≢true (sym (ap not is) ∙ no_pin))
    | inr all ↦ all
  ]

  has : has_value h (cells h r) ≡ true
  has = (and_parts (nat_le (get_or (cells h r) 3 0) (get_or (cells h r) 1 0)) _ says).1

  no_bytes : get_or (cells h r) 1 0 ≡ 0 → bytes ≡ []
  no_bytes z = empty bytes (omega (arith, short, z))
    where
      empty : (l : List ℕ) → length l ≤ 0 → l ≡ []
      empty [] le = refl
      empty (b ∷ l) le = absurd (omega (arith, le))

  pub array_bytes : (bytes ≡ [] → ⊥) → is_bytes (facts h array).kind ≡ true
  array_bytes some = elim (cases_Bool (array == 0)) [
    | inl z ↦ absurd (some (no_bytes (eqb-true _ 0 (rw z at has))))
    | inr n ↦
        let found = and_parts (is_object_address h array) _ (rw n at has) in
        (and_parts (is_bytes (facts h array).kind) _ found.1).0
  ]

  plain : (bytes ≡ [] → ⊥) → is_persistent_instance (facts h array) ≡ false
  plain some = and_left (is_instance (facts h array).kind) _ (bytes_other (facts h array).kind (array_bytes some))

  other : (bytes ≡ [] → ⊥) → array ≡ r → ⊥
  other some e = false≢true (sym (plain some) ∙ ap (λ n. is_persistent_instance (facts h n)) e ∙ pin.kept)

  abbrev filled : HeapState
  filled = set_places h (cell_changes array 0 bytes)

  pin_filled : PinAt p filled r
  pin_filled = pin_still p h filled r (places_headers (cell_changes array 0 bytes) h r) pin

  abbrev longer : HeapState
  longer = set_cell filled r 3 (length bytes)

  pin_longer : PinAt p longer r
  pin_longer = step r most own p filled 3 (length bytes) pin_filled

  abbrev after : HeapState
  after = set_cell longer r 2 limit

  held : cells after r ≡ set (set (cells h r) 3 (length bytes)) 2 limit
  held = cells_set longer r 2 limit pin_longer.there ∙ ap (λ l. set l 2 limit) (cells_set filled r 3 (length bytes) pin_filled.there
      ∙ ap (λ l. set l 3 (length bytes)) (bytes_beside r bytes h array 0 other))

  stays : (k : ℕ) → (k ≡ 2 → ⊥) → (k ≡ 3 → ⊥) → get_or (cells after r) k 0 ≡ get_or (cells h r) k 0
  stays k two three = ap (λ l. get_or l k 0) held ∙ get_or-set_other (set (cells h r) 3 (length bytes)) 2 k limit 0 two
      ∙ get_or-set_other (cells h r) 3 k (length bytes) 0 three

  joined : set_places h (cell_changes array 0 bytes ++ (Cell r 3, length bytes) ∷ (Cell r 2, limit) ∷ []) ≡ after
  joined = places_joined (cell_changes array 0 bytes) ((Cell r 3, length bytes) ∷ (Cell r 2, limit) ∷ []) h

  carry : Carries h after
  carry = subst (Carries h) joined (places_carry (cell_changes array 0 bytes ++ (Cell r 3, length bytes) ∷ (Cell r 2, limit) ∷ []) h)

  right : fits_pin p after (facts after r).class (cells after r) ≡ true
  right =
      let one = stays 1 (λ e. omega (arith, e)) (λ e. omega (arith, e)) in
      let four = stays 4 (λ e. omega (arith, e)) (λ e. omega (arith, e)) in
      let low : get_or (set (cells h r) 3 (length bytes)) 3 0 ≤ get_or (cells h r) 1 0 = third_set (cells h r) (length bytes) (get_or (cells h r) 1 0) short in
      let three : get_or (cells after r) 3 0 ≡ get_or (set (cells h r) 3 (length bytes)) 3 0 = ap (λ l. get_or l 3 0) held
      ∙ get_or-set_other (set (cells h r) 3 (length bytes)) 2 3 limit 0 (λ e. omega (arith, e)) in
      or_right (not (is_a p (facts after r).class OwnerPin)) _
      (and_from (nat_le (get_or (cells after r) 3 0) (get_or (cells after r) 1 0)) _ (le-leb _ _ (omega (arith, low, three, one)))
      (value_same after (cells after r) (cells h r) one four ∙ value_kept p h after carry (cells h r) has))
    where
      value_same : (g : HeapState) (a b : List ℕ) → get_or a 1 0 ≡ get_or b 1 0 → get_or a 4 0 ≡ get_or b 4 0 → has_value g a ≡ has_value g b
      value_same g a b one four = λ t. if four t == 0 then one t == 0 else is_object_address g (four t) && is_byte_array (facts g (four t)) (one t)

  but_after : IsSoundBut r most p after own
  but_after =
      pin_cell r most own p longer 2 limit pin_longer (omega arith) (λ e. absurd (omega (arith, e)))
      (pin_cell r most own p filled 3 (length bytes) pin_filled (omega arith) (λ e. absurd (omega (arith, e)))
      (bytes_kept r most own p bytes h array 0 plain (but_one r most p h own s)))

  pub update_kept : IsSoundUpTo most p (set_places h (cell_changes array 0 bytes ++ (Cell r 3, length bytes) ∷ (Cell r 2, limit) ∷ [])) own
  update_kept = subst (λ g. IsSoundUpTo most p g own) (sym joined) (with_one r most p after own (λ a there kept. right) but_after)
