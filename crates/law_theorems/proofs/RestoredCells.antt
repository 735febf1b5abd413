-- What stays of a cell where a transaction is taken back: what was set for good before its word was first changed.
use Rattle.std.proofs.Common.{◌≡◌, ℕ, ◌<◌, ◌&&◌, ◌==◌, ◌⊎◌, Bool, true, false, List, [], ◌∷◌, ◌≤◌, length, get_or, None, inl, inr, refl, sym, ◌∙◌, ap, subst, arith}
use Rattle.std.proofs.Common.{if◌then◌else◌}
use Rattle.std.proofs.lemmas.Bool.{and_parts, cases_Bool, cases_eq, cases_lt, eq-eqb, false≢true, ne_eqb}
use Rattle.std.proofs.lemmas.List.{get_or-set_same}
use Rattle.jc_commit.specs.Keep.{Keeping, goes_back as journal_goes_back}
use Rattle.jc_heap.specs.declared.object.Facts.{Facts}
use Rattle.jc_heap.specs.declared.object.Kind.TheVariants.{ByteArray}
use Rattle.jc_heap.specs.declared.place.Place.{Place}
use Rattle.jc_heap.specs.declared.place.Place.TheVariants.{Cell}
use Rattle.jc_heap.specs.Heap.{HeapState, cells, facts, goes_back, heap_item_at, is_allocated, set_cell}
use Rattle.jc_heap.specs.Moves.{Write, SetPlaces, WriteNonAtomic, SetCells, AddObject, AddTransient, AddPackage, Begin, Commit, Abort, IsInside}
use Rattle.jc_heap.specs.Object.{cells_of, header_only}
use Rattle.jc_heap.specs.Place.{cell_at, place_at}
use Rattle.jc_heap.proofs.KeptWords.{goes_back_counted, goes_back_later, keeping_counted}
use Rattle.jc_heap.proofs.Laws.{cells-set_cell, header_only-set_cell, heap_item_at-absent, heap_item_at-set_other, same_facts, same_length}
use Rattle.jc_memory.specs.State.{MemoryState, Effect, HeapMove, SetTransient, SetFlag, ClearTransient, SetRegisters, BeginCommand, SendBytes}
use Rattle.jc_memory.specs.State.{apply_effect, apply_effects, moves_of}
use Rattle.jc_memory.specs.Reading.{AllEffectsDue}
use Rattle.jc_linker.specs.Values.{Packages}
use Rattle.jc_packages.specs.Objects.{is_bytes, is_instance}
use Rattle.law_code.proofs.Same.{stays_beside}
use Rattle.law_code.proofs.AtomicEffects.{begun_inside, kept as stands_if}
use Rattle.law_soundness.specs.MachineLaws.Commands.{IsServed}
use Rattle.law_soundness.specs.MemoryLaws.Fit.{IsPinObject}
use Rattle.law_soundness.specs.MemoryLaws.State.{IsSoundMemory}
use Rattle.law_soundness.proofs.CommandEffects.{serving_keeps}
use Rattle.law_theorems.specs.Tries.{ChangesFirst, PlaceStays, value_after}
use Rattle.law_theorems.proofs.EffectWords.{no_instance}

-- what goes back goes on going back within the transaction
pub stays_back : (e : Effect) (s : MemoryState) (w : ℕ) → goes_back s.heap w ≡ true → IsInside (moves_of (e ∷ [])) → goes_back (apply_effect e s).heap w ≡ true
stays_back (HeapMove (Write p v)) s w back inside = goes_back_later s.heap _ _ 0 w back
stays_back (HeapMove (SetPlaces cs)) s w back inside = goes_back_later s.heap _ _ 0 w back
stays_back (HeapMove (WriteNonAtomic p v)) s w back inside = goes_back_counted s.heap p v w back
stays_back (HeapMove (SetCells q i vs)) s w back inside = goes_back_later s.heap _ _ 0 w back
stays_back (HeapMove (AddObject o size)) s w back inside = goes_back_later s.heap _ _ 0 w back
stays_back (HeapMove (AddTransient kind event class owner long)) s w back inside = goes_back_later s.heap _ _ 0 w back
stays_back (HeapMove (AddPackage components arrays rest)) s w back inside = goes_back_later s.heap _ _ 0 w back
stays_back (HeapMove Begin) s w back inside = absurd inside
stays_back (HeapMove Commit) s w back inside = absurd inside
stays_back (HeapMove Abort) s w back inside = absurd inside
stays_back _ s w back inside = back

-- effects within are one within and then the rest within
abbrev AreInside : Effect → List Effect → Type 0
AreInside e es = IsInside (moves_of (e ∷ [])) × IsInside (moves_of es)

pub parted : (e : Effect) (es : List Effect) → IsInside (moves_of (e ∷ es)) → AreInside e es
parted (HeapMove (Write p v)) es inside = (tt, inside)
parted (HeapMove (SetPlaces cs)) es inside = (tt, inside)
parted (HeapMove (WriteNonAtomic p v)) es inside = (tt, inside)
parted (HeapMove (SetCells q i vs)) es inside = (tt, inside)
parted (HeapMove (AddObject o size)) es inside = (tt, inside)
parted (HeapMove (AddTransient kind event class owner long)) es inside = (tt, inside)
parted (HeapMove (AddPackage components arrays rest)) es inside = (tt, inside)
parted (HeapMove Begin) es inside = absurd inside
parted (HeapMove Commit) es inside = absurd inside
parted (HeapMove Abort) es inside = absurd inside
parted _ es inside = (tt, inside)

pub open_still : (e : Effect) (m : MemoryState) → m.heap.begun ≡ true → IsInside (moves_of (e ∷ [])) → (apply_effect e m).heap.begun ≡ true
open_still e m on within = begun_inside (e ∷ []) m within ∙ on

and_false : (a b : Bool) → b ≡ false → (a && b) ≡ false
and_false true b e = e
and_false false b e = refl

if_same : {A : Type 0} (b : Bool) (n : A) → (if b then n else n) ≡ n
if_same true n = refl
if_same false n = refl

-- ---- the durable heap after one effect within

-- it stays as it is, or the counter of a PIN or an element of an array of bytes is set for good
pub data IsDurableSet (p : Packages) (e : Effect) (m : MemoryState) : Type 0 where
  IsSame : (apply_effect e m).heap.durable ≡ m.heap.durable → IsDurableSet p e m
  SetsCounter : (q v : ℕ) → e ≡ HeapMove (WriteNonAtomic (Cell q 2) v) → IsPinObject p m q → IsDurableSet p e m
  SetsByte : (q j v : ℕ) → e ≡ HeapMove (WriteNonAtomic (Cell q j) v) → (facts m.heap.now q).kind ≡ ByteArray → (facts m.heap.now q).event ≡ None
      → IsDurableSet p e m

pub durable_set : (p : Packages) (e : Effect) (m : MemoryState) → IsServed p e m → m.heap.begun ≡ true → IsInside (moves_of (e ∷ [])) → IsDurableSet p e m
durable_set p (HeapMove (Write place v)) m served begun inside = IsSame (stands_if m.heap.begun m.heap.durable _ begun)
durable_set p (HeapMove (SetPlaces cs)) m served begun inside = IsSame (stands_if m.heap.begun m.heap.durable _ begun)
durable_set p (HeapMove (WriteNonAtomic place v)) m (inl counter) begun inside = SetsCounter counter.0 v (ap (λ c. HeapMove (WriteNonAtomic c v)) counter.1) counter.2
durable_set p (HeapMove (WriteNonAtomic place v)) m (inr element) begun inside =
    SetsByte element.array element.index v (ap (λ c. HeapMove (WriteNonAtomic c v)) element.is) element.kind element.persistent
durable_set p (HeapMove (SetCells q i vs)) m served begun inside = IsSame (stands_if m.heap.begun m.heap.durable _ begun)
durable_set p (HeapMove (AddObject o size)) m served begun inside = IsSame (stands_if m.heap.begun m.heap.durable _ begun)
durable_set p (HeapMove (AddTransient kind event class owner long)) m served begun inside = IsSame (stands_if m.heap.begun m.heap.durable _ begun)
durable_set p (HeapMove (AddPackage components arrays image)) m served begun inside = absurd served
durable_set p (HeapMove Begin) m served begun inside = absurd inside
durable_set p (HeapMove Commit) m served begun inside = absurd inside
durable_set p (HeapMove Abort) m served begun inside = absurd inside
durable_set p (SetTransient q i values) m served begun inside = IsSame refl
durable_set p (SetFlag q flag) m served begun inside = IsSame refl
durable_set p (ClearTransient event) m served begun inside = IsSame refl
durable_set p (SetRegisters g) m served begun inside = IsSame refl
durable_set p (BeginCommand bytes) m served begun inside = IsSame refl
durable_set p (SendBytes bytes) m served begun inside = IsSame refl

-- headers stay
header_if : (b : Bool) (d : HeapState) (q j v r : ℕ) → header_only (heap_item_at (if b then d else set_cell d q j v) r) ≡ header_only (heap_item_at d r)
header_if true d q j v r = refl
header_if false d q j v r = header_only-set_cell d q j v r

header_set : (r : ℕ) (e : Effect) (m : MemoryState) (q j v : ℕ) → e ≡ HeapMove (WriteNonAtomic (Cell q j) v)
    → header_only (heap_item_at (apply_effect e m).heap.durable r) ≡ header_only (heap_item_at m.heap.durable r)
header_set r e m q j v is =
    subst (λ x. header_only (heap_item_at (apply_effect x m).heap.durable r) ≡ header_only (heap_item_at m.heap.durable r)) (sym is)
    (header_if (goes_back m.heap (place_at m.heap.now (Cell q j))) m.heap.durable q j v r)

pub header_behind : (p : Packages) (r : ℕ) (e : Effect) (m : MemoryState) → IsDurableSet p e m
    → header_only (heap_item_at (apply_effect e m).heap.durable r) ≡ header_only (heap_item_at m.heap.durable r)
header_behind p r e m (IsSame same) = ap (λ d. header_only (heap_item_at d r)) same
header_behind p r e m (SetsCounter q v is pin) = header_set r e m q 2 v is
header_behind p r e m (SetsByte q j v is kind persistent) = header_set r e m q j v is

pub headers_behind : (p : Packages) (r : ℕ) (es : List Effect) (m : MemoryState) → AllEffectsDue (IsServed p) es m → IsSoundMemory p m → m.heap.begun ≡ true
    → IsInside (moves_of es) → header_only (heap_item_at (apply_effects es m).heap.durable r) ≡ header_only (heap_item_at m.heap.durable r)
headers_behind p r [] m served s begun inside = refl
headers_behind p r (e ∷ es) m served s begun inside =
    let both = parted e es inside in
    headers_behind p r es (apply_effect e m) served.1 (serving_keeps.sound p e m served.0 s) (open_still e m begun both.0) both.1
    ∙ header_behind p r e m (durable_set p e m served.0 begun both.0)

-- what stands elsewhere stays
pub set_beside : (b : Bool) (d : HeapState) (r q j v : ℕ) → (q ≡ r → ⊥) → heap_item_at (if b then d else set_cell d q j v) r ≡ heap_item_at d r
set_beside true d r q j v other = refl
set_beside false d r q j v other = heap_item_at-set_other d q j v r other

module _ (p : Packages) (r i : ℕ) where
  abbrev pub value : HeapState → ℕ
  value h = get_or (cells h r) i 0

  abbrev pub word : HeapState → ℕ
  word h = place_at h (Cell r i)

  abbrev HasCell : HeapState → Type 0
  HasCell h = i < length (cells h r)

  -- the value of the cell where a cell is set
  set_value : (d : HeapState) (q j v : ℕ) → HasCell d → value (set_cell d q j v) ≡ (if (q == r) && (j == i) then v else value d)
  set_value d q j v there = elim (cases_eq q r) [
    | inr other ↦ stays_beside d q j v r i (λ e. other (ap place_object e))
        ∙ sym (ap (λ (b : Bool). if b && (j == i) then v else value d) (ne_eqb q r other))
    | inl same ↦ elim (cases_eq j i) [
      | inr apart ↦ stays_beside d q j v r i (λ e. apart (ap place_index e))
          ∙ sym (ap (λ (b : Bool). if b then v else value d) (and_false (q == r) (j == i) (ne_eqb j i apart)))
      | inl at ↦
          (λ k. get_or (cells (set_cell d (same k) (at k) v) r) i 0)
          ∙ ap (λ l. get_or l i 0) (cells-set_cell d r i v there) ∙ get_or-set_same (cells d r) i v 0 there
          ∙ sym (λ k. if (eq-eqb q r same k) && (eq-eqb j i at k) then v else value d)
    ]
  ]
    where
      place_object : Place → ℕ
      place_object (Cell q j) = q
      place_object other = 0

      place_index : Place → ℕ
      place_index (Cell q j) = j
      place_index other = 0

  -- whether a cell is this one
  which_cell : (q j : ℕ) → ((q ≡ r) × (j ≡ i)) ⊎ (((q == r) && (j == i)) ≡ false)
  which_cell q j = elim (cases_eq q r) [
    | inr other ↦ inr (ap (λ (b : Bool). b && (j == i)) (ne_eqb q r other))
    | inl same ↦ elim (cases_eq j i) [
      | inl at ↦ inl (same, at)
      | inr apart ↦ inr (and_false (q == r) (j == i) (ne_eqb j i apart))
    ]
  ]

  -- after one effect: the value that it sets, unless an abort takes back what is written there
  set_if : (back g : Bool) (d : HeapState) (q j v : ℕ) → HasCell d → ((q ≡ r) → (j ≡ i) → back ≡ g)
      → value (if back then d else set_cell d q j v) ≡ (if g then value d else (if (q == r) && (j == i) then v else value d))
  set_if back g d q j v there same = elim (which_cell q j) [
    | inl is ↦ subst (λ (b : Bool). value (if back then d else set_cell d q j v) ≡ (if b then value d else (if (q == r) && (j == i) then v else value d)))
        (same is.0 is.1) (alike back)
    | inr none ↦ unnamed back g none
  ]
    where
      alike : (b : Bool) → value (if b then d else set_cell d q j v) ≡ (if b then value d else (if (q == r) && (j == i) then v else value d))
      alike true = refl
      alike false = set_value d q j v there

      unnamed : (b c : Bool) → ((q == r) && (j == i)) ≡ false
          → value (if b then d else set_cell d q j v) ≡ (if c then value d else (if (q == r) && (j == i) then v else value d))
      unnamed b c none = alike b ∙ ap (λ (x : Bool). if b then value d else (if x then v else value d)) none ∙ if_same b (value d)
          ∙ sym (if_same c (value d)) ∙ sym (ap (λ (x : Bool). if c then value d else (if x then v else value d)) none)

  value_set : (e : Effect) (m : MemoryState) (q j v : ℕ) → e ≡ HeapMove (WriteNonAtomic (Cell q j) v) → HasCell m.heap.durable
      → value (apply_effect e m).heap.durable ≡ (if goes_back m.heap (word m.heap.now) then value m.heap.durable else value_after r i e (value m.heap.durable))
  value_set e m q j v is there =
      subst (λ x. value (apply_effect x m).heap.durable ≡ (if goes_back m.heap (word m.heap.now) then value m.heap.durable else value_after r i x (value m.heap.durable)))
      (sym is) (set_if (goes_back m.heap (place_at m.heap.now (Cell q j))) (goes_back m.heap (word m.heap.now)) m.heap.durable q j v there
      (λ same at k. goes_back m.heap (place_at m.heap.now (Cell (same k) (at k)))))

  pub value_behind : (e : Effect) (m : MemoryState) → IsDurableSet p e m → HasCell m.heap.durable
      → value (apply_effect e m).heap.durable ≡ (if goes_back m.heap (word m.heap.now) then value m.heap.durable else value_after r i e (value m.heap.durable))
  value_behind e m (SetsCounter q v is pin) there = value_set e m q 2 v is there
  value_behind e m (SetsByte q j v is kind persistent) there = value_set e m q j v is there
  value_behind e m (IsSame same) there = elim (cases_Bool (goes_back m.heap (word m.heap.now))) [
    | inl on ↦ ap value same ∙ sym (ap (λ (b : Bool). if b then value m.heap.durable else value_after r i e (value m.heap.durable)) on)
    | inr off ↦ ap value same ∙ as_it_is e same off
        ∙ sym (ap (λ (b : Bool). if b then value m.heap.durable else value_after r i e (value m.heap.durable)) off)
  ]
    where
      as_it_is : (x : Effect) → (apply_effect x m).heap.durable ≡ m.heap.durable → goes_back m.heap (word m.heap.now) ≡ false
          → value m.heap.durable ≡ value_after r i x (value m.heap.durable)
      as_it_is (HeapMove (WriteNonAtomic (Cell q j) v)) left off =
          sym (ap value left) ∙ set_if (goes_back m.heap (place_at m.heap.now (Cell q j))) (goes_back m.heap (word m.heap.now)) m.heap.durable q j v there
          (λ same at k. goes_back m.heap (place_at m.heap.now (Cell (same k) (at k))))
          ∙ ap (λ (b : Bool). if b then value m.heap.durable else value_after r i (HeapMove (WriteNonAtomic (Cell q j) v)) (value m.heap.durable)) off
      as_it_is x left off = refl

  -- ---- the word of the cell stays the same

  below_top : (h : HeapState) → ((q : ℕ) → h.top ≤ q → is_allocated h q ≡ false) → HasCell h → r < h.top
  below_top h end there = elim (cases_lt r h.top) [
    | inl lt ↦ lt
    | inr le ↦
        let none : length (cells h r) ≡ 0 = ap (λ t. length (cells_of t)) (heap_item_at-absent h r (end r le)) in
        absurd (omega (arith, there, none))
  ]

  facts_now : (m : MemoryState) → IsSoundMemory p m → HasCell m.heap.durable → facts m.heap.now r ≡ facts m.heap.durable r
  facts_now m s there = same_facts (heap_item_at m.heap.now r) (heap_item_at m.heap.durable r)
      (s.whole.shape.items r (below_top m.heap.durable s.whole.durable.end there))

  pub word_now : (m : MemoryState) → IsSoundMemory p m → HasCell m.heap.durable → word m.heap.now ≡ word m.heap.durable
  word_now m s there = ap (λ (f : Facts). cell_at f r i) (facts_now m s there)

  module _ (e : Effect) (m : MemoryState) (set : IsDurableSet p e m) (there : HasCell m.heap.durable) where
    pub there_behind : HasCell (apply_effect e m).heap.durable
    there_behind =
        let long = same_length (heap_item_at (apply_effect e m).heap.durable r) (heap_item_at m.heap.durable r) (header_behind p r e m set) in
        omega (arith, there, long)

    word_behind : IsSoundMemory p m → IsSoundMemory p (apply_effect e m) → word (apply_effect e m).heap.now ≡ word m.heap.now
    word_behind s t =
        word_now (apply_effect e m) t there_behind
        ∙ ap (λ (f : Facts). cell_at f r i)
        (same_facts (heap_item_at (apply_effect e m).heap.durable r) (heap_item_at m.heap.durable r) (header_behind p r e m set))
        ∙ sym (word_now m s there)

  -- ---- all effects within

  -- once its word goes back, the cell stays as it is
  frozen : (es : List Effect) (m : MemoryState) → AllEffectsDue (IsServed p) es m → IsSoundMemory p m → m.heap.begun ≡ true → IsInside (moves_of es)
      → HasCell m.heap.durable → goes_back m.heap (word m.heap.now) ≡ true → value (apply_effects es m).heap.durable ≡ value m.heap.durable
  frozen [] m served s begun inside there back = refl
  frozen (e ∷ es) m served s begun inside there back =
      let both = parted e es inside in
      let set = durable_set p e m served.0 begun both.0 in
      let t = serving_keeps.sound p e m served.0 s in
      let same = word_behind e m set there s t in
      frozen es (apply_effect e m) served.1 t (open_still e m begun both.0) both.1 (there_behind e m set there)
      (ap (λ w. goes_back (apply_effect e m).heap w) same ∙ stays_back e m (word m.heap.now) back both.0)
      ∙ value_behind e m set there
      ∙ ap (λ (b : Bool). if b then value m.heap.durable else value_after r i e (value m.heap.durable)) back

  -- an effect that is the first to change the word sets no cell for good
  first_sets_none : (e : Effect) (m : MemoryState) (x : ℕ) → ChangesFirst r i e m → value_after r i e x ≡ x
  first_sets_none (HeapMove (WriteNonAtomic place v)) m x first =
      absurd (false≢true (sym (ap (λ (k : Keeping). journal_goes_back k (word m.heap.now)) (keeping_counted m.heap place v) ∙ first.0) ∙ first.1))
  first_sets_none e m x first = refl

  pub place_stays : (es : List Effect) (m : MemoryState) → AllEffectsDue (IsServed p) es m → IsSoundMemory p m → m.heap.begun ≡ true → IsInside (moves_of es)
      → HasCell m.heap.durable → goes_back m.heap (word m.heap.now) ≡ false
      → PlaceStays r i es m (value m.heap.durable) (value (apply_effects es m).heap.durable)
  place_stays [] m served s begun inside there away = refl
  place_stays (e ∷ es) m served s begun inside there away =
      let both = parted e es inside in
      let next : MemoryState = apply_effect e m in
      let set = durable_set p e m served.0 begun both.0 in
      let t = serving_keeps.sound p e m served.0 s in
      let same = word_behind e m set there s t in
      let here : value next.heap.durable ≡ value_after r i e (value m.heap.durable) =
      value_behind e m set there ∙ ap (λ (b : Bool). if b then value m.heap.durable else value_after r i e (value m.heap.durable)) away in
      elim (cases_Bool (goes_back next.heap (word m.heap.now))) [
        | inl back ↦ inl (
          (away, back),
          frozen es next served.1 t (open_still e m begun both.0) both.1 (there_behind e m set there) (ap (λ w. goes_back next.heap w) same ∙ back)
              ∙ here ∙ first_sets_none e m (value m.heap.durable) (away, back),
        )
        | inr still ↦ inr (
          (λ first. false≢true (sym still ∙ first.1)),
          subst (λ x. PlaceStays r i es next x (value (apply_effects es next).heap.durable)) here
              (place_stays es next served.1 t (open_still e m begun both.0) both.1 (there_behind e m set there) (ap (λ w. goes_back next.heap w) same ∙ still)),
        )
      ]

  -- ---- a cell beyond the elements that an array of bytes says it has is never set for good

  abbrev IsBeyond : HeapState → Type 0
  IsBeyond h = (is_bytes (facts h r).kind ≡ true) × ((facts h r).length ≤ i)

  unnamed_value : (q j v x : ℕ) → (q ≡ r → j ≡ i → ⊥) → (if (q == r) && (j == i) then v else x) ≡ x
  unnamed_value q j v x other = elim (which_cell q j) [
    | inl is ↦ absurd (other is.0 is.1)
    | inr none ↦ ap (λ (b : Bool). if b then v else x) none
  ]

  unset : (e : Effect) (m : MemoryState) (x : ℕ) → IsServed p e m → IsBeyond m.heap.now → value_after r i e x ≡ x
  unset (HeapMove (WriteNonAtomic place v)) m x (inl counter) beyond =
      subst (λ c. value_after r i (HeapMove (WriteNonAtomic c v)) x ≡ x) (sym counter.1) (unnamed_value counter.0 2 v x (λ same at.
      no_instance (facts m.heap.now r).kind beyond.0 (subst (λ q. is_instance (facts m.heap.now q).kind ≡ true) same
      (and_parts (is_instance (facts m.heap.now counter.0).kind) _ counter.2.kept).0)))
  unset (HeapMove (WriteNonAtomic place v)) m x (inr element) beyond =
      subst (λ c. value_after r i (HeapMove (WriteNonAtomic c v)) x ≡ x) (sym element.is) (unnamed_value element.array element.index v x (λ same at.
      let within = subst (λ q. element.index < (facts m.heap.now q).length) same element.within in
      let long = beyond.1 in
      absurd (omega (arith, within, long, at))))
  unset e m x served beyond = refl

  first_or_not : (e : Effect) (m : MemoryState) → ChangesFirst r i e m ⊎ (ChangesFirst r i e m → ⊥)
  first_or_not e m = which (goes_back m.heap (word m.heap.now)) (goes_back (apply_effect e m).heap (word m.heap.now))
    where
      which : (a b : Bool) → ((a ≡ false) × (b ≡ true)) ⊎ (((a ≡ false) × (b ≡ true)) → ⊥)
      which true b = inr (λ first. false≢true (sym first.0))
      which false true = inl (refl, refl)
      which false false = inr (λ first. false≢true first.1)

  module _ (e : Effect) (m : MemoryState) (served : IsServed p e m) (s : IsSoundMemory p m) (begun : m.heap.begun ≡ true) (inside : IsInside (moves_of (e ∷ [])))
      (there : HasCell m.heap.durable) (beyond : IsBeyond m.heap.durable) where
    set_one : IsDurableSet p e m
    set_one = durable_set p e m served begun inside

    unset_after : (x : ℕ) → value_after r i e x ≡ x
    unset_after x = unset e m x served (subst (λ (f : Facts). (is_bytes f.kind ≡ true) × (f.length ≤ i)) (sym (facts_now m s there)) beyond)

    beyond_behind : IsBeyond (apply_effect e m).heap.durable
    beyond_behind = subst (λ (f : Facts). (is_bytes f.kind ≡ true) × (f.length ≤ i))
        (sym (same_facts (heap_item_at (apply_effect e m).heap.durable r) (heap_item_at m.heap.durable r) (header_behind p r e m set_one))) beyond

    one_unset : value (apply_effect e m).heap.durable ≡ value m.heap.durable
    one_unset = value_behind e m set_one there
        ∙ ap (λ (x : ℕ). if goes_back m.heap (word m.heap.now) then value m.heap.durable else x) (unset_after (value m.heap.durable))
        ∙ if_same (goes_back m.heap (word m.heap.now)) (value m.heap.durable)

  pub beyond_stays : (es : List Effect) (m : MemoryState) (x : ℕ) → AllEffectsDue (IsServed p) es m → IsSoundMemory p m → m.heap.begun ≡ true → IsInside (moves_of es)
      → HasCell m.heap.durable → IsBeyond m.heap.durable
      → PlaceStays r i es m x x × (value (apply_effects es m).heap.durable ≡ value m.heap.durable)
  beyond_stays [] m x served s begun inside there beyond = (refl, refl)
  beyond_stays (e ∷ es) m x served s begun inside there beyond =
      let both = parted e es inside in
      let rest = beyond_stays es (apply_effect e m) x served.1 (serving_keeps.sound p e m served.0 s) (open_still e m begun both.0) both.1
      (there_behind e m (durable_set p e m served.0 begun both.0) there) (beyond_behind e m served.0 s begun both.0 there beyond) in (
        elim (first_or_not e m) [
          | inl first ↦ inl (first, refl)
          | inr none ↦ inr (none, subst (λ y. PlaceStays r i es (apply_effect e m) y x) (sym (unset_after e m served.0 s begun both.0 there beyond x)) rest.0)
        ],
        rest.1 ∙ one_unset e m served.0 s begun both.0 there beyond,
      )
