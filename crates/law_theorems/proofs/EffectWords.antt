-- The words that an effect names: the word of a PIN's counter only where it sets the PIN anew.
use Rattle.std.proofs.Common.{◌≡◌, ℕ, zero, suc, ◌+◌, ◌/◌, ◌<◌, ◌≤◌, ◌⊎◌, Bool, true, false, Contains, List, [], ◌∷◌, ◌++◌, length, Option, None}
use Rattle.std.proofs.Common.{inl, inr, refl, sym, ◌∙◌, ap, subst, arith, if◌then◌else◌}
use Rattle.std.specs.Prelude.{◌&&◌, ◌||◌, ◌==◌, is_none, nat_le, not, slice_index}
use Rattle.std.proofs.lemmas.Bool.{and_parts, cases_Bool, cases_eq, cases_lt, eqb-true, false≢true, true≢false}
use Rattle.jc_words.specs.Layout.{text_start}
use Rattle.jc_transient.specs.declared.cell.ClearEvent.{ClearEvent}
use Rattle.jc_transient.specs.declared.cell.ClearEvent.TheVariants.{Reset, Deselect}
use Rattle.jc_heap.specs.declared.object.Kind.{Kind}
use Rattle.jc_heap.specs.declared.object.Kind.TheVariants.{Instance, BooleanArray, ByteArray, ShortArray, ReferenceArray}
use Rattle.jc_heap.specs.declared.place.Place.{Place}
use Rattle.jc_heap.specs.declared.place.Place.TheVariants.{Cell, Static, Registry, AppletCount}
use Rattle.jc_heap.specs.Component.{record_of, words_of}
use Rattle.jc_heap.specs.Heap.{HeapState, area_end_address, cell_address, cells, end_address, facts, heap_item_at, is_allocated}
use Rattle.jc_heap.specs.Moves.{Write, SetPlaces, WriteNonAtomic, SetCells, AddObject, AddTransient, AddPackage, Begin, Commit, Abort}
use Rattle.jc_heap.specs.Object.{AnObject, APackage, Item, facts_of, header_size, is_packed, words_of_cells, has_bytes}
use Rattle.jc_heap.specs.Place.{cell_changes, cells_from, place_at, places_of, share_word, words_at}
use Rattle.jc_heap.specs.Statics.{IsStatic}
use Rattle.jc_heap.proofs.Laws.{heap_item_at-absent, object_named}
use Rattle.jc_memory.specs.Cells.{word_at, word_in}
use Rattle.jc_memory.specs.State.{MemoryState, Effect, HeapMove, SetTransient, SetFlag, ClearTransient, SetRegisters, BeginCommand, SendBytes}
use Rattle.jc_linker.specs.Values.{Packages}
use Rattle.jc_environment.specs.Pins.{counter, record_of as pin_of}
use Rattle.jc_environment.specs.Pins.PinInit.{first_record}
use Rattle.jc_environment.specs.Pins.Updates.{changes_of_update}
use Rattle.jc_platform.specs.declared.names.PlatformClass.TheVariants.{OwnerPin}
use Rattle.jc_packages.specs.Objects.{is_byte_array, is_bytes, is_instance, is_object_address, is_persistent_instance}
use Rattle.jc_linker.specs.Classes.{is_a}
use Rattle.law_soundness.specs.MachineLaws.Commands.{IsServed}
use Rattle.law_soundness.specs.MemoryLaws.Fit.{AreCellsOf, FitPlaces, FitsChange, FitsPlace, FitsRun, IsPinObject, OfPin, OfPlaces, OfRegistry, OfValue, RegistersApplet, SetsUpPin, UpdatesPin}
use Rattle.law_soundness.specs.MemoryLaws.State.{IsSoundMemory}
use Rattle.law_soundness.proofs.Effects.{event_none}
use Rattle.law_soundness.proofs.Values.{none_of as none_is}
use Rattle.law_soundness.specs.Separation.{StandApart, item_size}
use Rattle.law_theorems.specs.Tries.{SetsAnew}

-- the words that an effect names, of those whose old values an abort needs
abbrev pub words_by : Effect → MemoryState → List ℕ
words_by (HeapMove (Write place v)) m = place_at m.heap.now place ∷ []
words_by (HeapMove (SetPlaces changes)) m = words_at m.heap.now (places_of changes)
words_by (HeapMove (SetCells r i words)) m = words_at m.heap.now (cells_from r i (length words))
words_by (HeapMove (AddObject o size)) m = end_address ∷ []
words_by (HeapMove (AddTransient kind event class owner long)) m = end_address ∷ area_end_address event ∷ []
words_by e m = []

-- a word is none of these
abbrev pub IsNone : ℕ → List ℕ → Type 0
IsNone w [] = Unit {0}
IsNone w (x ∷ xs) = (x ≡ w → ⊥) × IsNone w xs

pub none_of : (w : ℕ) (xs : List ℕ) → IsNone w xs → Contains xs w → ⊥
none_of w [] none (k, lt, e) = omega (arith, lt)
none_of w (x ∷ xs) none (zero, lt, e) = none.0 e
none_of w (x ∷ xs) none (suc k, lt, e) = none_of w xs none.1 (k, omega (arith, lt), e)

-- it is the word of none of these places
abbrev NonePlaced : HeapState → ℕ → List Place → Type 0
NonePlaced h w [] = Unit {0}
NonePlaced h w (p ∷ ps) = (place_at h p ≡ w → ⊥) × NonePlaced h w ps

none_placed : (h : HeapState) (w : ℕ) (ps : List Place) → NonePlaced h w ps → IsNone w (words_at h ps)
none_placed h w [] none = tt
none_placed h w (p ∷ []) none = (none.0, tt)
none_placed h w (p ∷ q ∷ ps) none = by (share_word h p q) (none_placed h w (q ∷ ps) none.1)
  where
    by : (b : Bool) → IsNone w (words_at h (q ∷ ps)) → IsNone w (if b then words_at h (q ∷ ps) else place_at h p ∷ words_at h (q ∷ ps))
    by true rest = rest
    by false rest = (none.0, rest)

both_placed : (h : HeapState) (w : ℕ) (cs ds : List (Place × ℕ)) → NonePlaced h w (places_of cs) → NonePlaced h w (places_of ds)
    → NonePlaced h w (places_of (cs ++ ds))
both_placed h w [] ds first second = second
both_placed h w (c ∷ cs) ds first second = (first.0, both_placed h w cs ds first.1 second)

-- ---- cells and words lie within what stands there

half_in : (packed : Bool) (i long : ℕ) → i < long → (if packed then i / 2 else i) < words_of_cells packed long
half_in true i long lt = omega (arith, lt)
half_in false i long lt = lt

object_in : (t : Item) (i : ℕ) → (facts_of t).event ≡ None → i < (facts_of t).length
    → header_size + (if is_packed (facts_of t) then i / 2 else i) < item_size t
object_in (AnObject o) i none lt =
    let half = half_in (is_packed o.facts) i o.facts.length lt in
    subst (λ (x : Option ClearEvent). header_size + (if is_packed o.facts then i / 2 else i) < (if is_none x then header_size + words_of_cells (is_packed o.facts) o.facts.length else 5))
    (sym none) (omega (arith, half))
object_in (APackage words) i none lt = absurd (omega (arith, lt))

record_in : (t : Item) (j : ℕ) → j < length (words_of t) → j < item_size t
record_in (AnObject o) j lt = absurd (omega (arith, lt))
record_in (APackage words) j lt = lt

record_kind : (t : Item) (j : ℕ) → j < length (words_of t) → is_instance (facts_of t).kind ≡ true → (facts_of t).length ≡ 0
record_kind (AnObject o) j lt e = absurd (omega (arith, lt))
record_kind (APackage words) j lt e = refl

there_if : (h : HeapState) (q : ℕ) (f : Item → ℕ) → f (APackage []) ≡ 0 → 0 < f (heap_item_at h q) → is_allocated h q ≡ true
there_if h q f bare some = elim (cases_Bool (is_allocated h q)) [
  | inl is ↦ is
  | inr isnt ↦ let e = ap f (heap_item_at-absent h q isnt) in absurd (omega (arith, e, bare, some))
]

-- an instance has no two cells in a word
plain_kind : (kind : Kind) → is_instance kind ≡ true → has_bytes kind ≡ false
plain_kind Instance e = refl
plain_kind BooleanArray e = absurd (false≢true e)
plain_kind ByteArray e = absurd (false≢true e)
plain_kind ShortArray e = absurd (false≢true e)
plain_kind ReferenceArray e = absurd (false≢true e)

pub when_not : (a b : Bool) → (not a || b) ≡ true → a ≡ true → b ≡ true
when_not true b e is = e
when_not false b e is = absurd (false≢true is)

array_if : (null : Bool) (max : ℕ) (b : Bool) → (if null then max == 0 else b) ≡ true → 0 < max → b ≡ true
array_if true max b e some = let none = eqb-true max 0 e in absurd (omega (arith, none, some))
array_if false max b e some = e

pub no_instance : (kind : Kind) → is_bytes kind ≡ true → is_instance kind ≡ true → ⊥
no_instance ByteArray bytes one = false≢true one
no_instance Instance bytes one = false≢true bytes
no_instance BooleanArray bytes one = false≢true bytes
no_instance ShortArray bytes one = false≢true bytes
no_instance ReferenceArray bytes one = false≢true bytes

-- ---- a PIN

-- an OwnerPIN stands here, with its cells
pub record PinStands (p : Packages) (m : MemoryState) (r : ℕ) : Type 0 where
  pub there : is_object_address m.heap.now r ≡ true
  pub kept : is_persistent_instance (facts m.heap.now r) ≡ true
  pub pin : is_a p (facts m.heap.now r).class OwnerPin ≡ true
  pub long : 5 ≤ (facts m.heap.now r).length

pub plain_pin : (p : Packages) (m : MemoryState) (r : ℕ) → PinStands p m r → is_packed (facts m.heap.now r) ≡ false
plain_pin p m r pin = ap (λ b. b && (facts m.heap.now r).packed)
    (plain_kind (facts m.heap.now r).kind (and_parts (is_instance (facts m.heap.now r).kind) _ pin.kept).0)

module _ (p : Packages) (m : MemoryState) (s : IsSoundMemory p m) where
  pub word_is : (q i : ℕ) → is_persistent_instance (facts m.heap.now q) ≡ true → word_at m q i ≡ slice_index (cells m.heap.now q) i
  word_is q i kept = ap (λ event. word_in event m q i) (event_none (facts m.heap.now q) kept)

  -- a PIN with a maximum has an array of this many bytes
  pub is_value : (q : ℕ) → IsPinObject p m q → 0 < (pin_of m q).maximum
      → is_byte_array (facts m.heap.now (pin_of m q).value) (pin_of m q).maximum ≡ true
  is_value q object some =
      let held = cells m.heap.now q in
      let pins = when_not (is_a p (facts m.heap.now q).class OwnerPin) _ ((s.now.objects q object.behind object.there).values object.kept).pin object.pin in
      let value = and_parts (nat_le (slice_index held 3) (slice_index held 1)) _ pins in
      let max = word_is q 1 object.kept in
      let array = array_if (slice_index held 4 == 0) (slice_index held 1) _ value.1 (omega (arith, some, max)) in
      let bytes = (and_parts (is_object_address m.heap.now (slice_index held 4)) _ array).1 in
      subst (λ n. is_byte_array (facts m.heap.now (pin_of m q).value) n ≡ true) (sym max)
      (subst (λ v. is_byte_array (facts m.heap.now v) (slice_index held 1) ≡ true) (sym (word_is q 4 object.kept)) bytes)

-- where the word of an object's cell lies
cell_in : (h : HeapState) (q i : ℕ) → AreCellsOf h q (i + 1) → (q < place_at h (Cell q i)) × (place_at h (Cell q i) < q + item_size (heap_item_at h q))
unfolding cell_address
cell_in h q i of =
    let i_in = of.1 in
    let k = object_in (heap_item_at h q) i of.0 (omega (arith, i_in)) in
    (omega arith, omega (arith, k))

-- it lies below the end of the heap
pub cell_below : (h : HeapState) → StandApart h → (q i : ℕ) → is_allocated h q ≡ true → AreCellsOf h q (i + 1) → place_at h (Cell q i) < h.top
cell_below h apart q i there of = let own = cell_in h q i of in let high = own.1 in let below = apart.below q there in omega (arith, high, below)

module _ (p : Packages) (m : MemoryState) (s : IsSoundMemory p m) (apart : StandApart m.heap.now) (r : ℕ) (pin : PinStands p m r) where
  abbrev h : HeapState
  h = m.heap.now

  -- its counter's word
  abbrev w : ℕ
  w = place_at h (counter r)

  abbrev size : ℕ → ℕ
  size q = item_size (heap_item_at h q)

  pin_there : is_allocated h r ≡ true
  pin_there = object_named h r pin.there

  word_in_pin : (r < w) × (w < r + size r)
  word_in_pin = let long = pin.long in cell_in h r 2 (event_none (facts h r) pin.kept, omega (arith, long))

  -- what lies within another record is another word
  elsewhere : (q x : ℕ) → is_allocated h q ≡ true → (q ≡ r → ⊥) → q ≤ x → x < q + size q → x ≡ w → ⊥
  elsewhere q x there other from to is =
      let own = word_in_pin in
      let low = own.0 in
      let high = own.1 in
      elim (cases_lt q r) [
        | inl before ↦ let a = apart.apart q r there pin_there before in omega (arith, a, to, low, is)
        | inr behind ↦ let a = apart.apart r q pin_there there (omega (arith, behind, other)) in omega (arith, a, from, high, is)
      ]

  below : (x : ℕ) → x < text_start → x ≡ w → ⊥
  below x lt is = let own = word_in_pin in let low = own.0 in let first = apart.first r pin_there in omega (arith, lt, is, low, first)

  other_object : (q i : ℕ) → AreCellsOf h q (i + 1) → (q ≡ r → ⊥) → place_at h (Cell q i) ≡ w → ⊥
  other_object q i of other is =
      let c = cell_in h q i of in
      let low = c.0 in
      let some = of.1 in
      elsewhere q (place_at h (Cell q i)) (there_if h q (λ t. (facts_of t).length) refl (omega (arith, some))) other (omega (arith, low)) c.1 is

  -- another cell of the PIN
  other_cell : (i : ℕ) → (i ≡ 2 → ⊥) → place_at h (Cell r i) ≡ w → ⊥
  unfolding cell_address
  other_cell i other = subst (λ (b : Bool). r + (header_size + (if b then i / 2 else i)) ≡ r + (header_size + (if b then 2 / 2 else 2)) → ⊥)
      (sym (plain_pin p m r pin)) (λ is. omega (arith, is, other))

  cell_away : (q i : ℕ) → AreCellsOf h q (i + 1) → (q ≡ r → i ≡ 2 → ⊥) → place_at h (Cell q i) ≡ w → ⊥
  cell_away q i of other is = elim (cases_eq q r) [
    | inl same ↦ other_cell i (other same) (subst (λ x. place_at h (Cell x i) ≡ w) same is)
    | inr differs ↦ other_object q i of differs is
  ]

  static_away : (q j : ℕ) → IsStatic (record_of h q) j → place_at h (Static q j) ≡ w → ⊥
  static_away q j static is =
      let inside = static.within in
      elim (cases_eq q r) [
        | inl same ↦
            let long = pin.long in
            let none = record_kind (heap_item_at h r) j (subst (λ x. j < length (record_of h x)) same inside)
            (and_parts (is_instance (facts h r).kind) _ pin.kept).0 in
            omega (arith, long, none)
        | inr other ↦ elsewhere q (q + j) (there_if h q (λ t. length (words_of t)) refl (omega (arith, inside))) other (omega arith)
            (let k = record_in (heap_item_at h q) j inside in omega (arith, k)) is
      ]

  -- cells of another object, or other cells of the PIN
  run_away : (q n i : ℕ) → AreCellsOf h q (i + n) → ((k : ℕ) → k < n → q ≡ r → i + k ≡ 2 → ⊥) → NonePlaced h w (cells_from q i n)
  run_away q zero i of other = tt
  run_away q (suc n) i of other =
      let end = of.1 in
      let next : suc i ≡ i + 1 = omega arith in (
        cell_away q i (of.0, omega (arith, end)) (λ same two. other 0 (omega arith) same (omega (arith, two))),
        subst (λ k. NonePlaced h w (cells_from q k n)) next (run_away q n (suc i) (of.0, omega (arith, end))
            (λ k lt same two. other (suc k) (omega (arith, lt)) same (omega (arith, two)))),
      )

  changes_away : (q i : ℕ) (values : List ℕ) → (0 < length values → AreCellsOf h q (i + length values)) → (0 < length values → q ≡ r → ⊥)
      → NonePlaced h w (places_of (cell_changes q i values))
  changes_away q i [] of other = tt
  changes_away q i (v ∷ values) of other =
      let all = of (omega arith) in
      let end = all.1 in (
        other_object q i (all.0, omega (arith, end)) (other (omega arith)),
        changes_away q (suc i) values (λ some. (all.0, omega (arith, end))) (λ some. other (omega arith)),
      )

  registered_away : (changes : List (Place × ℕ)) → RegistersApplet p m changes → NonePlaced h w (places_of changes)
  registered_away changes f =
      let few = f.few in
      subst (λ l. NonePlaced h w (places_of l)) (sym f.is) (
        below _ (omega (arith, few)),
        (
          below _ (omega (arith, few)),
          (
            below _ (omega (arith, few)),
            (below _ (omega arith), tt),
          ),
        ),
      )

  -- ---- the value of a PIN

  value_away : (q : ℕ) (bytes : List ℕ) → IsPinObject p m q → length bytes ≤ (pin_of m q).maximum
      → NonePlaced h w (places_of (cell_changes (pin_of m q).value 0 bytes))
  value_away q bytes object short = changes_away (pin_of m q).value 0 bytes (λ some.
      let b = and_parts (is_bytes (facts h (pin_of m q).value).kind) _ (is_value p m s q object (omega (arith, some, short))) in
      let e = and_parts (is_none (facts h (pin_of m q).value).event) _ b.1 in
      let long = eqb-true (facts h (pin_of m q).value).length (pin_of m q).maximum e.1 in
      (none_is (facts h (pin_of m q).value).event e.0, omega (arith, long, short)))
      (λ some same.
      let b = and_parts (is_bytes (facts h (pin_of m q).value).kind) _ (is_value p m s q object (omega (arith, some, short))) in
      no_instance (facts h r).kind (subst (λ x. is_bytes (facts h x).kind ≡ true) same b.0) (and_parts (is_instance (facts h r).kind) _ pin.kept).0)

  own_cells : (q i : ℕ) → IsPinObject p m q → i < 5 → AreCellsOf h q (i + 1)
  own_cells q i object lt = let long = object.long in (event_none (facts h q) object.kept, omega (arith, lt, long))

  -- ---- all effects

  abbrev Decides : Effect → Type 0
  Decides e = SetsAnew r e m ⊎ IsNone w (words_by e m)

  started : (changes : List (Place × ℕ)) → SetsUpPin p m changes → Decides (HeapMove (SetPlaces changes))
  started changes f = elim (cases_eq f.pin r) [
    | inl same ↦ inl (inr (record {
      limit = f.limit;
      maximum = f.maximum;
      value = f.value;
      is = f.is ∙ ap (λ q. first_record q f.limit f.maximum f.value) same;
    }))
    | inr other ↦ inr (subst (λ l. IsNone w (words_at h (places_of l))) (sym f.is)
        (none_placed h w (places_of (first_record f.pin f.limit f.maximum f.value)) (
          other_object f.pin 0 (own_cells f.pin 0 f.object (omega arith)) other,
          (
            other_object f.pin 1 (own_cells f.pin 1 f.object (omega arith)) other,
            (
              other_object f.pin 2 (own_cells f.pin 2 f.object (omega arith)) other,
              (
                other_object f.pin 3 (own_cells f.pin 3 f.object (omega arith)) other,
                (
                  other_object f.pin 4 (own_cells f.pin 4 f.object (omega arith)) other,
                  tt,
                ),
              ),
            ),
          ),
        )))
  ]

  updated : (changes : List (Place × ℕ)) → UpdatesPin p m changes → Decides (HeapMove (SetPlaces changes))
  updated changes f = elim (cases_eq f.pin r) [
    | inl same ↦ inl (inl (record { bytes = f.bytes; is = f.is ∙ ap (λ q. changes_of_update (pin_of m q) q f.bytes) same }))
    | inr other ↦ inr (subst (λ l. IsNone w (words_at h (places_of l))) (sym f.is)
        (none_placed h w (places_of (changes_of_update (pin_of m f.pin) f.pin f.bytes))
        (both_placed h w (cell_changes (pin_of m f.pin).value 0 f.bytes) _ (value_away f.pin f.bytes f.object f.short) (
          other_object f.pin 3 (own_cells f.pin 3 f.object (omega arith)) other,
          (
            other_object f.pin 2 (own_cells f.pin 2 f.object (omega arith)) other,
            tt,
          ),
        ))))
  ]

  place_away : (place : Place) (v : ℕ) → FitsPlace p h place v → place_at h place ≡ w → ⊥
  place_away (Cell q i) v fits is = cell_away q i fits.0 (λ same two.
      let kept = subst (λ x. is_persistent_instance (facts h x) ≡ true) (sym same) pin.kept in
      let low = (fits.1.0 kept).pin (subst (λ x. is_a p (facts h x).class OwnerPin ≡ true) (sym same) pin.pin) in
      omega (arith, low, two)) is
  place_away (Static q j) v fits is = static_away q j fits.there is
  place_away (Registry j) v fits is = absurd fits
  place_away AppletCount v fits is = absurd fits

  places_away : (changes : List (Place × ℕ)) → FitPlaces p h changes → NonePlaced h w (places_of changes)
  places_away [] fits = tt
  places_away (c ∷ cs) fits = (place_away c.0 c.1 fits.0, places_away cs fits.1)

  changed : (changes : List (Place × ℕ)) → FitsChange p m changes → Decides (HeapMove (SetPlaces changes))
  changed changes (OfPlaces fits) = inr (none_placed h w (places_of changes) (places_away changes fits))
  changed changes (OfPin f) = started changes f
  changed changes (OfValue f) = updated changes f
  changed changes (OfRegistry f) = inr (none_placed h w (places_of changes) (registered_away changes f))

  cells_away : (q i : ℕ) (words : List ℕ) → FitsRun p m q i words → AreCellsOf h q (i + length words) → IsNone w (words_at h (cells_from q i (length words)))
  cells_away q i words fits of = none_placed h w (cells_from q i (length words)) (run_away q (length words) i of (λ k lt same two.
      let kept = subst (λ x. is_persistent_instance (facts h x) ≡ true) (sym same) pin.kept in
      let own = subst (λ x. is_a p (facts h x).class OwnerPin ≡ true) (sym same) pin.pin in
      elim (fits.0 kept) [
        | inl aid ↦ true≢false (sym own ∙ aid.pin)
        | inr fields ↦ let low = (fields.fits k lt).pin own in omega (arith, low, two)
      ]))

  area_away : (event : ClearEvent) → area_end_address event ≡ w → ⊥
  area_away Reset is = below _ (omega arith) is
  area_away Deselect is = below _ (omega arith) is

  end_away : end_address ≡ w → ⊥
  unfolding end_address
  end_away is = below _ (omega arith) is

  -- an effect sets the PIN anew, or it names other words than that of its counter
  pub decides : (e : Effect) → IsServed p e m → Decides e
  decides (HeapMove (Write place v)) fits = inr (place_away place v fits, tt)
  decides (HeapMove (SetPlaces changes)) fits = changed changes fits
  decides (HeapMove (WriteNonAtomic place v)) fits = inr tt
  decides (HeapMove (SetCells q i words)) fits = inr (cells_away q i words fits.1 fits.0)
  decides (HeapMove (AddObject o size)) fits = inr (end_away, tt)
  decides (HeapMove (AddTransient kind event class owner long)) fits = inr (end_away, (area_away event, tt))
  decides (HeapMove (AddPackage components arrays image)) fits = inr tt
  decides (HeapMove Begin) fits = inr tt
  decides (HeapMove Commit) fits = inr tt
  decides (HeapMove Abort) fits = inr tt
  decides (SetTransient q i values) fits = inr tt
  decides (SetFlag q flag) fits = inr tt
  decides (ClearTransient event) fits = inr tt
  decides (SetRegisters g) fits = inr tt
  decides (BeginCommand bytes) fits = inr tt
  decides (SendBytes bytes) fits = inr tt
