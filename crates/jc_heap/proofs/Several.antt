-- Several places set as one change: places that differ have different words, but for elements that stand in one.
use Rattle.std.proofs.Common.{◌≡◌, ℕ, zero, suc, ◌+◌, ◌/◌, ◌<◌, ◌≤◌, ◌&&◌, Bool, true, inl, inr, List, [], ◌∷◌, length, if◌then◌else◌, map, get_or, set}
use Rattle.std.proofs.Common.{false, drop, refl, sym, ◌∙◌, ap, subst, arith}
use Rattle.std.proofs.lemmas.List.{length-take}
use Rattle.std.proofs.lemmas.Bool.{cases_Bool, cases_eq, cases_lt, eq-eqb, ne_eqb, false≢true}
use Rattle.jc_words.specs.Layout.{text_start}
use Rattle.jc_commit.specs.Image.{with_words, IsPlace}
use Rattle.jc_commit.specs.Entries.{addresses_of, ArePlaces, AreDistinct}
use Rattle.jc_commit.specs.State.{State}
use Rattle.jc_heap.specs.declared.place.Place.{Place}
use Rattle.jc_heap.specs.declared.place.Place.TheVariants.{Cell, Static, Registry, AppletCount}
use Rattle.jc_heap.specs.Walk.{Sizes, records_from, entry_or, has_entry}
use Rattle.jc_heap.specs.Object.{AnObject, APackage, object_of, cells_of, facts_of, is_packed}
use Rattle.jc_heap.specs.Image.{IsWellFormed, image, base, package_addresses, is_package, sizes, records, item}
use Rattle.jc_heap.specs.Heap.{HeapState, HeapView, heap_view, heap_of, read_image, heap_item_at, is_allocated, cells, facts, cell_address}
use Rattle.jc_heap.specs.Heap.{SameShape, IsSound}
use Rattle.jc_heap.proofs.Changing.{up_is}
use Rattle.jc_heap.specs.Place.{place_word, place_at, IsPlain, ArePlain, share_word, words_at, set_place, set_places, places_of, words_of, AreThere}
use Rattle.jc_heap.specs.Place.{IsBeside, AreApart}
use Rattle.jc_heap.specs.Component.{record_of}
use Rattle.jc_heap.proofs.Records.{has_behind}
use Rattle.jc_heap.proofs.Places.{place_spot, place_logged, plain_at, plain_word_set, place_shape, bare_stays, HasWord, has_word, word_stays}
use Rattle.jc_heap.proofs.Tables.{at_or-map, has-map}
use Rattle.jc_heap.proofs.Laws.{names_cells, same_facts}
use Rattle.jc_heap.proofs.Images.{object_cell, cell_offset}
use Rattle.jc_heap.proofs.Views.{spot_of_cell}
use Rattle.jc_heap.proofs.RecordReading.{named, is_one, is_record, behind}
use Rattle.jc_heap.proofs.WordsAt.{shares_none, words_at-plain}
use Rattle.jc_heap.proofs.Written.{StandsFor, IsWritten}

-- the word of the place at an index
pub words_of-at : (cs : List (Place × ℕ)) (k : ℕ) (d : Place × ℕ) → k < length cs
    → get_or (words_of cs) k (0, 0) ≡ (place_word (get_or cs k d).0, (get_or cs k d).1)
words_of-at [] k d lt = absurd (omega arith)
words_of-at (c ∷ cs) zero d lt = refl
words_of-at (c ∷ cs) (suc k) d lt = words_of-at cs k d (omega arith)

pub length-words : (cs : List (Place × ℕ)) → length (words_of cs) ≡ length cs
length-words [] = refl
length-words (c ∷ cs) = ap suc (length-words cs)

-- places set leave the shape
pub shape-places : (d h : HeapState) (cs : List (Place × ℕ)) → SameShape d h → SameShape d (set_places h cs)
shape-places d h [] s = s
shape-places d h (c ∷ cs) s = shape-places d (set_place h c.0 c.1) cs (place_shape d h c.0 c.1 s)

-- a place set leaves the words of their own that places have
plain_stays : (h : HeapState) (p : Place) (x : ℕ) (q : Place) → IsPlain h q → IsPlain (set_place h p x) q
plain_stays h p x (Cell r i) plain = ap is_packed (same_facts (heap_item_at (set_place h p x) r) (heap_item_at h r) (bare_stays h p x r)) ∙ plain
plain_stays h p x (Static r i) plain = tt
plain_stays h p x (Registry i) plain = tt
plain_stays h p x AppletCount plain = tt

-- the heap has a word for each of these, which it has alone
abbrev pub AllWords : HeapState → List (Place × ℕ) → Type 0
AllWords h [] = Unit {0}
AllWords h (c ∷ cs) = HasWord h c.0 × IsPlain h c.0 × AllWords h cs

pub all_words_stay : (h : HeapState) (p : Place) (x : ℕ) (cs : List (Place × ℕ)) → AllWords h cs → AllWords (set_place h p x) cs
all_words_stay h p x [] there = tt
all_words_stay h p x (c ∷ cs) there = (word_stays h p x c.0 there.0, plain_stays h p x c.0 there.1, all_words_stay h p x cs there.2)

-- several words set stand for the heap with the places set
pub words_set : (ws : List ℕ) (cs : List (Place × ℕ)) → IsWellFormed ws → AllWords (heap_of ws) cs
    → StandsFor ws (with_words ws (words_of cs)) (set_places (heap_of ws) cs)
words_set ws [] laid there = (refl, laid, refl)
words_set ws (c ∷ cs) laid there =
    let us : List ℕ = set ws (place_word c.0) c.1 in
    let one : StandsFor ws us (set_place (heap_of ws) c.0 c.1) = plain_word_set ws c.0 c.1 laid there.0 there.1 in
    let left : AllWords (heap_of us) cs = subst (λ h. AllWords h cs) (sym one.0) (all_words_stay (heap_of ws) c.0 c.1 cs there.2) in
    let ih : StandsFor us (with_words us (words_of cs)) (set_places (heap_of us) cs) = words_set us cs one.1 left in
    (ih.0 ∙ ap (λ h. set_places h cs) one.0, ih.1, ih.2 ∙ one.2)

-- records lie one after another
disjoint : (more : Sizes) (s at : ℕ) (ws : List ℕ) (r q : ℕ) → has_entry (records_from more s at ws) r ≡ true → has_entry (records_from more s at ws) q ≡ true
    → r < q → r + length (entry_or [] (records_from more s at ws) r) ≤ q
disjoint more s at [] r q hr hq lt = absurd (false≢true hr)
disjoint more (suc s) at (w ∷ ws) r q hr hq lt = disjoint more s (suc at) ws r q hr hq lt
disjoint more zero at (w ∷ ws) r q hr hq lt = elim (cases_eq at r) [
  | inl e ↦
      let n : at ≡ q → ⊥ = λ f. omega arith in
      let there : has_entry (records_from more (more at (w ∷ ws)) (suc at) ws) q ≡ true = rw (ne_eqb at q n) at hq in
      let b : suc at + more at (w ∷ ws) ≤ q = has_behind more (more at (w ∷ ws)) (suc at) ws q there in
      rw (eq-eqb at r e) (omega (arith, b, e, length-take (more at (w ∷ ws)) ws))
  | inr n ↦
      let here : has_entry (records_from more (more at (w ∷ ws)) (suc at) ws) r ≡ true = rw (ne_eqb at r n) at hr in
      let b : suc at + more at (w ∷ ws) ≤ r = has_behind more (more at (w ∷ ws)) (suc at) ws r here in
      let m : at ≡ q → ⊥ = λ f. omega arith in
      let there : has_entry (records_from more (more at (w ∷ ws)) (suc at) ws) q ≡ true = rw (ne_eqb at q m) at hq in
      rw (ne_eqb at r n) (disjoint more (more at (w ∷ ws)) (suc at) ws r q here there lt)
]

abbrev record_at : List ℕ → ℕ → List ℕ
record_at ws r = entry_or [] (records (image ws)) r

-- a word of a record, of an object or of a package
record IsIn (ws : List ℕ) (r k : ℕ) (kind : Bool) : Type 0 where
  named : has_entry (records (image ws)) r ≡ true
  within : k < length (record_at ws r)
  is : is_package (package_addresses (image ws)) r ≡ kind

cell_in : (ws : List ℕ) (r i : ℕ) → i < length (cells (heap_of ws) r) → IsIn ws r (4 + cell_offset (is_packed (facts (heap_of ws) r)) i) false
unfolding read_image heap_item_at is_allocated
cell_in ws r i h =
    let there : has_entry (records (image ws)) r ≡ true = sym (has-map (item (package_addresses (image ws))) (records (image ws)) r)
    ∙ names_cells (heap_of ws) r i h in
    let is : heap_item_at (heap_of ws) r ≡ item (package_addresses (image ws)) r (record_at ws r) =
    at_or-map (item (package_addresses (image ws))) [] (APackage []) (records (image ws)) r there in
    elim (cases_Bool (is_package (package_addresses (image ws)) r)) [
      | inl e ↦ absurd (omega (
        arith,
        h,
        ap (λ t. length (cells_of t)) is,
        ap (λ b. length
            (cells_of (if b then APackage (record_at ws r) else AnObject (object_of (record_at ws r))))) e,
      ))
      | inr e ↦
          let long : i < length ((object_of (record_at ws r)).cells) = omega (
            arith,
            h,
            ap (λ t. length (cells_of t)) is,
            ap (λ b. length (cells_of (if b then APackage (record_at ws r) else AnObject (object_of (record_at ws r))))) e,
          ) in
          let header : facts (heap_of ws) r ≡ (object_of (record_at ws r)).facts =
          ap facts_of is ∙ ap (λ b. facts_of (if b then APackage (record_at ws r) else AnObject (object_of (record_at ws r)))) e in
          let within : 4 + cell_offset (is_packed (facts (heap_of ws) r)) i < length (record_at ws r) =
          subst (λ f. 4 + cell_offset (is_packed f) i < length (record_at ws r)) (sym header) (object_cell (record_at ws r) i 0 long).within in
          record { named = there; within = within; is = e }
    ]

static_in : (ws : List ℕ) (r j : ℕ) → IsWellFormed ws → j < length (record_of (heap_of ws) r) → IsIn ws r j true
static_in ws r j laid h =
    let some : 0 < length (record_of (heap_of ws) r) = omega (arith, h) in
    record { named = named ws r laid some; within = omega (arith, h, ap length (is_record ws r laid some)); is = is_one ws r laid some }

-- words of records that begin at two addresses
two_records : (ws : List ℕ) (r k q m : ℕ) (b c : Bool) → IsIn ws r k b → IsIn ws q m c → (r ≡ q → ⊥) → r + k ≡ q + m → ⊥
two_records ws r k q m b c first second ne e = elim (cases_lt r q) [
  | inl lt ↦
      let d : r + length (record_at ws r) ≤ q = disjoint (sizes (package_addresses (image ws))) 0 (base (image ws))
      (drop (base (image ws)) (image ws)) r q first.named second.named lt in
      omega (arith, d, first.within, e)
  | inr ge ↦
      let d : q + length (record_at ws q) ≤ r = disjoint (sizes (package_addresses (image ws))) 0 (base (image ws))
      (drop (base (image ws)) (image ws)) q r second.named first.named (omega (arith, ge, ne)) in
      omega (arith, d, second.within, e)
]

two_kinds : (ws : List ℕ) (r k q m : ℕ) → IsIn ws r k false → IsIn ws q m true → r + k ≡ q + m → ⊥
two_kinds ws r k q m first second e = two_records ws r k q m false true first second
    (λ same. false≢true (sym first.is ∙ ap (is_package (package_addresses (image ws))) same ∙ second.is)) e

static_far : (ws : List ℕ) (r j : ℕ) → IsWellFormed ws → j < length (record_of (heap_of ws) r) → text_start ≤ r + j
static_far ws r j laid h = omega (arith, behind ws r laid (omega (arith, h)))

-- where the word of a cell stands
cell_at_is : (h : HeapState) (r i : ℕ) (b : Bool) → is_packed (facts h r) ≡ b → place_at h (Cell r i) ≡ cell_address r (if b then i / 2 else i)
cell_at_is h r i b e = ap (λ c. cell_address r (if c then i / 2 else i)) e

-- cells of one object with one word
one_object : (h : HeapState) (r i q k : ℕ) → r ≡ q → (Cell r i ≡ Cell q k → ⊥) → place_at h (Cell r i) ≡ place_at h (Cell q k)
    → share_word h (Cell r i) (Cell q k) ≡ true
unfolding cell_address
one_object h r i q k s ne e = elim (cases_Bool (is_packed (facts h r))) [
  | inl packed ↦
      let half : i / 2 ≡ k / 2 = omega (arith, s, e, cell_at_is h r i true packed, cell_at_is h q k true (ap (λ m. is_packed (facts h m)) (sym s) ∙ packed)) in
      λ t. eq-eqb r q s t && (packed t && eq-eqb (i / 2) (k / 2) half t)
  | inr plain ↦
      let same : i ≡ k = omega (arith, s, e, cell_at_is h r i false plain, cell_at_is h q k false (ap (λ m. is_packed (facts h m)) (sym s) ∙ plain)) in
      absurd (ne (λ t. Cell (s t) (same t)))
]

-- places that differ have different words, but for elements of one word
pub words_apart : (ws : List ℕ) → IsWellFormed ws → (p q : Place) → HasWord (heap_of ws) p → HasWord (heap_of ws) q → (p ≡ q → ⊥)
    → place_at (heap_of ws) p ≡ place_at (heap_of ws) q → share_word (heap_of ws) p q ≡ true
unfolding cell_address
words_apart ws laid (Cell r i) (Cell q k) hp hq ne e = elim (cases_eq r q) [
  | inl s ↦ one_object (heap_of ws) r i q k s ne e
  | inr n ↦ absurd (two_records ws r (4 + cell_offset (is_packed (facts (heap_of ws) r)) i) q (4 + cell_offset (is_packed (facts (heap_of ws) q)) k) false false
      (cell_in ws r i hp) (cell_in ws q k hq) n e)
]
words_apart ws laid (Cell r i) (Static q k) hp hq ne e =
    absurd (two_kinds ws r (4 + cell_offset (is_packed (facts (heap_of ws) r)) i) q k (cell_in ws r i hp) (static_in ws q k laid hq.1) e)
words_apart ws laid (Cell r i) (Registry k) hp hq ne e = absurd (omega (arith, (spot_of_cell ws r i hp).1, e, hq))
words_apart ws laid (Cell r i) AppletCount hp hq ne e = absurd (omega (arith, (spot_of_cell ws r i hp).1, e))
words_apart ws laid (Static r i) (Cell q k) hp hq ne e =
    absurd (two_kinds ws q (4 + cell_offset (is_packed (facts (heap_of ws) q)) k) r i (cell_in ws q k hq) (static_in ws r i laid hp.1) (sym e))
words_apart ws laid (Static r i) (Static q k) hp hq ne e = elim (cases_eq r q) [
  | inl s ↦ let same : i ≡ k = omega (arith, s, e) in absurd (ne (λ t. Static (s t) (same t)))
  | inr n ↦ absurd (two_records ws r i q k true true (static_in ws r i laid hp.1) (static_in ws q k laid hq.1) n e)
]
words_apart ws laid (Static r i) (Registry k) hp hq ne e = absurd (omega (arith, static_far ws r i laid hp.1, e, hq))
words_apart ws laid (Static r i) AppletCount hp hq ne e = absurd (omega (arith, static_far ws r i laid hp.1, e))
words_apart ws laid (Registry i) (Cell q k) hp hq ne e = absurd (omega (arith, (spot_of_cell ws q k hq).1, e, hp))
words_apart ws laid (Registry i) (Static q k) hp hq ne e = absurd (omega (arith, static_far ws q k laid hq.1, e, hp))
words_apart ws laid (Registry i) (Registry k) hp hq ne e = let same : i ≡ k = omega (arith, e) in absurd (ne (λ t. Registry (same t)))
words_apart ws laid (Registry i) AppletCount hp hq ne e = absurd (omega (arith, e))
words_apart ws laid AppletCount (Cell q k) hp hq ne e = absurd (omega (arith, (spot_of_cell ws q k hq).1, e))
words_apart ws laid AppletCount (Static q k) hp hq ne e = absurd (omega (arith, static_far ws q k laid hq.1, e))
words_apart ws laid AppletCount (Registry k) hp hq ne e = absurd (omega (arith, e))
words_apart ws laid AppletCount AppletCount hp hq ne e = absurd (ne refl)

-- a place that has a word of its own has another one than any other place
own_word : (ws : List ℕ) → IsWellFormed ws → (p q : Place) → HasWord (heap_of ws) p → HasWord (heap_of ws) q → IsPlain (heap_of ws) q → (p ≡ q → ⊥)
    → place_at (heap_of ws) p ≡ place_word q → ⊥
own_word ws laid p q hp hq plain ne e =
    false≢true (sym (shares_none (heap_of ws) p q plain) ∙ words_apart ws laid p q hp hq ne (e ∙ sym (plain_at (heap_of ws) q plain)))

-- so the words of places of which none stands twice are distinct
pub beside_words : (ws : List ℕ) → IsWellFormed ws → (p : Place) (cs : List (Place × ℕ)) (k d : ℕ) → HasWord (heap_of ws) p → AllWords (heap_of ws) cs
    → IsBeside p (places_of cs) → k < length (addresses_of (words_of cs)) →
    place_at (heap_of ws) p ≡ get_or (addresses_of (words_of cs)) k d → ⊥
beside_words ws laid p [] k d hp there beside lt e = absurd (omega arith)
beside_words ws laid p (c ∷ cs) zero d hp there beside lt e = own_word ws laid p c.0 hp there.0 there.1 beside.0 e
beside_words ws laid p (c ∷ cs) (suc k) d hp there beside lt e = beside_words ws laid p cs k d hp there.2 beside.1 (omega arith) e

distinct_words : (ws : List ℕ) → IsWellFormed ws → (cs : List (Place × ℕ)) → AllWords (heap_of ws) cs → AreApart (places_of cs)
    → AreDistinct (addresses_of (words_of cs))
distinct_words ws laid [] there apart i j d less lt e = absurd (omega arith)
distinct_words ws laid (c ∷ cs) there apart i zero d less lt e = absurd (omega arith)
distinct_words ws laid (c ∷ cs) there apart zero (suc j) d less lt e =
    beside_words ws laid c.0 cs j d there.0 there.2 apart.0 (omega arith) (plain_at (heap_of ws) c.0 there.1 ∙ e)
distinct_words ws laid (c ∷ cs) there apart (suc i) (suc j) d less lt e = distinct_words ws laid cs there.2 apart.1 i j d (omega arith) (omega arith) e

pub all_there : (h : HeapState) (cs : List (Place × ℕ)) → AreThere h cs → ArePlain h (places_of cs) → AllWords h cs
all_there h [] there plain = tt
all_there h (c ∷ cs) there plain = (has_word h c.0 there.0, plain.0, all_there h cs there.2 plain.1)

several_addresses : (h : HeapState) (cs : List (Place × ℕ)) → ArePlain h (places_of cs) → addresses_of (words_of cs) ≡ words_at h (places_of cs)
several_addresses h cs plain = same cs ∙ sym (words_at-plain h (places_of cs) plain)
  where
    same : (xs : List (Place × ℕ)) → addresses_of (words_of xs) ≡ map place_word (places_of xs)
    same [] = refl
    same (x ∷ xs) = ap (λ l. place_word x.0 ∷ l) (same xs)

-- and each may be logged
are_places : (j : State) (v : HeapView) (n : ℕ) (cs : List (Place × ℕ)) (k : ℕ) → heap_view j n ≡ v → IsWellFormed j.plain → AreThere v.now cs
    → ArePlain v.now (places_of cs) → k < length (words_of cs) → IsPlace (length j.plain) ((get_or (words_of cs) k (0, 0)).0)
are_places j v n [] k is laid there plain lt = absurd (omega arith)
are_places j v n (c ∷ cs) zero is laid there plain lt =
    subst (IsPlace (length j.plain)) (plain_at v.now c.0 plain.0) (place_logged (length j.plain) (place_at v.now c.0) (place_spot j v n c.0 is laid there.0))
are_places j v n (c ∷ cs) (suc k) is laid there plain lt = are_places j v n cs k is laid there.2 plain.1 (omega arith)

-- places that are written
pub several_at : (j : State) (n : ℕ) (cs : List (Place × ℕ)) → IsWellFormed j.plain → AreThere (heap_of j.plain) cs → ArePlain (heap_of j.plain) (places_of cs)
    → AreApart (places_of cs) → IsWritten j.plain (words_of cs) (set_places (heap_of j.plain) cs) (words_at (heap_of j.plain) (places_of cs))
several_at j n cs laid there plain apart =
    let all : AllWords (heap_of j.plain) cs = all_there (heap_of j.plain) cs there plain in
    record {
      stands = words_set j.plain cs laid all;
      shape = λ d s. shape-places d (heap_of j.plain) cs s;
      addresses = several_addresses (heap_of j.plain) cs plain;
      each = λ k lt. are_places j (heap_view j n) n cs k refl laid there plain lt;
      distinct = distinct_words j.plain laid cs all apart;
    }

pub several_written : (j : State) (v : HeapView) (n : ℕ) (cs : List (Place × ℕ)) → heap_view j n ≡ v → IsWellFormed j.plain → AreThere v.now cs
    → ArePlain v.now (places_of cs) → AreApart (places_of cs)
    → IsWritten j.plain (words_of cs) (set_places v.now cs) (words_at v.now (places_of cs))
several_written j v n cs is laid there plain apart = subst (λ u. AreThere u.now cs → ArePlain u.now (places_of cs)
    → IsWritten j.plain (words_of cs) (set_places u.now cs) (words_at u.now (places_of cs))) is
    (λ here alone. several_at j n cs laid here alone apart) there plain

-- words that are those of the places
pub several_are_written : (j : State) (v : HeapView) (n : ℕ) (cs : List (Place × ℕ)) (words : List (ℕ × ℕ)) → heap_view j n ≡ v → IsSound j n → v.down ≡ false
    → AreThere v.now cs → ArePlain v.now (places_of cs) → AreApart (places_of cs) → words ≡ words_of cs
    → IsWritten j.plain words (set_places v.now cs) (words_at v.now (places_of cs))
several_are_written j v n cs words is s up there plain apart e = subst (λ l. IsWritten j.plain l (set_places v.now cs) (words_at v.now (places_of cs))) (sym e)
    (several_written j v n cs is (s.now (up_is j v n is up)) there plain apart)

pub several_places : (j : State) (v : HeapView) (n : ℕ) (cs : List (Place × ℕ)) → heap_view j n ≡ v → IsWellFormed j.plain → AreThere v.now cs
    → ArePlain v.now (places_of cs) → ArePlaces (length j.plain) (words_of cs)
several_places j v n cs is laid there plain k lt = are_places j v n cs k is laid there plain lt
