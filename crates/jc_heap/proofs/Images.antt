-- What a heap is after words of its image change.
use Rattle.std.proofs.Common.{◌≡◌, ℕ, suc, ◌+◌, ◌-◌, ◌/◌, ◌<◌, ◌≤◌, true, false, inl, inr, List, [], ◌∷◌, ◌++◌, length, take, drop, set, get_or, map, refl, sym}
use Rattle.std.proofs.Common.{◌∙◌, ap, subst, arith, if◌then◌else◌, ◌==◌, ◌*◌, ◌%◌, ◌&&◌, ◌||◌, Bool, min}
use Rattle.std.proofs.lemmas.List.{get_or_append_left, get_or-set_other, get_or-take, get_or-drop, drop-set-add, take-set-le, length-drop, length-take}
use Rattle.std.proofs.lemmas.List.{length-set}
use Rattle.std.proofs.lemmas.Bool.{cases_Bool, cases_eq, eqb-true, ne_eqb, lt-ltb}
use Rattle.std.proofs.Math.Bool.{and-false}
use Rattle.std.proofs.Math.Nat.{min-le_right}
use Rattle.jc_words.specs.Layout.{magic_address, size_address, top_address, packages_address, applets_address, reset_end_address, deselect_end_address}
use Rattle.jc_words.specs.Layout.{text_length_address, addresses_start, most_packages, registry_start, registry_length, text_start}
use Rattle.jc_heap.specs.Walk.{Sizes, records_from, missing_words, entry_or, has_entry, with_entry}
use Rattle.jc_heap.specs.Object.{Object, Item, AnObject, APackage, object_of, cells_of, cells_of_words, facts_of, with_cell, payload, kind_of, event_of, has_bytes}
use Rattle.jc_heap.specs.Object.{is_object, is_packed, is_packed_header}
use Rattle.jc_heap.specs.Packed.{byte_in, with_byte, bytes_of_packed}
use Rattle.jc_heap.specs.Image.{image, base, package_addresses, is_package, sizes, item, item_entry, records, missing_words_of_image, table_text}
use Rattle.jc_heap.specs.Image.{IsWellFormed, lasting_words, capacity_in}
use Rattle.std.specs.Prelude.{nat_lt}
use Rattle.jc_words.specs.Layout.{version_address, capacity_address, journal_address, front_length, front_capacity}
use Rattle.jc_commit.proofs.Words.{log-same}
use Rattle.std.proofs.Common.{lit<}
use Rattle.jc_heap.specs.Packed.{bytes_of_packed}
use Rattle.jc_heap.specs.Heap.{head_of, read_image, heap_of, heap_item_at, cells, facts, set_cell, HeapState, IsObject}
use Rattle.jc_heap.proofs.Records.{Tells, records_from-set, named_behind, entry_or-records_from, missing_words-set, take-set_comm}
use Rattle.jc_heap.proofs.PackedBytes.{length-bytes_of_packed, get_or-bytes_of_packed}
use Rattle.jc_heap.proofs.SettingBytes.{set_by, sets_half}
use Rattle.jc_heap.proofs.Tables.{map-put, at_or-map, at_or-map_absent}

pub sizes_tell : (ps : List ℕ) → Tells (sizes ps)
sizes_tell ps = record {
  whole = λ at w ws ys. elim (is_package ps at) as (λ b. (if b then w - 1 else 3 + payload w (get_or (w ∷ ws) 3 0)) ≤ length ws
      → (if b then w - 1 else 3 + payload w (get_or (w ∷ (ws ++ ys)) 3 0)) ≡ (if b then w - 1 else 3 + payload w (get_or (w ∷ ws) 3 0))) [
        | true ↦ λ le. refl
        | false ↦ λ le. ap (λ l. 3 + payload w l) (get_or_append_left (w ∷ ws) ys 0 3 (omega arith))
      ];
  header = λ at ws k v four.
      let first : get_or (set ws k v) 0 0 ≡ get_or ws 0 0 = get_or-set_other ws k 0 v 0 (λ e. omega arith) in
      let fourth : get_or (set ws k v) 3 0 ≡ get_or ws 3 0 = get_or-set_other ws k 3 v 0 (λ e. omega arith) in
      rw (first, fourth) refl;
}

-- two elements stand in a word where the header says so, whatever else it says: they are bytes
bytes_there : (a : ℕ) → is_packed_header a ≡ true → has_bytes (kind_of (a % 256)) ≡ true
bytes_there a e = elim (cases_eq a 6) [
  | inl six ↦ ap (λ n. has_bytes (kind_of (n % 256))) six
  | inr other ↦
      let seven : (a == 7) ≡ true = sym (ap (λ b. b || (a == 7)) (ne_eqb a 6 other)) ∙ e in
      ap (λ n. has_bytes (kind_of (n % 256))) (eqb-true a 7 seven)
]

packed_here : (a : ℕ) (b : Bool) → is_packed_header a ≡ b → (has_bytes (kind_of (a % 256)) && is_packed_header a) ≡ b
packed_here a true e = ap (λ c. c && is_packed_header a) (bytes_there a e) ∙ e
packed_here a false e = ap (λ c. has_bytes (kind_of (a % 256)) && c) e ∙ and-false (has_bytes (kind_of (a % 256)))

pub packed_of : (rec : List ℕ) → is_packed ((object_of rec).facts) ≡ (object_of rec).facts.packed
packed_of [] = refl
packed_of (a ∷ []) = refl
packed_of (a ∷ b ∷ []) = refl
packed_of (a ∷ b ∷ c ∷ []) = refl
packed_of (a ∷ b ∷ c ∷ d ∷ rest) = packed_here a (is_packed_header a) refl

-- where a cell's word stands after the header
abbrev pub cell_offset : Bool → ℕ → ℕ
cell_offset packed i = if packed then i / 2 else i

-- what a cell's word says of it
abbrev pub cell_said : Bool → ℕ → ℕ → ℕ
cell_said packed word i = if packed then byte_in word i else word

-- what it says once the cell is set
abbrev pub cell_set : Bool → ℕ → ℕ → ℕ → ℕ
cell_set packed word i v = if packed then with_byte word i v else v

-- an object's cell, in its record
pub record IsCell (rec : List ℕ) (o : Object) (i v : ℕ) (packed : Bool) : Type 0 where
  pub within : 4 + cell_offset packed i < length rec
  pub said : get_or o.cells i 0 ≡ cell_said packed (get_or rec (4 + cell_offset packed i) 0) i
  pub written : (packed ≡ true → v < 256) → object_of (set rec (4 + cell_offset packed i) (cell_set packed (get_or rec (4 + cell_offset packed i) 0) i v))
      ≡ record o { cells = set o.cells i v }

pub no_event : (a : ℕ) → is_packed_header a ≡ true → (a / 256 == 0) ≡ true
no_event a e = elim (cases_eq a 6) [
  | inl six ↦ ap (λ n. n / 256 == 0) six
  | inr other ↦
      let seven : (a == 7) ≡ true = sym (ap (λ b. b || (a == 7)) (ne_eqb a 6 other)) ∙ e in
      ap (λ n. n / 256 == 0) (eqb-true a 7 seven)
]

first_of : List ℕ → ℕ
first_of [] = 0
first_of (w ∷ ws) = w

-- the object of words whose event and packing are known
abbrev told : (persistent packed : Bool) (a b c d : ℕ) (rest : List ℕ) → Object
told persistent packed a b c d rest = record {
  facts = record {
    kind = kind_of (a % 256);
    event = event_of (a / 256);
    class = b;
    owner = c;
    length = d;
    place = (if persistent then 0 else get_or rest 0 0);
    packed = packed;
  };
  cells = (if persistent then cells_of_words packed d rest else []);
}

told_is : (a b c d : ℕ) (rest : List ℕ) → object_of (a ∷ b ∷ c ∷ d ∷ rest) ≡ told (a / 256 == 0) (is_packed_header a) a b c d rest
told_is a b c d [] = refl
told_is a b c d (w ∷ ws) = refl

told_cell : (persistent packed : Bool) (a b c d : ℕ) (rest : List ℕ) (i v : ℕ) → (packed ≡ true → persistent ≡ true)
    → i < length ((told persistent packed a b c d rest).cells) → (cell_offset packed i < length rest)
    × (get_or ((told persistent packed a b c d rest).cells) i 0 ≡ cell_said packed (get_or rest (cell_offset packed i) 0) i)
    × ((packed ≡ true → v < 256) → told persistent packed a b c d (set rest (cell_offset packed i) (cell_set packed (get_or rest (cell_offset packed i) 0) i v))
    ≡ record (told persistent packed a b c d rest) { cells = set ((told persistent packed a b c d rest).cells) i v })
told_cell false packed a b c d rest i v one h = absurd (omega (arith, h))
told_cell true false a b c d rest i v one h = (h, refl, λ _. refl)
told_cell true true a b c d rest i v one h =
    let n : ℕ = min d (2 * length rest) in
    let long : length (bytes_of_packed n rest) ≡ n = length-bytes_of_packed n rest in
    let below : i < n = omega (arith, h, long) in
    let there : i / 2 < length rest = omega (arith, below, min-le_right d (2 * length rest)) in
    let word : ℕ = with_byte (get_or rest (i / 2) 0) i v in
    let same : length (set rest (i / 2) word) ≡ length rest = length-set rest (i / 2) word in (
      there,
      get_or-bytes_of_packed n rest i below,
      λ small. ap (λ (cells : List ℕ). record (told true true a b c d rest) { cells = cells })
          (ap (λ (m : ℕ). bytes_of_packed (min d (2 * m)) (set rest (i / 2) word)) same
          ∙ set_by n rest (set rest (i / 2) word) i v below (sets_half rest i v there (small refl))),
    )

pub object_cell : (rec : List ℕ) (i v : ℕ) → i < length ((object_of rec).cells) → IsCell rec (object_of rec) i v (is_packed ((object_of rec).facts))
object_cell [] i v h = absurd (omega (arith, h))
object_cell (a ∷ []) i v h = absurd (omega (arith, h))
object_cell (a ∷ b ∷ []) i v h = absurd (omega (arith, h))
object_cell (a ∷ b ∷ c ∷ []) i v h = absurd (omega (arith, h))
object_cell (a ∷ b ∷ c ∷ d ∷ rest) i v h =
    let packed : Bool = is_packed_header a in
    let rec : List ℕ = a ∷ b ∷ c ∷ d ∷ rest in
    let four : (k : ℕ) → 4 + k ≡ suc (suc (suc (suc k))) = λ k. omega arith in
    let here = told_cell (a / 256 == 0) packed a b c d rest i v (no_event a) h in
    let k : ℕ = cell_offset packed i in
    let word_is : get_or rec (4 + k) 0 ≡ get_or rest k 0 = ap (λ (m : ℕ). get_or rec m 0) (four k) in
    subst (IsCell rec (object_of rec) i v) (sym (packed_here a packed refl)) (record {
      within = omega (arith, here.0, four k);
      said = here.1 ∙ ap (λ (w : ℕ). cell_said packed w i) (sym word_is);
      written = λ small.
          ap (λ (w : ℕ). object_of (set rec (4 + k) (cell_set packed w i v))) word_is
          ∙ ap (λ (m : ℕ). object_of (set rec m (cell_set packed (get_or rest k 0) i v))) (four k)
          ∙ told_is a b c d (set rest k (cell_set packed (get_or rest k 0) i v))
          ∙ here.2 small
          ∙ ap (λ (o : Object). record o { cells = set o.cells i v }) (sym (told_is a b c d rest));
    })

-- the same of an item
pub record IsItemCell (ps : List ℕ) (at : ℕ) (rec : List ℕ) (i v : ℕ) : Type 0 where
  pub within : 4 + cell_offset (is_packed (facts_of (item ps at rec))) i < length rec
  pub said : get_or (cells_of (item ps at rec)) i 0 ≡ cell_said (is_packed (facts_of (item ps at rec)))
      (get_or rec (4 + cell_offset (is_packed (facts_of (item ps at rec))) i) 0) i
  pub written : (is_packed (facts_of (item ps at rec)) ≡ true → v < 256) → item ps at (set rec (4 + cell_offset (is_packed (facts_of (item ps at rec))) i)
      (cell_set (is_packed (facts_of (item ps at rec))) (get_or rec (4 + cell_offset (is_packed (facts_of (item ps at rec))) i) 0) i v))
      ≡ with_cell (item ps at rec) i v

item_cell : (ps : List ℕ) (at : ℕ) (rec : List ℕ) (i v : ℕ) → i < length (cells_of (item ps at rec)) → IsItemCell ps at rec i v
item_cell ps at rec i v h = elim (cases_Bool (is_package ps at)) [
  | inl e ↦ let h' : i < 0 = rw e at h in absurd (omega (arith, h'))
  | inr e ↦
      let h' : i < length ((object_of rec).cells) = rw e at h in
      let o = object_cell rec i v h' in
      let f : facts_of (item ps at rec) ≡ (object_of rec).facts = ap (λ b. facts_of (if b then APackage rec else AnObject (object_of rec))) e in
      let p : is_packed (facts_of (item ps at rec)) ≡ is_packed ((object_of rec).facts) = ap is_packed f in
      record {
        within = subst (λ (b : Bool). 4 + cell_offset b i < length rec) (sym p) o.within;
        said = ap (λ (b : Bool). get_or (cells_of (if b then APackage rec else AnObject (object_of rec))) i 0) e
            ∙ subst (λ (b : Bool). get_or ((object_of rec).cells) i 0 ≡ cell_said b (get_or rec (4 + cell_offset b i) 0) i) (sym p) o.said;
        written = subst (λ (b : Bool). (b ≡ true → v < 256) → item ps at (set rec (4 + cell_offset b i)
            (cell_set b (get_or rec (4 + cell_offset b i) 0) i v)) ≡ with_cell (item ps at rec) i v) (sym p)
            (λ small. ap (λ (b : Bool). if b then APackage (set rec (4 + cell_offset (is_packed ((object_of rec).facts)) i)
            (cell_set (is_packed ((object_of rec).facts)) (get_or rec (4 + cell_offset (is_packed ((object_of rec).facts)) i) 0) i v))
            else AnObject (object_of (set rec (4 + cell_offset (is_packed ((object_of rec).facts)) i)
            (cell_set (is_packed ((object_of rec).facts)) (get_or rec (4 + cell_offset (is_packed ((object_of rec).facts)) i) 0) i v)))) e
            ∙ ap AnObject (o.written small)
            ∙ ap (λ (b : Bool). with_cell (if b then APackage rec else AnObject (object_of rec)) i v) (sym e));
      }
]

-- the first n words don't see a word after them
pub get_or_front : (ws : List ℕ) (a k v : ℕ) → k < a → get_or (set ws a v) k 0 ≡ get_or ws k 0
get_or_front ws a k v h = get_or-set_other ws a k v 0 (λ e. omega arith)

pub range_front : (ws : List ℕ) (from n a v : ℕ) → from + n ≤ a → take n (drop from (set ws a v)) ≡ take n (drop from ws)
range_front ws from n a v h =
    let is : a ≡ from + (a - from) = omega arith in
    rw (is, drop-set-add from ws (a - from) v) (take-set-le n (drop from ws) (a - from) v (omega arith))

pub package_addresses-set : (ws : List ℕ) (a v : ℕ) → registry_start ≤ a → package_addresses (set ws a v) ≡ package_addresses ws
package_addresses-set ws a v h = rw (get_or_front ws a packages_address v (omega arith), range_front ws addresses_start most_packages a v h) refl

-- the head hangs on its two words alone
pub head-same : (a b : List ℕ) → get_or b magic_address 0 ≡ get_or a magic_address 0 → get_or b size_address 0 ≡ get_or a size_address 0 → head_of b ≡ head_of a
head-same a b first second k = (first k, second k)

pub head-set : (ws : List ℕ) (a v : ℕ) → size_address < a → head_of (set ws a v) ≡ head_of ws
head-set ws a v h = head-same ws (set ws a v) (get_or_front ws a magic_address v (omega (arith, h))) (get_or_front ws a size_address v h)

-- the table text hangs on its length and its words alone
pub text-same : (a b : List ℕ) → get_or b text_length_address 0 ≡ get_or a text_length_address 0
    → take ((get_or a text_length_address 0 + 1) / 2) (drop text_start b) ≡ take ((get_or a text_length_address 0 + 1) / 2) (drop text_start a)
    → table_text b ≡ table_text a
text-same a b long words = ap (λ n. bytes_of_packed n (take ((n + 1) / 2) (drop text_start b))) long
    ∙ ap (bytes_of_packed (get_or a text_length_address 0)) words

-- the words of the front that nothing reads are the same
pub lasting-same : (a b : List ℕ) → get_or b 4 0 ≡ get_or a 4 0
    → ((k : ℕ) → text_length_address < k → k < front_length → get_or b k 0 ≡ get_or a k 0) → lasting_words b ≡ lasting_words a
lasting-same a b first rest = λ i. first i ∷ rest 13 (lit< tt) (lit< tt) i
    ∷ rest 14 (lit< tt) (lit< tt) i ∷ rest 15 (lit< tt) (lit< tt) i ∷ []

-- the journal can keep as many old values where the words that describe it are the same
pub capacity-same : (a b : List ℕ) → nat_lt journal_address (length b) ≡ nat_lt journal_address (length a)
    → get_or b version_address 0 ≡ get_or a version_address 0
    → ((k : ℕ) → text_length_address < k → k < front_length → get_or b k 0 ≡ get_or a k 0) → capacity_in b ≡ capacity_in a
capacity-same a b reach first rest =
    let log = log-same a b first (rest capacity_address (lit< tt) (lit< tt)) (rest journal_address (lit< tt) (lit< tt)) in
    λ i. if reach i then (log i).capacity else front_capacity

-- both are long enough
pub reach-both : (a b : List ℕ) → journal_address < length a → journal_address < length b → nat_lt journal_address (length b) ≡ nat_lt journal_address (length a)
reach-both a b first second = lt-ltb journal_address (length b) second ∙ sym (lt-ltb journal_address (length a) first)

pub base-set : (ws : List ℕ) (a v : ℕ) → registry_start ≤ a → base (set ws a v) ≡ base ws
base-set ws a v h = rw (get_or_front ws a text_length_address v (omega arith)) refl

-- a word of a record after its header
module _ (img : List ℕ) (r j v : ℕ) (four : 4 ≤ j) (h : j < length (entry_or [] (records img) r)) where
  abbrev rec : List ℕ
  rec = entry_or [] (records img) r

  pub word_behind : base img ≤ r
  word_behind = omega (arith, named_behind (sizes (package_addresses img)) 0 (base img) (drop (base img) img) r j h)

  -- the word's offset in the table
  offset : ℕ
  offset = r + j - base img

  offset_is : base img + offset ≡ r + j
  unfolding offset
  offset_is = omega (arith, word_behind)

  in_table : (offset < length (drop (base img) img)) × (get_or rec j 0 ≡ get_or (drop (base img) img) offset 0)
  in_table = entry_or-records_from (sizes (package_addresses img)) 0 (base img) (drop (base img) img) r j offset h offset_is

  pub word_within : r + j < length img
  word_within = omega (arith, in_table.0, offset_is, length-drop (base img) img)

  pub record_word : get_or rec j 0 ≡ get_or img (r + j) 0
  record_word = in_table.1 ∙ get_or-drop (base img) img offset 0 ∙ ap (λ n. get_or img n 0) offset_is

  far : registry_start ≤ r + j
  far = omega (arith, word_behind)

  tail : drop (base img) (set img (r + j) v) ≡ set (drop (base img) img) offset v
  tail = ap (λ n. drop (base img) (set img n v)) (sym offset_is) ∙ drop-set-add (base img) img offset v

  -- a function of an image's table
  table-set : {X : Type 0} (F : Sizes → ℕ → List ℕ → X) →
      F (sizes (package_addresses (set img (r + j) v))) (base (set img (r + j) v)) (drop (base (set img (r + j) v)) (set img (r + j) v))
      ≡ F (sizes (package_addresses img)) (base img) (set (drop (base img) img) offset v)
  table-set F =
      ap (λ ps. F (sizes ps) (base (set img (r + j) v)) (drop (base (set img (r + j) v)) (set img (r + j) v))) (package_addresses-set img (r + j) v far)
      ∙ ap (λ b. F (sizes (package_addresses img)) b (drop b (set img (r + j) v))) (base-set img (r + j) v far)
      ∙ ap (F (sizes (package_addresses img)) (base img)) tail

  records-set : records (set img (r + j) v) ≡ with_entry (records img) r (set rec j v)
  records-set =
      table-set (λ more b ws. records_from more 0 b ws)
      ∙ records_from-set (sizes (package_addresses img)) (sizes_tell (package_addresses img)) 0 (base img) (drop (base img) img) r j offset v
      four h offset_is

  pub missing-set : missing_words_of_image (set img (r + j) v) ≡ missing_words_of_image img
  unfolding missing_words_of_image
  missing-set =
      table-set (λ more b ws. missing_words more 0 b ws)
      ∙ missing_words-set (sizes (package_addresses img)) (sizes_tell (package_addresses img)) 0 (base img) (drop (base img) img) r j offset v
      four h offset_is

  -- the item of the record is that of its changed words, and nothing else changes
  pub read-set : read_image (set img (r + j) v)
      ≡ record (read_image img) { items = with_entry ((read_image img).items) r (item (package_addresses img) r (set rec j v)) }
  unfolding read_image
  read-set =
      let registry : text_start ≤ r + j = omega (arith, word_behind) in
      let same_packages : package_addresses (set img (r + j) v) ≡ package_addresses img = package_addresses-set img (r + j) v far in
      let items : map (item_entry (package_addresses (set img (r + j) v))) (records (set img (r + j) v))
      ≡ with_entry (map (item_entry (package_addresses img)) (records img)) r (item (package_addresses img) r (set rec j v)) =
      ap (λ ps. map (item_entry ps) (records (set img (r + j) v))) same_packages
      ∙ ap (map (item_entry (package_addresses img))) records-set
      ∙ map-put (item (package_addresses img)) (records img) r (set rec j v) in
      let applets : take registry_length (drop registry_start (set img (r + j) v)) ≡ take registry_length (drop registry_start img) =
      range_front img registry_start registry_length (r + j) v registry in
      let first_end : get_or (set img (r + j) v) reset_end_address 0 ≡ get_or img reset_end_address 0 =
      get_or_front img (r + j) reset_end_address v (omega (arith, registry)) in
      let second_end : get_or (set img (r + j) v) deselect_end_address 0 ≡ get_or img deselect_end_address 0 =
      get_or_front img (r + j) deselect_end_address v (omega (arith, registry)) in
      let top : length (set img (r + j) v) ≡ length img = length-set img (r + j) v in
      let head : head_of (set img (r + j) v) ≡ head_of img = head-set img (r + j) v (omega (arith, registry)) in
      let text : table_text (set img (r + j) v) ≡ table_text img =
      text-same img (set img (r + j) v) (get_or_front img (r + j) text_length_address v (omega (arith, registry)))
      (range_front img text_start ((get_or img text_length_address 0 + 1) / 2) (r + j) v (omega (arith, word_behind))) in
      let first_count : get_or (set img (r + j) v) packages_address 0 ≡ get_or img packages_address 0 =
      get_or_front img (r + j) packages_address v (omega (arith, registry)) in
      let second_count : get_or (set img (r + j) v) applets_address 0 ≡ get_or img applets_address 0 =
      get_or_front img (r + j) applets_address v (omega (arith, registry)) in
      let lasting : lasting_words (set img (r + j) v) ≡ lasting_words img =
      lasting-same img (set img (r + j) v) (get_or_front img (r + j) 4 v (omega (arith, registry)))
      (λ a low high. get_or_front img (r + j) a v (omega (arith, registry))) in
      let capacity : capacity_in (set img (r + j) v) ≡ capacity_in img =
      capacity-same img (set img (r + j) v) (ap (nat_lt journal_address) (length-set img (r + j) v)) (get_or_front img (r + j) version_address v (omega (arith, registry)))
      (λ a low high. get_or_front img (r + j) a v (omega (arith, registry))) in
      λ k. record {
        head = head k;
        text = text k;
        items = items k;
        counts = (first_count k, second_count k);
        packages = same_packages k;
        applets = applets k;
        area_ends = (first_end k, second_end k);
        top = top k;
        capacity = capacity k;
        lasting = lasting k;
      }

-- what has cells is an object
cells_object : (t : Item) (i : ℕ) → i < length (cells_of t) → is_object t ≡ true
cells_object (AnObject o) i h = refl
cells_object (APackage ws) i h = absurd (omega (arith, h))

pub has_cells : (h : HeapState) (r i : ℕ) → i < length (cells h r) → IsObject h r
has_cells h r i lt = cells_object (heap_item_at h r) i lt

-- where the item of an object with cells comes from
item-record : (img : List ℕ) (r i : ℕ) → i < length (cells (read_image img) r)
    → heap_item_at (read_image img) r ≡ item (package_addresses img) r (entry_or [] (records img) r)
unfolding read_image heap_item_at
item-record img r i h = elim (cases_Bool (has_entry (records img) r)) [
  | inl e ↦ at_or-map (item (package_addresses img)) [] (APackage []) (records img) r e
  | inr e ↦
      let h' : i < 0 = subst (λ t. i < length (cells_of t)) (at_or-map_absent (item (package_addresses img)) (APackage []) (records img) r e) h in
      absurd (omega (arith, h'))
]

-- a cell of an image
module _ (img : List ℕ) (r i : ℕ) (h : i < length (cells (read_image img) r)) where
  here : (v : ℕ) → IsItemCell (package_addresses img) r (entry_or [] (records img) r) i v
  here v = item_cell (package_addresses img) r (entry_or [] (records img) r) i v (subst (λ t. i < length (cells_of t)) (item-record img r i h) h)

  -- what the header says is what the item of its record does
  packed_is : is_packed (facts_of (item (package_addresses img) r (entry_or [] (records img) r))) ≡ is_packed (facts (read_image img) r)
  packed_is = ap (λ t. is_packed (facts_of t)) (sym (item-record img r i h))

  -- the word of the cell, counted from the object's first word
  abbrev word : ℕ
  word = 4 + cell_offset (is_packed (facts (read_image img) r)) i

  within : word < length (entry_or [] (records img) r)
  within = subst (λ (b : Bool). 4 + cell_offset b i < length (entry_or [] (records img) r)) packed_is ((here 0).within)

  pub cell_behind : base img ≤ r
  cell_behind = word_behind img r word 0 (omega arith) within

  pub cell_within : r + word < length img
  cell_within = word_within img r word 0 (omega arith) within

  pub cell_word : get_or (cells (read_image img) r) i 0 ≡ cell_said (is_packed (facts (read_image img) r)) (get_or img (r + word) 0) i
  cell_word = ap (λ t. get_or (cells_of t) i 0) (item-record img r i h)
      ∙ subst (λ (b : Bool). get_or (cells_of (item (package_addresses img) r (entry_or [] (records img) r))) i 0
      ≡ cell_said b (get_or (entry_or [] (records img) r) (4 + cell_offset b i) 0) i) packed_is ((here 0).said)
      ∙ ap (λ (w : ℕ). cell_said (is_packed (facts (read_image img) r)) w i) (record_word img r word 0 (omega arith) within)

  module _ (v : ℕ) where
    -- what the word says once the cell is set
    abbrev pub cell_new : ℕ
    cell_new = cell_set (is_packed (facts (read_image img) r)) (get_or img (r + word) 0) i v

    pub missing-cell : (x : ℕ) → missing_words_of_image (set img (r + word) x) ≡ missing_words_of_image img
    missing-cell x = missing-set img r word x (omega arith) within

    pub set_cell-read : (is_packed (facts (read_image img) r) ≡ true → v < 256) → read_image (set img (r + word) cell_new) ≡ set_cell (read_image img) r i v
    unfolding set_cell
    set_cell-read small =
        read-set img r word cell_new (omega arith) within
        ∙ ap (λ t. record (read_image img) { items = with_entry ((read_image img).items) r t })
        (ap (λ (w : ℕ). item (package_addresses img) r (set (entry_or [] (records img) r) word (cell_set (is_packed (facts (read_image img) r)) w i v)))
        (sym (record_word img r word 0 (omega arith) within))
        ∙ subst (λ (b : Bool). (b ≡ true → v < 256) → item (package_addresses img) r (set (entry_or [] (records img) r) (4 + cell_offset b i)
        (cell_set b (get_or (entry_or [] (records img) r) (4 + cell_offset b i) 0) i v))
        ≡ with_cell (item (package_addresses img) r (entry_or [] (records img) r)) i v) packed_is ((here v).written) small
        ∙ ap (λ t. with_cell t i v) (sym (item-record img r i h)))

-- an image's own cell, in all the words
pub image-set : (ws : List ℕ) (a v : ℕ) → top_address < a → image (set ws a v) ≡ set (image ws) a v
image-set ws a v h = rw (get_or_front ws a top_address v h) (take-set_comm (get_or ws top_address 0) ws a v)

-- the word of a cell in all the words, and what it says once the cell is set
abbrev pub cell_at_of : List ℕ → ℕ → ℕ → ℕ
cell_at_of ws r i = r + (4 + cell_offset (is_packed (facts (heap_of ws) r)) i)

abbrev pub cell_set_of : List ℕ → ℕ → ℕ → ℕ → ℕ
cell_set_of ws r i v = cell_set (is_packed (facts (heap_of ws) r)) (get_or ws (cell_at_of ws r i) 0) i v

pub cell_below-heap_of : (ws : List ℕ) (r i : ℕ) → i < length (cells (heap_of ws) r) → cell_at_of ws r i < get_or ws top_address 0
cell_below-heap_of ws r i h = omega (arith, cell_within (image ws) r i h, length-take (get_or ws top_address 0) ws)

word_same : (ws : List ℕ) (r i : ℕ) → i < length (cells (heap_of ws) r) → get_or (image ws) (cell_at_of ws r i) 0 ≡ get_or ws (cell_at_of ws r i) 0
word_same ws r i h = get_or-take (get_or ws top_address 0) ws (cell_at_of ws r i) 0 (cell_below-heap_of ws r i h)

pub set_cell-heap_of : (ws : List ℕ) (r i v : ℕ) → i < length (cells (heap_of ws) r) → (is_packed (facts (heap_of ws) r) ≡ true → v < 256)
    → heap_of (set ws (cell_at_of ws r i) (cell_set_of ws r i v)) ≡ set_cell (heap_of ws) r i v
set_cell-heap_of ws r i v h small =
    ap read_image (image-set ws (cell_at_of ws r i) (cell_set_of ws r i v) (omega (arith, cell_behind (image ws) r i h)))
    ∙ ap (λ (w : ℕ). read_image (set (image ws) (cell_at_of ws r i) (cell_set (is_packed (facts (heap_of ws) r)) w i v))) (sym (word_same ws r i h))
    ∙ set_cell-read (image ws) r i h v small

pub cell_within-heap_of : (ws : List ℕ) (r i : ℕ) → i < length (cells (heap_of ws) r) → cell_at_of ws r i < length ws
cell_within-heap_of ws r i h = omega (arith, cell_within (image ws) r i h, length-take (get_or ws top_address 0) ws)

pub cell-heap_of : (ws : List ℕ) (r i : ℕ) → i < length (cells (heap_of ws) r)
    → get_or (cells (heap_of ws) r) i 0 ≡ cell_said (is_packed (facts (heap_of ws) r)) (get_or ws (cell_at_of ws r i) 0) i
cell-heap_of ws r i h = cell_word (image ws) r i h ∙ ap (λ (w : ℕ). cell_said (is_packed (facts (heap_of ws) r)) w i) (word_same ws r i h)

pub IsWellFormed-set : (ws : List ℕ) (r i x : ℕ) → i < length (cells (heap_of ws) r) → IsWellFormed ws → IsWellFormed (set ws (cell_at_of ws r i) x)
IsWellFormed-set ws r i x h laid =
    let a : ℕ = cell_at_of ws r i in
    let behind : text_start ≤ a = omega (arith, cell_behind (image ws) r i h) in
    let top : get_or (set ws a x) top_address 0 ≡ get_or ws top_address 0 = get_or_front ws a top_address x (omega (arith, behind)) in
    let img : image (set ws a x) ≡ set (image ws) a x = image-set ws a x (omega (arith, behind)) in
    let same_base : base (image (set ws a x)) ≡ base (image ws) = ap base img ∙ base-set (image ws) a x (omega (arith, behind)) in
    record {
      based = rw (same_base, top) laid.based;
      fits = rw (top, length-set ws a x) laid.fits;
      whole = ap missing_words_of_image img ∙ missing-cell (image ws) r i h 0 x ∙ laid.whole;
      packages = λ b le. ap (λ ps. is_package ps b) (ap package_addresses img ∙ package_addresses-set (image ws) a x (omega (arith, behind)))
          ∙ laid.packages b (rw top at le);
    }

pub top-set : (ws : List ℕ) (r i x : ℕ) → i < length (cells (heap_of ws) r) → get_or (set ws (cell_at_of ws r i) x) top_address 0 ≡ get_or ws top_address 0
top-set ws r i x h = get_or_front ws (cell_at_of ws r i) top_address x (omega (arith, cell_behind (image ws) r i h))

pub cell_behind-heap_of : (ws : List ℕ) (r i : ℕ) → i < length (cells (heap_of ws) r) → text_start ≤ cell_at_of ws r i
cell_behind-heap_of ws r i h = omega (arith, cell_behind (image ws) r i h)
