-- A record after a whole table.
use Rattle.std.proofs.Common.{◌≡◌, ℕ, zero, suc, ◌+◌, ◌/◌, ◌<◌, ◌≤◌, false, List, [], ◌∷◌, ◌++◌, length, take, drop, set, get_or, map, refl, sym, ◌∙◌, ap}
use Rattle.std.proofs.Common.{arith, lit<, if◌then◌else◌}
use Rattle.std.proofs.lemmas.List.{get_or_append_left, get_or-set_other, get_or-set_same, get_or-take, drop-set-lt, drop-append-le, take-append-le}
use Rattle.std.proofs.lemmas.List.{length-drop, length-set, length-append, take_all, map-append, set-append_left, length-take-le, take-take}
use Rattle.jc_words.specs.Layout.{magic_address, size_address, top_address, packages_address, applets_address, reset_end_address, deselect_end_address}
use Rattle.jc_words.specs.Layout.{text_length_address, addresses_start, most_packages, registry_start, registry_length, text_start}
use Rattle.jc_heap.specs.Walk.{Sizes, records_from, missing_words}
use Rattle.jc_heap.specs.Object.{Item, AnObject, APackage, object_of, payload}
use Rattle.jc_heap.specs.Image.{image, base, package_addresses, is_package, sizes, item, item_entry, records, missing_words_of_image, table_text, IsWellFormed}
use Rattle.jc_heap.specs.Heap.{HeapState, head_of, read_image, heap_of, add_object}
use Rattle.jc_heap.proofs.Records.{records_from-append, missing_words-append, take-set_comm}
use Rattle.jc_heap.proofs.Images.{sizes_tell, head-same, text-same}
use Rattle.jc_heap.proofs.Images.{lasting-same, capacity-same, reach-both}
use Rattle.jc_heap.specs.Image.{lasting_words, capacity_in}
use Rattle.jc_words.specs.Layout.{version_address}

-- one thing more, after the others
abbrev pub add_item : HeapState → Item → ℕ → HeapState
add_item h t size = record h { items = h.items ++ (h.top, t) ∷ []; top = h.top + size }

-- a record alone
records_from-skip_all : (more : Sizes) (s at : ℕ) (ws : List ℕ) → length ws ≤ s → records_from more s at ws ≡ []
records_from-skip_all more s at [] h = refl
records_from-skip_all more zero at (w ∷ ws) h = absurd (omega arith)
records_from-skip_all more (suc s) at (w ∷ ws) h = records_from-skip_all more s (suc at) ws (omega arith)

missing_words-skip_all : (more : Sizes) (s at : ℕ) (ws : List ℕ) → length ws ≡ s → missing_words more s at ws ≡ 0
missing_words-skip_all more s at [] h = sym h
missing_words-skip_all more zero at (w ∷ ws) h = absurd (omega arith)
missing_words-skip_all more (suc s) at (w ∷ ws) h = missing_words-skip_all more s (suc at) ws (omega arith)

records_from-one : (more : Sizes) (at : ℕ) (ws : List ℕ) → more at ws + 1 ≡ length ws → records_from more 0 at ws ≡ (at, ws) ∷ []
records_from-one more at [] h = absurd (omega arith)
records_from-one more at (w ∷ ws) h =
    let fits : length ws ≤ more at (w ∷ ws) = omega arith in
    rw (take_all (more at (w ∷ ws)) ws fits, records_from-skip_all more (more at (w ∷ ws)) (suc at) ws fits) refl

missing_words-one : (more : Sizes) (at : ℕ) (ws : List ℕ) → more at ws + 1 ≡ length ws → missing_words more 0 at ws ≡ 0
missing_words-one more at [] h = absurd (omega arith)
missing_words-one more at (w ∷ ws) h = missing_words-skip_all more (more at (w ∷ ws)) (suc at) ws (omega arith)

-- an image with its top moved over another record
module _ (img rec : List ℕ) (long : text_start ≤ length img) where
  abbrev top : ℕ
  top = length img + length rec

  abbrev grown : List ℕ
  grown = set img top_address top ++ rec

  word-grown : (k : ℕ) → k < text_start → (k ≡ top_address → ⊥) → get_or grown k 0 ≡ get_or img k 0
  word-grown k h n = get_or_append_left (set img top_address top) rec 0 k (omega (arith, length-set img top_address top))
      ∙ get_or-set_other img top_address k top 0 n

  tail-grown : (from : ℕ) → top_address < from → from ≤ length img → drop from grown ≡ drop from img ++ rec
  tail-grown from h le = drop-append-le from (set img top_address top) rec (omega (arith, length-set img top_address top))
      ∙ ap (λ l. l ++ rec) (drop-set-lt from img top_address top h)

  range-grown : (from n : ℕ) → top_address < from → from + n ≤ length img → take n (drop from grown) ≡ take n (drop from img)
  range-grown from n h le = ap (take n) (tail-grown from h (omega arith)) ∙ take-append-le n (drop from img) rec (omega (arith, length-drop from img))

  pub packages-grown : package_addresses grown ≡ package_addresses img
  packages-grown = rw (word-grown packages_address (lit< tt) (λ e. omega arith), range-grown addresses_start most_packages (lit< tt) (omega arith)) refl

  pub base-grown : base grown ≡ base img
  base-grown = rw (word-grown text_length_address (lit< tt) (λ e. omega arith)) refl

  module _ (based : base img ≤ length img) (whole : missing_words_of_image img ≡ 0)
      (own : sizes (package_addresses img) (length img) rec + 1 ≡ length rec) where
    abbrev more : Sizes
    more = sizes (package_addresses img)

    table-grown : {X : Type 0} (F : Sizes → ℕ → List ℕ → X) →
        F (sizes (package_addresses grown)) (base grown) (drop (base grown) grown) ≡ F more (base img) (drop (base img) img ++ rec)
    table-grown F =
        ap (λ ps. F (sizes ps) (base grown) (drop (base grown) grown)) packages-grown
        ∙ ap (λ b. F more b (drop b grown)) base-grown
        ∙ ap (F more (base img)) (tail-grown (base img) (omega arith) based)

    at_end : base img + length (drop (base img) img) ≡ length img
    at_end = omega (arith, length-drop (base img) img)

    records-grown : records grown ≡ records img ++ (length img, rec) ∷ []
    unfolding missing_words_of_image
    records-grown =
        table-grown (λ m b ws. records_from m 0 b ws)
        ∙ records_from-append more (sizes_tell (package_addresses img)) 0 (base img) (drop (base img) img) rec whole
        ∙ ap (λ a. records img ++ records_from more 0 a rec) at_end
        ∙ ap (λ l. records img ++ l) (records_from-one more (length img) rec own)

    pub missing-grown : missing_words_of_image grown ≡ 0
    unfolding missing_words_of_image
    missing-grown =
        table-grown (λ m b ws. missing_words m 0 b ws)
        ∙ missing_words-append more (sizes_tell (package_addresses img)) 0 (base img) (drop (base img) img) rec whole
        ∙ ap (λ a. missing_words more 0 a rec) at_end
        ∙ missing_words-one more (length img) rec own

    pub read-grown : read_image grown ≡ add_item (read_image img) (item (package_addresses img) (length img) rec) (length rec)
    unfolding read_image
    read-grown =
        let items : map (item_entry (package_addresses grown)) (records grown) ≡ map (item_entry (package_addresses img)) (records img)
        ++ (length img, item (package_addresses img) (length img) rec) ∷ [] =
        ap (λ ps. map (item_entry ps) (records grown)) packages-grown
        ∙ ap (map (item_entry (package_addresses img))) records-grown
        ∙ map-append (item_entry (package_addresses img)) (records img) ((length img, rec) ∷ []) in
        let applets : take registry_length (drop registry_start grown) ≡ take registry_length (drop registry_start img) =
        range-grown registry_start registry_length (lit< tt) (omega arith) in
        let top_is : length grown ≡ length img + length rec = omega (arith, length-append (set img top_address top) rec, length-set img top_address top) in
        let first_end : get_or grown reset_end_address 0 ≡ get_or img reset_end_address 0 = word-grown reset_end_address (lit< tt) (λ e. omega arith) in
        let second_end : get_or grown deselect_end_address 0 ≡ get_or img deselect_end_address 0 =
        word-grown deselect_end_address (lit< tt) (λ e. omega arith) in
        let head : head_of grown ≡ head_of img = head-same img grown (word-grown magic_address (lit< tt) (λ e. omega arith))
        (word-grown size_address (lit< tt) (λ e. omega arith)) in
        let text : table_text grown ≡ table_text img = text-same img grown (word-grown text_length_address (lit< tt) (λ e. omega arith))
        (range-grown text_start ((get_or img text_length_address 0 + 1) / 2) (lit< tt) (omega (arith, based))) in
        let first_count : get_or grown packages_address 0 ≡ get_or img packages_address 0 = word-grown packages_address (lit< tt) (λ e. omega arith) in
        let second_count : get_or grown applets_address 0 ≡ get_or img applets_address 0 = word-grown applets_address (lit< tt) (λ e. omega arith) in
        let lasting : lasting_words grown ≡ lasting_words img = lasting-same img grown (word-grown 4 (lit< tt) (λ e. omega arith))
        (λ a above below. word-grown a (omega arith) (λ e. omega arith)) in
        let capacity : capacity_in grown ≡ capacity_in img = capacity-same img grown
        (reach-both img grown (omega (arith, based)) (omega (arith, based, top_is))) (word-grown version_address (lit< tt) (λ e. omega arith))
        (λ a above below. word-grown a (omega arith) (λ e. omega arith)) in
        λ k. record {
          head = head k;
          text = text k;
          items = items k;
          counts = (first_count k, second_count k);
          packages = packages-grown k;
          applets = applets k;
          area_ends = (first_end k, second_end k);
          top = top_is k;
          capacity = capacity k;
          lasting = lasting k;
        }

-- words whose top moves over a record that stands there
pub IsGrown_image : (old ws rec : List ℕ) → IsWellFormed old → take (get_or old top_address 0 + length rec) ws ≡ take (get_or old top_address 0) old ++ rec
    → get_or old top_address 0 + length rec ≤ length ws →
    image (set ws top_address (get_or old top_address 0 + length rec)) ≡ set (image old) top_address (length (image old) + length rec) ++ rec
IsGrown_image old ws rec laid e fits =
    let t : ℕ = get_or old top_address 0 in
    let long : length (image old) ≡ get_or old top_address 0 = length-take-le (get_or old top_address 0) old laid.fits in
    let based : text_start ≤ get_or old top_address 0 = omega (arith, laid.based) in
    let new_top : get_or (set ws top_address (get_or old top_address 0 + length rec)) top_address 0 ≡ get_or old top_address 0 + length rec =
    get_or-set_same ws top_address (get_or old top_address 0 + length rec) 0 (omega arith) in
    ap (λ n. take n (set ws top_address (get_or old top_address 0 + length rec))) new_top
    ∙ take-set_comm (get_or old top_address 0 + length rec) ws top_address (get_or old top_address 0 + length rec)
    ∙ ap (λ l. set l top_address (get_or old top_address 0 + length rec)) e
    ∙ set-append_left (image old) rec top_address (get_or old top_address 0 + length rec) (omega arith)
    ∙ ap (λ n. set (image old) top_address (n + length rec) ++ rec) (sym long)

module _ (old ws rec : List ℕ) (laid : IsWellFormed old) (e : take (get_or old top_address 0 + length rec) ws ≡ take (get_or old top_address 0) old ++ rec)
    (fits : get_or old top_address 0 + length rec ≤ length ws) (own : 3 + payload (get_or rec 0 0) (get_or rec 3 0) + 1 ≡ length rec) where
  abbrev moved : List ℕ
  moved = set ws top_address (get_or old top_address 0 + length rec)

  long_image : length (image old) ≡ get_or old top_address 0
  long_image = length-take-le (get_or old top_address 0) old laid.fits

  wide : text_start ≤ length (image old)
  wide = omega (arith, long_image, laid.based)

  based_image : base (image old) ≤ length (image old)
  based_image = omega (arith, long_image, laid.based)

  free_image : is_package (package_addresses (image old)) (length (image old)) ≡ false
  free_image = laid.packages (length (image old)) (omega (arith, long_image))

  own_image : sizes (package_addresses (image old)) (length (image old)) rec + 1 ≡ length rec
  own_image = rw free_image own

  as_object : add_item (heap_of old) (item (package_addresses (image old)) (length (image old)) rec) (length rec)
      ≡ add_object (heap_of old) (object_of rec) (length rec)
  unfolding add_object
  as_object = ap (λ b. add_item (heap_of old) (if b then APackage rec else AnObject (object_of rec)) (length rec)) free_image

  is_grown : image moved ≡ set (image old) top_address (length (image old) + length rec) ++ rec
  is_grown = IsGrown_image old ws rec laid e fits

  -- the heap then has one object more
  pub heap_of-grown : heap_of moved ≡ add_object (heap_of old) (object_of rec) (length rec)
  heap_of-grown = ap read_image is_grown ∙ read-grown (image old) rec wide based_image laid.whole own_image ∙ as_object

  pub top-moved : get_or moved top_address 0 ≡ get_or old top_address 0 + length rec
  top-moved = get_or-set_same ws top_address (get_or old top_address 0 + length rec) 0 (omega (arith, laid.based))

  pub IsLaid-grown : IsWellFormed moved
  IsLaid-grown = record {
    based = let b : base (image moved) ≡ base (image old) = ap base is_grown ∙ base-grown (image old) rec wide in omega (arith, top-moved, laid.based);
    fits = omega (arith, top-moved, length-set ws top_address (get_or old top_address 0 + length rec));
    whole = ap missing_words_of_image is_grown ∙ missing-grown (image old) rec wide based_image laid.whole own_image;
    packages = λ a le. ap (λ l. is_package (package_addresses l) a) is_grown ∙ ap (λ ps. is_package ps a) (packages-grown (image old) rec wide)
        ∙ laid.packages a (omega (arith, top-moved));
  }

-- words that agree below the top stand for the same image
pub image-same_below : (ws us : List ℕ) (at : ℕ) → top_address < at → get_or ws top_address 0 ≤ at → take at us ≡ take at ws → image us ≡ image ws
image-same_below ws us at five h e =
    let top : get_or us top_address 0 ≡ get_or ws top_address 0 = sym (get_or-take at us top_address 0 five) ∙ ap (λ l. get_or l top_address 0) e
    ∙ get_or-take at ws top_address 0 five in
    ap (λ n. take n us) top ∙ sym (take-take (get_or ws top_address 0) at us h) ∙ ap (take (get_or ws top_address 0)) e
    ∙ take-take (get_or ws top_address 0) at ws h

pub top-same_below : (ws us : List ℕ) (at : ℕ) → top_address < at → take at us ≡ take at ws → get_or us top_address 0 ≡ get_or ws top_address 0
top-same_below ws us at five e = sym (get_or-take at us top_address 0 five) ∙ ap (λ l. get_or l top_address 0) e ∙ get_or-take at ws top_address 0 five

pub IsWellFormed-same_below : (ws us : List ℕ) (at : ℕ) → top_address < at → get_or ws top_address 0 ≤ at → take at us ≡ take at ws → length us ≡ length ws
    → IsWellFormed ws → IsWellFormed us
IsWellFormed-same_below ws us at five h e long laid =
    let same : image us ≡ image ws = image-same_below ws us at five h e in
    let top : get_or us top_address 0 ≡ get_or ws top_address 0 = top-same_below ws us at five e in
    record {
      based = let b : base (image us) ≡ base (image ws) = ap base same in omega (arith, laid.based);
      fits = omega (arith, laid.fits);
      whole = ap missing_words_of_image same ∙ laid.whole;
      packages = λ a le. ap (λ l. is_package (package_addresses l) a) same ∙ laid.packages a (omega arith);
    }
