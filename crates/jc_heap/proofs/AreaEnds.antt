-- The ends of the areas of transient cells.
use Rattle.std.proofs.Common.{◌≡◌, ℕ, ◌+◌, ◌/◌, ◌<◌, ◌≤◌, ◌⊎◌, inl, inr, List, [], ◌∷◌, length, take, drop, set, get_or, map, refl, sym, ◌∙◌, ap, arith, lit<, lit≤}
use Rattle.std.proofs.lemmas.List.{get_or-set_other, get_or-set_same, get_or-take, drop-set-lt, length-set, length-take-le}
use Rattle.jc_words.specs.Layout.{top_address, packages_address, applets_address, reset_end_address, deselect_end_address, text_length_address, addresses_start}
use Rattle.jc_words.specs.Layout.{registry_start, registry_length, text_start}
use Rattle.jc_transient.specs.declared.cell.ClearEvent.{ClearEvent}
use Rattle.jc_transient.specs.declared.cell.ClearEvent.TheVariants.{Reset, Deselect}
use Rattle.jc_heap.specs.Walk.{records_from, missing_words}
use Rattle.jc_heap.specs.Image.{image, base, package_addresses, is_package, sizes, item_entry, records, missing_words_of_image, table_text, IsWellFormed}
use Rattle.jc_heap.specs.Heap.{HeapState, head_of, read_image, heap_of, area_end, with_area_end, area_end_address, SameShape, heap_item_at, is_allocated}
use Rattle.jc_heap.proofs.Images.{image-set, head-same, text-same}
use Rattle.jc_heap.proofs.Records.{take-set_comm}
use Rattle.jc_heap.proofs.Images.{lasting-same, capacity-same}
use Rattle.jc_heap.specs.Image.{lasting_words, capacity_in}
use Rattle.std.specs.Prelude.{nat_lt}
use Rattle.jc_words.specs.Layout.{version_address, magic_address, size_address, journal_address}

-- a word of the front, and none of those that place the table and the packages
pub record IsAside (a : ℕ) : Type 0 where
  pub before : a < addresses_start
  pub not_top : top_address ≡ a → ⊥
  pub not_packages : packages_address ≡ a → ⊥
  pub not_text : text_length_address ≡ a → ⊥

between : {a : ℕ} → packages_address < a → a < text_length_address → IsAside a
between low high = record {
  before = omega (arith, high);
  not_top = λ e. omega (arith, low, e);
  not_packages = λ e. omega (arith, low, e);
  not_text = λ e. omega (arith, high, e);
}

-- an image with another such word
module _ (img : List ℕ) (a v : ℕ) (aside : IsAside a) where
  before : a < addresses_start
  before = aside.before

  word : (k : ℕ) → (k ≡ a → ⊥) → get_or (set img a v) k 0 ≡ get_or img k 0
  word k ne = get_or-set_other img a k v 0 ne

  tail : (from : ℕ) → a < from → drop from (set img a v) ≡ drop from img
  tail from h = drop-set-lt from img a v h

  pub addresses-end : package_addresses (set img a v) ≡ package_addresses img
  addresses-end = rw (word packages_address aside.not_packages, tail addresses_start before) refl

  pub base-end : base (set img a v) ≡ base img
  base-end = rw (word text_length_address aside.not_text) refl

  records-end : records (set img a v) ≡ records img
  records-end =
      ap (λ ps. records_from (sizes ps) 0 (base (set img a v)) (drop (base (set img a v)) (set img a v))) addresses-end
      ∙ ap (λ b. records_from (sizes (package_addresses img)) 0 b (drop b (set img a v))) base-end
      ∙ ap (records_from (sizes (package_addresses img)) 0 (base img)) (tail (base img) (omega (arith, before)))

  pub missing-end : missing_words_of_image (set img a v) ≡ missing_words_of_image img
  unfolding missing_words_of_image
  missing-end =
      ap (λ ps. missing_words (sizes ps) 0 (base (set img a v)) (drop (base (set img a v)) (set img a v))) addresses-end
      ∙ ap (λ b. missing_words (sizes (package_addresses img)) 0 b (drop b (set img a v))) base-end
      ∙ ap (missing_words (sizes (package_addresses img)) 0 (base img)) (tail (base img) (omega (arith, before)))

  pub items-end : map (item_entry (package_addresses (set img a v))) (records (set img a v)) ≡ map (item_entry (package_addresses img)) (records img)
  items-end = ap (λ ps. map (item_entry ps) (records (set img a v))) addresses-end ∙ ap (map (item_entry (package_addresses img))) records-end

  pub applets-end : take registry_length (drop registry_start (set img a v)) ≡ take registry_length (drop registry_start img)
  applets-end = ap (take registry_length) (tail registry_start (omega (arith, before)))

  pub head-end : (magic_address ≡ a → ⊥) → (size_address ≡ a → ⊥) → head_of (set img a v) ≡ head_of img
  head-end first third = head-same img (set img a v) (word magic_address first) (word size_address third)

  pub text-end : table_text (set img a v) ≡ table_text img
  text-end = text-same img (set img a v) (word text_length_address aside.not_text)
      (ap (take ((get_or img text_length_address 0 + 1) / 2)) (tail text_start (omega (arith, before))))

  pub other-end : (k : ℕ) → (k ≡ a → ⊥) → get_or (set img a v) k 0 ≡ get_or img k 0
  other-end k ne = word k ne

own-end : (img : List ℕ) (a v : ℕ) → text_start ≤ length img → IsAside a → get_or (set img a v) a 0 ≡ v
own-end img a v wide aside = get_or-set_same img a v 0 (omega (arith, aside.before, wide))

lasting-end : (img : List ℕ) (a v : ℕ) → packages_address < a → a < text_length_address → lasting_words (set img a v) ≡ lasting_words img
lasting-end img a v low high = lasting-same img (set img a v) (get_or-set_other img a 4 v 0 (λ e. omega (arith, low, e)))
    (λ k above below. get_or-set_other img a k v 0 (λ e. omega (arith, above, high, e)))

capacity-end : (img : List ℕ) (a v : ℕ) → packages_address < a → a < text_length_address → capacity_in (set img a v) ≡ capacity_in img
capacity-end img a v low high = capacity-same img (set img a v) (ap (nat_lt journal_address) (length-set img a v)) (get_or-set_other img a version_address v 0 (λ e. omega (arith, low, e)))
    (λ k above below. get_or-set_other img a k v 0 (λ e. omega (arith, above, high, e)))

read-end : (img : List ℕ) (event : ClearEvent) (v : ℕ) → text_start ≤ length img
    → read_image (set img (area_end_address event) v) ≡ with_area_end (read_image img) event v
unfolding read_image
read-end img Reset v wide = λ k. record {
  head = head-end img reset_end_address v (between (lit< tt) (lit< tt)) (λ e. omega (arith, e)) (λ e. omega (arith, e)) k;
  text = text-end img reset_end_address v (between (lit< tt) (lit< tt)) k;
  counts = (
    other-end img reset_end_address v (between (lit< tt) (lit< tt)) packages_address (λ e. omega arith) k,
    other-end img reset_end_address v (between (lit< tt) (lit< tt)) applets_address (λ e. omega arith) k,
  );
  items = items-end img reset_end_address v (between (lit< tt) (lit< tt)) k;
  packages = addresses-end img reset_end_address v (between (lit< tt) (lit< tt)) k;
  applets = applets-end img reset_end_address v (between (lit< tt) (lit< tt)) k;
  area_ends = (
    own-end img reset_end_address v wide (between (lit< tt) (lit< tt)) k,
    other-end img reset_end_address v (between (lit< tt) (lit< tt)) deselect_end_address
        (λ e. omega arith) k,
  );
  top = length-set img reset_end_address v k;
  capacity = capacity-end img reset_end_address v (lit< tt) (lit< tt) k;
  lasting = lasting-end img reset_end_address v (lit< tt) (lit< tt) k;
}
read-end img Deselect v wide = λ k. record {
  head = head-end img deselect_end_address v (between (lit< tt) (lit< tt)) (λ e. omega (arith, e)) (λ e. omega (arith, e)) k;
  text = text-end img deselect_end_address v (between (lit< tt) (lit< tt)) k;
  counts = (
    other-end img deselect_end_address v (between (lit< tt) (lit< tt)) packages_address (λ e. omega arith) k,
    other-end img deselect_end_address v (between (lit< tt) (lit< tt)) applets_address (λ e. omega arith) k,
  );
  items = items-end img deselect_end_address v (between (lit< tt) (lit< tt)) k;
  packages = addresses-end img deselect_end_address v (between (lit< tt) (lit< tt)) k;
  applets = applets-end img deselect_end_address v (between (lit< tt) (lit< tt)) k;
  area_ends = (
    other-end img deselect_end_address v (between (lit< tt) (lit< tt)) reset_end_address (λ e. omega arith) k,
    own-end img deselect_end_address v wide (between (lit< tt) (lit< tt)) k,
  );
  top = length-set img deselect_end_address v k;
  capacity = capacity-end img deselect_end_address v (lit< tt) (lit< tt) k;
  lasting = lasting-end img deselect_end_address v (lit< tt) (lit< tt) k;
}

-- an image with another number of applets
pub read-applets : (img : List ℕ) (v : ℕ) → text_start ≤ length img → read_image (set img applets_address v)
    ≡ record (read_image img) { counts = (((read_image img).counts).0, v) }
unfolding read_image
read-applets img v wide = λ k. record {
  head = head-end img applets_address v (between (lit< tt) (lit< tt)) (λ e. omega (arith, e)) (λ e. omega (arith, e)) k;
  text = text-end img applets_address v (between (lit< tt) (lit< tt)) k;
  counts = (
    other-end img applets_address v (between (lit< tt) (lit< tt)) packages_address (λ e. omega arith) k,
    own-end img applets_address v wide (between (lit< tt) (lit< tt)) k,
  );
  items = items-end img applets_address v (between (lit< tt) (lit< tt)) k;
  packages = addresses-end img applets_address v (between (lit< tt) (lit< tt)) k;
  applets = applets-end img applets_address v (between (lit< tt) (lit< tt)) k;
  area_ends = (
    other-end img applets_address v (between (lit< tt) (lit< tt)) reset_end_address (λ e. omega arith) k,
    other-end img applets_address v (between (lit< tt) (lit< tt)) deselect_end_address (λ e. omega arith) k,
  );
  top = length-set img applets_address v k;
  capacity = capacity-end img applets_address v (lit< tt) (lit< tt) k;
  lasting = lasting-end img applets_address v (lit< tt) (lit< tt) k;
}

-- one of these words set leaves the words laid
pub image-aside : (ws : List ℕ) (a v : ℕ) → IsAside a → image (set ws a v) ≡ set (image ws) a v
image-aside ws a v aside = rw (get_or-set_other ws a top_address v 0 aside.not_top) (take-set_comm (get_or ws top_address 0) ws a v)

pub laid-aside : (ws : List ℕ) (a v : ℕ) → IsAside a → IsWellFormed ws → IsWellFormed (set ws a v)
laid-aside ws a v aside laid =
    let wide : text_start ≤ length (image ws) = omega (arith, laid.based, length-take-le (get_or ws top_address 0) ws laid.fits) in
    let img : image (set ws a v) ≡ set (image ws) a v = image-aside ws a v aside in
    let same_base : base (image (set ws a v)) ≡ base (image ws) = ap base img ∙ base-end (image ws) a v aside in
    let top : get_or (set ws a v) top_address 0 ≡ get_or ws top_address 0 = get_or-set_other ws a top_address v 0 aside.not_top in
    record {
      based = rw (same_base, top) laid.based;
      fits = rw (top, length-set ws a v) laid.fits;
      whole = ap missing_words_of_image img ∙ missing-end (image ws) a v aside ∙ laid.whole;
      packages = λ b le. ap (λ ps. is_package ps b) (ap package_addresses img ∙ addresses-end (image ws) a v aside) ∙ laid.packages b (rw top at le);
    }

pub laid-front : (ws : List ℕ) (a v : ℕ) → packages_address < a → a < text_length_address → IsWellFormed ws → IsWellFormed (set ws a v)
laid-front ws a v low high laid = laid-aside ws a v (between low high) laid

-- a word that only holds the version or describes the journal, and leaves the capacity, leaves the heap as it is
pub record IsJournals (a : ℕ) : Type 0 where
  pub aside : IsAside a
  pub not_magic : magic_address ≡ a → ⊥
  pub not_size : size_address ≡ a → ⊥
  pub not_applets : applets_address ≡ a → ⊥
  pub not_reset : reset_end_address ≡ a → ⊥
  pub not_deselect : deselect_end_address ≡ a → ⊥
  pub not_lasting : (k : ℕ) → (k ≡ 4) ⊎ (13 ≤ k) → k ≡ a → ⊥

pub heap-journals : (ws : List ℕ) (a v : ℕ) → IsJournals a → capacity_in (image (set ws a v)) ≡ capacity_in (image ws)
    → heap_of (set ws a v) ≡ heap_of ws
unfolding read_image
heap-journals ws a v its capacity =
    let img = image ws in
    let aside = its.aside in
    let at : image (set ws a v) ≡ set (image ws) a v = image-aside ws a v aside in
    let other : (k : ℕ) → (k ≡ a → ⊥) → get_or (set (image ws) a v) k 0 ≡ get_or (image ws) k 0 = λ k ne. other-end (image ws) a v aside k ne in
    let kept : capacity_in (set (image ws) a v) ≡ capacity_in (image ws) = ap capacity_in (sym at) ∙ capacity in
    ap read_image at ∙ (λ k. record {
      head = head-end (image ws) a v aside its.not_magic its.not_size k;
      text = text-end (image ws) a v aside k;
      counts = (other packages_address aside.not_packages k, other applets_address its.not_applets k);
      items = items-end (image ws) a v aside k;
      packages = addresses-end (image ws) a v aside k;
      applets = applets-end (image ws) a v aside k;
      area_ends = (other reset_end_address its.not_reset k, other deselect_end_address its.not_deselect k);
      top = length-set (image ws) a v k;
      capacity = kept k;
      lasting = other 4 (its.not_lasting 4 (inl refl)) k ∷ other 13 (its.not_lasting 13 (inr (lit≤ tt))) k ∷ other 14 (its.not_lasting 14 (inr (lit≤ tt))) k
          ∷ other 15 (its.not_lasting 15 (inr (lit≤ tt))) k ∷ [];
    })

place_low : (event : ClearEvent) → packages_address < area_end_address event
place_low Reset = lit< tt
place_low Deselect = lit< tt

place_high : (event : ClearEvent) → area_end_address event < text_length_address
place_high Reset = lit< tt
place_high Deselect = lit< tt

-- the end's word is the end
pub area_read : (ws : List ℕ) (event : ClearEvent) → IsWellFormed ws → area_end (heap_of ws) event ≡ get_or ws (area_end_address event) 0
unfolding read_image
area_read ws Reset laid = get_or-take (get_or ws top_address 0) ws reset_end_address 0 (omega (arith, laid.based))
area_read ws Deselect laid = get_or-take (get_or ws top_address 0) ws deselect_end_address 0 (omega (arith, laid.based))

pub top-end : (ws : List ℕ) (event : ClearEvent) (v : ℕ) → get_or (set ws (area_end_address event) v) top_address 0 ≡ get_or ws top_address 0
top-end ws event v = get_or-set_other ws (area_end_address event) top_address v 0 (λ e. omega (arith, place_low event))

pub with_area_end-heap_of : (ws : List ℕ) (event : ClearEvent) (v : ℕ) → IsWellFormed ws
    → heap_of (set ws (area_end_address event) v) ≡ with_area_end (heap_of ws) event v
with_area_end-heap_of ws event v laid =
    let wide : text_start ≤ length (image ws) = omega (arith, laid.based, length-take-le (get_or ws top_address 0) ws laid.fits) in
    ap read_image (image-set ws (area_end_address event) v (omega (arith, place_low event))) ∙ read-end (image ws) event v wide

pub IsWellFormed-end : (ws : List ℕ) (event : ClearEvent) (v : ℕ) → IsWellFormed ws → IsWellFormed (set ws (area_end_address event) v)
IsWellFormed-end ws event v laid = laid-front ws (area_end_address event) v (place_low event) (place_high event) laid

pub shape-end : (d h : HeapState) (event : ClearEvent) (v : ℕ) → SameShape d h → SameShape d (with_area_end h event v)
unfolding heap_item_at is_allocated
shape-end d h Reset v s = record { items = s.items; names = s.names; lasting = s.lasting }
shape-end d h Deselect v s = record { items = s.items; names = s.names; lasting = s.lasting }
