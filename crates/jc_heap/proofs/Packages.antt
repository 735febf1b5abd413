-- A package's record after a whole table: its address, the number of packages and the top change together.
use Rattle.std.proofs.Common.{◌≡◌, ℕ, zero, suc, ◌+◌, ◌-◌, ◌/◌, ◌<◌, ◌≤◌, ◌||◌, List, [], ◌∷◌, ◌++◌, length, take, drop, set, get_or, map, refl, ◌∙◌, ap, arith}
use Rattle.std.proofs.Common.{slice_index, if◌then◌else◌, ◌==◌, lit<, lit≤}
use Rattle.std.proofs.lemmas.List.{get_or-set_other, get_or-set_same, drop-set-lt, drop-set-add, take-set-le, length-drop, length-take, length-set}
use Rattle.std.proofs.lemmas.List.{take_more_set}
use Rattle.std.proofs.lemmas.Bool.{ne_eqb}
use Rattle.jc_words.specs.Layout.{magic_address, size_address, packages_address, applets_address, reset_end_address, deselect_end_address}
use Rattle.jc_words.specs.Layout.{text_length_address, addresses_start, most_packages, registry_start, registry_length, text_start}
use Rattle.jc_heap.specs.Walk.{Sizes, records_from, missing_words}
use Rattle.jc_heap.specs.Object.{AnObject, APackage, object_of, payload}
use Rattle.jc_heap.specs.Image.{table_text, base, package_addresses, is_package, sizes, item, item_entry, records, missing_words_of_image}
use Rattle.jc_heap.specs.Heap.{head_of, read_image}
use Rattle.jc_heap.proofs.Images.{head-same, head-set, text-same}
use Rattle.jc_heap.proofs.Images.{lasting-same, capacity-same}
use Rattle.jc_heap.specs.Image.{lasting_words, capacity_in}
use Rattle.std.specs.Prelude.{nat_lt}
use Rattle.jc_words.specs.Layout.{version_address, journal_address}
use Rattle.jc_heap.proofs.Records.{take-set_comm, records_from-same_sizes, missing_words-same_sizes}

-- one package more is another answer at its own address alone
pub is_package-push : (ps : List ℕ) (p a : ℕ) → (p ≡ a → ⊥) → is_package (ps ++ p ∷ []) a ≡ is_package ps a
is_package-push [] p a n = rw (ne_eqb p a n) refl
is_package-push (q ∷ ps) p a n = ap (λ b. (q == a) || b) (is_package-push ps p a n)

sizes-push : (ps : List ℕ) (p a : ℕ) (ws : List ℕ) → (p ≡ a → ⊥) → sizes (ps ++ p ∷ []) a ws ≡ sizes ps a ws
sizes-push ps p a ws n = ap (λ b. if b then slice_index ws 0 - 1 else 3 + payload (slice_index ws 0) (slice_index ws 3)) (is_package-push ps p a n)

item-push : (ps : List ℕ) (p a : ℕ) (ws : List ℕ) → (p ≡ a → ⊥) → item (ps ++ p ∷ []) a ws ≡ item ps a ws
item-push ps p a ws n = ap (λ b. if b then APackage ws else AnObject (object_of ws)) (is_package-push ps p a n)

-- the items of records below an address
items-push : (ps : List ℕ) (p : ℕ) (more : Sizes) (s at : ℕ) (ws : List ℕ) → at + length ws ≤ p
    → map (item_entry (ps ++ p ∷ [])) (records_from more s at ws) ≡ map (item_entry ps) (records_from more s at ws)
items-push ps p more s at [] le = refl
items-push ps p more (suc s) at (w ∷ ws) le = items-push ps p more s (suc at) ws (omega arith)
items-push ps p more zero at (w ∷ ws) le =
    let n : p ≡ at → ⊥ = λ e. omega arith in
    rw (item-push ps p at (w ∷ take (more at (w ∷ ws)) ws) n, items-push ps p more (more at (w ∷ ws)) (suc at) ws (omega arith)) refl

-- the image with one package more, at its end
module _ (img : List ℕ) (wide : text_start ≤ length img) (few : get_or img packages_address 0 < most_packages) (based : base img ≤ length img) where
  abbrev pub n : ℕ
  n = get_or img packages_address 0

  abbrev pub named : List ℕ
  named = set (set img (addresses_start + n) (length img)) packages_address (n + 1)

  word-named : (k : ℕ) → k < addresses_start → (k ≡ packages_address → ⊥) → get_or named k 0 ≡ get_or img k 0
  word-named k h ne = get_or-set_other (set img (addresses_start + n) (length img)) packages_address k (n + 1) 0 ne
      ∙ get_or-set_other img (addresses_start + n) k (length img) 0 (λ e. omega arith)

  count-named : get_or named packages_address 0 ≡ n + 1
  count-named = get_or-set_same (set img (addresses_start + n) (length img)) packages_address (n + 1) 0
      (omega (arith, length-set img (addresses_start + n) (length img)))

  tail-named : (from : ℕ) → registry_start ≤ from → drop from named ≡ drop from img
  tail-named from h = drop-set-lt from (set img (addresses_start + n) (length img)) packages_address (n + 1) (omega arith)
      ∙ drop-set-lt from img (addresses_start + n) (length img) (omega arith)

  addresses-named : take most_packages (drop addresses_start named) ≡ set (take most_packages (drop addresses_start img)) n (length img)
  addresses-named =
      ap (take most_packages) (drop-set-lt addresses_start (set img (addresses_start + n) (length img)) packages_address (n + 1) (lit< tt)
      ∙ drop-set-add addresses_start img n (length img))
      ∙ take-set_comm most_packages (drop addresses_start img) n (length img)

  pub packages-named : package_addresses named ≡ package_addresses img ++ length img ∷ []
  packages-named =
      ap (λ k. take k (take most_packages (drop addresses_start named))) count-named
      ∙ ap (take (n + 1)) addresses-named
      ∙ take_more_set (take most_packages (drop addresses_start img)) n (length img)
      (omega (arith, length-take most_packages (drop addresses_start img), length-drop addresses_start img))

  pub base-named : base named ≡ base img
  base-named = rw (word-named text_length_address (lit< tt) (λ e. omega arith)) refl

  pub length-named : length named ≡ length img
  length-named = length-set (set img (addresses_start + n) (length img)) packages_address (n + 1) ∙ length-set img (addresses_start + n) (length img)

  at_end : base img + length (drop (base img) img) ≡ length img
  at_end = omega (arith, length-drop (base img) img)

  records-named : records named ≡ records img
  records-named =
      ap (λ ps. records_from (sizes ps) 0 (base named) (drop (base named) named)) packages-named
      ∙ ap (λ b. records_from (sizes (package_addresses img ++ length img ∷ [])) 0 b (drop b named)) base-named
      ∙ ap (records_from (sizes (package_addresses img ++ length img ∷ [])) 0 (base img)) (tail-named (base img) (omega arith))
      ∙ records_from-same_sizes (sizes (package_addresses img ++ length img ∷ [])) (sizes (package_addresses img)) 0 (base img) (drop (base img) img)
      (λ a w us h. sizes-push (package_addresses img) (length img) a (w ∷ us) (λ e. omega (arith, at_end)))

  pub missing-named : missing_words_of_image named ≡ missing_words_of_image img
  unfolding missing_words_of_image
  missing-named =
      ap (λ ps. missing_words (sizes ps) 0 (base named) (drop (base named) named)) packages-named
      ∙ ap (λ b. missing_words (sizes (package_addresses img ++ length img ∷ [])) 0 b (drop b named)) base-named
      ∙ ap (missing_words (sizes (package_addresses img ++ length img ∷ [])) 0 (base img)) (tail-named (base img) (omega arith))
      ∙ missing_words-same_sizes (sizes (package_addresses img ++ length img ∷ [])) (sizes (package_addresses img)) 0 (base img) (drop (base img) img)
      (λ a w us h. sizes-push (package_addresses img) (length img) a (w ∷ us) (λ e. omega (arith, at_end)))

  -- one name more, and nothing else
  pub read-named : read_image named ≡ record (read_image img) {
    counts = (n + 1, (read_image img).counts.1);
    packages = package_addresses img ++ length img ∷ [];
  }
  unfolding read_image
  read-named =
      let items : map (item_entry (package_addresses named)) (records named) ≡ map (item_entry (package_addresses img)) (records img) =
      ap (λ ps. map (item_entry ps) (records named)) packages-named
      ∙ ap (map (item_entry (package_addresses img ++ length img ∷ []))) records-named
      ∙ items-push (package_addresses img) (length img) (sizes (package_addresses img)) 0 (base img) (drop (base img) img) (omega (arith, at_end)) in
      let applets : take registry_length (drop registry_start named) ≡ take registry_length (drop registry_start img) =
      ap (take registry_length) (tail-named registry_start (lit≤ tt)) in
      let first_end : get_or named reset_end_address 0 ≡ get_or img reset_end_address 0 = word-named reset_end_address (lit< tt) (λ e. omega arith) in
      let second_end : get_or named deselect_end_address 0 ≡ get_or img deselect_end_address 0 = word-named deselect_end_address (lit< tt) (λ e. omega arith) in
      let head : head_of named ≡ head_of img = head-same img named (word-named magic_address (lit< tt) (λ e. omega arith))
      (word-named size_address (lit< tt) (λ e. omega arith)) in
      let text : table_text named ≡ table_text img = text-same img named (word-named text_length_address (lit< tt) (λ e. omega arith))
      (ap (take ((get_or img text_length_address 0 + 1) / 2)) (tail-named text_start (lit≤ tt))) in
      let second_count : get_or named applets_address 0 ≡ get_or img applets_address 0 = word-named applets_address (lit< tt) (λ e. omega arith) in
      let lasting : lasting_words named ≡ lasting_words img = lasting-same img named (word-named 4 (lit< tt) (λ e. omega arith))
      (λ a above below. word-named a (omega arith) (λ e. omega arith)) in
      let capacity : capacity_in named ≡ capacity_in img = capacity-same img named (ap (nat_lt journal_address) length-named) (word-named version_address (lit< tt) (λ e. omega arith))
      (λ a above below. word-named a (omega arith) (λ e. omega arith)) in
      λ k. record {
        head = head k;
        text = text k;
        items = items k;
        counts = (count-named k, second_count k);
        packages = packages-named k;
        applets = applets k;
        area_ends = (first_end k, second_end k);
        top = length-named k;
        capacity = capacity k;
        lasting = lasting k;
      }

pub read-applet : (img : List ℕ) (a v : ℕ) → text_start ≤ length img → a < registry_length
    → read_image (set img (registry_start + a) v) ≡ record (read_image img) { applets = set ((read_image img).applets) a v }
unfolding read_image
read-applet img a v wide h =
    let word : (k : ℕ) → k < registry_start → get_or (set img (registry_start + a) v) k 0 ≡ get_or img k 0 =
    λ k lt. get_or-set_other img (registry_start + a) k v 0 (λ e. omega arith) in
    let front : take most_packages (drop addresses_start (set img (registry_start + a) v)) ≡ take most_packages (drop addresses_start img) =
    ap (λ m. take most_packages (drop addresses_start (set img m v))) (omega arith)
    ∙ ap (take most_packages) (drop-set-add addresses_start img (most_packages + a) v)
    ∙ take-set-le most_packages (drop addresses_start img) (most_packages + a) v (omega arith) in
    let addresses : package_addresses (set img (registry_start + a) v) ≡ package_addresses img = rw (word packages_address (lit< tt), front) refl in
    let same_base : base (set img (registry_start + a) v) ≡ base img = rw (word text_length_address (lit< tt)) refl in
    let same_records : records (set img (registry_start + a) v) ≡ records img =
    ap (λ ps. records_from (sizes ps) 0 (base (set img (registry_start + a) v)) (drop (base (set img (registry_start + a) v)) (set img (registry_start + a) v)))
    addresses
    ∙ ap (λ b. records_from (sizes (package_addresses img)) 0 b (drop b (set img (registry_start + a) v))) same_base
    ∙ ap (records_from (sizes (package_addresses img)) 0 (base img)) (drop-set-lt (base img) img (registry_start + a) v (omega arith)) in
    let items : map (item_entry (package_addresses (set img (registry_start + a) v))) (records (set img (registry_start + a) v))
    ≡ map (item_entry (package_addresses img)) (records img) =
    ap (λ ps. map (item_entry ps) (records (set img (registry_start + a) v))) addresses ∙ ap (map (item_entry (package_addresses img))) same_records in
    let applets : take registry_length (drop registry_start (set img (registry_start + a) v)) ≡ set (take registry_length (drop registry_start img)) a v =
    ap (take registry_length) (drop-set-add registry_start img a v) ∙ take-set_comm registry_length (drop registry_start img) a v in
    let first_end : get_or (set img (registry_start + a) v) reset_end_address 0 ≡ get_or img reset_end_address 0 = word reset_end_address (lit< tt) in
    let second_end : get_or (set img (registry_start + a) v) deselect_end_address 0 ≡ get_or img deselect_end_address 0 = word deselect_end_address (lit< tt) in
    let top : length (set img (registry_start + a) v) ≡ length img = length-set img (registry_start + a) v in
    let head : head_of (set img (registry_start + a) v) ≡ head_of img = head-set img (registry_start + a) v (omega arith) in
    let text : table_text (set img (registry_start + a) v) ≡ table_text img = text-same img (set img (registry_start + a) v)
    (word text_length_address (lit< tt)) (ap (take ((get_or img text_length_address 0 + 1) / 2))
    (drop-set-lt text_start img (registry_start + a) v (omega arith))) in
    let first_count : get_or (set img (registry_start + a) v) packages_address 0 ≡ get_or img packages_address 0 = word packages_address (lit< tt) in
    let lasting : lasting_words (set img (registry_start + a) v) ≡ lasting_words img = lasting-same img (set img (registry_start + a) v)
    (word 4 (lit< tt)) (λ k above below. word k (omega arith)) in
    let capacity : capacity_in (set img (registry_start + a) v) ≡ capacity_in img = capacity-same img (set img (registry_start + a) v)
    (ap (nat_lt journal_address) (length-set img (registry_start + a) v)) (word version_address (lit< tt)) (λ k above below. word k (omega arith)) in
    let second_count : get_or (set img (registry_start + a) v) applets_address 0 ≡ get_or img applets_address 0 = word applets_address (lit< tt) in
    λ k. record {
      head = head k;
      text = text k;
      counts = (first_count k, second_count k);
      items = items k;
      packages = addresses k;
      applets = applets k;
      area_ends = (first_end k, second_end k);
      top = top k;
      capacity = capacity k;
      lasting = lasting k;
    }
