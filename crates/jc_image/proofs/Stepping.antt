-- One step over the records of a heap's words.
use Rattle.std.proofs.Common.{◌≡◌, ℕ, ◌+◌, ◌-◌, add-zero, ◌/◌, ◌<◌, ◌≤◌, true, false, inl, inr, List, [], ◌∷◌, length, get_or, take, drop, map, refl, sym}
use Rattle.std.proofs.Common.{◌∙◌, ap, subst, arith, if◌then◌else◌, ◌==◌, Bool}
use Rattle.std.proofs.lemmas.List.{length-drop, length-take, length-take-le, get_or-take, drop-drop, drop_all}
use Rattle.std.proofs.lemmas.Bool.{cases_Bool, cases_eq, eq-eqb, ne_eqb}
use Rattle.jc_words.specs.Layout.{top_address, text_length_address, text_start}
use Rattle.jc_heap.specs.Walk.{records_from, missing_words}
use Rattle.jc_heap.specs.Object.{AnObject, APackage, object_of, facts_of, cells_of, is_header, is_packed, is_packed_header, words_of_cells, payload}
use Rattle.jc_heap.specs.Image.{image, base, missing_words_of_image, package_addresses, is_package, sizes, item_entry, IsWellFormed}
use Rattle.jc_heap.specs.Heap.{heap_of, read_image}
use Rattle.jc_image.specs.Steps.{HasBounds, HasRecord, items_from, size_from, item_from}
use Rattle.jc_heap.proofs.Walks.{walk_step, walk_short, word_from, word_at}
use Rattle.jc_heap.proofs.Images.{object_cell, packed_of, cell_offset, cell_said}
use Rattle.jc_heap.proofs.Reading.{said, said-object_of, cells-object_of}
use Rattle.jc_heap.proofs.Following.{records_from-step}

-- where the first record begins
pub base_bounded : (ws : List ℕ) → HasBounds ws → base (image ws) ≡ text_start + (get_or ws text_length_address 0 + 1) / 2
base_bounded ws bounds = ap (λ n. text_start + (n + 1) / 2) (get_or-take (get_or ws top_address 0) ws text_length_address 0 (omega (arith, bounds.based)))

pub first_items : (ws : List ℕ) → (heap_of ws).items ≡ items_from ws (base (image ws))
unfolding read_image items_from
first_items ws = refl

-- how many words the records from an address on lack
abbrev pub missing_from : List ℕ → ℕ → ℕ
missing_from ws at = missing_words (sizes (package_addresses (image ws))) 0 at (drop at (image ws))

pub first_missing : (ws : List ℕ) → missing_from ws (base (image ws)) ≡ missing_words_of_image (image ws)
unfolding missing_words_of_image
first_missing ws = refl

-- where the records from the top on lack what all of them lack, none is lacking
pub laid_at_top : (ws : List ℕ) (at : ℕ) → HasBounds ws → get_or ws top_address 0 ≤ at → missing_from ws at ≡ missing_words_of_image (image ws)
    → IsWellFormed ws
laid_at_top ws at bounds end left = record {
  based = bounds.based;
  fits = bounds.fits;
  whole = sym left ∙ ap (missing_words (sizes (package_addresses (image ws))) 0 at)
      (drop_all at (image ws) (omega (arith, end, length-take (get_or ws top_address 0) ws)));
  packages = bounds.packages;
}

-- past the last record there is nothing
pub nothing_from : (ws : List ℕ) (at : ℕ) → get_or ws top_address 0 ≤ at → items_from ws at ≡ []
unfolding items_from
nothing_from ws at h = ap (λ l. map (item_entry (package_addresses (image ws))) (records_from (sizes (package_addresses (image ws))) 0 at l))
    (drop_all at (image ws) (omega (arith, length-take (get_or ws top_address 0) ws)))

no_cells : (rec : List ℕ) → (get_or rec 0 0 / 256 ≡ 0 → ⊥) → length ((object_of rec).cells) ≡ 0
no_cells [] n = refl
no_cells (a ∷ []) n = refl
no_cells (a ∷ b ∷ []) n = refl
no_cells (a ∷ b ∷ c ∷ []) n = refl
no_cells (a ∷ b ∷ c ∷ d ∷ rest) n = rw (ne_eqb (a / 256) 0 n) refl

pub size_is : (ws : List ℕ) (at : ℕ) → size_from ws at ≡ sizes (package_addresses (image ws)) at (drop at (image ws)) + 1
unfolding size_from
size_is ws at = refl

-- a record that reaches beyond the top lacks words
pub cut_short : (ws : List ℕ) (at : ℕ) → get_or ws top_address 0 ≤ length ws → at < get_or ws top_address 0
    → get_or ws top_address 0 < at + size_from ws at → missing_from ws at ≡ 0 → ⊥
cut_short ws at fits below beyond =
    let long : length (drop at (image ws)) ≡ get_or ws top_address 0 - at =
    omega (arith, length-drop at (image ws), length-take-le (get_or ws top_address 0) ws fits) in
    walk_short (sizes (package_addresses (image ws))) at (drop at (image ws)) (omega (arith, long, below)) (omega (arith, long, beyond, size_is ws at))

module _ (ws : List ℕ) (at : ℕ) (fits : get_or ws top_address 0 ≤ length ws) (here : HasRecord ws at) where
  pub size_fits : at + size_from ws at ≤ get_or ws top_address 0
  size_fits = here.whole

  table_long : length (drop at (image ws)) ≡ get_or ws top_address 0 - at
  table_long = omega (arith, length-drop at (image ws), length-take-le (get_or ws top_address 0) ws fits)

  tail_behind : drop (size_from ws at) (drop at (image ws)) ≡ drop (at + size_from ws at) (image ws)
  tail_behind = drop-drop (size_from ws at) at (image ws)

  -- the records after it lack as many words
  pub step_missing : missing_from ws (at + size_from ws at) ≡ missing_from ws at
  step_missing =
      ap (missing_words (sizes (package_addresses (image ws))) 0 (at + size_from ws at)) (sym tail_behind)
      ∙ ap (λ n. missing_words (sizes (package_addresses (image ws))) 0 (at + n) (drop n (drop at (image ws)))) (size_is ws at)
      ∙ sym (walk_step (sizes (package_addresses (image ws))) at (drop at (image ws)) (omega (arith, table_long, here.inside, here.whole, size_is ws at)))

  pub step_items : items_from ws at ≡ (at, item_from ws at) ∷ items_from ws (at + size_from ws at)
  unfolding items_from item_from
  step_items = ap (map (item_entry (package_addresses (image ws)))) (
      records_from-step (sizes (package_addresses (image ws))) at (drop at (image ws)) (omega (arith, table_long, here.inside))
      ∙ ap (λ n. (at, take n (drop at (image ws))) ∷ records_from (sizes (package_addresses (image ws))) 0 (at + n) (drop n (drop at (image ws))))
      (sym (size_is ws at))
      ∙ ap (λ l. (at, take (size_from ws at) (drop at (image ws))) ∷ records_from (sizes (package_addresses (image ws))) 0 (at + size_from ws at) l) tail_behind
      )

  -- the words of the record
  abbrev rec : List ℕ
  rec = take (size_from ws at) (drop at (image ws))

  rec_long : length rec ≡ size_from ws at
  rec_long = length-take-le (size_from ws at) (drop at (image ws)) (omega (arith, size_fits, table_long))

  rec_word : (j : ℕ) → j < size_from ws at → get_or rec j 0 ≡ get_or ws (at + j) 0
  rec_word j h = get_or-take (size_from ws at) (drop at (image ws)) j 0 h ∙ word_from ws at j (omega (arith, size_fits))

  module _ (small : length ws < 65536) (no : is_package (package_addresses (image ws)) at ≡ false) where
    object_size : size_from ws at ≡ 4 + payload (get_or (drop at (image ws)) 0 0) (get_or (drop at (image ws)) 3 0)
    object_size = size_is ws at ∙ ap (λ b. (if b then get_or (drop at (image ws)) 0 0 - 1 else 3
        + payload (get_or (drop at (image ws)) 0 0) (get_or (drop at (image ws)) 3 0)) + 1) no ∙ (omega arith)

    first_word : get_or (drop at (image ws)) 0 0 ≡ get_or ws at 0
    first_word = word_at ws at here.inside

    pub header_here : is_header (get_or ws at 0) ≡ true
    header_here = elim (cases_Bool (is_header (get_or ws at 0))) [
      | inl e ↦ e
      | inr e ↦
          let none : is_header (get_or (drop at (image ws)) 0 0) ≡ false = ap is_header first_word ∙ e in
          let long : size_from ws at ≡ 4 + 65536 = object_size ∙ ap (λ b. 4 + (if b then
          (if get_or (drop at (image ws)) 0 0 / 256 == 0 then words_of_cells (is_packed_header (get_or (drop at (image ws)) 0 0))
          (get_or (drop at (image ws)) 3 0) else 1) else 65536)) none in
          absurd (omega (arith, long, size_fits, fits))
    ]

    four : 4 ≤ size_from ws at
    four = omega (arith, object_size)

    fourth_word : get_or (drop at (image ws)) 3 0 ≡ get_or ws (at + 3) 0
    fourth_word = word_from ws at 3 (omega (arith, four, size_fits))

    -- how many words an object's record has
    pub object_words : size_from ws at ≡ 4 + (if get_or ws at 0 / 256 == 0 then words_of_cells (is_packed_header (get_or ws at 0)) (get_or ws (at + 3) 0) else 1)
    object_words =
        object_size
        ∙ ap (λ w. 4 + payload w (get_or (drop at (image ws)) 3 0)) first_word
        ∙ ap (λ l. 4 + payload (get_or ws at 0) l) fourth_word
        ∙ ap (λ b. 4 + (if b then (if get_or ws at 0 / 256 == 0 then words_of_cells (is_packed_header (get_or ws at 0)) (get_or ws (at + 3) 0) else 1)
        else 65536)) header_here

    pub header_within : at + 3 < get_or ws top_address 0
    header_within = omega (arith, four, size_fits)

    pub place_within : (get_or ws at 0 / 256 ≡ 0 → ⊥) → at + 4 < get_or ws top_address 0
    place_within n = omega (arith, size_fits, object_words ∙ ap (λ b. 4 + (if b then words_of_cells (is_packed_header (get_or ws at 0)) (get_or ws (at + 3) 0) else 1)) (ne_eqb (get_or ws at 0 / 256) 0 n))

    pub object_here : item_from ws at ≡ AnObject (object_of rec)
    unfolding item_from
    object_here = ap (λ b. if b then APackage rec else AnObject (object_of rec)) no

    last_word : said (get_or rec 0 0) (get_or rec 1 0) (get_or rec 2 0) (get_or rec 3 0) (get_or rec 4 0)
        ≡ said (get_or rec 0 0) (get_or rec 1 0) (get_or rec 2 0) (get_or rec 3 0) (get_or ws (at + 4) 0)
    last_word = elim (cases_eq (get_or ws at 0 / 256) 0) [
      | inl e ↦ rw (eq-eqb (get_or rec 0 0 / 256) 0 (ap (λ w. w / 256) zeroth ∙ e)) refl
      | inr n ↦ ap (said (get_or rec 0 0) (get_or rec 1 0) (get_or rec 2 0) (get_or rec 3 0))
          (rec_word 4 (omega (arith, object_words ∙ ap (λ b. 4 + (if b then words_of_cells (is_packed_header (get_or ws at 0)) (get_or ws (at + 3) 0) else 1)) (ne_eqb (get_or ws at 0 / 256) 0 n))))
    ]
      where
        zeroth : get_or rec 0 0 ≡ get_or ws at 0
        zeroth = rec_word 0 (omega (arith, four)) ∙ ap (λ k. get_or ws k 0) (add-zero at)

    -- what its header says
    pub facts_here : facts_of (item_from ws at) ≡ said (get_or ws at 0) (get_or ws (at + 1) 0) (get_or ws (at + 2) 0) (get_or ws (at + 3) 0)
        (get_or ws (at + 4) 0)
    facts_here =
        let zeroth : get_or rec 0 0 ≡ get_or ws at 0 = rec_word 0 (omega (arith, four)) ∙ ap (λ k. get_or ws k 0) (add-zero at) in
        ap facts_of object_here ∙ said-object_of rec (omega (arith, rec_long, four)) ∙ last_word
        ∙ (λ k. said (zeroth k) (rec_word 1 (omega (arith, four)) k) (rec_word 2 (omega (arith, four)) k) (rec_word 3 (omega (arith, four)) k)
        (get_or ws (at + 4) 0))

    -- a transient object's record has no cells
    pub transient_cells : (get_or ws at 0 / 256 ≡ 0 → ⊥) → length (cells_of (item_from ws at)) ≡ 0
    transient_cells n =
        let zeroth : get_or rec 0 0 ≡ get_or ws at 0 = rec_word 0 (omega (arith, four)) ∙ ap (λ k. get_or ws k 0) (add-zero at) in
        ap (λ t. length (cells_of t)) object_here ∙ no_cells rec (λ e. n (ap (λ w. w / 256) (sym zeroth) ∙ e))

  -- a package's record
  pub package_here : is_package (package_addresses (image ws)) at ≡ true → item_from ws at ≡ APackage rec
  unfolding item_from
  package_here there = ap (λ b. if b then APackage rec else AnObject (object_of rec)) there

  -- a persistent object's cells are the words after its header, where each has a word of its own
  module _ (small : length ws < 65536) (no : is_package (package_addresses (image ws)) at ≡ false) (persistent : get_or ws at 0 / 256 ≡ 0) where
    words_small : length rec < 65536
    words_small = omega (arith, rec_long, size_fits, fits)

    zeroth_word : get_or rec 0 0 ≡ get_or ws at 0
    zeroth_word = rec_word 0 (omega (arith, four small no)) ∙ ap (λ k. get_or ws k 0) (add-zero at)

    own_size : length rec ≡ 4 + payload (get_or rec 0 0) (get_or rec 3 0)
    own_size =
        rec_long ∙ object_size small no
        ∙ ap (λ w. 4 + payload w (get_or (drop at (image ws)) 3 0)) (first_word small no ∙ sym zeroth_word)
        ∙ ap (λ l. 4 + payload (get_or rec 0 0) l) (fourth_word small no ∙ sym (rec_word 3 (omega (arith, four small no))))

    pub cells_long : length (cells_of (item_from ws at)) ≡ get_or ws (at + 3) 0
    cells_long =
        ap (λ t. length (cells_of t)) (object_here small no)
        ∙ cells-object_of rec own_size words_small (ap (λ w. w / 256) zeroth_word ∙ persistent)
        ∙ rec_word 3 (omega (arith, four small no))

    single_here : is_packed_header (get_or ws at 0) ≡ false → is_packed ((object_of rec).facts) ≡ false
    single_here single = packed_of rec ∙ ap (λ f. f.packed) (said-object_of rec (omega (arith, rec_long, four small no)))
        ∙ ap is_packed_header zeroth_word ∙ single

    pub cell_here : is_packed_header (get_or ws at 0) ≡ false → (i : ℕ) → i < length (cells_of (item_from ws at)) → (at + (4 + i) < get_or ws top_address 0)
        × (get_or (cells_of (item_from ws at)) i 0 ≡ get_or ws (at + (4 + i)) 0)
    cell_here single i h =
        let h' : i < length ((object_of rec).cells) = omega (arith, h, ap (λ t. length (cells_of t)) (object_here small no)) in
        let o = object_cell rec i 0 h' in
        let within : 4 + i < length rec = subst (λ (b : Bool). 4 + cell_offset b i < length rec) (single_here single) o.within in
        let said : get_or ((object_of rec).cells) i 0 ≡ get_or rec (4 + i) 0 =
        subst (λ (b : Bool). get_or ((object_of rec).cells) i 0 ≡ cell_said b (get_or rec (4 + cell_offset b i) 0) i) (single_here single) o.said in (
          omega (arith, within, rec_long, size_fits),
          ap (λ t. get_or (cells_of t) i 0) (object_here small no) ∙ said ∙ rec_word (4 + i) (omega (arith, within, rec_long)),
        )
