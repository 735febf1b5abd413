-- What a heap's view says of its journal.
use Rattle.std.proofs.Common.{◌≡◌, ℕ, ◌+◌, ◌/◌, if◌then◌else◌, ◌<◌, ◌≤◌, false, List, length, get_or, set, take, sym, ◌∙◌, ap, subst, arith, inl, inr, Bool, true}
use Rattle.std.proofs.lemmas.List.{length-set, length-take-le, take-set-le}
use Rattle.std.proofs.lemmas.Bool.{cases_lt, false≢true}
use Rattle.jc_words.specs.Layout.{top_address, text_start}
use Rattle.jc_commit.specs.Image.{IsPlace, IsReadable}
use Rattle.jc_commit.specs.State.{State}
use Rattle.jc_heap.specs.Image.{IsWellFormed, image}
use Rattle.jc_heap.specs.Heap.{HeapView, heap_view, heap_of, cells, set_cell, cell_address, IsSound, KeepsBelowTop, HasEnd, read_image, heap_item_at}
use Rattle.jc_heap.specs.Heap.{is_allocated, facts}
use Rattle.jc_heap.specs.Object.{is_packed}
use Rattle.jc_heap.specs.Packed.{byte_in}
use Rattle.jc_heap.specs.Place.{cell_at}
use Rattle.jc_heap.proofs.Laws.{same_length, same_facts, set_cell-absent, is_allocated-heap_of, keeps_below_top}
use Rattle.jc_heap.proofs.Images.{cell_within-heap_of, cell_behind-heap_of, cell-heap_of, set_cell-heap_of, IsWellFormed-set, top-set, cell_at_of, cell_set_of, cell_set, cell_said, cell_offset}
use Rattle.jc_heap.proofs.Added.{image-same_below, top-same_below, IsWellFormed-same_below}

-- a cell's word lies among the words, after the registry
pub spot_of_cell : (ws : List ℕ) (r i : ℕ) → i < length (cells (heap_of ws) r)
    → (cell_at (facts (heap_of ws) r) r i < length ws) × (text_start ≤ cell_at (facts (heap_of ws) r) r i)
unfolding cell_address
spot_of_cell ws r i h = (cell_within-heap_of ws r i h, cell_behind-heap_of ws r i h)

pub cell_spot : (j : State) (v : HeapView) (n r i : ℕ) → heap_view j n ≡ v → i < length (cells v.now r)
    → (cell_at (facts v.now r) r i < length j.plain) × (text_start ≤ cell_at (facts v.now r) r i)
cell_spot j v n r i is h = subst (λ u. i < length (cells (u.now) r) → (cell_at (facts (u.now) r) r i < length j.plain)
    × (text_start ≤ cell_at (facts (u.now) r) r i)) is (spot_of_cell j.plain r i) h

-- the word of an element, where two stand in one
pub packed_spot : (ws : List ℕ) (r i : ℕ) → i < length (cells (heap_of ws) r) → is_packed (facts (heap_of ws) r) ≡ true
    → (cell_address r (i / 2) < length ws) × (text_start ≤ cell_address r (i / 2))
packed_spot ws r i h packed = subst (λ (b : Bool). (cell_address r (if b then i / 2 else i) < length ws) × (text_start ≤ cell_address r (if b then i / 2 else i)))
    packed (spot_of_cell ws r i h)

pub packed_read : (ws : List ℕ) (r i : ℕ) → i < length (cells (heap_of ws) r) → is_packed (facts (heap_of ws) r) ≡ true
    → get_or (cells (heap_of ws) r) i 0 ≡ byte_in (get_or ws (cell_address r (i / 2)) 0) i
unfolding cell_address
packed_read ws r i h packed = subst (λ (b : Bool). get_or (cells (heap_of ws) r) i 0 ≡ cell_said b (get_or ws (r + (4 + cell_offset b i)) 0) i) packed
    (cell-heap_of ws r i h)

-- the word of a cell that has one of its own
pub single_spot : (ws : List ℕ) (r i : ℕ) → i < length (cells (heap_of ws) r) → is_packed (facts (heap_of ws) r) ≡ false
    → (cell_address r i < length ws) × (text_start ≤ cell_address r i)
single_spot ws r i h plain = subst (λ (b : Bool). (cell_address r (if b then i / 2 else i) < length ws) × (text_start ≤ cell_address r (if b then i / 2 else i)))
    plain (spot_of_cell ws r i h)

pub single_read : (ws : List ℕ) (r i : ℕ) → i < length (cells (heap_of ws) r) → is_packed (facts (heap_of ws) r) ≡ false
    → get_or (cells (heap_of ws) r) i 0 ≡ get_or ws (cell_address r i) 0
unfolding cell_address
single_read ws r i h plain = subst (λ (b : Bool). get_or (cells (heap_of ws) r) i 0 ≡ cell_said b (get_or ws (r + (4 + cell_offset b i)) 0) i) plain
    (cell-heap_of ws r i h)

pub readable : (n a : ℕ) → a < n → text_start ≤ a → IsReadable n a
readable n a below high = record { below = below; not_count = λ e. omega arith; beside = λ _. omega arith }

pub is_place : (n a : ℕ) → a < n → text_start ≤ a → IsPlace n a
is_place n a below high = record { above = omega arith; below = below; beside = λ _. omega arith }

pub top_is : (ws : List ℕ) (r : ℕ) → IsWellFormed ws → r < get_or ws top_address 0 → r < (heap_of ws).top
unfolding read_image
top_is ws r laid h = omega (arith, length-take-le (get_or ws top_address 0) ws laid.fits)

-- a word at or above the top is not the heap's
pub above_top : (ws : List ℕ) (a x : ℕ) → IsWellFormed ws → get_or ws top_address 0 ≤ a →
    (heap_of (set ws a x) ≡ heap_of ws) × IsWellFormed (set ws a x) × (get_or (set ws a x) top_address 0 ≡ get_or ws top_address 0)
above_top ws a x laid far =
    let same : take (get_or ws top_address 0) (set ws a x) ≡ take (get_or ws top_address 0) ws = take-set-le (get_or ws top_address 0) ws a x far in
    let based : top_address < get_or ws top_address 0 = omega (arith, laid.based, length-take-le (get_or ws top_address 0) ws laid.fits) in (
      ap read_image (image-same_below ws (set ws a x) (get_or ws top_address 0) based (omega arith) same),
      IsWellFormed-same_below ws (set ws a x) (get_or ws top_address 0) based (omega arith) same (length-set ws a x) laid,
      top-same_below ws (set ws a x) (get_or ws top_address 0) based same,
    )

-- a cell that has a word of its own, set
pub plain_set : (ws : List ℕ) (r i x : ℕ) → i < length (cells (heap_of ws) r) → is_packed (facts (heap_of ws) r) ≡ false → IsWellFormed ws →
    (heap_of (set ws (r + (4 + i)) x) ≡ set_cell (heap_of ws) r i x) × IsWellFormed (set ws (r + (4 + i)) x)
    × (get_or (set ws (r + (4 + i)) x) top_address 0 ≡ get_or ws top_address 0)
plain_set ws r i x h plain laid =
    let here : cell_at_of ws r i ≡ r + (4 + i) = ap (λ (b : Bool). r + (4 + cell_offset b i)) plain in
    let new : cell_set_of ws r i x ≡ x = ap (λ (b : Bool). cell_set b (get_or ws (cell_at_of ws r i) 0) i x) plain in (
      ap (λ (a : ℕ). heap_of (set ws a x)) (sym here) ∙ ap (λ (w : ℕ). heap_of (set ws (cell_at_of ws r i) w)) (sym new)
          ∙ set_cell-heap_of ws r i x h (λ packed. absurd (false≢true (sym plain ∙ packed))),
      subst (λ (a : ℕ). IsWellFormed (set ws a x)) here (IsWellFormed-set ws r i x h laid),
      subst (λ (a : ℕ). get_or (set ws a x) top_address 0 ≡ get_or ws top_address 0) here (top-set ws r i x h),
    )

-- what an abort leaves of the names
pub abort_keeps : (j : State) (v : HeapView) (n : ℕ) → heap_view j n ≡ v → j.down ≡ false → IsSound j n → KeepsBelowTop v.now v.durable
abort_keeps j v n is up s = subst (λ u. KeepsBelowTop (u.now) (u.durable)) is
    (keeps_below_top (heap_of j.plain) j.recovered (s.shape up) (omega (
      arith,
      s.back.based,
      length-take-le (get_or j.recovered top_address 0) j.recovered s.back.fits,
    )))

pub has_end : (j : State) (v : HeapView) (n : ℕ) → heap_view j n ≡ v → IsWellFormed j.plain → HasEnd v.now
unfolding read_image
has_end j v n is laid = subst (λ u. HasEnd (u.now)) is
    (λ r above. is_allocated-heap_of j.plain r (omega (arith, laid.based, length-take-le (get_or j.plain top_address 0) j.plain laid.fits)) above)

pub nothing_at_top : (j : State) (v : HeapView) (n : ℕ) → heap_view j n ≡ v → IsWellFormed j.plain → is_allocated v.now v.now.top ≡ false
nothing_at_top j v n is laid = has_end j v n is laid v.now.top (omega arith)

-- the top's word
pub view_top : (j : State) (v : HeapView) (n : ℕ) → heap_view j n ≡ v → IsWellFormed j.plain → v.now.top ≡ get_or j.plain top_address 0
unfolding read_image
view_top j v n is laid = ap (λ u. u.now.top) (sym is) ∙ length-take-le (get_or j.plain top_address 0) j.plain laid.fits
