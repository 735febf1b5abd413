use Rattle.std.proofs.Common.{◌≡◌, ◌∙◌, ◌≤◌, ◌↔◌, ℕ, List, true, false, ap, arith, refl, subst, sym}
use Rattle.std.proofs.lemmas.Bool.{false≢true}
use Rattle.jc_transient.specs.State.{buffer_told, most_buffer}
use Rattle.jc_heap.specs.declared.object.Facts.{Facts}
use Rattle.jc_heap.specs.Heap.{HeapState, heap_of}
use Rattle.jc_heap.specs.Image.{IsWellFormed, buffer_address}
use Rattle.jc_heap.specs.WholeHeap.{IsConsistent}
use Rattle.jc_heap.proofs.AreaSizes.{buffer_read}
use Rattle.std.specs.Prelude.{slice_index}
use Rattle.jc_image.specs.Beginning.{HeapBeginsWith}
use Rattle.jc_environment.specs.Objects.{sized_objects}
use Rattle.jc_platform.specs.Tokens.{Tokens}
use Rattle.jc_card.specs.Fixed.{buffer_cells, fixed_facts}
use Rattle.jc_card.proofs.power_up.whole_heap.Goals as goal

-- what is read of the words is what the heap says
same : (w : List ℕ) (word n : ℕ) → IsWellFormed w → n ≡ buffer_told word → word ≡ slice_index w buffer_address → n ≡ buffer_cells (heap_of w)
same w word n laid told read = told ∙ ap buffer_told (read ∙ sym (buffer_read w laid.based))

-- the headers of this buffer are those of the heap's
there : (w : List ℕ) (t : Tokens) (n : ℕ) (hs : List Facts) → hs ≡ fixed_facts t 0 (sized_objects t n) → n ≡ buffer_cells (heap_of w)
    → hs ≡ fixed_facts t 0 (sized_objects t (buffer_cells (heap_of w)))
there w t n hs first is = first ∙ ap (λ (k : ℕ). fixed_facts t 0 (sized_objects t k)) is

pub returns-then-buffer-gt-MOST_BUFFER-clause-exact : goal.returns-then-buffer-gt-MOST_BUFFER-clause-exact
returns-then-buffer-gt-MOST_BUFFER-clause-exact g c = (
  λ e. absurd (false≢true e),
  λ whole.
      let is = same c.args.image.plain c.buffer_word.result c.buffer_told-buffer.result whole.0 c.buffer_told-buffer.ensures c.buffer_word.ensures in
      let most = whole.1.sizes.buffer_most in
      absurd (omega (arith, is, most, c.if-buffer-gt-MOST_BUFFER.true)),
)

pub returns-in-Ok-clause-exact : goal.returns-in-Ok-clause-exact
returns-in-Ok-clause-exact g c =
    let w = c.args.image.plain in
    let found = c.in-Ok.ensures.exact.0 refl in
    let is = same w c.buffer_word.result c.buffer_told-buffer.result found.0 c.buffer_told-buffer.ensures c.buffer_word.ensures in
    let first = there w c.args.table.now c.buffer_told-buffer.result c.deref.result.now (c.deref.ensures.0 ∙ c.fixed_headers.ensures) is in
    (λ e. (found.0, found.1, subst (HeapBeginsWith (heap_of w)) first found.2), λ whole. refl)

pub returns-clause-exact : goal.returns-clause-exact
returns-clause-exact g c =
    let w = c.args.image.plain in (
      λ e. absurd (false≢true e),
      λ whole.
          let is = same w c.buffer_word.result c.buffer_told-buffer.result whole.0 c.buffer_told-buffer.ensures c.buffer_word.ensures in
          let first = there w c.args.table.now c.buffer_told-buffer.result c.deref.result.now (c.deref.ensures.0 ∙ c.fixed_headers.ensures) is in
          c.in-Err.ensures.exact.1 (whole.0, whole.1, subst (HeapBeginsWith (heap_of w)) (sym first) whole.2),
    )
