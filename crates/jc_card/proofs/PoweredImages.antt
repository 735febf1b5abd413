-- Powered images: one is read, a cell of one is set, and cards begin over one.
use Rattle.std.proofs.Common.{◌≡◌, ◌≢◌, ◌∙◌, ◌+◌, ◌<◌, ℕ, Bool, true, false, List, [], ◌∷◌, length, take, drop, ◌++◌, Option, Some, Ok, refl, sym, ap, ap₂, subst, arith, if◌then◌else◌}
use Rattle.std.specs.Prelude.{slice_index}
use Rattle.std.proofs.Math.Seq.{take-append_seam}
use Rattle.std.proofs.lemmas.Bool.{ne_eqb}
use Rattle.std.proofs.lemmas.Option.{same_Some}
use Rattle.jc_words.specs.Count.{saturating_count}
use Rattle.jc_words.specs.Layout.{first_version, magic, magic_address, version, version_address}
use Rattle.jc_words.specs.Refusals.{Refusals, no_refusals}
use Rattle.jc_words.specs.Store.{FuseStoreValue, MemStoreValue}
use Rattle.jc_commit.specs.Image.{IsGoodLog, count_of, limit_of, recovered_of, touched_of, with_words}
use Rattle.jc_commit.specs.Migration.{migrated, migration}
use Rattle.jc_commit.specs.State.{recovered_journal, undo_writes}
use Rattle.jc_commit.proofs.Migrations.{migration-recovered}
use Rattle.jc_commit.proofs.Views.{length-touched, raised_none}
use Rattle.jc_transient.specs.declared.sizes.RamSizes.{RamSizes}
use Rattle.jc_heap.specs.Completions.{Completed, Done}
use Rattle.jc_heap.specs.Heap.{HeapState, HeapView, IsObject, area_sizes, heap_of, heap_view, set_cell}
use Rattle.jc_heap.specs.Heap.Store.{HoldsHeap, heap_of_store_at_rest}
use Rattle.jc_heap.specs.Moves.{PerformsMovesUnless, Write}
use Rattle.jc_heap.specs.declared.place.Place.TheVariants.{Cell}
use Rattle.jc_heap.specs.declared.refusal.HeapRefusal.{HeapRefusal}
use Rattle.jc_heap.specs.Image.{IsWellFormed}
use Rattle.jc_heap.proofs.RawWords.{head_is, recovered-head, text_is}
use Rattle.jc_interp.specs.Attacks.{undisturbed}
use Rattle.jc_linker.specs.Values.{Packages}
use Rattle.jc_memory.specs.Marks.{mark_count}
use Rattle.jc_packages.specs.Objects.{IsSoundObject, MarksObjects}
use Rattle.jc_packages.specs.Reading.{packages_of}
use Rattle.jc_packages.specs.Sound.{IsSound}
use Rattle.jc_packages.specs.Tables.{HasTable}
use Rattle.jc_packages.proofs.SetCells.{marks_same, object_same}
use Rattle.jc_platform.specs.Table.{Reads}
use Rattle.jc_platform.specs.Tokens.{Tokens}
use Rattle.jc_platform.proofs.OneAnswer.{one_table}
use Rattle.jc_card.specs.Card.{CardState}
use Rattle.jc_card.specs.Fixed.{last_fixed}
use Rattle.jc_card.specs.PowerUp.{HasHead, HasHeap, HasPackages}
use Rattle.jc_card.specs.PowerUp.Outcome.{IsPoweredOver}
use Rattle.jc_card.specs.PowerUp.Reset.{ArePartsOf, IsAtReset}
use Rattle.jc_card.specs.PoweredImage.{IsFoundIn, IsPoweredImage, MayHold, heap_in}
use Rattle.jc_card.specs.declared.power_up.CardParts.{CardParts}
use Rattle.jc_card.proofs.CellSets.{found_still}
use Rattle.jc_card.proofs.PoweredUp.{has_table, made_found}

-- ---- a cell is set

module _ (words : List ℕ) (r i v : ℕ) (before after : HeapView) (reason : Option HeapRefusal) (rest : before ≡ heap_of_store_at_rest words 0 no_refusals)
    (done : PerformsMovesUnless reason before (Completed (Done (tt {0})) after) (Write (Cell r i) v ∷ []) (tt {0})) where
  now_after : after.now ≡ set_cell (heap_in words) r i v
  now_after = ap (λ (x : HeapView). x.now) done.2 ∙ ap (λ (x : HeapView). set_cell x.now r i v) rest

  pub marked_after : (marks : List Bool) → MarksObjects marks (heap_in words) → MarksObjects marks after.now
  marked_after marks is = subst (MarksObjects marks) (sym now_after) (marks_same (heap_in words) r i v marks is)

  pub object_after : IsObject (heap_in words) r → IsObject after.now r
  object_after is = subst (λ (h : HeapState). IsObject h r) (sym now_after) (object_same (heap_in words) r i v r ∙ is)

  -- the durable heap is the same, since no transaction is open
  durable_after : after.durable ≡ set_cell (heap_in words) r i v
  durable_after = ap (λ (x : HeapView). x.durable) done.2 ∙ ap (λ (x : HeapView). if x.begun then x.durable else set_cell x.now r i v) rest

  pub heap_after : (next : List ℕ) (passed : ℕ) (refusals : Refusals) → HoldsHeap next false passed refusals after → heap_in next ≡ set_cell (heap_in words) r i v
  heap_after next passed refusals holds = holds.durable ∙ durable_after

  pub cell_set : (next : List ℕ) (passed : ℕ) (refusals : Refusals) (marks : List Bool) (p : Packages) (fixed : List ℕ) (sizes : RamSizes)
      → IsPoweredImage words marks p fixed sizes → MayHold p before.now r i v → IsSoundObject p after.now r → HoldsHeap next false passed refusals after
      → length next < 65536 → IsPoweredImage next marks p fixed sizes
  cell_set next passed refusals marks p fixed sizes image may sound holds small =
      let up : after.down ≡ false = ap (λ (x : HeapView). x.down) done.2 ∙ ap (λ (x : HeapView). x.down) rest in
      let outside : after.begun ≡ false = ap (λ (x : HeapView). x.begun) done.2 ∙ ap (λ (x : HeapView). x.begun) rest in
      let found : IsFoundIn (set_cell (heap_in words) r i v) marks p fixed sizes = found_still (heap_in words) r i v marks p fixed sizes
      (subst (λ (x : HeapView). MayHold p x.now r i v) rest may) (subst (λ (h : HeapState). IsSoundObject p h r) now_after sound) image.found in
      record {
        small = small;
        rests = holds.rests up outside;
        found = subst (λ (h : HeapState). IsFoundIn h marks p fixed sizes) (sym (heap_after next passed refusals holds)) found;
      }

-- ---- a card begins

no_migration : (w : List ℕ) → slice_index w version_address ≡ version → migration w ≡ []
no_migration w current =
    let later : slice_index w version_address ≢ first_version = λ e. absurd (omega (arith, current, e)) in
    rw (ne_eqb (slice_index w version_address) first_version later) refl

module _ (words : List ℕ) (marks : List Bool) (p : Packages) (fixed : List ℕ) (sizes : RamSizes) (image : IsPoweredImage words marks p fixed sizes) where
  heap_still : heap_of (migrated 3 (recovered_of words)) ≡ heap_in words
  heap_still = ap (λ (ws : List (ℕ × ℕ)). heap_of (with_words (recovered_of words) (take 3 ws)))
      (migration-recovered words image.rests.good ∙ no_migration words image.rests.current)

  no_writes : saturating_count 0 (undo_writes (length (touched_of words)) + length (migration words)) ≡ 0
  no_writes = ap₂ (λ (n : ℕ) (ws : List (ℕ × ℕ)). saturating_count 0 (undo_writes n + length ws)) (length-touched words ∙ image.rests.closed)
      (no_migration words image.rests.current) ∙ raised_none 0

  view_still : heap_view (recovered_journal words 0 no_refusals) (limit_of words) ≡ heap_of_store_at_rest words 0 no_refusals
  view_still = λ t. record {
    now = heap_still t;
    durable = heap_still t;
    begun = false;
    touched = [];
    down = false;
    passed = no_writes t;
    refusals = no_refusals;
    size = limit_of words;
  }

  head : HasHead words
  head = record {
    magic = ap (λ (x : ℕ × ℕ). x.0) (sym (recovered-head words image.rests.good) ∙ sym (head_is (recovered_of words) image.rests.laid)) ∙ image.found.magic;
    version = image.rests.good.known;
    size = image.rests.good.size;
  }

  pub begins : (budget : ℕ) (card : CardState) → card.memory.heap ≡ heap_of_store_at_rest words 0 no_refusals → IsAtReset (heap_in words) card
      → card.budget ≡ undisturbed budget → IsPoweredOver words false 0 no_refusals budget card
  begins budget card heap reset has = record {
    made = made_found words head image.rests.good image.found.tokens
        (has_table (recovered_of words) image.found.tokens image.rests.laid image.found.reads)
        (image.rests.laid, image.found.whole, image.found.begins, (p, image.found.linked, image.found.sound));
    was_up = refl;
    heap = heap ∙ sym view_still;
    reset = reset;
    budget = has;
  }

-- ---- an image is read

pub read_image : (words : List ℕ) (marks : List Bool) (parts : CardParts) (p : Packages) (sizes : RamSizes) → HasHead words → IsGoodLog words
    → count_of words ≡ 0 → slice_index words version_address ≡ version
    → (t : Tokens) × HasTable (recovered_of words) t × HasHeap t (recovered_of words) → ArePartsOf (heap_in words) parts → p ≡ parts.linked
    → length marks ≡ mark_count → MarksObjects marks (heap_in words) → sizes ≡ area_sizes (heap_in words) → length words < 65536
    → IsPoweredImage words marks p parts.fixed.items sizes
read_image words marks parts p sizes head good closed current found are same long marked areas small =
    let w : List ℕ = recovered_of words in
    let h : HeapState = heap_of w in
    let t : Tokens = are.packages.0 in
    let reads : Reads h.text (Ok found.0) = subst (λ (l : List ℕ). Reads l (Ok found.0)) (sym (text_is w found.2.0)) found.1.1 in
    let one : found.0 ≡ t = one_table h.text found.0 t reads are.packages.1 in
    let heap : HasHeap t w = subst (λ (x : Tokens). HasHeap x w) one found.2 in
    let fits : HasPackages t h = heap.3 in
    let is : packages_of t h ≡ Some p = are.packages.2 ∙ ap Some (sym same) in
    let linked : fits.0 ≡ p = same_Some fits.0 p (sym fits.1 ∙ is) in
    record {
      small = small;
      rests = record { up = refl; good = good; laid = heap.0; closed = closed; current = current };
      found = record {
        magic = ap (λ (x : ℕ × ℕ). x.0) (head_is w heap.0 ∙ recovered-head words good) ∙ head.magic;
        whole = heap.1;
        tokens = t;
        reads = are.packages.1;
        begins = heap.2;
        linked = is;
        sound = subst (λ (q : Packages). IsSound q h (last_fixed t h)) linked fits.2;
        fixed = are.packages.3;
        sizes = areas;
        long = long;
        marked = marked;
      };
    }

-- ---- a store of its words

abbrev pub store_of : List ℕ → FuseStoreValue
store_of words = record { words = words; down = false; passed = 0; refusals = no_refusals; down_below = false; passed_below = 0 }

abbrev pub under_fuse : MemStoreValue → FuseStoreValue
under_fuse m = record { words = m.words; down = false; passed = 0; refusals = no_refusals; down_below = false; passed_below = m.passed }

-- ---- flags that were set through a slice of them

pub flags_set : (flags set : List Bool) (n : ℕ) (h : HeapState) → n ≡ length set → MarksObjects set h → MarksObjects (take n (set ++ drop (length set) flags)) h
flags_set flags set n h long is =
    subst (λ (l : List Bool). MarksObjects l h) (sym (ap (λ (k : ℕ). take k (set ++ drop (length set) flags)) long
    ∙ take-append_seam set (drop (length set) flags))) is
