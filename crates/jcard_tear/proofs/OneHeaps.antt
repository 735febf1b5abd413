-- Images that hold one heap: a card powers up over either in the same way.
use Rattle.std.proofs.Common.{◌≡◌, ◌≢◌, ◌∙◌, ◌+◌, ◌*◌, ◌-◌, ◌<◌, ◌≤◌, ◌⊎◌, ℕ, Bool, true, false, cond, List, [], length, min, take, drop, get_or, ap, ap₂, arith, refl, subst, sym, ⊎_elim}
use Rattle.std.proofs.Common.{get_or-take}
use Rattle.std.specs.Prelude.{slice_index}
use Rattle.std.proofs.lemmas.Bool.{cases_lt, ne_eqb}
use Rattle.std.proofs.lemmas.List.{ext_get_or, length-take}
use Rattle.std.proofs.lemmas.List.FromFn.{get_or-map-range_with_len}
use Rattle.jc_words.specs.Count.{saturating_count}
use Rattle.jc_words.specs.Image.{IsLogAmong, heap_end, log_of}
use Rattle.jc_words.specs.Layout.{capacity_address, count_address, first_version, front_length, journal_address, least_size, top_address, version_address}
use Rattle.jc_words.specs.Refusals.{no_refusals}
use Rattle.jc_words.specs.declared.log.Log.{Log}
use Rattle.jc_commit.specs.Image.{is_log, limit_of, plain_of, recovered_of, top_of, touched_of, words_by}
use Rattle.jc_commit.specs.Migration.{migrated, migration}
use Rattle.jc_commit.specs.State.{recovered_journal, undo_writes}
use Rattle.jc_commit.proofs.InPlace.{length-recovered, plain_top}
use Rattle.jc_commit.proofs.Views.{length-touched}
use Rattle.jc_commit.proofs.Words.{bounds, length-words_by, log-same, not_entry}
use Rattle.jc_heap.specs.Heap.{HeapState, heap_of, heap_view, read_image}
use Rattle.jc_heap.specs.Image.{IsWellFormed, base, image, is_package, missing_words_of_image, package_addresses}
use Rattle.jc_card.specs.Card.{CardState}
use Rattle.jc_card.specs.ProductImages.{IsCardHeap}
use Rattle.jc_card.specs.PowerUp.Outcome.{IsPoweredOver}
use Rattle.jc_card.specs.PowerUp.Reset.{IsAtReset}
use Rattle.jcard_tear.specs.KeptCard.{GivesAnswers, HoldOneHeap}
use Rattle.jcard_sweeps.specs.Runs.{IsRecovered}
use Rattle.jcard_tear.proofs.KeptCuts.{migrated_none}
use Rattle.jcard_outcomes.proofs.Blocks.{agree_between}
use Rattle.jcard_tear.proofs.SameHeaps.{agree_below}

-- ---- words that are compared in two parts

-- two images whose words are the same before the journal, as far as the first words and the heap reach, and after it hold one heap
pub one_heap : (a b : List ℕ) (front back : ℕ) → length a ≡ length b → least_size ≤ length b → IsLogAmong (length b) (log_of b)
    → (front ≡ (log_of b).start) ⊎ ((front_length ≤ front) × (top_of b ≤ front))
    → (back ≡ length b) ⊎ (top_of b ≤ back)
    → take front a ≡ take front b
    → take (back - ((log_of b).start + 2 * (log_of b).capacity)) (drop ((log_of b).start + 2 * (log_of b).capacity) a)
    ≡ take (back - ((log_of b).start + 2 * (log_of b).capacity)) (drop ((log_of b).start + 2 * (log_of b).capacity) b)
    → HoldOneHeap a b
one_heap a b front back long enough fits at_front at_back fr bk =
    let l : Log = log_of b in
    let end : ℕ = l.start + 2 * l.capacity in
    let within = bounds (length b) l enough fits in
    let low = within.low in
    let limit = within.limit in
    let far : front_length ≤ front = ⊎_elim (λ e. omega (arith, e, low)) (λ h. h.0) at_front in
    let early : (k : ℕ) → k < front_length → get_or a k 0 ≡ get_or b k 0 = λ k h. agree_below a b front k fr (omega (arith, h, far)) in
    record {
      long = long;
      log = log-same b a (early version_address (omega arith)) (early capacity_address (omega arith)) (early journal_address (omega arith));
      count = early count_address (omega arith);
      top = early top_address (omega arith);
      words = λ k below plain under. ⊎_elim
          (λ h. agree_below a b front k fr (⊎_elim (λ e. omega (arith, e, h)) (λ x. omega (arith, x.1, under)) at_front))
          (λ h.
          let past = not_entry l k plain h in
          agree_between a b end back k bk past (⊎_elim (λ e. omega (arith, e, below, limit)) (λ x. omega (arith, x, under)) at_back))
          (cases_lt k l.start);
    }

-- ---- the words below the top

word_by : (l : Log) (n : ℕ) (f : ℕ → ℕ) (k : ℕ) → k < n → get_or (words_by l n f) k 0 ≡ cond (is_log l k) 0 (f k)
unfolding words_by
word_by l n f k below = get_or-map-range_with_len (λ b. cond (is_log l b) 0 (f b)) 0 n k k 0 below (omega arith)

masked_same : (b : Bool) (x y : ℕ) → (b ≡ false → x ≡ y) → cond b 0 x ≡ cond b 0 y
masked_same true x y same = refl
masked_same false x y same = same refl

below_both : (t n k : ℕ) → k < min t n → (k < t) × (k < n)
below_both t n k h = grind (arith, h)

taken_same : (l : Log) (n t : ℕ) (f g : ℕ → ℕ) → ((k : ℕ) → k < n → is_log l k ≡ false → k < t → f k ≡ g k)
    → take t (words_by l n f) ≡ take t (words_by l n g)
taken_same l n t f g same =
    ext_get_or 0 (take t (words_by l n f)) (take t (words_by l n g)) (long f ∙ sym (long g)) each
  where
    long : (h : ℕ → ℕ) → length (take t (words_by l n h)) ≡ min t n
    long h = length-take t (words_by l n h) ∙ ap (min t) (length-words_by l n h)

    each : (k : ℕ) → k < length (take t (words_by l n f)) → get_or (take t (words_by l n f)) k 0 ≡ get_or (take t (words_by l n g)) k 0
    each k h =
        let both = below_both t n k (subst (λ (m : ℕ). k < m) (long f) h) in
        get_or-take t (words_by l n f) k 0 both.0 ∙ word_by l n f k both.1 ∙ masked_same (is_log l k) (f k) (g k) (λ plain. same k both.1 plain both.0)
        ∙ sym (word_by l n g k both.1) ∙ sym (get_or-take t (words_by l n g) k 0 both.0)

-- ---- the heap

laid_alike : (a b : List ℕ) → image a ≡ image b → slice_index a top_address ≡ slice_index b top_address → length a ≡ length b → IsWellFormed a → IsWellFormed b
laid_alike a b same top long is = record {
  based = subst (λ (i : List ℕ). base i ≤ slice_index b top_address) same (subst (λ (t : ℕ). base (image a) ≤ t) top is.based);
  fits = subst (λ (n : ℕ). slice_index b top_address ≤ n) long (subst (λ (t : ℕ). t ≤ length a) top is.fits);
  whole = subst (λ (i : List ℕ). missing_words_of_image i ≡ 0) same is.whole;
  packages = λ x above. subst (λ (i : List ℕ). is_package (package_addresses i) x ≡ false) same
      (is.packages x (subst (λ (t : ℕ). t ≤ x) (sym top) above));
}

no_migration : (w : List ℕ) → slice_index w version_address ≢ first_version → migration w ≡ []
no_migration w later = rw (ne_eqb (slice_index w version_address) first_version later) refl

module _ (v w : List ℕ) (one : HoldOneHeap v w) (is_v : IsRecovered v) (is_w : IsRecovered w) where
  limit : limit_of v ≡ limit_of w
  limit = ap₂ (λ (n : ℕ) (x : Log). heap_end n x.capacity) one.long one.log

  live : take (top_of w) (plain_of v) ≡ take (top_of w) (plain_of w)
  unfolding plain_of
  live = ap₂ (λ (x : Log) (n : ℕ). take (top_of w) (words_by x n (λ k. slice_index v k))) one.log limit
      ∙ taken_same (log_of w) (limit_of w) (top_of w) (λ k. slice_index v k) (λ k. slice_index w k) one.words

  top : slice_index (recovered_of v) top_address ≡ slice_index (recovered_of w) top_address
  top = ap (λ (u : List ℕ). slice_index u top_address) is_v.1 ∙ plain_top v is_v.0 ∙ one.top ∙ sym (plain_top w is_w.0)
      ∙ sym (ap (λ (u : List ℕ). slice_index u top_address) is_w.1)

  image_same : image (recovered_of v) ≡ image (recovered_of w)
  image_same = ap image is_v.1 ∙ ap (λ (t : ℕ). take t (plain_of v)) (plain_top v is_v.0 ∙ one.top) ∙ live
      ∙ ap (λ (t : ℕ). take t (plain_of w)) (sym (plain_top w is_w.0)) ∙ sym (ap image is_w.1)

  long : length (recovered_of v) ≡ length (recovered_of w)
  long = length-recovered v ∙ limit ∙ sym (length-recovered w)

  heap_same : heap_of (recovered_of v) ≡ heap_of (recovered_of w)
  heap_same = ap read_image image_same

  left_same : heap_of (migrated 3 (recovered_of v)) ≡ heap_of (migrated 3 (recovered_of w))
  left_same = ap heap_of (migrated_none v is_v.0 is_v.2) ∙ heap_same ∙ sym (ap heap_of (migrated_none w is_w.0 is_w.2))

  touched_same : length (touched_of v) ≡ length (touched_of w)
  touched_same = length-touched v ∙ one.count ∙ sym (length-touched w)

  migration_same : length (migration v) ≡ length (migration w)
  migration_same = ap length (no_migration v is_v.2) ∙ sym (ap length (no_migration w is_w.2))

  view_same : heap_view (recovered_journal v 0 no_refusals) (limit_of v) ≡ heap_view (recovered_journal w 0 no_refusals) (limit_of w)
  view_same = λ i. record {
    now = left_same i;
    durable = left_same i;
    begun = false;
    touched = [];
    down = false;
    passed = saturating_count 0 (undo_writes (touched_same i) + migration_same i);
    refusals = no_refusals;
    size = limit i;
  }

  powered_alike : (budget : ℕ) (card : CardState) → IsPoweredOver v false 0 no_refusals budget card → IsPoweredOver w false 0 no_refusals budget card
  powered_alike budget card is = record {
    made = record {
      log = is_w.0;
      laid = laid_alike (recovered_of v) (recovered_of w) image_same top long is.made.laid;
      heap = subst (λ (n : ℕ). IsCardHeap n (heap_of (recovered_of w))) one.long (subst (λ (h : HeapState). IsCardHeap (length v) h) heap_same is.made.heap);
    };
    was_up = is.was_up;
    heap = is.heap ∙ view_same;
    reset = subst (λ (h : HeapState). IsAtReset h card) heap_same is.reset;
    budget = is.budget;
  }

  -- the lines of a probe are answered in the same way
  pub gives_alike : (budget : ℕ) (probe answers : List ℕ) → GivesAnswers budget v probe answers → GivesAnswers budget w probe answers
  gives_alike budget probe answers g = (g.0, powered_alike budget g.0 g.1, g.2, g.3)
