-- A store with the words of an image without objects, and the journal over it.
use Rattle.std.proofs.Common.{◌≡◌, ℕ, zero, suc, ◌+◌, ◌<◌, ◌≤◌, ◌==◌, ◌⊎◌, inl, inr, Bool, false, List, [], ◌∷◌, ◌++◌, length, take, drop, get_or, sym, ◌∙◌, ap}
use Rattle.std.proofs.Common.{subst, arith, if◌then◌else◌, lit<}
use Rattle.std.proofs.lemmas.List.{take_all, length-append, length-drop, length-take-le, get_or_append_left, get_or-take}
use Rattle.jc_words.specs.Count.{saturating_count}
use Rattle.jc_words.specs.Refusals.{Refusals}
use Rattle.jc_words.specs.Layout.{first_version, version, version_address, capacity_address, journal_address, front_capacity, log_start, least_size}
use Rattle.jc_words.specs.Image.{heap_end, IsCapacity}
use Rattle.jc_commit.specs.Image.{count_of, limit_of, plain_of, recovered_of, touched_of, with_words, IsGoodLog}
use Rattle.jc_commit.specs.Migration.{migration, migrated, opening_writes}
use Rattle.jc_commit.specs.Journal.{IsStoppedOpening, OpeningFails}
use Rattle.jc_commit.specs.State.{recovered_journal}
use Rattle.jc_commit.specs.declared.refusal.OpenRefusal.{OpenRefusal}
use Rattle.jc_commit.specs.declared.refusal.OpenRefusal.TheVariants.{StoreDown, BadLog}
use Rattle.jc_commit.proofs.Steps.{recovered_plain}
use Rattle.jc_commit.proofs.Words.{heap_end_within}
use Rattle.jc_commit.proofs.Migrations.{migration-recovered}
use Rattle.jc_commit.proofs.Parts.{replay_none}
use Rattle.jc_commit.proofs.TornWrites.{ended}
use Rattle.jc_commit.proofs.Views.{touched_none}
use Rattle.jc_heap.specs.Image.{IsWellFormed}
use Rattle.jc_heap.specs.Heap.{heap_of, heap_view}
use Rattle.jc_image.specs.declared.laying.ImageRoom.{ImageRoom}
use Rattle.jc_image.specs.Laying.{IsOfBytes, first_free, new_image_words, written_image_prefix, unsealed_heap, unsealed_view, IsPartlyWritten}
use Rattle.jc_image.proofs.LaidImages.{length-laid, front-word, current-laid, good-laid, limit-laid, heap_of-laid, IsLaid-laid, count-laid}

-- over a good log an opening fails by a store that is down alone
pub is_stopped : {S : Type 0} (words : S → List ℕ) (down : S → Bool) (passed : S → ℕ) (refusals : S → Refusals) (old : S) (e : OpenRefusal) (new : S)
    → IsGoodLog (words old) → OpeningFails words down passed refusals old e new → IsStoppedOpening words down passed refusals old new
is_stopped words down passed refusals old StoreDown new good fails = fails
is_stopped words down passed refusals old BadLog new good fails = absurd (fails.0 good)

-- an opening writes nothing where no entry counts and the version is the one that is written
stopped_none : (w : List ℕ) (n : ℕ) → count_of w ≡ 0 → get_or w version_address 0 ≡ version → with_words w (take n (opening_writes w)) ≡ w
stopped_none w n none current =
    let writes : opening_writes w ≡ [] = (λ i. replay_none w none i ++ (if current i == first_version then (capacity_address, front_capacity)
    ∷ (journal_address, log_start) ∷ (version_address, version) ∷ [] else [])) in
    ap (λ ws. with_words w (take n ws)) writes ∙ ended n w

-- some words laid: none, or the first one
pub unmarked : (room : ImageRoom) (text old new : List ℕ) → IsPartlyWritten room text old new → (new ≡ old) ⊎ (get_or new 0 0 ≡ 0)
unmarked room text old new (zero, le, e) = inl e
unmarked room text old new (suc k, le, e) =
    let some : 0 < length (take (suc k) (new_image_words (length old) room text)) = omega
    (arith, length-take-le (suc k) (new_image_words (length old) room text) (omega (arith, le, length-laid (length old) room text))) in
    inr
    (ap (λ l. get_or l 0 0) e
    ∙ get_or_append_left (take (suc k) (new_image_words (length old) room text)) (drop (suc k) old) 0 0 some
    ∙ get_or-take (suc k) (new_image_words (length old) room text) 0 0 (omega arith)
    ∙ front-word (length old) room text 0 (lit< tt))

module _ (room : ImageRoom) (text old w : List ℕ) (bytes : IsOfBytes text) (enough : least_size ≤ length old) (may : IsCapacity room.capacity)
    (fits : first_free (length text) ≤ heap_end (length old) room.capacity)
    (is : w ≡ written_image_prefix (first_free (length text)) (length old) room text old) where
  abbrev rest : List ℕ
  rest = drop (first_free (length text)) old

  is_all : w ≡ new_image_words (length old) room text ++ rest
  is_all = is ∙ ap (λ l. l ++ rest) (take_all (first_free (length text)) (new_image_words (length old) room text) (omega (arith, length-laid (length old) room text)))

  long_all : length (new_image_words (length old) room text ++ rest) ≡ length old
  long_all = omega (
    arith,
    length-append (new_image_words (length old) room text) rest,
    length-laid (length old) room text,
    length-drop (first_free (length text)) old,
    fits,
    heap_end_within (length old) room.capacity,
  )

  pub length_all : length w ≡ length old
  length_all = ap length is_all ∙ long_all

  count_all : count_of w ≡ 0
  count_all = ap (λ l. get_or l 3 0) is_all ∙ count-laid (length old) room text bytes rest long_all enough may fits

  current_all : get_or w version_address 0 ≡ version
  current_all = ap (λ l. get_or l version_address 0) is_all ∙ current-laid (length old) room text bytes rest long_all enough may fits

  pub good_all : IsGoodLog w
  good_all = subst IsGoodLog (sym is_all) (good-laid (length old) room text bytes rest long_all enough may fits)

  recovered_all : recovered_of w ≡ plain_of w
  recovered_all = recovered_plain w count_all

  -- nothing is migrated
  pub moved_all : migrated 3 (recovered_of w) ≡ recovered_of w
  moved_all =
      ap (λ ws. with_words (recovered_of w) (take 3 ws)) (migration-recovered w good_all
      ∙ ap (λ (v : ℕ). if v == first_version then (capacity_address, front_capacity) ∷ (journal_address, log_start) ∷ (version_address, version) ∷ [] else [])
      current_all)

  pub laid_all : IsWellFormed (recovered_of w)
  laid_all = subst IsWellFormed (sym recovered_all) (subst (λ l. IsWellFormed (plain_of l)) (sym is_all)
      (IsLaid-laid (length old) room text bytes rest long_all enough may fits))

  pub limit_all : limit_of w ≡ heap_end (length old) room.capacity
  limit_all = ap limit_of is_all ∙ limit-laid (length old) room text bytes rest long_all enough may fits

  heap_all : heap_of (recovered_of w) ≡ unsealed_heap (length old) room text
  heap_all = ap heap_of recovered_all ∙ ap (λ l. heap_of (plain_of l)) is_all ∙ heap_of-laid (length old) room text bytes rest long_all enough may fits

  pub view_all : (p : ℕ) (r : Refusals) → heap_view (recovered_journal w p r) (heap_end (length old) room.capacity) ≡ unsealed_view (length old) room text p r
  view_all p r =
      let none : touched_of w ≡ [] = touched_none w count_all in
      let still : migration w ≡ [] = ap (λ (v : ℕ). if v == first_version then (capacity_address, front_capacity) ∷ (journal_address, log_start)
      ∷ (version_address, version) ∷ [] else []) current_all in
      let passed : saturating_count p ((if length (touched_of w) == 0 then 0 else length (touched_of w) + 1) + length (migration w)) ≡ p =
      (λ i. saturating_count p ((if length (none i) == 0 then 0 else length (none i) + 1) + length (still i))) ∙ (omega arith) in
      let heap : heap_of (migrated 3 (recovered_of w)) ≡ unsealed_heap (length old) room text = ap heap_of moved_all ∙ heap_all in
      λ i. record { now = heap i; durable = heap i; begun = false; touched = []; down = false; passed = passed i; refusals = r; size = heap_end (length old) room.capacity }

  -- what an opening leaves of these words is these words
  pub part_after : (new : List ℕ) (n : ℕ) → new ≡ with_words w (take n (opening_writes w)) → IsPartlyWritten room text old new
  part_after new n e = (first_free (length text), omega arith, e ∙ stopped_none w n count_all current_all ∙ is)
