-- What the writes of a migration do to what the words stand for.
use Rattle.std.specs.Prelude.{if◌then◌else◌, ◌==◌, ◌||◌, ◌&&◌, nat_le, nat_lt, Bool, true, false}
use Rattle.std.specs.List.{range_with_len}
use Rattle.std.proofs.Common.{◌≡◌, ◌≢◌, ◌<◌, ◌≤◌, ℕ, zero, suc, ◌+◌, ◌*◌, List, [], ◌∷◌, Option, length, map, take, set, slice_index, refl, sym, ap, ◌∙◌, subst}
use Rattle.std.proofs.Common.{arith, inl, inr, unwrap_or, get_or-set_other, get_or-set_same, eq-eqb}
use Rattle.std.proofs.lemmas.List.{length-set}
use Rattle.std.proofs.lemmas.Bool.{cases_Bool, eqb-true, false≢true}
use Rattle.jc_words.specs.Layout.{first_version, version, version_address, size_address, count_address, capacity_address, journal_address, front_capacity}
use Rattle.jc_words.specs.Layout.{log_start}
use Rattle.jc_words.specs.Image.{log_of, heap_end, IsVersion}
use Rattle.jc_words.specs.declared.log.Log.{Log}
use Rattle.jc_commit.specs.Image.{count_of, capacity_of, limit_of, address_at, entries, entries_from, old_value, plain_of, recovered_of, with_words, words_by, IsPlace, IsGoodLog}
use Rattle.jc_commit.specs.Migration.{migration, migrated}
use Rattle.jc_commit.proofs.Words.{bounds_of, log_told, entries_in, words_by-set}
use Rattle.jc_commit.proofs.Steps.{good_by, entries-set_beside, recovered_at}
use Rattle.jc_commit.proofs.InPlace.{IsFront, front_beside, front_unnamed, plain_front, recovered_front, front_version, front_capacity_word, front_journal}
use Rattle.jc_commit.proofs.TornWrites.{ended}

-- a word of the front is written, and the journal stays where it was
record FrontSet (w : List ℕ) (a x : ℕ) (v : List ℕ) : Type 0 where
  good : IsGoodLog v
  size : length v ≡ length w
  start : (log_of v).start ≡ (log_of w).start
  capacity : capacity_of v ≡ capacity_of w
  count : count_of v ≡ count_of w
  plain : plain_of v ≡ set (plain_of w) a x
  recovered : recovered_of v ≡ set (recovered_of w) a x

-- what the words are, and what a recovery leaves of them, by the journal's place alone
abbrev words_in : ℕ → ℕ → ℕ → (ℕ → ℕ) → List ℕ
words_in start capacity n f = map (λ a. if a == count_address || (nat_le start a && nat_lt a (start + 2 * capacity)) then 0 else f a) (range_with_len 0 n)

abbrev recovered_in : ℕ → List ℕ → ℕ → ℕ
recovered_in start v a = unwrap_or (old_value (map (λ j. (slice_index v (start + 2 * j), slice_index v (start + 2 * j + 1)))
    (range_with_len 0 (count_of v))) a) (slice_index v a)

front_set : (w : List ℕ) (a x : ℕ) → IsGoodLog w → IsFront a → a ≢ size_address → (log_of (set w a x)).start ≡ (log_of w).start
    → capacity_of (set w a x) ≡ capacity_of w
    → IsVersion (slice_index (set w a x) version_address) → FrontSet w a x (set w a x)
unfolding plain_of recovered_of words_by
front_set w a x good front other start capacity known =
    let few = good.few in
    let big = good.size.enough in
    let low = (bounds_of w good).low in
    let below = front.below in
    let within : a < length w = omega arith in
    let room = (bounds_of w good).room in
    let inside : a < limit_of w = omega arith in
    let limit : limit_of (set w a x) ≡ limit_of w = λ i. heap_end (length-set w a x i) (capacity i) in
    let beside = front_beside w a good front in
    let count : count_of (set w a x) ≡ count_of w = get_or-set_other w a count_address x 0 (λ e. front.not_count (sym e)) in
    let same : entries_in (log_of w) (set w a x) ≡ entries w =
    ap (λ (n : ℕ). entries_from (log_of w) (set w a x) 0 n) count ∙ entries-set_beside (log_of w) w 0 (count_of w) a x (omega arith) (λ h. absurd (omega arith)) in
    record {
      good = good_by w (set w a x) good (length-set w a x) start capacity known (get_or-set_other w a size_address x 0 (λ e. other (sym e))) (omega arith)
          (λ k lt.
          let address : address_at (log_of w) (set w a x) k ≡ address_at (log_of w) w k =
          get_or-set_other w a ((log_of w).start + 2 * k) x 0 (λ e. absurd (omega arith)) in
          subst (λ (b : ℕ). IsPlace (limit_of w) b) (sym address) (good.places k (omega arith)));
      size = length-set w a x;
      start = start;
      capacity = capacity;
      count = count;
      plain = (λ i. words_in (start i) (capacity i) (limit i) (λ b. slice_index (set w a x) b))
          ∙ words_by-set (log_of w) (limit_of w) (λ b. slice_index w b) (λ b. slice_index (set w a x) b) a x inside beside
          (get_or-set_same w a x 0 within) (λ b off. get_or-set_other w a b x 0 off);
      recovered = (λ i. words_in (start i) (capacity i) (limit i) (recovered_in (start i) (set w a x)))
          ∙ words_by-set (log_of w) (limit_of w) (recovered_at (log_of w) w) (recovered_at (log_of w) (set w a x)) a x inside beside
          (ap (λ (es : List (ℕ × ℕ)). unwrap_or (old_value es a) (slice_index (set w a x) a)) same
          ∙ ap (λ (o : Option ℕ). unwrap_or o (slice_index (set w a x) a)) (front_unnamed w a good front) ∙ get_or-set_same w a x 0 within)
          (λ b off. ap (λ (es : List (ℕ × ℕ)). unwrap_or (old_value es b) (slice_index (set w a x) b)) same
          ∙ ap (λ (v : ℕ). unwrap_or (old_value (entries w) b) v) (get_or-set_other w a b x 0 off));
    }

abbrev pub first_log : Log
first_log = record { version = first_version; start = log_start; capacity = front_capacity }

abbrev pub moved_log : Log
moved_log = record { version = version; start = log_start; capacity = front_capacity }

pub log_first : (w : List ℕ) → slice_index w version_address ≡ first_version → log_of w ≡ first_log
unfolding log_of
log_first w is =
    ap (λ (b : Bool). if b then first_log else record { version = slice_index w version_address; start = slice_index w journal_address; capacity = slice_index w capacity_address })
    (eq-eqb (slice_index w version_address) first_version is)

pub log_second : (w : List ℕ) → slice_index w version_address ≡ version → slice_index w capacity_address ≡ front_capacity
    → slice_index w journal_address ≡ log_start → log_of w ≡ moved_log
log_second w is capacity start = log_told w is ∙ (λ i. record { version = version; start = start i; capacity = capacity i })

-- the writes, where there are some
abbrev pub steps : Bool → List (ℕ × ℕ)
steps b = if b then (capacity_address, front_capacity) ∷ (journal_address, log_start) ∷ (version_address, version) ∷ [] else []

-- the words after some of them
record MigratedBy (b : Bool) (w : List ℕ) (n : ℕ) (v : List ℕ) : Type 0 where
  good : IsGoodLog v
  size : length v ≡ length w
  limit : limit_of v ≡ limit_of w
  count : count_of v ≡ count_of w
  plain : plain_of v ≡ with_words (plain_of w) (take n (steps b))
  recovered : recovered_of v ≡ with_words (recovered_of w) (take n (steps b))

module _ (w : List ℕ) (good : IsGoodLog w) (is : slice_index w version_address ≡ first_version) where
  abbrev one : List ℕ
  one = set w capacity_address front_capacity

  abbrev two : List ℕ
  two = set one journal_address log_start

  abbrev three : List ℕ
  three = set two version_address version

  big : 4096 ≤ length w
  big = good.size.enough

  one-version : slice_index one version_address ≡ first_version
  one-version = get_or-set_other w capacity_address version_address front_capacity 0 (λ e. absurd (omega arith)) ∙ is

  two-version : slice_index two version_address ≡ first_version
  two-version = get_or-set_other one journal_address version_address log_start 0 (λ e. absurd (omega arith)) ∙ one-version

  three-version : slice_index three version_address ≡ version
  three-version = get_or-set_same two version_address version 0 (omega (arith, big, length-set one journal_address log_start, length-set w capacity_address front_capacity))

  log-one : log_of one ≡ log_of w
  log-one = log_first one one-version ∙ sym (log_first w is)

  limit-one : limit_of one ≡ limit_of w
  limit-one = λ i. heap_end (length-set w capacity_address front_capacity i) (ap (λ (l : Log). l.capacity) log-one i)

  log-two : log_of two ≡ log_of one
  log-two = log_first two two-version ∙ sym (log_first one one-version)

  log-three : log_of three ≡ moved_log
  log-three =
      log_second three three-version
      (get_or-set_other two version_address capacity_address version 0 (λ e. absurd (omega arith))
      ∙ get_or-set_other one journal_address capacity_address log_start 0 (λ e. absurd (omega arith))
      ∙ get_or-set_same w capacity_address front_capacity 0 (omega (arith, big)))
      (get_or-set_other two version_address journal_address version 0 (λ e. absurd (omega arith))
      ∙ get_or-set_same one journal_address log_start 0 (omega (arith, big, length-set w capacity_address front_capacity)))

  limit-two : limit_of two ≡ limit_of w
  limit-two = (λ i. heap_end (length-set one journal_address log_start i) (ap (λ (l : Log). l.capacity) log-two i)) ∙ limit-one

  limit-three : limit_of three ≡ limit_of w
  limit-three = (λ i. heap_end (length-set two version_address version i) ((ap (λ (l : Log). l.capacity) log-three
      ∙ sym (ap (λ (l : Log). l.capacity) (log_first two two-version))) i)) ∙ limit-two

  known-first : (x : ℕ) → x ≡ first_version → IsVersion x
  known-first x e = (omega (arith, e), omega (arith, e))

  known-now : (x : ℕ) → x ≡ version → IsVersion x
  known-now x e = (omega (arith, e), omega (arith, e))

  set-one : FrontSet w capacity_address front_capacity one
  set-one = front_set w capacity_address front_capacity good front_capacity_word (λ e. absurd (omega arith)) (ap (λ (l : Log). l.start) log-one)
      (ap (λ (l : Log). l.capacity) log-one) (known-first _ one-version)

  set-two : FrontSet one journal_address log_start two
  set-two = front_set one journal_address log_start set-one.good front_journal (λ e. absurd (omega arith)) (ap (λ (l : Log). l.start) log-two)
      (ap (λ (l : Log). l.capacity) log-two) (known-first _ two-version)

  set-three : FrontSet two version_address version three
  set-three = front_set two version_address version set-two.good front_version (λ e. absurd (omega arith))
      (ap (λ (l : Log). l.start) log-three ∙ sym (ap (λ (l : Log). l.start) (log_first two two-version)))
      (ap (λ (l : Log). l.capacity) log-three ∙ sym (ap (λ (l : Log). l.capacity) (log_first two two-version))) (known-now _ three-version)

  abbrev after : ℕ → List ℕ → List ℕ
  after n u = with_words u (take n (steps true))

  migrates_first : (n : ℕ) → MigratedBy true w n (after n w)
  migrates_first zero = record { good = good; size = refl; limit = refl; count = refl; plain = refl; recovered = refl }
  migrates_first (suc zero) = record {
    good = set-one.good;
    size = set-one.size;
    limit = limit-one;
    count = set-one.count;
    plain = set-one.plain;
    recovered = set-one.recovered;
  }
  migrates_first (suc (suc zero)) = record {
    good = set-two.good;
    size = set-two.size ∙ set-one.size;
    limit = limit-two;
    count = set-two.count ∙ set-one.count;
    plain = set-two.plain ∙ ap (λ (u : List ℕ). set u journal_address log_start) set-one.plain;
    recovered = set-two.recovered ∙ ap (λ (u : List ℕ). set u journal_address log_start) set-one.recovered;
  }
  migrates_first (suc (suc (suc n))) =
      subst (λ (u : List ℕ). MigratedBy true w (suc (suc (suc n))) u) (sym (ended n three)) (record {
        good = set-three.good;
        size = set-three.size ∙ set-two.size ∙ set-one.size;
        limit = limit-three;
        count = set-three.count ∙ set-two.count ∙ set-one.count;
        plain = set-three.plain ∙ ap (λ (u : List ℕ). set u version_address version) (set-two.plain
            ∙ ap (λ (u : List ℕ). set u journal_address log_start) set-one.plain)
            ∙ sym (ended n (set (set (set (plain_of w) capacity_address front_capacity) journal_address log_start) version_address version));
        recovered = set-three.recovered ∙ ap (λ (u : List ℕ). set u version_address version) (set-two.recovered
            ∙ ap (λ (u : List ℕ). set u journal_address log_start) set-one.recovered)
            ∙ sym (ended n (set (set (set (recovered_of w) capacity_address front_capacity) journal_address log_start) version_address version));
      })

migrates_by : (w : List ℕ) (b : Bool) (n : ℕ) → IsGoodLog w → (slice_index w version_address == first_version) ≡ b
    → MigratedBy b w n (with_words w (take n (steps b)))
migrates_by w true n good is = migrates_first w good (eqb-true (slice_index w version_address) first_version is) n
migrates_by w false n good is =
    subst (λ (u : List ℕ). MigratedBy false w n u) (sym (ended n w)) (record {
      good = good;
      size = refl;
      limit = refl;
      count = refl;
      plain = sym (ended n (plain_of w));
      recovered = sym (ended n (recovered_of w));
    })

-- the words after some of the writes of a migration stand for what they stood for, and the words that a recovery leaves are migrated as
-- far
pub record Migrated (w : List ℕ) (n : ℕ) (v : List ℕ) : Type 0 where
  pub good : IsGoodLog v
  pub size : length v ≡ length w
  pub limit : limit_of v ≡ limit_of w
  pub count : count_of v ≡ count_of w
  pub plain : plain_of v ≡ migrated n (plain_of w)
  pub recovered : recovered_of v ≡ migrated n (recovered_of w)

pub migration-plain : (w : List ℕ) → IsGoodLog w → migration (plain_of w) ≡ migration w
migration-plain w good = ap (λ (x : ℕ). steps (x == first_version)) (plain_front w version_address good front_version)

pub migration-recovered : (w : List ℕ) → IsGoodLog w → migration (recovered_of w) ≡ migration w
migration-recovered w good = ap (λ (x : ℕ). steps (x == first_version)) (recovered_front w version_address good front_version)

pub migrates : (w : List ℕ) (n : ℕ) → IsGoodLog w → Migrated w n (migrated n w)
migrates w n good =
    let m = migrates_by w (slice_index w version_address == first_version) n good refl in
    record {
      good = m.good;
      size = m.size;
      limit = m.limit;
      count = m.count;
      plain = m.plain ∙ ap (λ (ws : List (ℕ × ℕ)). with_words (plain_of w) (take n ws)) (sym (migration-plain w good));
      recovered = m.recovered ∙ ap (λ (ws : List (ℕ × ℕ)). with_words (recovered_of w) (take n ws)) (sym (migration-recovered w good));
    }

-- that number of writes is there
pub few_writes : (b : Bool) → length (steps b) ≤ 3
few_writes true = omega arith
few_writes false = omega arith

-- and in the end the version is the one that is written
pub version-migrated : (w : List ℕ) → IsGoodLog w → slice_index (migrated 3 w) version_address ≡ version
version-migrated w good = elim (cases_Bool (slice_index w version_address == first_version)) [
  | inl is ↦ ap (λ (b : Bool). slice_index (with_words w (take 3 (steps b))) version_address) is
      ∙ three-version w good (eqb-true (slice_index w version_address) first_version is)
  | inr other ↦ ap (λ (b : Bool). slice_index (with_words w (take 3 (steps b))) version_address) other
      ∙ (let known = good.known in let ne : slice_index w version_address ≢ first_version = λ e. false≢true (sym other ∙ eq-eqb (slice_index w version_address) first_version e) in
      omega (arith, known.0, known.1, ne))
]
