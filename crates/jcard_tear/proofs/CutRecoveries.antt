-- What recoveries leave that are cut one after the other: what one leaves that is cut after as many writes as one of them.
use Rattle.std.proofs.Common.{◌≡◌, ◌≢◌, ◌⊎◌, ◌∙◌, ◌<◌, ◌≤◌, ℕ, zero, suc, ◌+◌, max, true, List, [], ◌∷◌, length, take, set, get_or, refl, sym, ap, ap₂}
use Rattle.std.proofs.Common.{arith, subst, get_or-set_other, get_or-set_same, false, inl, inr, slice_index, ⊎_elim}
use Rattle.std.proofs.Math.Nat.{suc-max-suc}
use Rattle.std.proofs.lemmas.List.{length-set, set-get_or}
use Rattle.std.proofs.lemmas.Bool.{cases_lt, false≢true}
use Rattle.std.specs.Prelude.{All, Bool, IsTrue, MatchBool, MatchOption, Option, Some, None, ◌↔◌}
use Rattle.jc_words.specs.Image.{log_of}
use Rattle.jc_words.specs.Layout.{addresses_start, capacity_address, count_address, deselect_end_address, journal_address, top_address, version_address}
use Rattle.jc_words.specs.declared.log.Log.{Log}
use Rattle.jc_commit.specs.Image.{IsGoodLog, IsPlace, address_at, count_of, is_log, limit_of, old_at, with_words}
use Rattle.jc_commit.specs.Replay.{after_replays, replay_writes, torn_replay, write_backs}
use Rattle.jc_commit.proofs.Parts.{SameLog, address_same, old_same, replay_none, same_log-set, so_many_writes, stopped_before}
use Rattle.jc_commit.proofs.TornWrites.{stops}
use Rattle.jc_commit.proofs.Words.{bounds_of, is_log-readable, log-same, readable}
use Rattle.jcard_outcomes.specs.declared.standing.Left.{Left}
use Rattle.jcard_tear.specs.Recoveries.{AreCutAfter, AreTheSame, ComesToAnother, ComesToTheSame, IsFirstDifference, IsSameLeft, MakeNoDifference, NamesEachOnce}
use Rattle.jcard_sweeps.specs.Runs.{IsLeft}

-- ---- writes that are made again

none : (n : ℕ) (w : List ℕ) → with_words w (take n []) ≡ w
none zero w = refl
none (suc n) w = refl

length-with : (l : Log) (log w : List ℕ) (k n : ℕ) → length (with_words w (take n (write_backs l log k))) ≡ length w
length-with l log w zero n = ap (λ (u : List ℕ). length u) (none n w)
length-with l log w (suc k) zero = refl
length-with l log w (suc k) (suc n) =
    length-with l log (set w (address_at l log k) (old_at l log k)) k n ∙ length-set w (address_at l log k) (old_at l log k)

-- a word stays that none of the first k entries names
kept : (l : Log) (log w : List ℕ) (k n a : ℕ) → ((j : ℕ) → j < k → address_at l log j ≢ a)
    → get_or (with_words w (take n (write_backs l log k))) a 0 ≡ get_or w a 0
kept l log w zero n a other = ap (λ (u : List ℕ). get_or u a 0) (none n w)
kept l log w (suc k) zero a other = refl
kept l log w (suc k) (suc n) a other =
    kept l log (set w (address_at l log k) (old_at l log k)) k n a (λ j h. other j (omega arith))
    ∙ get_or-set_other w (address_at l log k) a (old_at l log k) 0 (λ e. other k (omega arith) (sym e))

-- old values are written back, some of them again
again : (l : Log) (log w : List ℕ) (k n m : ℕ) → ((j : ℕ) → j < k → address_at l log j < length w)
    → ((i j : ℕ) → i < j → j < k → address_at l log i ≢ address_at l log j)
    → with_words (with_words w (take n (write_backs l log k))) (take m (write_backs l log k)) ≡ with_words w (take (max n m) (write_backs l log k))
again l log w zero n m within once =
    none m (with_words w (take n [])) ∙ none n w ∙ sym (none (max n m) w)
again l log w (suc k) zero m within once =
    let whole : m ≡ max 0 m = omega arith in
    ap (λ (i : ℕ). with_words w (take i (write_backs l log (suc k)))) whole
again l log w (suc k) (suc n) zero within once =
    let whole : suc n ≡ max (suc n) 0 = omega arith in
    ap (λ (i : ℕ). with_words w (take i (write_backs l log (suc k)))) whole
again l log w (suc k) (suc n) (suc m) within once =
    let a : ℕ = address_at l log k in
    let v : ℕ = old_at l log k in
    let first : List ℕ = set w a v in
    let some : List ℕ = with_words first (take n (write_backs l log k)) in
    let there : get_or some a 0 ≡ v = kept l log first k n a (λ j h. once j k h (omega arith)) ∙ get_or-set_same w a v 0 (within k (omega arith)) in
    let same : set some a v ≡ some = ap (λ (x : ℕ). set some a x) (sym there) ∙ set-get_or some a 0 in
    let long : length first ≡ length w = length-set w a v in
    ap (λ (u : List ℕ). with_words u (take m (write_backs l log k))) same
    ∙ again l log first k n m (λ j h. subst (λ (i : ℕ). address_at l log j < i) (sym long) (within j (omega arith)))
    (λ i j h below. once i j h (omega arith))
    ∙ ap (λ (i : ℕ). with_words w (take i (write_backs l log (suc k)))) (sym (suc-max-suc n m))

-- ---- the entries stay

same_log : (l : Log) (w u : List ℕ) (k n : ℕ) → ((j : ℕ) → j < k → is_log l (address_at l w j) ≡ false) → SameLog l w u
    → SameLog l w (with_words u (take n (write_backs l w k)))
same_log l w u zero n apart same = subst (λ (v : List ℕ). SameLog l w v) (sym (none n u)) same
same_log l w u (suc k) zero apart same = same
same_log l w u (suc k) (suc n) apart same =
    let a : ℕ = address_at l w k in
    same_log l w (set u a (old_at l w k)) k n (λ j h. apart j (omega arith))
    (same_log-set l w u (set u a (old_at l w k)) a (old_at l w k) (apart k (omega arith)) refl same)

same_entries : (l : Log) (w v : List ℕ) (k : ℕ) → k ≤ l.capacity → SameLog l w v → write_backs l v k ≡ write_backs l w k
same_entries l w v zero few same = refl
same_entries l w v (suc k) few same =
    let address : address_at l v k ≡ address_at l w k = address_same l w v k (omega arith) same in
    let old : old_at l v k ≡ old_at l w k = old_same l w v k (omega arith) same in
    let rest : write_backs l v k ≡ write_backs l w k = same_entries l w v k (omega arith) same in
    cc

-- ---- a recovery that is cut

-- a recovery that writes has entries
some_entry : (w : List ℕ) (n : ℕ) → n < length (replay_writes w) → count_of w ≡ 0 → ⊥
some_entry w n h empty =
    let long : length (replay_writes w) ≡ 0 = ap (λ (ws : List (ℕ × ℕ)). length ws) (replay_none w empty) in
    absurd (omega (arith, long, h))

-- no entry names a word of the front that is not the heap's
unnamed : (n b a : ℕ) → IsPlace n b → (a < top_address) ⊎ ((deselect_end_address < a) × (a < addresses_start)) → b ≡ a → ⊥
unnamed n b a place (inl low) same = let above = place.above in absurd (omega arith)
unnamed n b a place (inr front) same =
    let behind : deselect_end_address < b = subst (λ (i : ℕ). deselect_end_address < i) (sym same) front.0 in
    let far = place.beside behind in
    let near = front.1 in
    absurd (omega arith)

-- what is known of words in which a recovery is cut
record IsCut (w : List ℕ) (n : ℕ) (v : List ℕ) : Type 0 where
  words : v ≡ with_words w (take n (write_backs (log_of w) w (count_of w)))
  within : n ≤ count_of w
  place : log_of v ≡ log_of w
  log : SameLog (log_of w) w v
  count : count_of v ≡ count_of w
  writes : length (replay_writes v) ≡ length (replay_writes w)
  good : IsGoodLog v
  once : NamesEachOnce v

is_cut : (w : List ℕ) (n : ℕ) → IsGoodLog w → NamesEachOnce w → n < length (replay_writes w) → IsCut w n (torn_replay n w)
is_cut w n good once h =
    let l : Log = log_of w in
    let c : ℕ = count_of w in
    let v : List ℕ = torn_replay n w in
    let some = some_entry w n h in
    let many : length (replay_writes w) ≡ c + 1 = so_many_writes w some in
    let within : n ≤ c = omega (arith, many, h) in
    let partly : List ℕ = with_words w (take n (write_backs l w c)) in
    let words : v ≡ partly = sym (stopped_before w partly n some within refl) in
    let log : SameLog l w v = subst (λ (u : List ℕ). SameLog l w u) (sym words)
    (same_log l w w c n (λ j below. is_log-readable w (address_at l w j) good (readable (limit_of w) (address_at l w j) (good.places j below))) (λ j own. refl)) in
    let stays : (a : ℕ) → (a < top_address) ⊎ ((deselect_end_address < a) × (a < addresses_start)) → slice_index v a ≡ slice_index w a =
    λ a front. ap (λ (u : List ℕ). slice_index u a) words ∙ kept l w w c n a (λ j below named. unnamed (limit_of w) (address_at l w j) a (good.places j below) front named) in
    let place : log_of v ≡ l = log-same w v (stays version_address (inl (omega arith))) (stays capacity_address (inr (omega arith, omega arith)))
    (stays journal_address (inr (omega arith, omega arith))) in
    let count : count_of v ≡ c = log count_address refl in
    let few = good.few in
    let some_left : count_of v ≡ 0 → ⊥ = λ e. some (sym count ∙ e) in
    let many_left : length (replay_writes v) ≡ count_of v + 1 = so_many_writes v some_left in
    record {
      words = words;
      within = within;
      place = place;
      log = log;
      count = count;
      writes = omega (arith, many, many_left, count);
      good = (stops n w good).good;
      once = λ j k below counts e.
          let named : address_at l v j ≡ address_at l v k = subst (λ (i : Log). address_at i v j ≡ address_at i v k) place e in
          once j k below (omega (arith, count, counts))
          (sym (address_same l w v j (omega (arith, few, count, counts, below)) log) ∙ named
          ∙ address_same l w v k (omega (arith, few, count, counts)) log);
    }

-- a second one comes to what one leaves that is cut after the greater of both numbers
cut_twice : (w : List ℕ) (n m : ℕ) → IsGoodLog w → NamesEachOnce w → n < length (replay_writes w) → m < length (replay_writes w)
    → torn_replay m (torn_replay n w) ≡ torn_replay (max n m) w
cut_twice w n m good once h below =
    let some = some_entry w n h in
    let l : Log = log_of w in
    let c : ℕ = count_of w in
    let v : List ℕ = torn_replay n w in
    let first = is_cut w n good once h in
    let many : length (replay_writes w) ≡ c + 1 = so_many_writes w some in
    let few = good.few in
    let second = is_cut v m first.good first.once (omega (arith, below, first.writes)) in
    let entries : write_backs (log_of v) v (count_of v) ≡ write_backs l w c =
    ap₂ (λ (i : Log) (k : ℕ). write_backs i v k) first.place first.count ∙ same_entries l w v c few first.log in
    let within : max n m ≤ c = omega (arith, first.within, below, many) in
    let limit = (bounds_of w good).limit in
    second.words
    ∙ ap (λ (ws : List (ℕ × ℕ)). with_words v (take m ws)) entries
    ∙ ap (λ (u : List ℕ). with_words u (take m (write_backs l w c))) first.words
    ∙ again l w w c n m (λ j h. let place = (good.places j h).below in omega (arith, place, limit)) (λ i j h below. once i j h below)
    ∙ stopped_before w (with_words w (take (max n m) (write_backs l w c))) (max n m) some within refl

-- recoveries that are cut leave what one leaves that is cut after as many writes as one of them, n
pub record LeaveAsOne (w : List ℕ) (cuts : List ℕ) (n : ℕ) : Type 0 where
  pub within : n < length (replay_writes w)
  pub words : after_replays cuts w ≡ torn_replay n w
  pub one : (bound : ℕ) → All (λ m. m < bound) cuts → n < bound

pub leave_as_one : (w : List ℕ) (n : ℕ) (more : List ℕ) → IsGoodLog w → NamesEachOnce w → AreCutAfter w (n ∷ more) → (m : ℕ) × LeaveAsOne w (n ∷ more) m
unfolding AreCutAfter
leave_as_one w n [] good once cut = (n, record { within = cut.0; words = refl; one = λ bound all. all 0 0 (omega arith) })
leave_as_one w n (next ∷ more) good once cut =
    let v : List ℕ = torn_replay n w in
    let first = is_cut w n good once cut.0 in
    let rest = leave_as_one v next more first.good first.once cut.1 in
    let m : ℕ = rest.0 in
    let below : m < length (replay_writes w) = omega (arith, rest.1.within, first.writes) in (
      max n m,
      record {
        within = omega (arith, below, cut.0);
        words = rest.1.words ∙ cut_twice w n m good once cut.0 below;
        one = λ bound all.
            let here : n < bound = all 0 0 (omega arith) in
            let there : m < bound = rest.1.one bound (λ k d h. all (suc k) d (omega (arith, h))) in
            omega (arith, here, there);
      },
    )

-- ---- what comes of them

-- a recovery comes to the same after others that are cut, where it does after each one that is cut as early as those
come_to_the_same : (budget : ℕ) (words probe : List ℕ) (left : Left) (bound : ℕ) (stops : List ℕ) → (0 < length (replay_writes words) → IsGoodLog words)
    → NamesEachOnce words → IsLeft budget words probe left → AreTheSame budget words probe left bound → AreCutAfter words stops
    → ((m : ℕ) → LeaveAsOne words stops m → m < bound) → ComesToTheSame budget (after_replays stops words) probe left
unfolding AreCutAfter
come_to_the_same budget words probe left bound [] good once is same cut below = (left, is, (refl, refl))
come_to_the_same budget words probe left bound (n ∷ more) good once is same cut below =
    let h : n < length (replay_writes words) = cut.0 in
    let one = leave_as_one words n more (good (omega (arith, h))) once cut in
    subst (λ (w : List ℕ). ComesToTheSame budget w probe left) (sym one.1.words) (same one.0 (below one.0 one.1))

-- so it is however many are cut, if it is with one
pub recoveries_told : (budget : ℕ) (words probe : List ℕ) (left : Left) (writes depth : ℕ) (found : Option ℕ) → writes ≡ length (replay_writes words)
    → (0 < writes → IsGoodLog words) → NamesEachOnce words → IsLeft budget words probe left
    → MatchOption found (AreTheSame budget words probe left writes)
    (λ n. (n < writes) × ComesToAnother budget (torn_replay n words) probe left × AreTheSame budget words probe left n)
    → MatchOption found (MakeNoDifference depth budget words probe left) (λ n. IsFirstDifference depth budget words probe left n)
recoveries_told budget words probe left writes depth None many good once is same = λ stops long cut.
    come_to_the_same budget words probe left writes stops (λ h. good (omega (arith, many, h))) once is same cut (λ m one. omega (arith, many, one.within))
recoveries_told budget words probe left writes depth (Some n) many good once is found = record {
  cut = omega (arith, many, found.0);
  other = found.1;
  earlier = λ stops long cut all. come_to_the_same budget words probe left n stops (λ h. good (omega (arith, many, h))) once is found.2 cut
      (λ m one. one.one n all);
}

-- none is cut, and one that is whole comes to what is left
pub none_cut : (budget : ℕ) (words probe : List ℕ) (left : Left) → IsLeft budget words probe left → MakeNoDifference 0 budget words probe left
none_cut budget words probe left is [] long cut = (left, is, (refl, refl))
none_cut budget words probe left is (n ∷ more) long cut = absurd (omega (arith, long))

-- what is compared with what is left
pub compared : (b : Bool) (budget : ℕ) (words probe : List ℕ) (left found : Left) → IsTrue b ↔ IsSameLeft left found → IsLeft budget words probe found
    → MatchBool b (ComesToTheSame budget words probe left) (ComesToAnother budget words probe left)
compared true budget words probe left found same is = (found, is, same.0 refl)
compared false budget words probe left found same is = (found, is, λ e. absurd (false≢true (same.1 e)))

-- after one more number of writes it is the same
pub same_more : (budget : ℕ) (words probe : List ℕ) (left : Left) (n : ℕ) → AreTheSame budget words probe left n → ComesToTheSame budget (torn_replay n words) probe left
    → AreTheSame budget words probe left (n + 1)
same_more budget words probe left n same here m below =
    ⊎_elim (λ before. same m before)
    (λ behind. let is : n ≡ m = omega (arith, below, behind) in subst (λ (i : ℕ). ComesToTheSame budget (torn_replay i words) probe left) is here)
    (cases_lt m n)

-- how many writes a recovery makes that has entries
pub writes_of_some : (words : List ℕ) (n : ℕ) → n ≡ count_of words → (n ≡ 0 → ⊥) → n + 1 ≡ length (replay_writes words)
writes_of_some words n is some =
    let many : length (replay_writes words) ≡ count_of words + 1 = so_many_writes words (λ e. some (is ∙ e)) in
    omega (arith, many, is)
