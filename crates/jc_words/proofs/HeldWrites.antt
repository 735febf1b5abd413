-- Writes that a store over a file holds back.
use Rattle.std.proofs.Common.{◌≡◌, ℕ, suc, ◌+◌, ◌*◌, ◌/◌, ◌%◌, ◌<◌, ◌≤◌, ◌⊎◌, Bool, true, false, List, [], ◌∷◌, length, set, get_or, slice_index, refl, sym, ◌∙◌, ap, subst, arith, ⊎_elim, length-set, get_or-set_other, get_or-set_same}
use Rattle.std.proofs.lemmas.List.{set-set, set_comm, set-get_or}
use Rattle.std.proofs.lemmas.Bool.{and_parts, cases_eq, eq-eqb, eqb-true, false≢true}
use Rattle.std.proofs.lemmas.Option.{cond_some, none-some}
use Rattle.std.specs.Prelude.{Option, None, Some, Result, Ok, Err, is_ok, is_err, IfSome, ◌==◌, ◌&&◌, not}
use Rattle.jc_words.specs.File.{AreWordsOf, SameBeside, with_word, PutsWord}
use Rattle.jc_words.specs.WordPairs.{PutsPair}
use Rattle.jc_words.specs.WordRuns.{PutsRun, with_run, bytes_with_run}
use Rattle.jc_words.specs.HeldWrites.{SameBesideBoth, PutsBoth, Settles, SettlesThen, HandsAt, HandsOver, HoldsAfter, IsHeld, IsInStep, taken_back_at, words_in_file}
use Rattle.jc_words.specs.declared.held_writes.HeldWrites.{HeldWrites}

length-with_word : (i v : ℕ) (bytes : List ℕ) → length (with_word i v bytes) ≡ length bytes
length-with_word i v bytes = length-set (set bytes (2 * i) (v / 256)) (2 * i + 1) (v % 256) ∙ length-set bytes (2 * i) (v / 256)

-- bytes beside a word that is set
off_word : (i v m : ℕ) (bytes : List ℕ) → (m ≡ 2 * i → ⊥) → (m ≡ 2 * i + 1 → ⊥) → slice_index (with_word i v bytes) m ≡ slice_index bytes m
off_word i v m bytes high low =
    get_or-set_other (set bytes (2 * i) (v / 256)) (2 * i + 1) m (v % 256) 0 low ∙ get_or-set_other bytes (2 * i) m (v / 256) 0 high

beside_word : (i v k : ℕ) (bytes : List ℕ) → (k < 2 * i ⊎ 2 * i + 1 < k) → slice_index (with_word i v bytes) k ≡ slice_index bytes k
beside_word i v k bytes beside = off_word i v k bytes
    (λ e. ⊎_elim (λ (below : k < 2 * i). omega (arith, below, e)) (λ (above : 2 * i + 1 < k). omega (arith, above, e)) beside)
    (λ e. ⊎_elim (λ (below : k < 2 * i). omega (arith, below, e)) (λ (above : 2 * i + 1 < k). omega (arith, above, e)) beside)

-- the first of two words failed
pub first_failed : {E : Type 0} (i a j b : ℕ) (e : E) (old new : Option (List ℕ)) → PutsWord i a (Err e) old new → PutsBoth i a j b false old new
first_failed i a j b e None new puts = tt
first_failed i a j b e (Some bytes) new puts = λ at_i at_j.
    let left = puts at_i in
    (left.0, left.1, record { size = left.2.size; each = λ k beside other. left.2.each k beside })

-- the first of two words was written, and the second written or not
pub both_put : {E : Type 0} (i a j b : ℕ) (done : Unit {0}) (result : Result Unit E) (old mid new : Option (List ℕ)) → PutsWord {E = E} i a (Ok done) old mid
    → PutsWord j b result mid new → PutsBoth i a j b (is_ok result) old new
both_put i a j b done (Ok all) None mid new first second = tt
both_put i a j b done (Err e) None mid new first second = tt
both_put {E = E} i a j b done (Ok all) (Some bytes) mid new first second = λ at_i at_j.
    let at = subst (λ (m : Option (List ℕ)). PutsWord {E = E} j b (Ok all) m new) (first at_i) second in
    at (subst (λ (n : ℕ). 2 * j + 1 < n) (sym (length-with_word i a bytes)) at_j)
both_put {E = E} i a j b done (Err e) (Some bytes) mid new first second = λ at_i at_j.
    let at = subst (λ (m : Option (List ℕ)). PutsWord {E = E} j b (Err e) m new) (first at_i) second in
    let puts = at (subst (λ (n : ℕ). 2 * j + 1 < n) (sym (length-with_word i a bytes)) at_j) in (
      puts.0,
      puts.1,
      record {
        size = puts.2.size ∙ length-with_word i a bytes;
        each = λ k beside other. puts.2.each k other ∙ beside_word i a k bytes beside;
      },
    )

-- ---- a file in step

-- the bytes of a word that is set
set_here : (i v : ℕ) (bytes words : List ℕ) → AreWordsOf bytes words → i < length words
    → slice_index (set words i v) i ≡ 256 * slice_index (with_word i v bytes) (2 * i) + slice_index (with_word i v bytes) (2 * i + 1)
set_here i v bytes words are within =
    let size = are.size in
    let long = length-set bytes (2 * i) (v / 256) in
    let high : slice_index (with_word i v bytes) (2 * i) ≡ v / 256 =
    get_or-set_other (set bytes (2 * i) (v / 256)) (2 * i + 1) (2 * i) (v % 256) 0 (λ e. omega (arith, e))
    ∙ get_or-set_same bytes (2 * i) (v / 256) 0 (omega (arith, size, within)) in
    let low : slice_index (with_word i v bytes) (2 * i + 1) ≡ v % 256 =
    get_or-set_same (set bytes (2 * i) (v / 256)) (2 * i + 1) (v % 256) 0 (omega (arith, size, within, long)) in
    let is : v ≡ 256 * (v / 256) + v % 256 = omega arith in
    get_or-set_same words i v 0 within ∙ is ∙ (λ t. 256 * sym high t + sym low t)

-- those of another
set_other : (i v k : ℕ) (bytes words : List ℕ) → AreWordsOf bytes words → k < length words → (k ≡ i → ⊥)
    → slice_index (set words i v) k ≡ 256 * slice_index (with_word i v bytes) (2 * k) + slice_index (with_word i v bytes) (2 * k + 1)
set_other i v k bytes words are there other =
    let high : slice_index (with_word i v bytes) (2 * k) ≡ slice_index bytes (2 * k) =
    off_word i v (2 * k) bytes (λ e. other (omega (arith, e))) (λ e. omega (arith, e)) in
    let low : slice_index (with_word i v bytes) (2 * k + 1) ≡ slice_index bytes (2 * k + 1) =
    off_word i v (2 * k + 1) bytes (λ e. omega (arith, e)) (λ e. other (omega (arith, e))) in
    get_or-set_other words i k v 0 other ∙ are.each k there ∙ (λ t. 256 * sym high t + sym low t)

-- a word is written to the bytes and to the words
pub word_put : (i v : ℕ) (bytes words : List ℕ) → AreWordsOf bytes words → i < length words → AreWordsOf (with_word i v bytes) (set words i v)
word_put i v bytes words are within = record {
  size = length-with_word i v bytes ∙ are.size ∙ ap (λ (n : ℕ). 2 * n) (sym (length-set words i v));
  each = λ k below. ⊎_elim
      (λ (same : k ≡ i). subst (λ (n : ℕ). slice_index (set words i v) n ≡ 256 * slice_index (with_word i v bytes) (2 * n) + slice_index (with_word i v bytes) (2 * n + 1))
      (sym same) (set_here i v bytes words are within))
      (λ (other : k ≡ i → ⊥). set_other i v k bytes words are (subst (λ (n : ℕ). k < n) (length-set words i v) below) other)
      (cases_eq k i);
}

pub run_put : (i : ℕ) (run bytes words : List ℕ) → AreWordsOf bytes words → i + length run ≤ length words → AreWordsOf (bytes_with_run i run bytes) (with_run words i run)
run_put i [] bytes words are within = are
run_put i (v ∷ vs) bytes words are within = run_put (suc i) vs (with_word i v bytes) (set words i v) (word_put i v bytes words are (omega (arith, within)))
    (let long = length-set words i v in omega (arith, within, long))

-- where what is held back stands
abbrev pub Within : Option HeldWrites → List ℕ → Type 0
Within held words = IfSome held (λ h. (h.mark < length words) × (h.place < length words))

-- two words that are set to others and back
set_back : (words : List ℕ) (m p a b : ℕ) → set (set (set (set words p a) m b) m (slice_index words m)) p (slice_index words p) ≡ words
set_back words m p a b =
    ap (λ (w : List ℕ). set w p (slice_index words p)) (set-set (set words p a) m b (slice_index words m))
    ∙ ⊎_elim
    (λ (same : m ≡ p).
    ap (λ (n : ℕ). set (set (set words p a) n (slice_index words n)) p (slice_index words p)) same
    ∙ set-set (set words p a) p (slice_index words p) (slice_index words p) ∙ set-set words p a (slice_index words p) ∙ set-get_or words p 0)
    (λ (other : m ≡ p → ⊥).
    ap (λ (w : List ℕ). set w p (slice_index words p)) (set_comm words p m a (slice_index words m) (λ e. other (sym e)))
    ∙ set-set (set words m (slice_index words m)) p a (slice_index words p)
    ∙ ap (λ (w : List ℕ). set w p (slice_index words p)) (set-get_or words m 0) ∙ set-get_or words p 0)
    (cases_eq m p)

-- the same in the other order
set_back_other : (words : List ℕ) (m p a b : ℕ) → set (set (set (set words m a) p b) p (slice_index words p)) m (slice_index words m) ≡ words
set_back_other words m p a b = set_back words p m a b

-- what is held back went to the file
pub settled_in_step : (held : Option HeldWrites) (words : List ℕ) (old new : Option (List ℕ)) → Within held words
    → Settles held words true old new → IsInStep old words held → IsInStep new words None
settled_in_step None words old new within settles is = (is.0, settles.1 ∙ is.1, is.2)
settled_in_step (Some h) words old new within settles is =
    let known = is.0 in
    let are = is.2 in
    let short = set words h.place h.place_before in
    let size : length known ≡ 2 * length words = are.size ∙ ap (λ (n : ℕ). 2 * n) (length-set short h.mark h.mark_before ∙ length-set words h.place h.place_before) in
    let mark = within.0 in
    let place = within.1 in
    let puts = subst (λ (o : Option (List ℕ)). PutsBoth h.mark (slice_index words h.mark) h.place (slice_index words h.place) true o new) is.1 settles in
    let first = word_put h.mark (slice_index words h.mark) known (set short h.mark h.mark_before) are
    (let a = length-set short h.mark h.mark_before in let b = length-set words h.place h.place_before in omega (arith, a, b, mark)) in
    let both = word_put h.place (slice_index words h.place) (with_word h.mark (slice_index words h.mark) known) (set (set short h.mark h.mark_before) h.mark (slice_index words h.mark)) first
    (let c = length-set (set short h.mark h.mark_before) h.mark (slice_index words h.mark) in
    let a = length-set short h.mark h.mark_before in let b = length-set words h.place h.place_before in omega (arith, a, b, c, place)) in (
      with_word h.place (slice_index words h.place) (with_word h.mark (slice_index words h.mark) known),
      puts (omega (arith, size, mark)) (omega (arith, size, place)),
      subst (λ (w : List ℕ). AreWordsOf (with_word h.place (slice_index words h.place) (with_word h.mark (slice_index words h.mark) known)) w)
          (set_back words h.mark h.place h.place_before h.mark_before) both,
    )

-- a word went to a file from which nothing is held back
word_in_step : (E : Type 0) (i v : ℕ) (words : List ℕ) (done : Unit {0}) (old new : Option (List ℕ)) → i < length words → PutsWord {E = E} i v (Ok done) old new
    → IsInStep old words None → IsInStep new (set words i v) None
word_in_step E i v words done old new within puts is =
    let known = is.0 in
    let size = is.2.size in
    let at = subst (λ (o : Option (List ℕ)). PutsWord {E = E} i v (Ok done) o new) is.1 puts in
    (with_word i v known, at (omega (arith, size, within)), word_put i v known words is.2 within)

-- the same of two
pub pair_in_step : (E : Type 0) (i a b : ℕ) (words : List ℕ) (done : Unit {0}) (old new : Option (List ℕ)) → i + 1 < length words → PutsPair {E = E} i a b (Ok done) old new
    → IsInStep old words None → IsInStep new (set (set words i a) (i + 1) b) None
pair_in_step E i a b words done old new within puts is =
    let known = is.0 in
    let size = is.2.size in
    let at = subst (λ (o : Option (List ℕ)). PutsPair {E = E} i a b (Ok done) o new) is.1 puts in (
      with_word (i + 1) b (with_word i a known),
      at (omega (arith, size, within)),
      word_put (i + 1) b (with_word i a known) (set words i a) (word_put i a known words is.2 (omega (arith, within))) (let long = length-set words i a in omega (arith, within, long)),
    )

-- and of a run
pub run_in_step : (E : Type 0) (i : ℕ) (run words : List ℕ) (done : Unit {0}) (old new : Option (List ℕ)) → i + length run ≤ length words → PutsRun {E = E} i run (Ok done) old new
    → IsInStep old words None → IsInStep new (with_run words i run) None
run_in_step E i run words done old new within puts is =
    let known = is.0 in
    let size = is.2.size in
    let at = subst (λ (o : Option (List ℕ)). PutsRun {E = E} i run (Ok done) o new) is.1 puts in
    (bytes_with_run i run known, at (omega (arith, size, within)), run_put i run known words is.2 within)

-- two words more are held back
pub held_in_step : (m p c d : ℕ) (words : List ℕ) (held : Option HeldWrites) (bytes : Option (List ℕ)) → IsHeld words m p held → IsInStep bytes words None
    → IsInStep bytes (set (set words m c) p d) held
held_in_step m p c d words held bytes is step = (
  step.0,
  step.1,
  subst (λ (w : List ℕ). AreWordsOf step.0 w)
      (sym (ap (words_in_file (set (set words m c) p d)) is ∙ set_back_other words m p c d)) step.2,
)

-- what was held back went to the file, and then what keeps it in step
pub then_in_step : (held : Option HeldWrites) (words left : List ℕ) (goes_on : Option (List ℕ) → Option (List ℕ) → Type 0)
    (old new : Option (List ℕ)) → Within held words → ((settled : Option (List ℕ)) → goes_on settled new → IsInStep settled words None → IsInStep new left None)
    → SettlesThen held words goes_on true old new → IsInStep old words held → IsInStep new left None
then_in_step held words left goes_on old new within keeps went is = ⊎_elim
    (λ all. keeps all.0 all.2 (settled_in_step held words old all.0 within all.1 is))
    (λ failed. absurd (false≢true (sym failed.0))) went

-- ---- what a call of the file did

pub holds_none : {E : Type 0} (result : Result Unit E) (old new : Option HeldWrites) → is_err result ≡ false → HoldsAfter result old new → new ≡ None
holds_none (Ok done) old new good holds = holds
holds_none (Err e) old new good holds = absurd (false≢true (sym good))

pub pair_step : {E : Type 0} (held : Option HeldWrites) (words : List ℕ) (i a b : ℕ) (result : Result Unit E) (old new : Option (List ℕ)) → is_err result ≡ false
    → Within held words → i + 1 < length words → SettlesThen held words (PutsPair i a b result) (is_ok result) old new → IsInStep old words held
    → IsInStep new (set (set words i a) (i + 1) b) None
pair_step {E = E} held words i a b (Ok done) old new good within there went is = then_in_step held words (set (set words i a) (i + 1) b) (PutsPair {E = E} i a b (Ok done)) old new within
    (λ settled puts step. pair_in_step E i a b words done settled new there puts step) went is
pair_step held words i a b (Err e) old new good within there went is = absurd (false≢true (sym good))

pub run_step : {E : Type 0} (held : Option HeldWrites) (words : List ℕ) (i : ℕ) (run : List ℕ) (result : Result Unit E) (old new : Option (List ℕ)) → is_err result ≡ false
    → Within held words → i + length run ≤ length words → SettlesThen held words (PutsRun i run result) (is_ok result) old new → IsInStep old words held
    → IsInStep new (with_run words i run) None
run_step {E = E} held words i run (Ok done) old new good within there went is = then_in_step held words (with_run words i run) (PutsRun {E = E} i run (Ok done)) old new within
    (λ settled puts step. run_in_step E i run words done settled new there puts step) went is
run_step held words i run (Err e) old new good within there went is = absurd (false≢true (sym good))

-- a word that takes the mark back stands in the file already
back_in_step : (E : Type 0) (h : HeldWrites) (words : List ℕ) (faults i v place : ℕ) (done : Unit {0}) (old new : Option (List ℕ)) → taken_back_at (Some h) faults i v ≡ Some place
    → Within (Some h) words → PutsWord {E = E} place (slice_index words place) (Ok done) old new → IsInStep old words (Some h) → IsInStep new (set words i v) None
back_in_step E h words faults i v place done old new back within puts is =
    let parts = cond_some (h.mark == i && (h.mark_before == v && (faults == 0 && not (h.mark == h.place)))) h.place place back in
    let two = and_parts (h.mark == i) (h.mark_before == v && (faults == 0 && not (h.mark == h.place))) parts.0 in
    let three = and_parts (h.mark_before == v) (faults == 0 && not (h.mark == h.place)) two.1 in
    let four = and_parts (faults == 0) (not (h.mark == h.place)) three.1 in
    let mark : h.mark ≡ i = eqb-true h.mark i two.0 in
    let value : h.mark_before ≡ v = eqb-true h.mark_before v three.0 in
    let apart : h.mark ≡ h.place → ⊥ = λ e. false≢true (sym (ap not (eq-eqb h.mark h.place e)) ∙ four.1) in
    let short = set words h.place h.place_before in
    let known = is.0 in
    let are = is.2 in
    let long = length-set short h.mark h.mark_before ∙ length-set words h.place h.place_before in
    let size : length known ≡ 2 * length words = are.size ∙ ap (λ (n : ℕ). 2 * n) long in
    let mine = subst (λ (n : ℕ). PutsWord {E = E} n (slice_index words n) (Ok done) old new) (sym parts.1) puts in
    let at = subst (λ (o : Option (List ℕ)). PutsWord {E = E} h.place (slice_index words h.place) (Ok done) o new) is.1 mine in
    let there = within.1 in
    let left : set (set short h.mark h.mark_before) h.place (slice_index words h.place) ≡ set words i v =
    set_comm short h.mark h.place h.mark_before (slice_index words h.place) apart
    ∙ ap (λ (w : List ℕ). set w h.mark h.mark_before) (set-set words h.place h.place_before (slice_index words h.place) ∙ set-get_or words h.place 0)
    ∙ (λ t. set words (mark t) (value t)) in (
      with_word h.place (slice_index words h.place) known,
      at (omega (arith, size, there)),
      subst (λ (w : List ℕ). AreWordsOf (with_word h.place (slice_index words h.place) known) w) left
          (word_put h.place (slice_index words h.place) known (set short h.mark h.mark_before) are (omega (arith, long, there))),
    )

hands_at : (E : Type 0) (at : Option ℕ) (held : Option HeldWrites) (words : List ℕ) (faults i v : ℕ) (done : Unit {0}) (old new : Option (List ℕ)) → taken_back_at held faults i v ≡ at
    → Within held words → i < length words → HandsAt {E = E} at held words i v (Ok done) old new → IsInStep old words held → IsInStep new (set words i v) None
hands_at E None held words faults i v done old new back within there hands is = then_in_step held words (set words i v) (PutsWord {E = E} i v (Ok done)) old new within
    (λ settled puts step. word_in_step E i v words done settled new there puts step) hands is
hands_at E (Some place) None words faults i v done old new back within there hands is = absurd (none-some place back)
hands_at E (Some place) (Some h) words faults i v done old new back within there hands is = back_in_step E h words faults i v place done old new back within hands is

pub word_step : {E : Type 0} (held : Option HeldWrites) (words : List ℕ) (faults i v : ℕ) (result : Result Unit E) (old new : Option (List ℕ)) → is_err result ≡ false
    → Within held words → i < length words → HandsOver held words faults i v result old new → IsInStep old words held → IsInStep new (set words i v) None
word_step {E = E} held words faults i v (Ok done) old new good within there hands is =
    hands_at E (taken_back_at held faults i v) held words faults i v done old new refl within there hands is
word_step held words faults i v (Err e) old new good within there hands is = absurd (false≢true (sym good))

-- the same of a store that failed, or did not
failed_at : {E D : Type 0} (at : Option ℕ) (held : Option HeldWrites) (words : List ℕ) (i v : ℕ) (e : E) (d : D) (old new : Option (List ℕ))
    → HandsAt at held words i v (Err e) old new → HandsAt at held words i v (Err d) old new
failed_at (Some place) held words i v e d old new hands = hands
failed_at None held words i v e d old new hands = hands

pub hands_failed : {E D : Type 0} (held : Option HeldWrites) (words : List ℕ) (faults i v : ℕ) (result : Result Unit E) (d : D) (old new : Option (List ℕ))
    → is_err result ≡ true → HandsOver held words faults i v result old new → HandsOver held words faults i v (Err d) old new
hands_failed held words faults i v (Ok done) d old new bad hands = absurd (false≢true bad)
hands_failed held words faults i v (Err e) d old new bad hands = failed_at (taken_back_at held faults i v) held words i v e d old new hands

done_at : (E D : Type 0) (at : Option ℕ) (held : Option HeldWrites) (words : List ℕ) (i v : ℕ) (done : Unit {0}) (old new : Option (List ℕ))
    → HandsAt {E = E} at held words i v (Ok done) old new → HandsAt {E = D} at held words i v (Ok tt) old new
done_at E D (Some place) held words i v done old new hands = hands
done_at E D None held words i v done old new hands = hands

pub hands_done : {E : Type 0} (D : Type 0) (held : Option HeldWrites) (words : List ℕ) (faults i v : ℕ) (result : Result Unit E) (old new : Option (List ℕ))
    → is_err result ≡ false → HandsOver held words faults i v result old new → HandsOver {E = D} held words faults i v (Ok tt) old new
hands_done {E = E} D held words faults i v (Ok done) old new good hands = done_at E D (taken_back_at held faults i v) held words i v done old new hands
hands_done D held words faults i v (Err e) old new good hands = absurd (false≢true (sym good))
