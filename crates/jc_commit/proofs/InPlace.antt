-- A word that is written in place, with an old value kept or without.
use Rattle.std.specs.Prelude.{if◌then◌else◌, ◌==◌, ◌||◌, ◌&&◌}
use Rattle.std.specs.List.{list_any}
use Rattle.std.proofs.Common.{◌≡◌, ◌≢◌, ℕ, zero, suc, ◌+◌, ◌<◌, ◌≤◌, Bool, true, false, cond, List, [], ◌∷◌, Option, Some, None, unwrap_or, length, map, set, take, slice_index, eqb}
use Rattle.std.proofs.Common.{refl, sym, ◌∙◌, ap, subst, arith, ⊎_elim, get_or-set_other, get_or-set_same}
use Rattle.std.proofs.lemmas.List.{length-set, take-set-le}
use Rattle.std.proofs.lemmas.Bool.{cases_Bool, false≢true, ne_eqb}
use Rattle.jc_commit.specs.Image.{is_log, words_by, limit_of, capacity_of, count_of, address_at, old_at, IsReadable, IsUnlogged, IsGoodLog, entries, entries_from, old_value, plain_of}
use Rattle.jc_commit.specs.Image.{recovered_of, touched_of, top_of}
use Rattle.jc_words.specs.Layout.{top_address, deselect_end_address, count_address, log_start, log_end, version_address, capacity_address, journal_address}
use Rattle.jc_words.specs.Image.{log_of}
use Rattle.jc_words.specs.declared.log.Log.{Log}
use Rattle.jc_commit.specs.Entries.{ArePlaces}
use Rattle.jc_commit.specs.State.{State, live_words}
use Rattle.jc_commit.proofs.Words.{Spot, bounds_of, spot_within, unlogged_spot, is_log-beside, is_log-spot, is_log-readable, entries_in, get_or-words_by, words_by-set, length-words_by}
use Rattle.jc_commit.proofs.Words.{log-same, log-set}
use Rattle.jc_commit.proofs.Steps.{recovered_at, recovered-set_named, entries-set_log, limit-same}

pub length-plain : (w : List ℕ) → length (plain_of w) ≡ limit_of w
unfolding plain_of
length-plain w = length-words_by (log_of w) (limit_of w) (λ a. slice_index w a)

pub length-recovered : (w : List ℕ) → length (recovered_of w) ≡ limit_of w
unfolding recovered_of
length-recovered w = length-words_by (log_of w) (limit_of w) (recovered_at (log_of w) w)

plain_beside : (w : List ℕ) (a : ℕ) → a < limit_of w → is_log (log_of w) a ≡ false → slice_index (plain_of w) a ≡ slice_index w a
unfolding plain_of
plain_beside w a below plain = get_or-words_by (log_of w) (limit_of w) (λ b. slice_index w b) a below plain

pub plain_word : (w : List ℕ) (a : ℕ) → IsGoodLog w → IsReadable (limit_of w) a → slice_index (plain_of w) a ≡ slice_index w a
plain_word w a good readable =
    plain_beside w a readable.below (is_log-readable w a good readable)

pub plain_top : (w : List ℕ) → IsGoodLog w → slice_index (plain_of w) top_address ≡ slice_index w top_address
plain_top w good =
    let big = (bounds_of w good).room in
    let low = (bounds_of w good).low in
    plain_beside w top_address (omega arith) (is_log-beside (log_of w) top_address (λ e. absurd (omega arith)) (λ h. absurd (omega arith)))

-- a word before the journal, but the count, that no entry names
pub record IsFront (a : ℕ) : Type 0 where
  pub below : a < log_start
  pub not_count : a ≢ count_address
  pub unnamed : top_address ≤ a → deselect_end_address < a

pub front_beside : (w : List ℕ) (a : ℕ) → IsGoodLog w → IsFront a → is_log (log_of w) a ≡ false
front_beside w a good front =
    let low = (bounds_of w good).low in
    let below = front.below in
    is_log-beside (log_of w) a front.not_count (λ h. absurd (omega arith))

pub plain_front : (w : List ℕ) (a : ℕ) → IsGoodLog w → IsFront a → slice_index (plain_of w) a ≡ slice_index w a
plain_front w a good front =
    let big = (bounds_of w good).room in
    let below = front.below in
    plain_beside w a (omega arith) (front_beside w a good front)

no_old : (l : Log) (w : List ℕ) (k n a : ℕ) → ((j : ℕ) → j < k + n → address_at l w j ≡ a → ⊥) → old_value (entries_from l w k n) a ≡ None
no_old l w k zero a h = refl
no_old l w k (suc n) a h =
    ap (λ (b : Bool). cond b (Some (old_at l w k)) (old_value (entries_from l w (k + 1) n) a)) (ne_eqb (address_at l w k) a (h k (omega arith)))
    ∙ no_old l w (k + 1) n a (λ j lt. h j (omega arith))

-- no entry names it
pub front_unnamed : (w : List ℕ) (a : ℕ) → IsGoodLog w → IsFront a → old_value (entries w) a ≡ None
front_unnamed w a good front =
    let below = front.below in
    no_old (log_of w) w 0 (count_of w) a (λ j lt same.
    let place = good.places j (omega arith) in
    let above = place.above in
    let beside = place.beside in
    let behind = front.unnamed (omega arith) in
    let far = beside (omega arith) in
    absurd (omega arith))

pub recovered_front : (w : List ℕ) (a : ℕ) → IsGoodLog w → IsFront a → slice_index (recovered_of w) a ≡ slice_index w a
unfolding recovered_of
recovered_front w a good front =
    let big = (bounds_of w good).room in
    let below = front.below in
    let none = front_unnamed w a good front in
    get_or-words_by (log_of w) (limit_of w) (recovered_at (log_of w) w) a (omega arith) (front_beside w a good front)
    ∙ ap (λ (o : Option ℕ). unwrap_or o (slice_index w a)) none

pub front_version : IsFront version_address
front_version = record { below = omega arith; not_count = λ e. absurd (omega arith); unnamed = λ h. absurd (omega arith) }

pub front_capacity_word : IsFront capacity_address
front_capacity_word = record { below = omega arith; not_count = λ e. absurd (omega arith); unnamed = λ h. omega arith }

pub front_journal : IsFront journal_address
front_journal = record { below = omega arith; not_count = λ e. absurd (omega arith); unnamed = λ h. omega arith }

-- the words that a recovery leaves describe the journal that the image has
pub log-recovered : (w : List ℕ) → IsGoodLog w → log_of (recovered_of w) ≡ log_of w
log-recovered w good =
    log-same w (recovered_of w) (recovered_front w version_address good front_version) (recovered_front w capacity_address good front_capacity_word)
    (recovered_front w journal_address good front_journal)

-- of a state and its words
pub limit_is : (s : State) (w : List ℕ) → plain_of w ≡ s.plain → length s.plain ≡ limit_of w
limit_is s w is = ap (λ (p : List ℕ). length p) (sym is) ∙ length-plain w

pub capacity_is : (s : State) (w : List ℕ) → IsGoodLog w → recovered_of w ≡ s.recovered → capacity_of s.recovered ≡ capacity_of w
capacity_is s w good is = ap capacity_of (sym is) ∙ ap (λ (l : Log). l.capacity) (log-recovered w good)

-- whether an entry names a word
abbrev pub is_named : List (ℕ × ℕ) → ℕ → Bool
is_named es a = list_any (λ b. b == a) (map (λ (e : ℕ × ℕ). e.0) es)

listed_step : (b : Bool) (x : ℕ) (others : Bool) (rest : Option ℕ) → (others ≡ true → (y : ℕ) × (rest ≡ Some y)) → (b || others) ≡ true
    → (y : ℕ) × (cond b (Some x) rest ≡ Some y)
listed_step true x others rest later is = (x, refl)
listed_step false x others rest later is = later is

pub listed : (es : List (ℕ × ℕ)) (a : ℕ) → is_named es a ≡ true → (y : ℕ) × (old_value es a ≡ Some y)
listed [] a is = absurd (false≢true is)
listed (e ∷ es) a is = listed_step (eqb e.0 a) e.1 (is_named es a) (old_value es a) (listed es a) is

unlisted_step : (b : Bool) (x : ℕ) (others : Bool) (rest : Option ℕ) → (others ≡ false → rest ≡ None) → (b || others) ≡ false → cond b (Some x) rest ≡ None
unlisted_step true x others rest later is = absurd (false≢true (sym is))
unlisted_step false x others rest later is = later is

pub unlisted : (es : List (ℕ × ℕ)) (a : ℕ) → is_named es a ≡ false → old_value es a ≡ None
unlisted [] a is = refl
unlisted (e ∷ es) a is = unlisted_step (eqb e.0 a) e.1 (is_named es a) (old_value es a) (unlisted es a) is

recovered-set_unnamed : (w : List ℕ) (a x : ℕ) → IsGoodLog w → Spot w a → old_value (entries w) a ≡ None
    → recovered_of (set w a x) ≡ set (recovered_of w) a x
unfolding recovered_of
recovered-set_unnamed w a x good place none =
    (λ i. words_by (log-set w a x place i) (limit-same w (set w a x) (length-set w a x) (log-set w a x place) i) (recovered_at (log-set w a x place i) (set w a x)))
    ∙ words_by-set (log_of w) (limit_of w) (recovered_at (log_of w) w) (recovered_at (log_of w) (set w a x)) a x place.below (is_log-spot w a place)
    (ap (λ (es : List (ℕ × ℕ)). unwrap_or (old_value es a) (slice_index (set w a x) a)) same
    ∙ ap (λ (o : Option ℕ). unwrap_or o (slice_index (set w a x) a)) none ∙ get_or-set_same w a x 0 (spot_within w a good place))
    (λ b other. ap (λ (es : List (ℕ × ℕ)). unwrap_or (old_value es b) (slice_index (set w a x) b)) same
    ∙ ap (λ (v : ℕ). unwrap_or (old_value (entries w) b) v) (get_or-set_other w a b x 0 other))
  where
    same : entries_in (log_of w) (set w a x) ≡ entries w
    same = entries-set_log w a x good place

-- a recovery leaves a word that no entry names as it is
unnamed_word : (w : List ℕ) (a : ℕ) → Spot w a → list_any (λ b. b == a) (touched_of w) ≡ false → slice_index (recovered_of w) a ≡ slice_index (plain_of w) a
unfolding recovered_of plain_of touched_of
unnamed_word w a place none =
    get_or-words_by (log_of w) (limit_of w) (recovered_at (log_of w) w) a place.below (is_log-spot w a place)
    ∙ ap (λ (o : Option ℕ). unwrap_or o (slice_index w a)) (unlisted (entries w) a none)
    ∙ sym (get_or-words_by (log_of w) (limit_of w) (λ b. slice_index w b) a place.below (is_log-spot w a place))

-- the same of a state and its words
pub unkept_word : (s : State) (w : List ℕ) (a : ℕ) → IsGoodLog w → plain_of w ≡ s.plain → recovered_of w ≡ s.recovered → touched_of w ≡ s.touched
    → IsUnlogged (length s.plain) a → list_any (λ b. b == a) s.touched ≡ false → slice_index s.recovered a ≡ slice_index s.plain a
unkept_word s w a good plain recovered touched place none =
    let spot = unlogged_spot w a good (subst (λ (n : ℕ). IsUnlogged n a) (limit_is s w plain) place) in
    ap (λ (l : List ℕ). slice_index l a) (sym recovered)
    ∙ unnamed_word w a spot (ap (λ (l : List ℕ). list_any (λ b. b == a) l) touched ∙ none)
    ∙ ap (λ (l : List ℕ). slice_index l a) plain

pub recovered-set_place : (w : List ℕ) (a x : ℕ) → IsGoodLog w → Spot w a
    → recovered_of (set w a x) ≡ (if list_any (λ b. b == a) (touched_of w) then recovered_of w else set (recovered_of w) a x)
unfolding touched_of
recovered-set_place w a x good place =
    ⊎_elim
    (λ is. let some = listed (entries w) a is in recovered-set_named w a x some.0 good place some.1
    ∙ sym (ap (λ (b : Bool). if b then recovered_of w else set (recovered_of w) a x) is))
    (λ is. recovered-set_unnamed w a x good place (unlisted (entries w) a is) ∙ sym
    (ap (λ (b : Bool). if b then recovered_of w else set (recovered_of w) a x) is))
    (cases_Bool (is_named (entries w) a))

pub live_words-set : (p : List ℕ) (a x : ℕ) → top_of p ≤ a → log_end ≤ a → live_words (set p a x) ≡ live_words p
live_words-set p a x above place =
    ap (λ (n : ℕ). take n (set p a x)) (get_or-set_other p a top_address x 0 (λ same. absurd (omega arith))) ∙ take-set-le (top_of p) p a x above

-- outside a transaction no word is touched
pub recovered_either : (b : Bool) (t : List ℕ) (a : ℕ) (x y : List ℕ) → (b ≡ false → t ≡ [])
    → (if list_any (λ c. c == a) t then x else y) ≡ (if b && list_any (λ c. c == a) t then x else y)
recovered_either true t a x y none = refl
recovered_either false t a x y none = ap (λ (u : List ℕ). if list_any (λ c. c == a) u then x else y) (none refl)

pub live_either : (b : Bool) (p : List ℕ) (a x : ℕ) → top_of p ≤ a → log_end ≤ a → live_words (if b then p else set p a x) ≡ live_words p
live_either true p a x above place = refl
live_either false p a x above place = live_words-set p a x above place

pub places_in : (p w : List ℕ) (changes : List (ℕ × ℕ)) → length p ≡ limit_of w → ArePlaces (length p) changes → ArePlaces (limit_of w) changes
places_in p w changes same places = subst (λ (n : ℕ). ArePlaces n changes) same places
