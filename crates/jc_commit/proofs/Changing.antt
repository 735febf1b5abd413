-- Changes of a state, inside a transaction and outside.
use Rattle.std.specs.Prelude.{if◌then◌else◌, ◌&&◌, ◌==◌, Bool, true, false, MatchBool, nat_le}
use Rattle.std.specs.List.{list_any}
use Rattle.std.proofs.Common.{◌≡◌, ◌<◌, ◌≤◌, ℕ, suc, ◌+◌, ◌*◌, List, [], ◌∷◌, ◌++◌, length, max, filter, not, cond, set, get_or, refl, sym, ap, ◌∙◌, subst, arith}
use Rattle.std.proofs.Common.{get_or-set_other}
use Rattle.std.proofs.lemmas.Bool.{ne_eqb}
use Rattle.std.proofs.lemmas.Bool.Decides.{nat_tests}
use Rattle.std.proofs.lemmas.List.{length-set}
use Rattle.jc_words.specs.Count.{saturating_count}
use Rattle.jc_words.specs.Refusals.{Refusals, refused_once}
use Rattle.jc_words.specs.Image.{log_of}
use Rattle.jc_words.specs.Layout.{top_address, addresses_start}
use Rattle.jc_words.specs.declared.log.Log.{Log}
use Rattle.jc_commit.specs.Image.{plain_of, recovered_of, touched_of, top_of, count_of, capacity_of, address_at, with_words, IsGoodLog}
use Rattle.jc_commit.specs.Entries.{addresses_of}
use Rattle.jc_commit.specs.EntryIndex.{needing, IsIndexOf}
use Rattle.jc_commit.specs.Keep.{goes_back, is_taken_back, unlogged_addresses, has_room_for, writes_for, writes_inside, writes_outside}
use Rattle.jc_commit.specs.State.{State, Changes, IsSound, IsTornWrite, after_write_in_place, born_of, keeping, live_words}
use Rattle.jc_commit.specs.Writing.{Wrote, KeepsTransaction}
use Rattle.jc_commit.proofs.Words.{Spot, log-set}
use Rattle.jc_commit.proofs.Steps.{limit-same, recovered_plain, plain-set_place, entries-set_place, count-set_place, IsGoodLog-set_place}
use Rattle.jc_commit.proofs.InPlace.{length-plain, length-recovered, recovered-set_place, recovered_either}
use Rattle.jc_commit.proofs.Entries.{target}
use Rattle.jc_commit.proofs.Counted.{touched_same}
use Rattle.jc_commit.proofs.Indexes.{IsIndexOf-same}
use Rattle.jc_commit.proofs.WhatIsKept.{outside-added, room-inside}
use Rattle.jc_commit.proofs.Views.{length-addresses, touched_none, above_all, same_state}

pub match_true : (b : Bool) (A B : Type 0) → b ≡ true → A → MatchBool b A B
match_true true A B is h = h
match_true false A B is h = cc

match_false : (b : Bool) (A B : Type 0) → b ≡ false → B → MatchBool b A B
match_false true A B is h = cc
match_false false A B is h = h

-- of these addresses, those that don't go back
abbrev pub new_ones : State → List ℕ → List ℕ
new_ones s addresses = filter (λ a. not (is_taken_back s.touched (born_of s.recovered) a)) addresses

-- the same, as what a change has to keep says it
abbrev new_if : Bool → State → List ℕ → List ℕ
new_if b s addresses = if b then filter (λ a. not (b && is_taken_back s.touched (born_of s.recovered) a)) addresses else []

pub writes_for_outside : (s : State) (addresses : List ℕ) → s.in_transaction ≡ false → writes_for (keeping s) addresses ≡ writes_outside (length addresses)
unfolding writes_for unlogged_addresses goes_back
writes_for_outside s addresses outside =
    ap (λ (b : Bool). if b then writes_inside (length addresses) (length (new_if b s addresses)) else writes_outside (length addresses)) outside

pub writes_for_inside : (s : State) (addresses : List ℕ) → s.in_transaction ≡ true
    → writes_for (keeping s) addresses ≡ writes_inside (length addresses) (length (new_ones s addresses))
unfolding writes_for unlogged_addresses goes_back
writes_for_inside s addresses inside =
    ap (λ (b : Bool). if b then writes_inside (length addresses) (length (new_if b s addresses)) else writes_outside (length addresses)) inside

pub added_inside : (s : State) (addresses : List ℕ) → s.in_transaction ≡ true → unlogged_addresses (keeping s) addresses ≡ new_ones s addresses
unfolding unlogged_addresses goes_back
added_inside s addresses inside = ap (λ (b : Bool). new_if b s addresses) inside

pub room_inside : (s : State) (addresses : List ℕ) → s.in_transaction ≡ true
    → has_room_for (keeping s) addresses ≡ nat_le (length s.touched + length (new_ones s addresses)) (capacity_of s.recovered)
room_inside s addresses inside = room-inside (keeping s) addresses inside
    ∙ ap (λ (xs : List ℕ). nat_le (length s.touched + length xs) (capacity_of s.recovered)) (added_inside s addresses inside)

pub back_inside : (s : State) (a : ℕ) → s.in_transaction ≡ true → goes_back (keeping s) a ≡ is_taken_back s.touched (born_of s.recovered) a
unfolding goes_back
back_inside s a inside = ap (λ (b : Bool). b && is_taken_back s.touched (born_of s.recovered) a) inside

-- the state of a journal over these words
abbrev pub state_of : List ℕ → Bool → Bool → ℕ → Refusals → State
state_of w t d p r = record { plain = plain_of w; recovered = recovered_of w; in_transaction = t; touched = touched_of w; down = d; passed = p; refusals = r }

-- what holds of a journal goes on to hold where its words change and say the same of where the entries stand
pub sound_kept : {w u numbers numbers' : List ℕ} {t d t' d' : Bool} {l : Log} {born born' : ℕ} → IsSound w d t l born numbers → IsGoodLog u → length u ≡ length w → log_of u ≡ log_of w
    → (t' ≡ false → d' ≡ false → count_of u ≡ 0)
    → (t' ≡ true → d' ≡ false → (born' ≡ max addresses_start (top_of (recovered_of u))) × IsIndexOf l u (count_of u) numbers') → IsSound u d' t' l born' numbers'
sound_kept sound good long log closed inside = record {
  good = good;
  stands = sound.stands ∙ sym log;
  current = sound.current;
  most = sound.most;
  within = omega (arith, sound.within, long);
  small = omega (arith, sound.small, long);
  closed = closed;
  births = λ began up. (inside began up).0;
  index = λ began up. (inside began up).1;
}

-- these words are written, as one change
pub changed : {S : Type 0} {d : S → Bool} {p : S → ℕ} {r : S → Refusals} {x y : S} {n : ℕ} {t : Bool} {s : State} (w u : List ℕ) (changes : List (ℕ × ℕ))
    → Wrote d p r n true x y → state_of w t (d x) (p x) (r x) ≡ s → length u ≡ length w → log_of u ≡ log_of w → plain_of u ≡ with_words (plain_of w) changes
    → MatchBool s.in_transaction (live_words (recovered_of u) ≡ live_words s.recovered) (recovered_of u ≡ plain_of u)
    → touched_of u ≡ s.touched ++ unlogged_addresses (keeping s) (addresses_of changes) → writes_for (keeping s) (addresses_of changes) ≡ n
    → Changes changes s (state_of u t (d y) (p y) (r y))
changed w u changes wrote v long log plain recovered touched cost = record {
  plain = plain ∙ ap (λ (s : State). with_words s.plain changes) v;
  recovered = recovered;
  size = length-plain u ∙ limit-same w u long log ∙ sym (length-plain w) ∙ ap (λ (s : State). length s.plain) v;
  size_recovered = length-recovered u ∙ limit-same w u long log ∙ sym (length-recovered w) ∙ ap (λ (s : State). length s.recovered) v;
  in_transaction = ap (λ (s : State). s.in_transaction) v;
  touched = touched;
  passed = wrote.passed ∙ (λ i. saturating_count (ap (λ (s : State). s.passed) v i) (sym cost i));
  down = wrote.down ∙ ap (λ (s : State). s.down) v;
  refusals = wrote.refusals ∙ ap (λ (s : State). s.refusals) v;
}

-- a store refused one of the writes
pub torn : {S : Type 0} {d : S → Bool} {p : S → ℕ} {r : S → Refusals} {x y : S} {n m : ℕ} {t : Bool} {w u : List ℕ} {s : State} → Wrote d p r n false x y
    → KeepsTransaction w u → state_of w t (d x) (p x) (r x) ≡ s → n ≤ m → IsTornWrite m s (state_of u t (d y) (p y) (r y))
torn {p = p} {x = x} {y = y} {w = w} {u = u} {s = s} wrote stays v few =
    let same : p x ≡ s.passed = ap (λ (s : State). s.passed) v in record {
      recovered = stays.live ∙ ap (λ (s : State). live_words s.recovered) v;
      size = length-plain u ∙ limit-same w u stays.size stays.log ∙ sym (length-plain w) ∙ ap (λ (s : State). length s.plain) v;
      size_recovered = length-recovered u ∙ limit-same w u stays.size stays.log ∙ sym (length-recovered w) ∙ ap (λ (s : State). length s.recovered) v;
      in_transaction = ap (λ (s : State). s.in_transaction) v;
      down = wrote.down;
      from = omega (arith, wrote.from, same);
      short = λ small. let short = wrote.passed small in omega (arith, short, few, same);
      refusals = wrote.refusals ∙ ap (λ (s : State). refused_once s.down (p y) s.refusals) v;
    }

-- the words are as they were
pub stays_same : {w u : List ℕ} → IsGoodLog w → u ≡ w → KeepsTransaction w u
stays_same {w = w} good same = subst (KeepsTransaction w) (sym same) (record { good = good; size = refl; log = refl; live = refl; top = refl })

-- ---- a word that may be written with no entry, and is not the top

births_kept : (w : List ℕ) (a x born : ℕ) → IsGoodLog w → Spot w a → (a ≡ top_address → ⊥) → born ≡ born_of (recovered_of w) → born
    ≡ born_of (recovered_of (set w a x))
births_kept w a x born good read other is =
    is ∙ sym (ap (λ (t : ℕ). max addresses_start t) (ap top_of (recovered-set_place w a x good read)
    ∙ top_kept (list_any (λ b. b == a) (touched_of w)) (recovered_of w)))
  where
    top_kept : (b : Bool) (p : List ℕ) → top_of (if b then p else set p a x) ≡ top_of p
    top_kept true p = refl
    top_kept false p = get_or-set_other p a top_address x 0 (λ same. other (sym same))

index_written : (l : Log) (w : List ℕ) (a x : ℕ) (numbers : List ℕ) → l ≡ log_of w → IsGoodLog w → Spot w a → IsIndexOf l w (count_of w) numbers
    → IsIndexOf l (set w a x) (count_of (set w a x)) numbers
index_written l w a x numbers is good read index =
    subst (λ (n : ℕ). IsIndexOf l (set w a x) n numbers) (sym (count-set_place w a x read))
    (IsIndexOf-same l w (set w a x) (count_of w) numbers (λ k below. subst (λ (m : Log). address_at m (set w a x) k ≡ address_at m w k) (sym is)
    (get_or-set_other w a ((log_of w).start + 2 * k) x 0
    (λ same. let few = good.few in let far = read.beside (omega (arith, same)) in absurd (omega (arith, below, far, few, same))))) index)

-- what holds of a journal goes on to hold
pub sound_in_place : {w u numbers : List ℕ} {t d d' : Bool} {l : Log} {born : ℕ} (a x : ℕ) → IsSound w d t l born numbers → Spot w a → (t ≡ true → a ≡ top_address → ⊥)
    → d ≡ false → u ≡ set w a x → IsSound u d' t l born numbers
sound_in_place {w = w} {numbers = numbers} {t = t} {d' = d'} {l = l} {born = born} a x sound place other up written =
    subst (λ (v : List ℕ). IsSound v d' t l born numbers) (sym written)
    (sound_kept sound (IsGoodLog-set_place w a x sound.good place) (length-set w a x) (log-set w a x place)
    (λ outside still. count-set_place w a x place ∙ sound.closed outside up)
    (λ inside still. (
      births_kept w a x born sound.good place (other inside) (sound.births inside up),
      index_written l w a x numbers sound.stands sound.good place (sound.index inside up),
    )))

pub state_in_place : {w u numbers : List ℕ} {t d d' : Bool} {l : Log} {born p p' : ℕ} {r r' : Refusals} {s : State} (a x : ℕ) → IsSound w d t l born numbers
    → state_of w t d p r ≡ s → Spot w a → u ≡ set w a x → d ≡ false → d' ≡ false → p' ≡ saturating_count p 1 → r' ≡ r
    → state_of u t d' p' r' ≡ after_write_in_place s a x
state_in_place {w = w} {t = t} a x sound v place written up still passed refusals =
    same_state _ _
    (ap plain_of written ∙ plain-set_place w a x sound.good place ∙ ap (λ (s : State). set s.plain a x) v)
    (ap recovered_of written ∙ recovered-set_place w a x sound.good place ∙ recovered_either t (touched_of w) a (recovered_of w)
    (set (recovered_of w) a x) (λ outside. touched_none w (sound.closed outside up))
    ∙ ap (λ (s : State). (after_write_in_place s a x).recovered) v)
    (ap (λ (s : State). s.in_transaction) v)
    (ap touched_of written ∙ touched_same w (set w a x) (entries-set_place w a x sound.good place) ∙ ap (λ (s : State). s.touched) v)
    (still ∙ sym up ∙ ap (λ (s : State). s.down) v)
    (passed ∙ ap (λ (s : State). saturating_count s.passed 1) v)
    (refusals ∙ ap (λ (s : State). s.refusals) v)

-- ---- outside a transaction

-- no entry counts
pub record Shut (w : List ℕ) (s : State) : Type 0 where
  pub none : count_of w ≡ 0
  pub saved : s.recovered ≡ s.plain
  pub untouched : s.touched ≡ []

pub shut_of : {w numbers : List ℕ} {d t : Bool} {l : Log} {born p : ℕ} {r : Refusals} {s : State} → IsSound w d t l born numbers → state_of w t d p r ≡ s
    → s.down ≡ false → s.in_transaction ≡ false → Shut w s
shut_of {w = w} sound v up outside =
    let none : count_of w ≡ 0 = sound.closed (ap (λ (s : State). s.in_transaction) v ∙ outside) (ap (λ (s : State). s.down) v ∙ up) in record {
      none = none;
      saved = sym (ap (λ (s : State). s.recovered) v) ∙ recovered_plain w none ∙ ap (λ (s : State). s.plain) v;
      untouched = sym (ap (λ (s : State). s.touched) v) ∙ touched_none w none;
    }

pub changed_outside : {S : Type 0} {d : S → Bool} {p : S → ℕ} {r : S → Refusals} {x y : S} {n : ℕ} {t : Bool} {w : List ℕ} {s : State} (u : List ℕ) (changes : List (ℕ × ℕ))
    → Wrote d p r n true x y → state_of w t (d x) (p x) (r x) ≡ s → Shut w s → s.in_transaction ≡ false → length u ≡ length w → log_of u ≡ log_of w
    → plain_of u ≡ with_words (plain_of w) changes → count_of u ≡ 0 → writes_outside (length changes) ≡ n → Changes changes s (state_of u t (d y) (p y) (r y))
changed_outside {w = w} {s = s} u changes wrote v shut outside long log plain none cost =
    changed w u changes wrote v long log plain (match_false s.in_transaction _ _ outside (recovered_plain u none))
    (touched_none u none ∙ sym (λ i. shut.untouched i ++ outside-added (keeping s) (addresses_of changes) outside i))
    (writes_for_outside s (addresses_of changes) outside ∙ ap writes_outside (length-addresses changes) ∙ cost)

-- each word that lies below needs an entry there
pub needing_each : (born : ℕ) (changes : List (ℕ × ℕ)) → ((k : ℕ) → k < length changes → target changes k < born) → needing [] born changes ≡ changes
needing_each born [] below = refl
needing_each born (c ∷ cs) below =
    ap (λ (b : Bool). cond (not b) (c ∷ needing [] born cs) (needing [] born cs)) (above_all born c.0 (below 0 (omega arith)))
    ∙ ap (λ (rest : List (ℕ × ℕ)). c ∷ rest) (needing_each born cs (λ k within. below (suc k) (omega (arith, within))))

-- and a transaction of its own is a write more
pub writes_own : (n m : ℕ) → m ≡ n → 1 < n → writes_outside n ≡ writes_inside n m + 1
writes_own n m all many =
    let cost : writes_inside n m ≡ n + (2 * m + 1) = ap (λ (b : Bool). n + (if b then 0 else 2 * m + 1)) (ne_eqb m 0 (λ none. absurd (omega (arith, none, all, many)))) in
    let total : writes_outside n ≡ 3 * n + 2 = grind (arith, nat_tests) in omega (arith, cost, total, all)

pub single : (xs : List (ℕ × ℕ)) → length xs ≡ 1 → xs ≡ get_or xs 0 (0, 0) ∷ []
single [] one = absurd (omega arith)
single (x ∷ []) one = refl
single (x ∷ (y ∷ xs)) one = absurd (omega arith)
