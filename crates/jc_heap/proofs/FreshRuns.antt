-- A run of fresh words, a word at a time.
use Rattle.std.proofs.Common.{◌≡◌, ℕ, ◌+◌, ◌<◌, ◌≤◌, ◌&&◌, List, [], ◌∷◌, ◌++◌, length, take, set, sym, ◌∙◌, ap, true, false, arith, append_assoc}
use Rattle.std.proofs.Common.{if◌then◌else◌}
use Rattle.std.proofs.lemmas.List.{take-set-le, take_more_set, length-set, length_push, take-take, length-append}
use Rattle.jc_words.specs.Layout.{top_address}
use Rattle.jc_words.specs.Refusals.{refused_once}
use Rattle.std.specs.Prelude.{Result, Ok, Err, OnErr}
use Rattle.jc_commit.specs.State.{State, after_refusal, after_write_in_place, is_touched}
use Rattle.jc_heap.specs.Fresh.{IsFree, KeepsBelow, Fills, IsTornFresh}
use Rattle.jc_heap.proofs.Added.{top-same_below}

pub keeps_more : (at : ℕ) (old j : State) (a v : ℕ) → KeepsBelow at old j → at ≤ a → KeepsBelow at old (after_write_in_place j a v)
keeps_more at old j a v k h = record {
  plain = take-set-le at j.plain a v h ∙ k.plain;
  recovered = elim (j.in_transaction && is_touched j a) as (λ b. take at (if b then j.recovered else set j.recovered a v) ≡ take at old.recovered)
      [ true ↦ k.recovered | false ↦ take-set-le at j.recovered a v h ∙ k.recovered ];
  size = length-set j.plain a v ∙ k.size;
  size_recovered = elim (j.in_transaction && is_touched j a) as (λ b. length (if b then j.recovered else set j.recovered a v) ≡ length old.recovered)
      [ true ↦ k.size_recovered | false ↦ length-set j.recovered a v ∙ k.size_recovered ];
  in_transaction = k.in_transaction;
  touched = k.touched;
}

pub fills_more : (at : ℕ) (ws : List ℕ) (old j : State) (v : ℕ) → Fills at ws old j → at + length ws < length j.plain
    → Fills at (ws ++ v ∷ []) old (after_write_in_place j (at + length ws) v)
fills_more at ws old j v f h =
    let more : at + length (ws ++ v ∷ []) ≡ at + length ws + 1 = omega (arith, length_push ws v) in
    record {
      words = rw (more, take_more_set j.plain (at + length ws) v h, f.words) (append_assoc (take at old.plain) ws (v ∷ []));
      down = f.down;
      passed = omega (arith, f.passed, length_push ws v);
      refusals = f.refusals;
    }

-- what is free stays free while words are written there
pub free_stays : (at count : ℕ) (old j : State) → IsFree at count old → KeepsBelow at old j → j.down ≡ old.down → IsFree at count j
free_stays at count old j f k same =
    let far : top_address < at = omega (arith, f.low) in
    record {
      up = same ∙ f.up;
      low = f.low;
      above = omega (arith, f.above, top-same_below old.plain j.plain at far k.plain);
      above_recovered = omega (arith, f.above_recovered, top-same_below old.recovered j.recovered at far k.recovered);
      fits = omega (arith, f.fits, k.size);
      small = omega (arith, f.small, k.size);
    }

-- one run after another
pub keeps_then : (at n : ℕ) (a b c : State) → KeepsBelow at a b → KeepsBelow (at + n) b c → KeepsBelow at a c
keeps_then at n a b c k m =
    let near : at ≤ at + n = omega arith in
    record {
      plain = sym (take-take at (at + n) c.plain near) ∙ ap (take at) m.plain ∙ take-take at (at + n) b.plain near ∙ k.plain;
      recovered = sym (take-take at (at + n) c.recovered near) ∙ ap (take at) m.recovered ∙ take-take at (at + n) b.recovered near ∙ k.recovered;
      size = m.size ∙ k.size;
      size_recovered = m.size_recovered ∙ k.size_recovered;
      in_transaction = m.in_transaction ∙ k.in_transaction;
      touched = m.touched ∙ k.touched;
    }

pub fills_then : (at : ℕ) (xs ys : List ℕ) (a b c : State) → Fills at xs a b → Fills (at + length xs) ys b c → Fills at (xs ++ ys) a c
fills_then at xs ys a b c f g =
    let long : at + length (xs ++ ys) ≡ at + length xs + length ys = omega (arith, length-append xs ys) in
    record {
      words = ap (λ n. take n c.plain) long ∙ g.words ∙ ap (λ l. l ++ ys) f.words ∙ append_assoc (take at a.plain) xs ys;
      down = g.down ∙ f.down;
      passed = omega (arith, g.passed, f.passed, length-append xs ys);
      refusals = g.refusals ∙ f.refusals;
    }

-- a write of a piece was refused, after other words: fewer passed than all are
pub torn_piece : (at n piece : ℕ) (xs : List ℕ) (a b c : State) → Fills at xs a b → IsTornFresh piece b c → length xs + piece ≤ n → IsTornFresh n a c
torn_piece at n piece xs a b c f st le = record {
  down = st.down;
  from = omega (arith, f.passed, st.from);
  short = λ small. omega (arith, small, st.short small, f.passed, st.from, le);
  refusals = st.refusals ∙ (λ i. refused_once (f.down i) c.passed (f.refusals i));
}

-- one word
pub torn_word : (b c : State) → c ≡ after_refusal b → IsTornFresh 1 b c
torn_word b c is = record {
  down = ap (λ (s : State). s.down) is;
  from = omega (arith, ap (λ (s : State). s.passed) is);
  short = λ small. omega (arith, ap (λ (s : State). s.passed) is);
  refusals = ap (λ (s : State). s.refusals) is ∙ (λ i. refused_once b.down (sym (ap (λ (s : State). s.passed) is) i) b.refusals);
}

pub anyway : {A E : Type 0} (r : Result A E) (P : Type 0) → P → OnErr r P
anyway (Ok a) P p = tt
anyway (Err e) P p = p
