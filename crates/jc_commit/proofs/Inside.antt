-- What a journal with an open transaction says of a change.
use Rattle.std.specs.Prelude.{Bool, ◌≤◌, nat_le, Option}
use Rattle.std.proofs.Common.{◌≡◌, ◌+◌, ◌++◌, ℕ, List, [], ◌∷◌, length, true, false, sym, ap, subst, ◌∙◌, arith}
use Rattle.jc_words.specs.Refusals.{Refusals}
use Rattle.jc_words.specs.declared.log.Log.{Log}
use Rattle.jc_commit.specs.Image.{recovered_of, touched_of, count_of, capacity_of, limit_of, IsPlace}
use Rattle.jc_commit.specs.Entries.{addresses_of, AreDistinct}
use Rattle.jc_commit.specs.State.{State, IsSound, keeping, born_of}
use Rattle.jc_commit.specs.Keep.{has_room_for, unlogged_addresses, writes_for, writes_inside}
use Rattle.jc_commit.specs.EntryIndex.{named_by, needing, IsIndexOf, IsPlaceFor}
use Rattle.jc_commit.proofs.InPlace.{limit_is, capacity_is, places_in}
use Rattle.jc_commit.proofs.Views.{length-touched, length-addresses}
use Rattle.jc_commit.proofs.Changing.{state_of, new_ones, added_inside, room_inside, writes_for_inside}
use Rattle.jc_commit.proofs.EntryKeeping.{needing_is, needing_names, length-needing, names_touched}
use Rattle.jc_commit.proofs.Indexes.{index_distinct}
use Rattle.jc_commit.proofs.WhatIsKept.{keeps_old_values}
use Rattle.jc_commit.proofs.Entries.{place_one}
use Rattle.jc_commit.proofs.WordPlaces.{more_at, needed_where}

pub record Inside (s : State) (l : Log) (w numbers : List ℕ) (born first : ℕ) (changes : List (ℕ × ℕ)) : Type 0 where
  pub births : born ≡ born_of (recovered_of w)
  pub index : IsIndexOf l w (count_of w) numbers
  pub few : first ≤ l.capacity
  pub room : has_room_for (keeping s) (addresses_of changes) ≡ nat_le (first + length (needing (named_by l w first) born changes)) l.capacity
  pub needed : length (needing (named_by l w first) born changes) ≡ length (needing (touched_of w) born changes)
  pub writes : writes_for (keeping s) (addresses_of changes) ≡ writes_inside (length changes) (length (needing (touched_of w) born changes))
  pub added : (u : List ℕ) → touched_of u ≡ touched_of w ++ addresses_of (needing (touched_of w) born changes)
      → touched_of u ≡ s.touched ++ unlogged_addresses (keeping s) (addresses_of changes)
  pub distinct : AreDistinct (addresses_of changes) → AreDistinct (s.touched ++ unlogged_addresses (keeping s) (addresses_of changes))

pub inside_of : {w numbers : List ℕ} {d t : Bool} {l : Log} {born first p : ℕ} {r : Refusals} {s : State} (changes : List (ℕ × ℕ)) → IsSound w d t l born numbers
    → state_of w t d p r ≡ s → s.down ≡ false → s.in_transaction ≡ true → first ≡ count_of w → Inside s l w numbers born first changes
inside_of {w = w} {numbers = numbers} {l = l} {born = born} {first = first} {s = s} changes sound v up begun is =
    let touched : touched_of w ≡ s.touched = ap (λ (s : State). s.touched) v in
    let recovered : recovered_of w ≡ s.recovered = ap (λ (s : State). s.recovered) v in
    let own_index : IsIndexOf l w (count_of w) numbers = sound.index (ap (λ (s : State). s.in_transaction) v ∙ begun) (ap (λ (s : State). s.down) v ∙ up) in
    let births : born ≡ born_of (recovered_of w) = sound.births (ap (λ (s : State). s.in_transaction) v ∙ begun) (ap (λ (s : State). s.down) v ∙ up) in
    let needed = needing_names l w first born changes sound.stands is in
    let new : length (needing (touched_of w) born changes) ≡ length (new_ones s (addresses_of changes)) = length-needing w s born changes touched recovered births in
    let kept : length s.touched ≡ first = sym (ap (λ (l : List ℕ). length l) touched) ∙ length-touched w ∙ sym is in
    let own : l.capacity ≡ capacity_of w = ap (λ (m : Log). m.capacity) sound.stands in
    let cap : capacity_of s.recovered ≡ l.capacity = capacity_is s w sound.good recovered ∙ sym own in
    record {
      births = births;
      index = own_index;
      few = omega (arith, sound.good.few, is, own);
      room = room_inside s (addresses_of changes) begun ∙ (λ i. nat_le (kept i + sym (needed ∙ new) i) (cap i));
      needed = needed;
      writes = writes_for_inside s (addresses_of changes) begun ∙ (λ i. writes_inside (length-addresses changes i) (sym new i));
      added = λ u grown. grown ∙ (λ i. touched i ++ needing_is w s born changes touched recovered births i)
          ∙ ap (λ (xs : List ℕ). s.touched ++ xs) (sym (added_inside s (addresses_of changes) begun));
      distinct = keeps_old_values.once (keeping s) (addresses_of changes)
          (subst AreDistinct (names_touched l w sound.stands ∙ touched) (index_distinct l w (count_of w) numbers own_index));
    }

-- of one word's change, by the place where the index has to have one more before
pub record InsideOne (s : State) (l : Log) (w numbers : List ℕ) (born n a x : ℕ) (place : Option ℕ) : Type 0 where
  pub whole : Inside s l w numbers born n ((a, x) ∷ [])
  pub there : IsPlace (limit_of w) a
  pub room : has_room_for (keeping s) (a ∷ []) ≡ nat_le (n + more_at place) l.capacity
  pub writes : writes_for (keeping s) (a ∷ []) ≡ writes_inside 1 (more_at place)

pub inside_one : {w numbers : List ℕ} {d t : Bool} {l : Log} {born n p : ℕ} {r : Refusals} {s : State} (ns : List ℕ) (a x : ℕ) (place : Option ℕ) → IsSound w d t l born numbers
    → state_of w t d p r ≡ s → s.down ≡ false → s.in_transaction ≡ true → n ≡ count_of w → IsPlace (length s.plain) a → IsPlaceFor l w n ns born a place
    → InsideOne s l w numbers born n a x place
inside_one {w = w} {l = l} {born = born} {n = n} {s = s} ns a x place sound v up begun is there at =
    let i = inside_of ((a, x) ∷ []) sound v up begun is in
    let needed = needed_where l w ns n born a x place at in
    record {
      whole = i;
      there = places_in s.plain w ((a, x) ∷ []) (limit_is s w (ap (λ (s : State). s.plain) v)) (place_one (length s.plain) a x there) 0 (omega arith);
      room = i.room ∙ ap (λ (k : ℕ). nat_le (n + k) l.capacity) needed;
      writes = i.writes ∙ ap (writes_inside 1) (sym i.needed ∙ needed);
    }
