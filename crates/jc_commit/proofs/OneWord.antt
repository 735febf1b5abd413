-- A change of one word outside a transaction.
use Rattle.std.specs.Prelude.{Bool, ◌<◌, true, false, []}
use Rattle.std.proofs.Common.{◌≡◌, ℕ, ◌∷◌, List, length, get_or, set, sym, ap, subst, ◌∙◌, arith}
use Rattle.jc_words.specs.Refusals.{Refusals}
use Rattle.jc_words.specs.declared.log.Log.{Log}
use Rattle.jc_commit.specs.Image.{plain_of, capacity_of, with_words}
use Rattle.jc_commit.specs.Entries.{ArePlaces}
use Rattle.jc_commit.specs.State.{State, IsSound, keeping}
use Rattle.jc_commit.specs.Keep.{has_room_for}
use Rattle.jc_commit.proofs.Words.{Spot, place_spot, spot_within}
use Rattle.jc_commit.proofs.InPlace.{limit_is, capacity_is, places_in}
use Rattle.jc_commit.proofs.Views.{within_all}
use Rattle.jc_commit.proofs.WhatIsKept.{room-outside}
use Rattle.jc_commit.proofs.Changing.{state_of, single}

pub record One (w : List ℕ) (changes : List (ℕ × ℕ)) (change : ℕ × ℕ) : Type 0 where
  pub place : Spot w change.0
  pub below : change.0 < length w
  pub written : set (plain_of w) change.0 change.1 ≡ with_words (plain_of w) changes

pub one_of : {w numbers : List ℕ} {d t : Bool} {l : Log} {born n : ℕ} {change : ℕ × ℕ} (s : State) (changes : List (ℕ × ℕ)) → IsSound w d t l born numbers
    → plain_of w ≡ s.plain → ArePlaces (length s.plain) changes → n ≡ length changes → n ≡ 1 → change ≡ get_or changes 0 (0, 0) → One w changes change
one_of {w = w} {change = change} s changes sound plain places count one is =
    let place : Spot w change.0 = subst (λ (c : ℕ × ℕ). Spot w c.0) (sym is)
    (place_spot w (get_or changes 0 (0, 0)).0 sound.good (places_in s.plain w changes (limit_is s w plain) places 0 (omega (arith, count, one)))) in
    record {
      place = place;
      below = spot_within w change.0 sound.good place;
      written = ap (λ (c : ℕ × ℕ). set (plain_of w) c.0 c.1) is ∙ sym (ap (with_words (plain_of w)) (single changes (sym count ∙ one)));
    }

-- there is always room for one
pub room_alone : {w numbers : List ℕ} {d t : Bool} {l : Log} {born p : ℕ} {r : Refusals} {s : State} → IsSound w d t l born numbers → state_of w t d p r ≡ s → (a : ℕ)
    → s.in_transaction ≡ false → has_room_for (keeping s) (a ∷ []) ≡ true
room_alone {w = w} {s = s} sound v a outside =
    let least = sound.good.size.journal.capacity.0 in
    let own = capacity_is s w sound.good (ap (λ (s : State). s.recovered) v) in
    room-outside (keeping s) (a ∷ []) outside ∙ within_all 1 (capacity_of s.recovered) (omega (arith, least, own))
