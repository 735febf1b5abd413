-- What the words stand for as words are written of which an abort takes each back.
use Rattle.std.proofs.Common.{◌≡◌, ℕ, zero, suc, ◌+◌, ◌<◌, ◌≤◌, ◌⊎◌, Bool, true, List, [], ◌∷◌, IsSome, length, take, take_all, get_or, set, refl, sym, ◌∙◌, ap, subst, arith}
use Rattle.std.proofs.Common.{length-set}
use Rattle.std.specs.Prelude.{Result, Ok, Err, OnOk, is_ok}
use Rattle.jc_words.specs.Refusals.{Refusals}
use Rattle.jc_commit.specs.Image.{IsGoodLog, IsPlace, limit_of, entries, old_value, plain_of, with_words}
use Rattle.jc_commit.specs.Entries.{ArePlaces}
use Rattle.jc_commit.specs.EntryIndex.{GoBack}
use Rattle.jc_commit.specs.Writing.{KeepsTransaction, IsFreeFrom, Wrote}
use Rattle.jc_commit.specs.Runs.{WritesWords}
use Rattle.jc_commit.proofs.Steps.{limit-same}
use Rattle.jc_commit.proofs.Entries.{target}
use Rattle.jc_commit.proofs.Counted.{with_words_more}
use Rattle.jc_commit.proofs.EntryKeeping.{Through, through, free_kept}
use Rattle.jc_commit.proofs.Writes.{stays_more}

-- what the first n of these words leave
pub record Throughout (w : List ℕ) (changes : List (ℕ × ℕ)) (n : ℕ) (v : List ℕ) : Type 0 where
  pub stays : KeepsTransaction w v
  pub entries : entries v ≡ entries w
  pub plain : plain_of v ≡ with_words (plain_of w) (take n changes)

pub throughout : (w : List ℕ) (born : ℕ) (changes : List (ℕ × ℕ)) → IsGoodLog w → ArePlaces (limit_of w) changes → GoBack w born changes → IsFreeFrom w born
    → (n : ℕ) → n ≤ length changes → Throughout w changes n (with_words w (take n changes))
throughout w born changes good places kept free zero few = record {
  stays = record { good = good; size = refl; log = refl; live = refl; top = refl };
  entries = refl;
  plain = refl;
}
throughout w born changes good places kept free (suc n) few =
    let before = throughout w born changes good places kept free n (omega (arith, few)) in
    let v = with_words w (take n changes) in
    let inside : n < length changes = omega (arith, few) in
    let a = target changes n in
    let x = (get_or changes n (0, 0)).1 in
    let e : suc n ≡ n + 1 = omega arith in
    let place : IsPlace (limit_of v) a = subst (λ (m : ℕ). IsPlace m a) (sym (limit-same w v before.stays.size before.stays.log)) (places n inside) in
    let back : IsSome (old_value (entries v) a) ⊎ (born ≤ a) = subst (λ (es : List (ℕ × ℕ)). IsSome (old_value es a) ⊎ (born ≤ a)) (sym before.entries)
    (kept n inside) in
    let step : Through v a x (set v a x) = through v a x born before.stays.good place (free_kept before.stays free) back in
    let is : with_words w (take (suc n) changes) ≡ set v a x = ap (λ (m : ℕ). with_words w (take m changes)) e ∙ with_words_more w changes n inside in
    let plain : with_words (plain_of w) (take (suc n) changes) ≡ set (with_words (plain_of w) (take n changes)) a x =
    ap (λ (m : ℕ). with_words (plain_of w) (take m changes)) e ∙ with_words_more (plain_of w) changes n inside in
    subst (Throughout w changes (suc n)) (sym is) (record {
      stays = stays_more before.stays step.stays;
      entries = step.entries ∙ before.entries;
      plain = step.plain ∙ ap (λ (p : List ℕ). set p a x) before.plain ∙ sym plain;
    })

pub length-with_words : (w : List ℕ) (changes : List (ℕ × ℕ)) → length (with_words w changes) ≡ length w
length-with_words w [] = refl
length-with_words w (change ∷ changes) = length-with_words (set w change.0 change.1) changes ∙ length-set w change.0 change.1

-- what is left where these words, or the first of them, were written
pub record LeftThrough {S E : Type 0} (words_of : S → List ℕ) (is_down : S → Bool) (count : S → ℕ) (refused : S → Refusals) (changes : List (ℕ × ℕ))
    (result : Result Unit E) (old new : S) : Type 0 where
  pub stays : KeepsTransaction (words_of old) (words_of new)
  pub entries : entries (words_of new) ≡ entries (words_of old)
  pub plain : OnOk result (plain_of (words_of new) ≡ with_words (plain_of (words_of old)) changes)
  pub wrote : Wrote is_down count refused (length changes) (is_ok result) old new

where_done : {E P : Type 0} (result : Result Unit E) → (is_ok result ≡ true → P) → OnOk result P
where_done (Ok done) holds = holds refl
where_done (Err refusal) holds = tt

pub left_through : {S E : Type 0} {w : S → List ℕ} {d : S → Bool} {p : S → ℕ} {r : S → Refusals} {x y : S} (born : ℕ) (changes : List (ℕ × ℕ))
    (result : Result Unit E) → IsGoodLog (w x) → ArePlaces (limit_of (w x)) changes → GoBack (w x) born changes → IsFreeFrom (w x) born
    → WritesWords w d p r changes result x y → LeftThrough w d p r changes result x y
left_through {w = w} {x = x} born changes result good places kept free did =
    let many = did.0 in
    let now = throughout (w x) born changes good places kept free many did.1.within in
    let is = did.1.written in
    record {
      stays = subst (λ (v : List ℕ). KeepsTransaction (w x) v) (sym is) now.stays;
      entries = ap entries is ∙ now.entries;
      plain = where_done result (λ done. ap plain_of is ∙ now.plain ∙ ap (with_words (plain_of (w x))) (take_all many changes (omega (arith, did.1.all done))));
      wrote = did.1.wrote;
    }
