-- Words that are written one after the other, each to a place of its own, through a fuse.
use Rattle.std.proofs.Common.{◌≡◌, ℕ, ◌<◌, Bool, true, false, List, [], ◌∷◌, length, take, set, refl, sym, ◌∙◌, ap, subst, arith}
use Rattle.std.specs.Prelude.{Option, None}
use Rattle.std.proofs.lemmas.Bool.{false≢true}
use Rattle.std.proofs.lemmas.List.{length-take-le}
use Rattle.std.proofs.lemmas.Option.{none-some}
use Rattle.jc_words.specs.Count.{saturating_count}
use Rattle.jc_words.specs.Refusals.{Refusals}
use Rattle.jc_words.specs.Store.{FuseStoreValue, store_after_refusal, write_passed}
use Rattle.jc_words.specs.WordPairs.{RefusedThrough}
use Rattle.jc_words.specs.PlacedWords.{with_placed, placed_passed, WrotePlaced}
use Rattle.jc_words.proofs.Refusals.{count-refused_once}
use Rattle.jc_words.proofs.Runs.{value_over}

-- what these writes leave of a store whose store below is up
placed_is : (changes : List (ℕ × ℕ)) (f : FuseStoreValue) (n : ℕ) → n ≡ length changes → (0 < n → f.down_below ≡ false) → placed_passed changes f ≡ record f {
  words = with_placed f.words changes;
  passed = saturating_count f.passed n;
  passed_below = saturating_count f.passed_below n;
}
placed_is [] f n none up =
    let here : f.passed ≡ saturating_count f.passed n = omega (arith, none) in
    let below : f.passed_below ≡ saturating_count f.passed_below n = omega (arith, none) in
    λ j. record f { passed = here j; passed_below = below j }
placed_is (c ∷ cs) f n many up =
    let was : f.down_below ≡ false = up (omega (arith, many)) in
    let here : saturating_count (saturating_count f.passed 1) (length cs) ≡ saturating_count f.passed n = omega (arith, many) in
    let below : saturating_count (saturating_count f.passed_below 1) (length cs) ≡ saturating_count f.passed_below n = omega (arith, many) in
    placed_is cs (write_passed c.0 c.1 f) (length cs) refl (λ some. refl)
    ∙ (λ j. record f { words = with_placed (set f.words c.0 c.1) cs; passed = here j; down_below = sym was j; passed_below = below j })

-- the store below wrote k of these words, and refused the next one
pub placed_in_part : {S : Type 0} {w : S → List ℕ} {d : S → Bool} {p : S → ℕ} {r : S → Refusals} {x y : S} (changes : List (ℕ × ℕ)) (k : ℕ) (until : Option ℕ)
    (down : Bool) (before after refused : ℕ) → k < length changes → WrotePlaced w d p r changes k false x y → until ≡ None → down ≡ false
    → after ≡ saturating_count before k
    → RefusedThrough (placed_passed (take k changes) (value_over w d p r until down before refused x)) (store_after_refusal (value_over w d p r until down after refused y))
placed_in_part {w = w} {d = d} {p = p} {r = r} {x = x} {y = y} changes k until down before after refused within did unarmed up passed =
    let many : k ≡ length (take k changes) = sym (length-take-le k changes (omega (arith, within))) in
    let new = store_after_refusal (value_over w d p r until down after refused y) in
    let faults : (r y).count ≡ saturating_count (r x).count 1 = ap (λ (s : Refusals). s.count) did.refusals ∙ count-refused_once (d x) (p y) (r x) in
    subst (λ (f : FuseStoreValue). RefusedThrough f new) (sym (placed_is (take k changes) (value_over w d p r until down before refused x) k many did.was_up)) (record {
      stays_down = λ was. absurd (false≢true (sym up ∙ was));
      blows = λ was armed. absurd (none-some _ (sym unarmed ∙ armed));
      below = λ was other. λ j. record {
        words = did.written j;
        down = true;
        passed = passed j;
        refusals = record { count = saturating_count refused 1; fuse = until; faults = faults j };
        down_below = did.down j;
        passed_below = did.passed j;
      };
    })
