use Rattle.std.proofs.Common.{◌≡◌, ◌∙◌, ◌+◌, ◌*◌, ◌++◌, ℕ, List, suc, take, ap, sym, arith, refl}
use Rattle.std.proofs.lemmas.List.{length-take-le}
use Rattle.jc_ciphers.specs.Aes.{next_word, schedule, word_before}
use Rattle.jc_ciphers.proofs.AesPlaces.{word_put}
use Rattle.jc_ciphers.proofs.aes.expanded.Goals as goal

pub expansion-init : goal.expansion-init
unfolding schedule
expansion-init c = record { scheduled = refl; place = (omega arith, omega arith); before = refl }

pub expansion-preserved : goal.expansion-preserved
unfolding schedule
expansion-preserved c =
    let key = c.args.key.now in
    let i = c.expansion.i in
    let word = c.next_word-word.result in
    let earlier = take (4 * i) c.expansion.words in
    let next : suc i ≡ i + 1 = omega arith in
    let bytes : 4 * (i + 1) ≡ 4 * i + 4 = omega arith in
    let put = ap (λ (n : ℕ). take n c.put_word.new.words) bytes ∙ c.put_word.ensures in
    let before = c.expansion.invariant.scheduled in
    let made = c.next_word-word.ensures ∙ ap (λ (w : List ℕ). next_word key w i) before in
    record {
      scheduled = put ∙ (λ j. before j ++ made j) ∙ ap (schedule key) next;
      place = c.next_place-place.ensures;
      before = word_put earlier word i (length-take-le (4 * i) c.expansion.words (omega arith)) (omega arith)
          ∙ ap (λ (w : List ℕ). word_before w (i + 1)) (sym put);
    }

pub returns : goal.returns
returns c =
    let all : c.expansion.i ≡ 4 * (c.args.rounds + 1) = omega arith in
    let bytes : 16 * (c.args.rounds + 1) ≡ 4 * c.expansion.i = omega (arith, all) in
    ap (λ (n : ℕ). take n c.expansion.words) bytes ∙ c.expansion.invariant.scheduled ∙ ap (schedule c.args.key.now) all
