use Rattle.std.proofs.Common.{◌≡◌, ◌+◌, ◌*◌, ◌-◌, ◌/◌, ◌<◌, ◌∙◌, ℕ, List, ap, subst, get_or, set, length, arith, inl, inr}
use Rattle.std.proofs.Common.{rules}
use Rattle.std.proofs.lemmas.List.{length-set}
use Rattle.std.proofs.lemmas.Bool.{cases_lt}
use Rattle.jc_words.proofs.Fronts.{front_more}
use Rattle.jc_words.specs.Layout.{text_start}
use Rattle.jc_image.specs.Laying.{new_image_words}
use Rattle.jc_image.proofs.LaidImages.{length-laid}
use Rattle.jc_image.proofs.laying.write_image.Goals as goal

pub loop-i-preserved : goal.loop-i-preserved
loop-i-preserved g c =
    let now = g.S.WordStore.words c.loop-i.store in
    let first = g.S.WordStore.words c.args.store.now in
    let text = c.args.text.now in
    let i = c.loop-i.i in
    let inv = c.loop-i.invariant in
    let written = c.in_ok-write.ensures.written in
    let long : length (new_image_words (length first) c.args.room text) ≡ text_start + (length text + 1) / 2 = length-laid (length first) c.args.room text in
    let word : c.new_image_word.result ≡ get_or (new_image_words (length first) c.args.room text) i 0 = c.new_image_word.ensures.word
    ∙ ap (λ n. get_or (new_image_words n c.args.room text) i 0) c.size-n.ensures in
    record {
      words =
          written
          ∙ ap (λ v. set now i v) word
          ∙ ap (λ (ws : List ℕ). set ws i (get_or (new_image_words (length first) c.args.room text) i 0)) inv.words
          ∙ front_more (new_image_words (length first) c.args.room text) first i (omega arith) (omega arith);
      size = ap (λ (ws : List ℕ). length ws) written ∙ length-set now i c.new_image_word.result ∙ inv.size;
      up = λ _. c.in_ok-write.ensures.down;
      passed = search rules;
      down = search rules;
      refusals = search rules;
      bytes = λ k lt. elim (cases_lt (text_start + k) i) [
        | inl before ↦ inv.bytes k before
        | inr here ↦
            let e : i - text_start ≡ k = omega arith in
            subst (λ j. (get_or text (2 * j) 0 < 256) × (get_or text (2 * j + 1) 0 < 256)) e (c.new_image_word.ensures.bytes (omega arith))
      ];
    }
