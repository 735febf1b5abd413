use Rattle.std.proofs.Common.{◌≡◌, ◌∙◌, ◌+◌, ◌∷◌, [], ◌++◌, suc, refl, sym, ap, arith}
use Rattle.std.proofs.lemmas.List.{length-set, take_all, take_more_set}
use Rattle.md5.specs.Md5.{block_words}
use Rattle.jc_digests.proofs.md_5.block_words.Goals as goal

pub words-init : goal.words-init
unfolding block_words
words-init c = (refl, refl)

pub words-preserved : goal.words-preserved
unfolding block_words
words-preserved c =
    let i = c.words.i in
    let inv = c.words.invariant in
    let next : suc i ≡ i + 1 = omega arith in (
      take_more_set c.words.words i c.word_at.result (omega (arith, inv.1)) ∙ (λ j. inv.0 j ++ c.word_at.ensures j ∷ []) ∙ ap (block_words c.args.block.now) next,
      length-set c.words.words i c.word_at.result ∙ inv.1,
    )

pub returns : goal.returns
returns c =
    let all : c.words.i ≡ 16 = omega arith in
    let inv = c.words.invariant in
    sym (take_all c.words.i c.words.words (omega (arith, inv.1, all))) ∙ inv.0 ∙ ap (block_words c.args.block.now) all
