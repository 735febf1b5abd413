use Rattle.std.proofs.Common.{◌<◌, ◌∙◌, ◌++◌, ◌∷◌, [], List, ℕ, ap, sym, take, length, arith}
use Rattle.std.proofs.lemmas.List.{take_all, take_more}
use Rattle.jc_heap.specs.Image.{text_words}
use Rattle.jc_packages.proofs.tables.text_words_of.Goals as goal

pub loop-j-preserved : goal.loop-j-preserved
loop-j-preserved g c =
    let text : List ℕ = text_words (g.W.ImageWords.words c.args.image.now) in
    let j = c.loop-j.j in
    let near : j < length text = omega (arith, c.text_word_count-count.ensures.exact) in
    c.in_ok-push.ensures.items
    ∙ ap (λ (l : List ℕ). l ++ c.text_word.result ∷ []) c.loop-j.invariant
    ∙ ap (λ (v : ℕ). take j text ++ v ∷ []) c.text_word.ensures
    ∙ sym (take_more text j 0 near)

pub returns : goal.returns
returns g c =
    let text : List ℕ = text_words (g.W.ImageWords.words c.args.image.now) in
    c.loop-j.invariant ∙ take_all c.loop-j.j text (omega (arith, c.text_word_count-count.ensures.exact))
