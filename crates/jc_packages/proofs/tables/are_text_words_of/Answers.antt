use Rattle.std.proofs.Common.{◌≡◌, ◌∙◌, ◌<◌, List, ℕ, length, rules, subst, sym}
use Rattle.std.proofs.lemmas.List.{ext_get_or}
use Rattle.jc_heap.specs.Image.{text_words}
use Rattle.jc_packages.proofs.tables.are_text_words_of.Goals as goal

pub returns : goal.returns
returns g c = λ same.
    let words : List ℕ = c.args.words.now in
    let text : List ℕ = text_words (g.W.ImageWords.words c.args.image.now) in
    let long : length words ≡ length text = search rules in
    ext_get_or 0 words text long (λ j below. c.agrees_with_text.ensures same j (subst (λ (n : ℕ). j < n) (long ∙ sym c.text_word_count-count.ensures.exact) below))
