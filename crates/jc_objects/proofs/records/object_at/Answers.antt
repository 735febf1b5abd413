use Rattle.std.proofs.Common.{arith, ◌<◌, ◌∙◌, sym, length, List, ℕ}
use Rattle.jc_objects.proofs.ItemWords.{cells_are}
use Rattle.jc_objects.proofs.records.object_at.Goals as goal

pub returns-clause-cells : goal.returns-clause-cells
returns-clause-cells g c = λ none.
    let w : List ℕ = g.W.ImageWords.words c.args.words.now in
    let small : length w < 65536 = omega (arith, c.word_count.ensures) in
    cells_are w c.args.at c.requires.bounds c.requires.record (sym c.begins_package.ensures ∙ c.if-begins_package.false) small c.facts_at.result
    c.facts_at.ensures none
