use Rattle.std.proofs.Common.{arith, ◌≡◌, ◌+◌, ◌-◌, ◌∙◌, ap, sym, List, ℕ}
use Rattle.jc_objects.specs.Holders.{cell_behind}
use Rattle.jc_objects.specs.Records.{item_at}
use Rattle.jc_objects.proofs.Holding.{is_held, not_there, of_transient, there, too_far, too_low}
use Rattle.jc_objects.proofs.holders.holder_at.Goals as goal
use Rattle.jc_objects.proofs.holders.holder_at.Goals.{then-is_some-via-then-is_some, then-is_some-via-else-is_some+then-from-first}

pub returns-then-is_some : goal.returns-then-is_some
returns-then-is_some g c =
    let w : List ℕ = g.W.ImageWords.words c.args.words.now in
    let f = c.in-Some.facts in
    elim c.then-is_some.branch [
      | then-is_some-via-then-is_some v ↦ not_there f (item_at w c.args.at) c.args.at c.args.address c.in-Some.ensures.facts
          (of_transient f c.args.at c.args.address (sym c.is_some.ensures ∙ v.if-is_some.true))
      | then-is_some-via-else-is_some+then-from-first v ↦ not_there f (item_at w c.args.at) c.args.at c.args.address c.in-Some.ensures.facts
          (too_low f c.args.at c.args.address (omega (arith, v.if-from-first.true, v.from-else-is_some.ensures)))
    ]

pub returns-then-cell-from : goal.returns-then-cell-from
returns-then-cell-from g c =
    let w : List ℕ = g.W.ImageWords.words c.args.words.now in
    let f = c.in-Some.facts in
    let words : c.from-3.result - (c.from.result + c.from-2.result) ≡ c.args.address - (c.args.at + 4) = omega arith in
    not_there f (item_at w c.args.at) c.args.at c.args.address c.in-Some.ensures.facts
    (too_far f c.args.at c.args.address c.cell_behind-cell.result (c.cell_behind-cell.ensures ∙ ap (cell_behind f) words) (omega (arith, c.if-cell-from.true)))

pub returns : goal.returns
returns g c =
    let w : List ℕ = g.W.ImageWords.words c.args.words.now in
    let f = c.in-Some.facts in
    let words : c.from-3.result - (c.from.result + c.from-2.result) ≡ c.args.address - (c.args.at + 4) = omega arith in
    let same : c.cell_behind-cell.result ≡ cell_behind f (c.args.address - (c.args.at + 4)) = c.cell_behind-cell.ensures ∙ ap (cell_behind f) words in
    there f (item_at w c.args.at) c.args.at c.args.address c.cell_behind-cell.result c.in-Some.ensures.facts
    (is_held f c.args.at c.args.address c.cell_behind-cell.result (sym c.is_some.ensures ∙ c.if-is_some.false)
    (omega (arith, c.if-from-first.false, c.from-else-is_some.ensures)) same (omega (arith, c.if-cell-from.false))) same
