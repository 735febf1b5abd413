use Rattle.std.proofs.Common.{List, ℕ, ◌∙◌, ap₂, arith}
use Rattle.std.proofs.lemmas.Result.{err_from_is_err_and}
use Rattle.jcard_dump.specs.Parts.{larger, pair_at, part_count}
use Rattle.jcard_dump.proofs.LineLists.{next_listed, next_stopped, none_listed}
use Rattle.jcard_dump.proofs.parts.push_part.Goals as goal

pub loop-i-init : goal.loop-i-init
loop-i-init g c = none_listed _ _

pub loop-i-preserved : goal.loop-i-preserved
loop-i-preserved g c =
    let w : List ℕ = c.args.one.now.words in
    let v : List ℕ = c.args.other.now.words in
    next_listed (pair_at c.args.part c.args.one.now c.args.other.now) c.loop-i.i _ _ _ c.loop-i.invariant c.in_ok-push_pair_at.ensures

pub returns-in_err-push_pair_at : goal.returns-in_err-push_pair_at
returns-in_err-push_pair_at g c =
    let p = err_from_is_err_and c.from_residual.result c.from_residual.ensures.1 in
    let stop = c.in_err-push_pair_at.field-0.0 in
    let w : List ℕ = c.args.one.now.words in
    let v : List ℕ = c.args.other.now.words in
    rw (p.1, p.2) (next_stopped (pair_at c.args.part c.args.one.now c.args.other.now)
    (larger (part_count c.args.part w) (part_count c.args.part v)) c.loop-i.i stop _ _ _
    (omega (arith, c.larger-count.ensures ∙ ap₂ larger c.part_count.ensures c.part_count-2.ensures))
    c.loop-i.invariant c.in_err-push_pair_at.ensures)
