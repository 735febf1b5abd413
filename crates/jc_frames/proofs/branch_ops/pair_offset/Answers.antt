use Rattle.std.proofs.Common.{rules, arith, sym, ◌∙◌, ap, w16, SFits, to_z-of_z}
use Rattle.jc_frames.specs.Cell.{result_or_none}
use Rattle.jc_frames.proofs.Pairs.{pairs_found, result_or_none-ok_or, same_bits}
use Rattle.jc_frames.proofs.branch_ops.pair_offset.Goals as goal

pub returns-then-first-key : goal.returns-then-first-key
returns-then-first-key c =
    let fits : SFits w16 c.in_ok-first.first = search rules in
    let key : SFits w16 c.args.key = c.ranges.key in
    let other : SFits w16 c.args.otherwise = c.ranges.otherwise in
    let same = rw (to_z-of_z other, to_z-of_z key) at c.loop-pair.invariant.same in
    ap result_or_none c.ok_or-then-first-key.ensures.value ∙ result_or_none-ok_or _ c.s2_at-then-first-key.result ∙ c.s2_at-then-first-key.ensures.value
    ∙ sym (same ∙ pairs_found c.args.code.now c.args.otherwise _ c.loop-pair.at c.args.key c.in_ok-first.first (omega arith) (search rules)
    (same_bits _ _ fits key c.if-first-key.true))
