use Rattle.std.proofs.Common.{◌≡◌, ◌∙◌, ◌≤◌, ◌+◌, ◌*◌, ◌++◌, List, [], ℕ, length, length-append, length-take-le, take, ap, arith}
use Rattle.jc_ciphers.specs.Padding.{padding_of}
use Rattle.jc_ciphers.proofs.Pieces.{open_block, part_left}
use Rattle.jc_ciphers.proofs.conversion.finish.Goals as goal

pub returns-then-progress-block-clause-refused : goal.returns-then-progress-block-clause-refused
returns-then-progress-block-clause-refused g c = λ whole.
    let size = g.S.Step.size in
    let used = c.args.used in
    let block = c.args.block.now in
    let left = c.convert-progress.result.used in
    let kept : List ℕ = take used block in
    let padding : List ℕ = padding_of c.args.padding size used in
    let fits : used ≤ length block = omega (arith, c.requires.used, c.requires.block) in
    let under = c.convert-progress.ensures.converted c.args.chain.now kept []
    (open_block (g.S.Step.chained c.args.step.now) (g.S.Step.written c.args.step.now) size c.args.chain.now block used fits) in
    let padded = c.pad-count.ensures.padded ∙ ap (λ (n : ℕ). padding_of c.args.padding n used) c.requires.block in
    let all : under.blocks * size + left ≡ used + length padding =
    under.long ∙ ap (λ (xs : List ℕ). length (kept ++ xs)) padded ∙ length-append kept padding
    ∙ ap (λ (n : ℕ). n + length padding) (length-take-le used block fits) in
    part_left size under.blocks left (used + length padding) all c.if-progress-eq0.false
    (omega (arith, c.if-progress-block.true, c.convert-progress.auto.block, c.requires.block)) whole
