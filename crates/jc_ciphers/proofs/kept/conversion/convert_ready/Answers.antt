use Rattle.std.proofs.Common.{◌≡◌, ◌∙◌, ◌*◌, ◌+◌, ◌++◌, Bool, List, [], ℕ, length, length-append, length-take-le, take, sym, ap, true≢false, arith}
use Rattle.jc_ciphers.specs.Kept.{ready_blocks}
use Rattle.jc_ciphers.proofs.Pieces.{open_block}
use Rattle.jc_ciphers.proofs.Ready.{whole_before, whole_held, written_by_blocks}
use Rattle.jc_ciphers.proofs.kept.conversion.convert_ready.Goals as goal

pub returns-then-holds-clause-converted : goal.returns-then-holds-clause-converted
returns-then-holds-clause-converted g c =
    let f = g.S.Step.chained c.args.step.now in
    let w = g.S.Step.written c.args.step.now in
    let used = c.args.used in
    let block = c.args.block.now in
    let fits = c.requires.used in
    let long = c.requires.block in
    c.convert-progress.ensures.converted c.args.chain.now (take used block) []
    (open_block f w g.S.Step.size c.args.chain.now block used (omega (arith, fits, long)))

pub returns-then-holds-clause-written : goal.returns-then-holds-clause-written
returns-then-holds-clause-written g c =
    let f = g.S.Step.chained c.args.step.now in
    let w = g.S.Step.written c.args.step.now in
    let size = g.S.Step.size in
    let used = c.args.used in
    let block = c.args.block.now in
    let piece = c.args.piece.now in
    let progress = c.convert-progress.result in
    let fits = c.requires.used in
    let long = c.requires.block in
    let kept : List ℕ = take used block in
    let count : length kept ≡ used = length-take-le used block (omega (arith, fits, long)) in
    let under = c.convert-progress.ensures.converted c.args.chain.now kept []
    (open_block f w size c.args.chain.now block used (omega (arith, fits, long))) in
    let all : under.blocks * size + progress.used ≡ used + length piece = omega (arith, under.long, length-append kept piece, count) in
    written_by_blocks size (used + length piece) (ready_blocks c.args.holds size (used + length piece)) under.blocks progress.used progress.written
    (ap (λ (h : Bool). ready_blocks h size (used + length piece)) c.if-holds.true
    ∙ whole_held size (used + length piece) under.blocks progress.used c.requires.some c.convert-progress.ensures.used c.convert-progress.ensures.filled all)
    all c.convert-progress.ensures.bytes

pub returns-clause-converted : goal.returns-clause-converted
returns-clause-converted g c =
    let f = g.S.Step.chained c.args.step.now in
    let w = g.S.Step.written c.args.step.now in
    let used = c.args.used in
    let block = c.args.block.now in
    let piece = c.args.piece.now in
    let fits = c.requires.used in
    let long = c.requires.block in
    c.make_room.ensures.converted c.args.chain.now (take used block ++ piece) []
    (c.convert-progress.ensures.converted c.args.chain.now (take used block) []
    (open_block f w g.S.Step.size c.args.chain.now block used (omega (arith, fits, long))))

pub returns-clause-written : goal.returns-clause-written
returns-clause-written g c =
    let f = g.S.Step.chained c.args.step.now in
    let w = g.S.Step.written c.args.step.now in
    let size = g.S.Step.size in
    let used = c.args.used in
    let block = c.args.block.now in
    let piece = c.args.piece.now in
    let progress = c.make_room.result in
    let fits = c.requires.used in
    let long = c.requires.block in
    let kept : List ℕ = take used block in
    let count : length kept ≡ used = length-take-le used block (omega (arith, fits, long)) in
    let under = c.make_room.ensures.converted c.args.chain.now (kept ++ piece) []
    (c.convert-progress.ensures.converted c.args.chain.now kept []
    (open_block f w size c.args.chain.now block used (omega (arith, fits, long)))) in
    let all : under.blocks * size + progress.used ≡ used + length piece = omega (arith, under.long, length-append kept piece, count) in
    let before = c.convert-progress.ensures.bytes in
    let bytes = c.make_room.ensures.bytes in
    written_by_blocks size (used + length piece) (ready_blocks c.args.holds size (used + length piece)) under.blocks progress.used progress.written
    (ap (λ (h : Bool). ready_blocks h size (used + length piece)) c.if-holds.false
    ∙ whole_before size (used + length piece) under.blocks progress.used c.make_room.ensures.used all)
    all (omega (arith, before, bytes))

pub returns-then-holds-clause-left : goal.returns-then-holds-clause-left
returns-then-holds-clause-left g c = λ never. absurd (true≢false (sym c.if-holds.true ∙ never))
