use Rattle.std.proofs.Common.{◌≡◌, ◌∙◌, ◌≤◌, ◌+◌, ◌/◌, ◌++◌, [], ℕ, List, length, length-take-le, take, sym, ap, arith}
use Rattle.jc_ciphers.specs.Modes.{IsUnderWay, chain_after}
use Rattle.jc_ciphers.specs.Padding.{IsWhole, padding_of}
use Rattle.jc_ciphers.proofs.KeptBlocks.{whole_through}
use Rattle.jc_ciphers.proofs.KeptEnds.{closed_whole, outcome}
use Rattle.jc_ciphers.proofs.Pieces.{open_block}
use Rattle.jc_ciphers.proofs.kept.macs.close.Goals as goal

pub returns : goal.returns
returns g c =
    let f = g.S.Step.chained c.args.step.now in
    let w = g.S.Step.written c.args.step.now in
    let size = g.S.Step.size in
    let chain = c.args.chain.now in
    let block = c.args.block.now in
    let used = c.args.used in
    let padding = c.args.padding in
    let fits : used ≤ length block = omega (arith, c.requires.used, c.requires.block) in
    let front : List ℕ = take used block in
    let whole = closed_whole padding size used c.requires.some c.requires.used c.requires.closed in
    let P : ℕ → Type 0 = λ count. IsUnderWay f w size chain (front ++ padding_of padding size used) c.finish.new.chain c.finish.new.block 0
    ([] ++ take count c.finish.new.to) in
    let under = outcome c.finish.result P (IsWhole padding size used) c.finish.ensures.refused whole
    (c.finish.ensures.converted chain front [] (open_block f w size chain block used fits)) in
    whole_through f w size chain (front ++ padding_of padding size used) c.finish.new.chain c.finish.new.block
    ([] ++ take under.0 c.finish.new.to) c.requires.some under.1
    ∙ ap (λ (n : ℕ). chain_after f size chain (front ++ padding_of padding size n) (length (front ++ padding_of padding size n) / size))
    (sym (length-take-le used block fits))
