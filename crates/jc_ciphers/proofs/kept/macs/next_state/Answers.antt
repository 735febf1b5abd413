use Rattle.std.proofs.Common.{◌≡◌, ◌∙◌, ◌≤◌, ◌+◌, ◌++◌, ℕ, List, length, length-append, length-take-le, replicate, take, sym, ap, arith}
use Rattle.jc_ciphers.specs.Kept.{chain_in, open_in, state_of}
use Rattle.jc_ciphers.proofs.KeptBlocks.{nothing_next, something_next}
use Rattle.jc_ciphers.proofs.kept.macs.next_state.Goals as goal

pub returns-then-is_nothing : goal.returns-then-is_nothing
returns-then-is_nothing g c =
    let vector = c.args.vector.now in
    let state = c.args.state.now in
    let piece = c.args.piece.now in
    let read = c.read_state-used in
    let used = read.result in
    let long : length (take (length vector) (replicate 16 0)) ≡ g.S.Step.size =
    length-take-le (length vector) (replicate 16 0) (omega (arith, c.requires.vector, c.requires.fits)) ∙ c.requires.vector in
    let front : take used read.new.block ≡ open_in g.S.Step.size state = read.ensures.open ∙ ap (λ (n : ℕ). open_in n state) long in
    let opened : length (take used read.new.block) ≡ used =
    length-take-le used read.new.block (omega (arith, read.ensures.within, read.auto.block, long)) in
    let all : length (open_in g.S.Step.size state ++ piece) ≡ used + length piece =
    length-append (open_in g.S.Step.size state) piece ∙ ap (λ (n : ℕ). n + length piece) (ap (λ (xs : List ℕ). length xs) (sym front) ∙ opened) in
    nothing_next (g.S.Step.chained c.args.step.now) g.S.Step.size vector state piece (used + length piece) all
    (sym c.is_nothing.ensures ∙ c.if-is_nothing.true)

pub returns : goal.returns
returns g c =
    let vector = c.args.vector.now in
    let state = c.args.state.now in
    let piece = c.args.piece.now in
    let read = c.read_state-used in
    let used = read.result in
    let next = c.take_in-filled in
    let long : length (take (length vector) (replicate 16 0)) ≡ g.S.Step.size =
    length-take-le (length vector) (replicate 16 0) (omega (arith, c.requires.vector, c.requires.fits)) ∙ c.requires.vector in
    let chain : read.new.chain ≡ chain_in g.S.Step.size vector state = read.ensures.chain ∙ ap (λ (n : ℕ). chain_in n vector state) long in
    let front : take used read.new.block ≡ open_in g.S.Step.size state = read.ensures.open ∙ ap (λ (n : ℕ). open_in n state) long in
    let opened : length (take used read.new.block) ≡ used =
    length-take-le used read.new.block (omega (arith, read.ensures.within, read.auto.block, long)) in
    let all : length (take used read.new.block ++ piece) ≡ used + length piece =
    length-append (take used read.new.block) piece ∙ ap (λ (n : ℕ). n + length piece) opened in
    let sized : length next.new.chain ≡ g.S.Step.size = next.auto.chain ∙ read.auto.chain ∙ long in
    let rest : List ℕ = take next.result next.new.block in
    c.put_state.ensures ∙ ap (λ (n : ℕ). state_of n next.new.chain rest) sized
    ∙ something_next (g.S.Step.chained c.args.step.now) g.S.Step.size vector state piece read.new.chain (take used read.new.block)
    next.new.chain rest (used + length piece) chain front all (sym c.is_nothing.ensures ∙ c.if-is_nothing.false) next.ensures.chain next.ensures.rest
