use Rattle.std.proofs.Common.{◌≡◌, ◌∙◌, ◌++◌, List, ℕ, refl, subst, take, ap, arith}
use Rattle.std.specs.Option.{option_and_then}
use Rattle.jc_ciphers.specs.Kept.Conversion.{next_end, unpadded}
use Rattle.jc_ciphers.specs.Kept.{chain_in, open_in}
use Rattle.jc_ciphers.specs.Modes.{IsUnderWay}
use Rattle.jc_ciphers.proofs.Ready.{ended_part, ended_whole, front_map}
use Rattle.jc_ciphers.proofs.kept.conversion.finish_unpadded.Goals as goal

pub returns-then-progress-ne0-clause-ended : goal.returns-then-progress-ne0-clause-ended
unfolding next_end
returns-then-progress-ne0-clause-ended g c =
    let f = g.S.Step.chained c.args.step.now in
    let w = g.S.Step.written c.args.step.now in
    let size = g.S.Step.size in
    let state = c.args.state.now in
    let piece = c.args.piece.now in
    let vector = c.args.vector.now in
    let width = c.requires.vector in
    let read = c.read_state-used in
    let done = c.convert_ready-progress in
    let used = done.result.used in
    let out : List ℕ = take done.result.written done.new.to in
    let m : List ℕ = open_in size state ++ piece in
    let rest : take read.result read.new.block ≡ open_in size state = read.ensures.rest ∙ ap (λ (n : ℕ). open_in n state) width in
    let first : read.new.chain ≡ chain_in size vector state = read.ensures.chain ∙ ap (λ (n : ℕ). chain_in n vector state) width in
    let P : List ℕ → Type 0 = λ xs. IsUnderWay f w size read.new.chain (xs ++ piece) done.new.chain done.new.block used out in
    let Q : List ℕ → Type 0 = λ xs. IsUnderWay f w size xs m done.new.chain done.new.block used out in
    let under = subst Q first (subst P rest done.ensures.converted) in
    let some = c.if-progress-ne0.true in
    ap (option_and_then (unpadded c.args.padding size))
    (ended_part f w size (chain_in size vector state) m under.blocks used under.long (omega (arith, some)) (done.ensures.left refl))

pub returns-clause-ended : goal.returns-clause-ended
unfolding next_end
returns-clause-ended g c =
    let f = g.S.Step.chained c.args.step.now in
    let w = g.S.Step.written c.args.step.now in
    let size = g.S.Step.size in
    let state = c.args.state.now in
    let piece = c.args.piece.now in
    let vector = c.args.vector.now in
    let width = c.requires.vector in
    let read = c.read_state-used in
    let done = c.convert_ready-progress in
    let used = done.result.used in
    let out : List ℕ = take done.result.written done.new.to in
    let m : List ℕ = open_in size state ++ piece in
    let rest : take read.result read.new.block ≡ open_in size state = read.ensures.rest ∙ ap (λ (n : ℕ). open_in n state) width in
    let first : read.new.chain ≡ chain_in size vector state = read.ensures.chain ∙ ap (λ (n : ℕ). chain_in n vector state) width in
    let P : List ℕ → Type 0 = λ xs. IsUnderWay f w size read.new.chain (xs ++ piece) done.new.chain done.new.block used out in
    let Q : List ℕ → Type 0 = λ xs. IsUnderWay f w size xs m done.new.chain done.new.block used out in
    let under = subst Q first (subst P rest done.ensures.converted) in
    front_map done.new.to done.result.written c.unpadded_count.result c.unpadded_count.ensures.within
    ∙ c.unpadded_count.ensures.ended ∙ ap (λ (n : ℕ). unpadded c.args.padding n out) width
    ∙ ap (option_and_then (unpadded c.args.padding size))
    (ended_whole f w size (chain_in size vector state) m done.new.chain done.new.block used out c.requires.some c.if-progress-ne0.false under)
