use Rattle.std.proofs.Common.{◌≡◌, ◌∙◌, ◌+◌, ◌++◌, ◌&&◌, Bool, List, ℕ, length, length-append, nat_eq, not, slice_index, subst, take, ap, arith}
use Rattle.jc_ciphers.specs.Kept.Conversion.{padded, next_end, whole_output}
use Rattle.jc_ciphers.specs.Kept.{chain_in, open_in}
use Rattle.jc_ciphers.specs.Modes.{IsUnderWay}
use Rattle.jc_ciphers.proofs.kept.conversion.finish_padded.Goals as goal

pub returns-clause-ended : goal.returns-clause-ended
unfolding next_end
returns-clause-ended g c =
    let f = g.S.Step.chained c.args.step.now in
    let w = g.S.Step.written c.args.step.now in
    let size = g.S.Step.size in
    let state = c.args.state.now in
    let piece = c.args.piece.now in
    let vector = c.args.vector.now in
    let width = c.requires.vector in
    let read = c.read_state-used in
    let done = c.convert_ready-progress in
    let out : List ℕ = take done.result.written done.new.to in
    let m : List ℕ = open_in size state ++ piece in
    let is = read.ensures.used ∙ ap (λ (n : ℕ). length (open_in n state)) width in
    let held : read.result + length piece ≡ length m = omega (arith, is, length-append (open_in size state) piece) in
    let rest : take read.result read.new.block ≡ open_in size state = read.ensures.rest ∙ ap (λ (n : ℕ). open_in n state) width in
    let first : read.new.chain ≡ chain_in size vector state = read.ensures.chain ∙ ap (λ (n : ℕ). chain_in n vector state) width in
    let P : List ℕ → Type 0 = λ xs. IsUnderWay f w size read.new.chain (xs ++ piece) done.new.chain done.new.block done.result.used out in
    let Q : List ℕ → Type 0 = λ xs. IsUnderWay f w size xs m done.new.chain done.new.block done.result.used out in
    let under = subst Q first (subst P rest done.ensures.converted) in
    let came = c.has_bytes-came.ensures ∙ ap (λ (n : ℕ). not (nat_eq (slice_index state 0) 0 && nat_eq n 0)) held in
    c.end_padded.ensures.ended (chain_in size vector state) m under
    ∙ ap (λ (t : Bool). whole_output f w size (chain_in size vector state) (padded c.args.padding size t m)) came
