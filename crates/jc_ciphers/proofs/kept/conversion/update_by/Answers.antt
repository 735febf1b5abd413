use Rattle.std.proofs.Common.{◌≡◌, ◌≢◌, ◌∙◌, ◌+◌, ◌*◌, ◌++◌, List, ℕ, length, length-append, length-take-le, subst, sym, take, ap, arith}
use Rattle.jc_ciphers.specs.Kept.{chain_in, open_in, ready_blocks, state_of}
use Rattle.jc_ciphers.specs.Modes.{IsUnderWay}
use Rattle.jc_ciphers.proofs.Ready.{blocks_by_bytes, nothing_kept, nothing_out, output_of, ready_zero, state_kept}
use Rattle.jc_ciphers.proofs.kept.conversion.update_by.Goals as goal

pub returns-then-used-piece-eq0 : goal.returns-then-used-piece-eq0
returns-then-used-piece-eq0 g c =
    let size = g.S.Step.size in
    let state = c.args.state.now in
    let piece = c.args.piece.now in
    let vector = c.args.vector.now in
    let holds = c.args.holds in
    let some = c.requires.some in
    let nothing = c.if-used-piece-eq0.true in
    let is = c.read_state-used.ensures.used ∙ ap (λ (n : ℕ). length (open_in n state)) c.requires.vector in
    let none : length (open_in size state ++ piece) ≡ 0 = omega (arith, nothing, is, length-append (open_in size state) piece) in
    let zeros : 0 ≡ 0 * size = omega arith in
    record {
      count = zeros ∙ sym (ap (λ (n : ℕ). ready_blocks holds size n * size) none ∙ ap (λ (k : ℕ). k * size) (ready_zero holds size some));
      output = nothing_out (g.S.Step.chained c.args.step.now) (g.S.Step.written c.args.step.now) size holds vector state piece some none;
      state = nothing_kept (g.S.Step.chained c.args.step.now) size holds vector state piece none;
    }

pub returns : goal.returns
returns g c =
    let f = g.S.Step.chained c.args.step.now in
    let w = g.S.Step.written c.args.step.now in
    let size = g.S.Step.size in
    let state = c.args.state.now in
    let piece = c.args.piece.now in
    let vector = c.args.vector.now in
    let holds = c.args.holds in
    let some = c.requires.some in
    let width = c.requires.vector in
    let fits = c.requires.fits in
    let read = c.read_state-used in
    let done = c.convert_ready-progress in
    let bytes = done.ensures.bytes in
    let used = done.result.used in
    let written = done.result.written in
    let out : List ℕ = take written done.new.to in
    let m : List ℕ = open_in size state ++ piece in
    let is = read.ensures.used ∙ ap (λ (n : ℕ). length (open_in n state)) width in
    let held : read.result + length piece ≡ length m = omega (arith, is, length-append (open_in size state) piece) in
    let rest : take read.result read.new.block ≡ open_in size state = read.ensures.rest ∙ ap (λ (n : ℕ). open_in n state) width in
    let first : read.new.chain ≡ chain_in size vector state = read.ensures.chain ∙ ap (λ (n : ℕ). chain_in n vector state) width in
    let P : List ℕ → Type 0 = λ xs. IsUnderWay f w size read.new.chain (xs ++ piece) done.new.chain done.new.block used out in
    let Q : List ℕ → Type 0 = λ xs. IsUnderWay f w size xs m done.new.chain done.new.block used out in
    let under : IsUnderWay f w size (chain_in size vector state) m done.new.chain done.new.block used out =
    subst Q first (subst P rest done.ensures.converted) in
    let counted = done.ensures.written ∙ ap (λ (n : ℕ). ready_blocks holds size n * size) held in
    let same = blocks_by_bytes f w size (chain_in size vector state) m done.new.chain done.new.block used out (ready_blocks holds size (length m)) written
    some under (omega (arith, bytes, held)) counted in
    let long : length done.new.block ≡ size = done.auto.block ∙ read.auto.block ∙ length-take-le (length vector) _ (omega (arith, width, fits)) ∙ width in
    record {
      count = counted;
      output = output_of f w size holds vector state piece done.new.chain done.new.block used out under same;
      state = state_kept f w size holds vector state piece done.new.chain done.new.block c.put_state.new.state used out under same
          (λ none. c.if-used-piece-eq0.false (omega (arith, none, held)))
          (c.put_state.ensures ∙ ap (λ (n : ℕ). state_of n done.new.chain (take used done.new.block)) long);
    }
