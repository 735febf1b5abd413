use Rattle.std.proofs.Common.{◌+◌, ◌∙◌, List, ℕ, set, slice_index, sym, ap, arith}
use Rattle.jc_words.proofs.Runs.{with_run_more}
use Rattle.jc_words.proofs.memory.set_words.Goals as goal

pub loop-k-preserved : goal.loop-k-preserved
loop-k-preserved c =
    let run = c.args.run.now in
    let k = c.loop-k.k in
    ap (λ (ws : List ℕ). set ws (c.args.first + k) (slice_index run k)) c.loop-k.invariant
    ∙ sym (with_run_more c.args.words.now c.args.first run k (omega arith))
