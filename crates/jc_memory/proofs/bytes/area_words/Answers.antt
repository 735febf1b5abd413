use Rattle.std.proofs.Common.{◌<◌, ◌∙◌, ℕ, length, ap, arith}
use Rattle.jc_transient.specs.State.{cell_at}
use Rattle.jc_memory.specs.Cells.{word_of}
use Rattle.jc_memory.proofs.Running.{read_more, read_all}
use Rattle.jc_memory.proofs.bytes.area_words.Goals as goal

pub loop-k-preserved : goal.loop-k-preserved
loop-k-preserved c =
    let f : ℕ → ℕ = λ k. word_of (cell_at c.args.ram.now c.args.event k) in
    let within : c.loop-k.k < length c.loop-k.out = omega arith in
    read_more f c.loop-k.out c.args.place c.loop-k.k c.word_of.result within (c.word_of.ensures ∙ ap word_of c.get.ensures) c.loop-k.invariant

pub returns : goal.returns
returns c = read_all (λ k. word_of (cell_at c.args.ram.now c.args.event k)) c.loop-k.out c.args.place c.loop-k.k (length c.args.out.now)
    (omega arith) (omega arith) c.loop-k.invariant
