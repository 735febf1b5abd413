use Rattle.std.proofs.Common.{◌<◌, length, arith}
use Rattle.jc_memory.specs.Cells.{word_at}
use Rattle.jc_memory.proofs.Running.{read_more, read_all}
use Rattle.jc_memory.proofs.memory.Memory.words_one_by_one.Goals as goal

pub loop-k-preserved : goal.loop-k-preserved
loop-k-preserved g c =
    let within : c.loop-k.k < length c.loop-k.out = omega arith in
    read_more (word_at c.args.self.now c.args.object) c.loop-k.out c.args.i c.loop-k.k c.word.result within c.word.ensures c.loop-k.invariant

pub returns : goal.returns
returns g c = read_all (word_at c.args.self.now c.args.object) c.loop-k.out c.args.i c.loop-k.k (length c.args.out.now) (omega arith)
    (omega arith) c.loop-k.invariant
