use Rattle.std.proofs.Common.{◌∙◌, ◌+◌, ◌-◌, ap, arith}
use Rattle.jc_memory.specs.Cells.{bytes_at}
use Rattle.jc_memory.specs.State.{MemoryState, SendBytes, apply_effect}
use Rattle.jc_memory.proofs.Sending.{sent_in_pieces}
use Rattle.jc_memory.proofs.memory.Memory.+send_pieces.Goals as goal

pub returns : goal.returns
returns g t c =
    c.send_pieces.ensures
    ∙ (ap (λ (s : MemoryState). apply_effect (SendBytes (bytes_at s c.args.object (c.args.i + 256) (c.args.count - 256))) s) c.send_piece-2.ensures
    ∙ sent_in_pieces c.args.self.now c.args.object c.args.i 256 (c.args.count - 256) c.args.count (omega (arith, c.if-count-le-SENT_AT_ONCE.false)))
