use Rattle.std.proofs.Common.{length, sym}
use Rattle.std.proofs.Math.Nat.{pow-zero}
use Rattle.jc_commit.specs.Replay.{replay_writes}
use Rattle.jcard_tear.proofs.CutRecoveries.{none_cut}
use Rattle.jcard_tear.proofs.recoveries.recoveries.Goals as goal

pub returns-in-Zero : goal.returns-in-Zero
returns-in-Zero c = rw c.in-Zero.is
    (sym (pow-zero (length (replay_writes c.args.words.now))), none_cut c.args.budget c.args.words.now c.args.probe.now c.args.whole.now c.requires.left)
