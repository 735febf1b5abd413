use Rattle.std.proofs.Common.{◌<◌}
use Rattle.jc_commit.specs.Image.{IsGoodLog}
use Rattle.jcard_tear.specs.Recoveries.{AreTheSame, ComesToTheSame}
use Rattle.jcard_tear.proofs.recoveries.first_difference.Given as goal

abbrev pub invariant-loop-number : goal.invariant-loop-number
invariant-loop-number l = record {
  tried : ComesToTheSame l.budget l.tried.items l.probe l.whole;
  same : AreTheSame l.budget l.words l.probe l.whole l.number;
  good : 0 < l.number → IsGoodLog l.words;
}
