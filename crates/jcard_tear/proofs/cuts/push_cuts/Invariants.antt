use Rattle.std.proofs.Common.{◌≡◌, ◌+◌, ◌*◌, length}
use Rattle.std.specs.Prelude.{IfSome}
use Rattle.jcard_tear.specs.KeptCard.{IsLastCut}
use Rattle.jcard_tear.specs.Sweep.{AreCuts}
use Rattle.jcard_tear.proofs.cuts.push_cuts.Given as goal

abbrev pub invariant-loop-place : goal.invariant-loop-place
invariant-loop-place g l = record {
  cuts : AreCuts l.shared.words.now l.shared.command l.shared.baseline l.share.first l.share.step l.cuts.items;
  count : l.number ≡ l.share.first + l.share.step * length l.cuts.items;
  places : length l.cuts.items ≡ l._place;
  last : IfSome l.last (λ reported. IsLastCut l.shared reported);
}
