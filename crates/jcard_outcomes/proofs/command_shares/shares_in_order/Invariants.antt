use Rattle.std.proofs.Common.{length, take}
use Rattle.jcard_outcomes.specs.CommandShares.{AreShares}
use Rattle.jcard_outcomes.proofs.Ends.{lent}
use Rattle.jcard_outcomes.proofs.command_shares.shares_in_order.Given as goal

abbrev pub invariant-loop-number : goal.invariant-loop-number
invariant-loop-number l = AreShares 0 (length l.texts) (lent (take l.number l.texts)) l.text.items l.is_all_or_nothing
