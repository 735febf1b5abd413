use Rattle.std.proofs.Common.{[], get_or, length, subst, sym}
use Rattle.jcard_outcomes.specs.CommandShares.{IsNoShare}
use Rattle.jcard_outcomes.proofs.Ends.{lent, lent_at}
use Rattle.jcard_outcomes.proofs.LineReads.{refused_on}
use Rattle.jcard_outcomes.proofs.ShareLists.{shares_next, shares_none}
use Rattle.jcard_outcomes.proofs.command_shares.shares_in_order.Goals as goal

pub loop-number-init : goal.loop-number-init
loop-number-init c = rw c.new-text.ensures.items (shares_none _)

pub loop-number-preserved : goal.loop-number-preserved
loop-number-preserved c = shares_next (length c.args.texts.now) c.args.texts.now c.loop-number.number c.loop-number.text.items c.extend_from_slice.new.self.items
    c.in_ok-is_whole.verdicts.now c.loop-number.is_all_or_nothing c.in_ok-is_whole.is_whole c.both-is_all_or_nothing.result c.loop-number-test.true
    c.loop-number.invariant c.in_ok-is_whole.ensures c.in_ok-extend_from_slice.ensures.items c.both-is_all_or_nothing.ensures

pub returns-in_err-is_whole-clause-fault : goal.returns-in_err-is_whole-clause-fault
returns-in_err-is_whole-clause-fault c =
    let texts = c.args.texts.now in
    let i = c.loop-number.number in
    refused_on _ c.from_residual.result c.from_residual.ensures.1 (λ fault e. (
      i,
      c.loop-number-test.true,
      subst (λ t. IsNoShare i (length texts) t fault) (sym (lent_at texts i c.loop-number-test.true))
          (subst (IsNoShare i (length texts) _) (sym e) c.in_err-is_whole.ensures),
    ))

pub returns-in_err-extend_from_slice-clause-fault : goal.returns-in_err-extend_from_slice-clause-fault
returns-in_err-extend_from_slice-clause-fault c =
    let texts = c.args.texts.now in
    let i = c.loop-number.number in
    refused_on _ c.from_residual-in_err-extend_from_slice.result c.from_residual-in_err-extend_from_slice.ensures.1
    (λ fault e. (i, c.loop-number-test.true, subst (IsNoShare i (length texts) (get_or (lent texts) i [])) (sym e) tt))
