use Rattle.std.proofs.Common.{◌∙◌, ◌++◌, ap}
use Rattle.jcard_outcomes.specs.CommandShares.{share_label}
use Rattle.jcard_outcomes.specs.Part.{numbered}
use Rattle.jcard_outcomes.proofs.ShareLists.{of_more}
use Rattle.jcard_outcomes.proofs.command_shares.is_of_more.Goals as goal

pub returns : goal.returns
returns c = of_more c.args.text.now c.deref.result.now c.in-Some.rest.now c.args.number c.args.count c.tells_more.result c.in-Some.ensures
    (c.deref.ensures.value ∙ c.in_ok-push_numbered.ensures ∙ ap (λ l. l ++ numbered share_label c.args.number) c.new-start.ensures.items) c.tells_more.ensures
