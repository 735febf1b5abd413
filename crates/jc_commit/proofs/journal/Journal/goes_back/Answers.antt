use Rattle.std.proofs.Common.{ap, sym, ◌∙◌}
use Rattle.jc_commit.specs.State.{State, keeping}
use Rattle.jc_commit.proofs.EntryKeeping.{back_by}
use Rattle.jc_commit.proofs.Changing.{back_inside}
use Rattle.jc_commit.proofs.WhatIsKept.{outside-back}
use Rattle.jc_commit.proofs.journal.Journal.goes_back.Goals as goal

pub returns-then-not-self : goal.returns-then-not-self
returns-then-not-self g c = sym (outside-back (keeping c.args.self.now) c.args.address (sym (ap (λ (s : State). s.in_transaction) c.self.view_is) ∙ c.if-not-self.true))

pub returns : goal.returns
returns g c =
    let v = c.self.view_is in
    let inside = c.if-not-self.false in
    c.is_taken_back.ensures ∙ back_by c.self.invariant v c.requires inside c.read-count.ensures c.args.address
    ∙ sym (back_inside c.args.self.now c.args.address (sym (ap (λ (s : State). s.in_transaction) v) ∙ inside))
