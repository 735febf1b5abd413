use Rattle.std.proofs.Common.{◌≡◌, subst}
use Rattle.std.specs.Prelude.{MatchResult}
use Rattle.jcard_test.specs.Tests.{AreAnswered, IsUntested}
use Rattle.jcard_test.proofs.PlannedCards.{tested_as}
use Rattle.jcard_test.proofs.testing.tested_file.Goals as goal

pub returns-in-Ok : goal.returns-in-Ok
returns-in-Ok g c =
    let f = c.args.named.now in
    let own = c.in-Ok.own in
    tested_as c.tested_by.result c.args.plan.now own f c.in-Ok.ensures (subst
    (λ lines. MatchResult c.tested_by.result (λ t. (t.name.now ≡ f.name.now) × AreAnswered own lines t) (λ fault. IsUntested fault))
    c.deref.ensures.value c.tested_by.ensures)
