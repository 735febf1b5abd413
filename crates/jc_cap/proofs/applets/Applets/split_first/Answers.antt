use Rattle.std.proofs.Common.{arith}
use Rattle.jc_cap.specs.Applets.{applet_at}
use Rattle.jc_cap.proofs.Lent.{is_empty, first_is, never_first}
use Rattle.jc_cap.specs.ComponentViews.{applet_info}
use Rattle.jc_cap.proofs.applets.Applets.split_first.Goals as goal

pub returns-then-self-eq0 : goal.returns-then-self-eq0
returns-then-self-eq0 c = is_empty applet_at c.self.inside.count c.self.inside.bytes.now c.args.self.now c.if-self-eq0.true c.self.invariant c.self.view_is

pub invariant_of-result : goal.invariant_of-result
invariant_of-result c = (first_is applet_at c.self.inside.count c.self.inside.bytes.now c.in-Ok.rest.now c.args.self.now (applet_info c.in-Ok.value)
    (omega (arith, c.if-self-eq0.false)) c.self.invariant c.self.view_is c.in-Ok.ensures).0

pub unreachable-requires : goal.unreachable-requires
unreachable-requires c = never_first applet_at c.self.inside.count c.self.inside.bytes.now c.in-Err.field-0
    (omega (arith, c.if-self-eq0.false)) c.self.invariant c.in-Err.ensures

pub returns : goal.returns
returns c = (first_is applet_at c.self.inside.count c.self.inside.bytes.now c.in-Ok.rest.now c.args.self.now (applet_info c.in-Ok.value)
    (omega (arith, c.if-self-eq0.false)) c.self.invariant c.self.view_is c.in-Ok.ensures).1
