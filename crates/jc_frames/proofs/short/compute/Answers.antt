use Rattle.std.proofs.Common.{rules, ap, w16, of_z, SFits, to_z-of_z}
use Rattle.jc_frames.proofs.Wraps.{quotient}
use Rattle.jc_frames.proofs.short.compute.Goals as goal

pub returns-else-y-eq0 : goal.returns-else-y-eq0
returns-else-y-eq0 c =
    let fits : SFits w16 c.wrapping_div.result = search rules in
    let x_fits : SFits w16 c.args.x = c.ranges.x in
    let y_fits : SFits w16 c.args.y = c.ranges.y in
    rw (to_z-of_z fits, c.in-Divide.is)
    (quotient c.args.x c.args.y c.wrapping_div.result x_fits (λ e. c.if-y-eq0.false (ap (of_z w16) e))
    (rw (to_z-of_z x_fits, to_z-of_z y_fits) at c.wrapping_div.ensures))
