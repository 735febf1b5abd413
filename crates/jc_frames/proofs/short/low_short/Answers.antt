use Rattle.std.proofs.Common.{rules, refl, w16, w64, SFits, to_z-of_z}
use Rattle.std.specs.Int.{int_wrap}
use Rattle.jc_frames.proofs.short.low_short.Goals as goal

pub returns : goal.returns
unfolding int_wrap
returns c =
    let fits : SFits w16 c.cast_signed.result = search rules in
    let small : SFits w64 c.rem_euclid.result = search rules in
    let whole : SFits w64 c.args.z = c.ranges.z in
    rw (to_z-of_z fits, c.cast_signed.ensures, to_z-of_z small, c.rem_euclid.ensures.value, to_z-of_z whole) refl
