use Rattle.std.proofs.Common.{rules, refl, w8, w16, SFits, to_z-of_z}
use Rattle.std.specs.Int.{int_wrap}
use Rattle.jc_frames.proofs.short.to_byte.Goals as goal

pub returns : goal.returns
unfolding int_wrap
returns c =
    let fits : SFits w16 c.from.result = search rules in
    let byte : SFits w8 c.cast_signed.result = search rules in
    let small : SFits w16 c.rem_euclid.result = search rules in
    let whole : SFits w16 c.args.x = c.ranges.x in
    rw (to_z-of_z fits, c.from.ensures, to_z-of_z byte, c.cast_signed.ensures, to_z-of_z small, c.rem_euclid.ensures.value, to_z-of_z whole) refl
