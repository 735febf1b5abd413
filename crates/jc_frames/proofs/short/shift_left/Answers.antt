use Rattle.std.proofs.Common.{◌≤◌, ℤ, pos, negsuc, arith, rules, w16, w64, SFits, to_z-of_z}
use Rattle.std.specs.Prelude.{unsigned_abs}
use Rattle.std.proofs.lemmas.Int.{fits_signed_mul}
use Rattle.jc_frames.proofs.short.shift_left.Goals as goal

near : (z : ℤ) → SFits w16 z → unsigned_abs z ≤ 32768
near (pos a) f = omega (arith, f.sfits)
near (negsuc a) f = omega (arith, f.sfits)

pub overflow_mul-from : goal.overflow_mul-from
overflow_mul-from c =
    let x : SFits w16 c.args.x = c.ranges.x in
    let left : SFits w64 c.from.result = search rules in
    let right : SFits w64 c.from-2.result = search rules in
    rw (to_z-of_z left, to_z-of_z right) (fits_signed_mul w64 c.from.result c.from-2.result 32768 4294967296
    (rw (c.from.ensures, to_z-of_z x) (near c.args.x x)) (rw c.from-2.ensures (omega arith)) (omega arith))
