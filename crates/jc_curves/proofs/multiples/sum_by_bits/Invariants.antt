use Rattle.std.proofs.Common.{◌-◌, ◌/◌, ◌^◌}
use Rattle.jc_numbers.specs.Numbers.{value}
use Rattle.jc_curves.specs.Elements.{residue_of}
use Rattle.jc_curves.specs.PointValues.{AreElements, StandsForMultiple, coordinates, point_at}
use Rattle.jc_curves.proofs.multiples.sum_by_bits.Given as goal

abbrev pub invariant-bits : goal.invariant-bits
invariant-bits l =
    AreElements l.field l.sum
    × StandsForMultiple (value l.field) (residue_of l.field l.a.limbs) (value l.scalar / 2 ^ l.i) (l.count - l.i) (point_at l.field l.point)
    (coordinates l.field l.sum)
