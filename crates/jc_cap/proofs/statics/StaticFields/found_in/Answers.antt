use Rattle.std.proofs.Common.{ap, arith}
use Rattle.jc_cap.specs.declared.statics.StaticCounts.{StaticCounts}
use Rattle.jc_cap.proofs.FoundStatics.{are_arrays, has_values, long_enough, statics_found}
use Rattle.jc_cap.proofs.statics.StaticFields.found_in.Goals as goal

pub split_at-requires : goal.split_at-requires
split_at-requires c = long_enough c.args.info.now c.requires.0 c.requires.1

pub overflow_sub-info : goal.overflow_sub-info
overflow_sub-info c =
    let told = ap (λ (k : StaticCounts). k.non_default_count) c.requires.2 in
    let values = has_values c.args.info.now c.requires.0 c.requires.1 in
    omega (arith, told, values)

pub found_in-requires : goal.found_in-requires
found_in-requires c = are_arrays c.args.info.now c.split_at.result.1.now c.args.counts.array_count c.requires.0 c.requires.1
    (ap (λ (k : StaticCounts). k.array_count) c.requires.2) c.split_at.ensures.back

pub returns : goal.returns
returns c = rw c.found_in.ensures (statics_found c.args.info.now c.split_at.result.1.now c.split_at-2.result.1.now c.args.counts c.requires.0 c.requires.1
    c.requires.2 c.split_at.ensures.back c.split_at-2.ensures.back)
