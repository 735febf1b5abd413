use Rattle.std.proofs.Common.{arith, rules, ◌<◌, ◌^◌, refl}
use Rattle.jcard_outcomes.proofs.RecoveryReports.{ends_untold, left_told, no_difference_end, no_ways, recoveries_untold, untold}
use Rattle.jcard_outcomes.proofs.line.recovered_of.Goals as goal

pub returns-in_default : goal.returns-in_default
returns-in_default c = (refl, (omega arith, tt), (λ r rest counted plain e. untold c.args.told.now c.in_default.ensures r rest e))

pub returns-in_default-count_of : goal.returns-in_default-count_of
returns-in_default-count_of c = no_ways c.args.told.now c.in-Some.rest.now c.in-Some-cut_once.digits.now c.in-Some-cut_once.rest.now
    c.in-Some.ensures c.in-Some-cut_once.ensures.0 c.in-Some-cut_once.ensures.1 c.in_default-count_of.ensures

pub returns-in_default-cut_once-2 : goal.returns-in_default-cut_once-2
returns-in_default-cut_once-2 c = no_difference_end c.args.told.now c.in-Some.rest.now c.in-Some-cut_once.digits.now c.in-Some-cut_once.rest.now
    c.in-Some.ensures c.in-Some-cut_once.ensures.0 c.in-Some-cut_once.ensures.1 c.in_default-cut_once-2.ensures

pub returns-in_default-recoveries_of : goal.returns-in_default-recoveries_of
returns-in_default-recoveries_of c =
    let small : c.in-Some-count_of.ways < 2 ^ 64 = search rules in
    recoveries_untold c.args.told.now c.in-Some.rest.now c.in-Some-cut_once.digits.now c.in-Some-cut_once.rest.now c.in-Some-cut_once-2.difference.now
    c.in-Some-cut_once-2.rest.now c.in-Some-count_of.ways c.in-Some.ensures c.in-Some-cut_once.ensures.0 c.in-Some-cut_once.ensures.1 c.in-Some-count_of.ensures
    small c.in-Some-cut_once-2.ensures.0 c.in-Some-cut_once-2.ensures.1 c.in_default-recoveries_of.ensures

pub returns-in-Some-after : goal.returns-in-Some-after
returns-in-Some-after c =
    let small : c.in-Some-count_of.ways < 2 ^ 64 = search rules in
    let found = c.in-Some-recoveries_of.ensures in
    let r = c.in-Some-recoveries_of.recoveries in
    left_told c.args.told.now c.in-Some.rest.now c.in-Some-cut_once.digits.now c.in-Some-cut_once.rest.now c.in-Some-cut_once-2.difference.now
    c.in-Some-cut_once-2.rest.now c.in-Some-after.rest.now c.in-Some-count_of.ways r c.in-Some.ensures c.in-Some-cut_once.ensures.0 c.in-Some-cut_once.ensures.1
    c.in-Some-count_of.ensures small c.in-Some-cut_once-2.ensures.0 c.in-Some-cut_once-2.ensures.1 found.0 found.1 found.2 found.3 c.in-Some-after.ensures

pub returns-in-None : goal.returns-in-None
returns-in-None c =
    let small : c.in-Some-count_of.ways < 2 ^ 64 = search rules in
    ends_untold c.args.told.now c.in-Some.rest.now c.in-Some-cut_once.digits.now c.in-Some-cut_once.rest.now c.in-Some-cut_once-2.difference.now
    c.in-Some-cut_once-2.rest.now c.in-Some-count_of.ways c.in-Some.ensures c.in-Some-cut_once.ensures.0 c.in-Some-cut_once.ensures.1 c.in-Some-count_of.ensures
    small c.in-Some-cut_once-2.ensures.0 c.in-Some-cut_once-2.ensures.1 c.in-None.ensures
