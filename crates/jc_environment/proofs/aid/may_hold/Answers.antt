use Rattle.std.proofs.Common.{◌-◌, ◌∙◌, arith, length}
use Rattle.jc_environment.proofs.RegistryEntries.{not_held, other_last, other_length}
use Rattle.jc_environment.proofs.aid.may_hold.Goals as goal

pub returns-then-from-count : goal.returns-then-from-count
returns-then-from-count g c = λ no.
    not_held c.args.memory.now c.args.object c.in-Some.facts c.header.result c.args.aid.now c.header.ensures.header c.in-Some.is
    (other_length c.args.memory.now c.args.object c.args.aid.now c.from.result (c.from.ensures ∙ c.cell.ensures) c.if-from-count.true)

pub returns-then-count-gt-MOST_AID : goal.returns-then-count-gt-MOST_AID
returns-then-count-gt-MOST_AID g c = λ no.
    not_held c.args.memory.now c.args.object c.in-Some.facts c.header.result c.args.aid.now c.header.ensures.header c.in-Some.is
    (λ told. omega (arith, told.1.0, c.if-count-gt-MOST_AID.true))

pub returns : goal.returns
returns g c = λ no.
    not_held c.args.memory.now c.args.object c.in-Some.facts c.header.result c.args.aid.now c.header.ensures.header c.in-Some.is
    (other_last c.args.memory.now c.args.object c.args.aid.now c.cell-word.result c.byte_in.result (length c.args.aid.now - 1)
    (omega arith) c.cell-word.ensures c.byte_in.ensures no)
