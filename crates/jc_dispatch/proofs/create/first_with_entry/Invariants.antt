use Rattle.std.proofs.Common.{◌≡◌, ◌-◌, length}
use Rattle.jc_dispatch.specs.Create.{first_with_entry}
use Rattle.jc_dispatch.proofs.create.first_with_entry.Given as goal

abbrev pub invariant-loop-number : goal.invariant-loop-number
invariant-loop-number l = first_with_entry l.linked l.aid l.number (l.number-end - l.number) ≡ first_with_entry l.linked l.aid 1 (length l.linked.loaded)
