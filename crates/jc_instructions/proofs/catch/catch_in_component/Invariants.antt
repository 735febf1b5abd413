use Rattle.std.proofs.Common.{◌≡◌, ◌+◌, ◌-◌, ◌*◌}
use Rattle.jc_instructions.specs.Catch.{catch_from}
use Rattle.jc_instructions.proofs.catch.catch_in_component.Given as goal

abbrev pub invariant-loop-handler : goal.invariant-loop-handler
invariant-loop-handler l = record {
  same : catch_from l.linked l.thrown l.origin l.place l.text l.count 1 ≡ catch_from l.linked l.thrown l.origin l.place l.text (l.count - l._handler) l.at;
  place : l.at ≡ 1 + 8 * l._handler;
}
