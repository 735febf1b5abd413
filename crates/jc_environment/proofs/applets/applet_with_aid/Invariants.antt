use Rattle.std.proofs.Common.{◌≡◌, ◌-◌}
use Rattle.jc_environment.specs.Registry.{first_with_aid, applet_count}
use Rattle.jc_environment.proofs.applets.applet_with_aid.Given as goal

abbrev pub invariant-loop-n : goal.invariant-loop-n
invariant-loop-n g l = first_with_aid l.memory l.aid l.n (l.n-end - l.n) ≡ first_with_aid l.memory l.aid 1 (applet_count l.memory.heap.now)
