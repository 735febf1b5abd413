use Rattle.std.proofs.Common.{◌≡◌, take}
use Rattle.jcard_sweeps.proofs.runs.copied.Given as goal

abbrev pub invariant-loop-address : goal.invariant-loop-address
invariant-loop-address g l = l.words.items ≡ take l.address (g.S.WordStore.words l.store)
