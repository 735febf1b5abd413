use Rattle.std.proofs.Common.{◌≡◌, ℕ, ◌-◌, ◌<◌, ◌≤◌}
use Rattle.jc_heap.specs.Heap.{IsObject}
use Rattle.jc_packages.specs.Objects.{IsSoundObject}
use Rattle.jc_packages.proofs.objects.are_sound.Given as goal

abbrev pub invariant-loop-object : goal.invariant-loop-object
invariant-loop-object g l = record {
  there : (l.at ≡ 0 → ⊥) → IsObject l.marked.now l.at;
  behind : l.fn.own ≤ l.at;
  sound : (r : ℕ) → l.fn.own < r → r ≤ l.at → IsObject l.marked.now r → IsSoundObject l.linked l.marked.now r;
}

abbrev pub decreases-loop-object : goal.decreases-loop-object
decreases-loop-object g l = 65536 - l.at
