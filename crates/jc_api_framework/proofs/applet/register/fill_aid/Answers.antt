use Rattle.std.proofs.Common.{◌≡◌, ℕ, false, List, ◌++◌, length, OnOk, subst, ap, ◌&&◌}
use Rattle.jc_heap.specs.Object.{has_bytes}
use Rattle.jc_heap.specs.Heap.{facts}
use Rattle.jc_heap.specs.declared.touch.Touch.{Touch}
use Rattle.jc_heap.specs.Touch.{touched_cells}
use Rattle.jc_memory.specs.Programs.{Executes}
use Rattle.jc_heap.specs.Completions.{after_step}
use Rattle.jc_memory.specs.CommitCapacity.{lacks_capacity, cells_update}
use Rattle.jc_api_framework.proofs.applet.register.fill_aid.Goals as goal

pub set_within_capacity-requires-clause-plain : goal.set_within_capacity-requires-clause-plain
set_within_capacity-requires-clause-plain g c = ap (λ k. has_bytes k && (facts c.args.memory.now.heap.now c.args.object).packed) c.requires.kind

pub returns-clause-made : goal.returns-clause-made
returns-clause-made g c =
    subst (λ words. Executes (cells_update c.args.object 0 words) c.args.memory.now (after_step c.set_within_capacity.result c.set_within_capacity.new.memory))
    c.cells_of_aid.ensures c.set_within_capacity.ensures.made

pub returns-clause-left : goal.returns-clause-left
returns-clause-left g c =
    subst (λ (words : List ℕ). OnOk c.set_within_capacity.result ((more : List Touch)
    → lacks_capacity c.args.memory.now (touched_cells c.args.object 0 (length words) ++ more) ≡ false
    → lacks_capacity c.set_within_capacity.new.memory more ≡ false)) c.cells_of_aid.ensures c.set_within_capacity.ensures.left
