use Rattle.std.proofs.Common.{ap, ◌∙◌, ◌<◌, ◌≤◌, rules, subst, sym}
use Rattle.std.specs.Prelude.{◌⊎◌}
use Rattle.jc_heap.specs.Heap.{area_sizes}
use Rattle.jc_memory.proofs.Marking.{same_sizes, still_known}
use Rattle.jc_memory.proofs.memory.Memory.abort.Goals as goal

pub invariant_of-self-2 : goal.invariant_of-self-2
invariant_of-self-2 g c =
    let up = ap (λ s. s.heap.down) c.self.view_is ∙ c.requires.up in
    let heap = c.self.inside.heap in (
      record {
        heap = search rules;
        ram = c.null_dead.ensures.sizes;
        sizes = λ still. c.null_dead.ensures.same ∙ c.self.invariant.0.sizes up
            ∙ sym (same_sizes heap.durable heap.now (c.self.invariant.0.heap up).shape)
            ∙ sym (ap (λ v. area_sizes (v.now)) c.in_ok-abort.ensures.moves.1);
      },
      still_known c.self.inside.marks c.forget.new.self c.self.inside.images c.self.inside.heap c.abort.new.self c.top-before.result
          (c.self.invariant.0.heap up) c.top-before.ensures.top (c.self.invariant.1 up) (c.in_ok-abort.ensures.moves.1)
          (λ r marked. let left = c.forget.ensures r marked in (left.0, subst (λ n. (r < n) ⊎ (c.top-before.result ≤ r)) c.top-top.ensures.top left.1)),
    )
