use Rattle.std.proofs.Common.{◌≡◌, ◌<◌, ◌+◌, ◌∙◌, ℕ, List, length, get_or, subst, arith}
use Rattle.std.proofs.lemmas.List.{length-set}
use Rattle.jc_heap.proofs.Runs.{filled_more}
use Rattle.jc_heap.proofs.changes.PackedRun.fill.Goals as goal

pub loop-k-preserved : goal.loop-k-preserved
loop-k-preserved c =
    let i = c.loop-k.invariant in
    let k = c.loop-k.k in
    let first = c.start-first.result in
    let row = subst (λ (cs : List (ℕ × ℕ)). (j : ℕ) → j < length cs → (get_or cs j (0, 0)).0 ≡ first + j) c.self.view_is c.start-first.ensures.row in
    record {
      long = length-set c.loop-k.room k c.value.result ∙ i.long;
      same = filled_more first c.loop-k.room c.args.self.now k c.value.result (omega arith) (omega (arith, i.long)) i.same (row k (omega (arith, i.long)))
          c.value.ensures;
    }
