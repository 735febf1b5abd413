use Rattle.std.proofs.Common.{◌≡◌, ◌+◌, ◌≤◌, ◌∙◌, ℕ, List, length, subst, sym, ap}
use Rattle.jc_commit.specs.Runs.{run_words}
use Rattle.jc_heap.specs.Elements.{elements_of, packing_words, AreSaidBy}
use Rattle.jc_heap.specs.declared.changes.Packing.TheVariants.{Double}
use Rattle.jc_heap.proofs.PackedRuns.{said}
use Rattle.jc_heap.proofs.changes.CellRun.packed.Goals as goal

pub invariant_of-result : goal.invariant_of-result
invariant_of-result c =
    let packing = Double c.in-Double.before c.in-Double.behind in
    let same : packing_words c.self.inside.packing (elements_of c.self.inside.values) ≡ packing_words packing c.in-Bytes.bytes.now =
    ap (λ p. packing_words p (elements_of c.self.inside.values)) c.in-Double.is ∙ ap (λ v. packing_words packing (elements_of v)) c.in-Bytes.is in
    let is : run_words c.self.inside.at (packing_words packing c.in-Bytes.bytes.now) ≡ c.args.self =
    ap (λ (ws : List ℕ). run_words c.self.inside.at ws) (sym same) ∙ c.self.view_is in
    let few : c.self.inside.at + length (packing_words packing c.in-Bytes.bytes.now) ≤ 65536 =
    subst (λ (ws : List ℕ). c.self.inside.at + length ws ≤ 65536) same c.self.invariant.0 in (
      c.length-count.ensures,
      subst (λ (middle : List ℕ). AreSaidBy c.word-first.result.1 middle c.word-last.result.1 c.args.self) (sym c.behind_first.ensures)
          (said c.self.inside.at c.in-Double.before c.in-Double.behind c.in-Bytes.bytes.now c.args.self c.word-first.result c.word-last.result
          c.length-count.result is c.length-count.ensures few c.word-first.ensures c.word-last.ensures),
    )
