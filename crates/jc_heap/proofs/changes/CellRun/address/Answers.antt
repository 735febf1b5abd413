use Rattle.std.proofs.Common.{ℕ, List, get_or, sym, ap, ◌∙◌, arith}
use Rattle.jc_commit.proofs.WordRuns.{viewed_length, run_words-at}
use Rattle.jc_heap.specs.Elements.{elements_of, packing_words}
use Rattle.jc_heap.proofs.changes.CellRun.address.Goals as goal

pub overflow_cast-result : goal.overflow_cast-result
overflow_cast-result c =
    let long = viewed_length c.self.inside.at (packing_words c.self.inside.packing (elements_of c.self.inside.values)) c.args.self.now c.self.view_is in
    omega (arith, long, c.requires, c.self.invariant.0)

pub overflow_add-result : goal.overflow_add-result
overflow_add-result c =
    let long = viewed_length c.self.inside.at (packing_words c.self.inside.packing (elements_of c.self.inside.values)) c.args.self.now c.self.view_is in
    omega (arith, long, c.requires, c.self.invariant.0)

pub returns : goal.returns
returns c =
    let words = packing_words c.self.inside.packing (elements_of c.self.inside.values) in
    let long = viewed_length c.self.inside.at words c.args.self.now c.self.view_is in
    sym (ap (λ (l : List (ℕ × ℕ)). (get_or l c.args.k (0, 0)).0) (sym c.self.view_is)
    ∙ ap (λ (w : ℕ × ℕ). w.0) (run_words-at c.self.inside.at words c.args.k (omega (arith, long, c.requires))))
