use Rattle.std.proofs.Common.{ℕ, List, get_or, sym, ap, ◌∙◌, arith}
use Rattle.jc_commit.proofs.WordRuns.{viewed_length, run_words-at}
use Rattle.jc_heap.specs.Elements.{elements_of, packing_words}
use Rattle.jc_heap.proofs.changes.CellRun.start.Goals as goal

pub returns-clause-row : goal.returns-clause-row
returns-clause-row c =
    let words = packing_words c.self.inside.packing (elements_of c.self.inside.values) in
    let long = viewed_length c.self.inside.at words c.args.self.now c.self.view_is in
    λ k lt. ap (λ (l : List (ℕ × ℕ)). (get_or l k (0, 0)).0) (sym c.self.view_is)
    ∙ ap (λ (w : ℕ × ℕ). w.0) (run_words-at c.self.inside.at words k (omega (arith, long, lt)))

pub returns-clause-within : goal.returns-clause-within
returns-clause-within c =
    let words = packing_words c.self.inside.packing (elements_of c.self.inside.values) in
    omega (arith, viewed_length c.self.inside.at words c.args.self.now c.self.view_is, c.self.invariant.0)
