use Rattle.std.proofs.Common.{◌≡◌, ◌+◌, All, [], ◌∷◌, true, subst, sym}
use Rattle.jc_heap.specs.Touch.{CanTouch}
use Rattle.jc_heap.specs.declared.touch.Touch.TheVariants as touch
use Rattle.jc_platform.specs.Hierarchy.{cells_of}
use Rattle.jc_api.specs.Factory.{has_space_after}
use Rattle.jc_api.proofs.EngineRoom.{cells_there}
use Rattle.jc_api.proofs.factory.keeps_no_cells.Goals as goal

pub cost-requires-clause-there : goal.cost-requires-clause-there
cost-requires-clause-there g c =
    let words = c.array_words-first.result in
    let cells = cells_of c.args.engine.class in
    subst (λ v. All (CanTouch v) (touch.NewCell words ∷ touch.NewCell (words + 1) ∷ [])) (sym c.heap-2.ensures)
    (cells_there words cells c.args.memory.now c.requires.cells
    (subst (λ n. has_space_after n cells c.args.memory.now ≡ true) (sym c.array_words-first.ensures) c.requires.space))
