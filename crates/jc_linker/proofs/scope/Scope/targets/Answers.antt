use Rattle.std.proofs.Common.{◌≡◌, ◌∙◌, ◌++◌, ◌+◌, ◌*◌, ◌≤◌, [], ◌∷◌, ap, sym, arith, length}
use Rattle.std.proofs.Common.{drop}
use Rattle.jc_linker.specs.Answers.{list_append}
use Rattle.jc_linker.specs.Linking.{targets_from}
use Rattle.jc_linker.proofs.Ontos.{onto_nothing, targets_end, targets_fault, targets_next}
use Rattle.jc_linker.proofs.scope.Scope.targets.Goals as goal

pub loop-index-init : goal.loop-index-init
loop-index-init c = onto_nothing (targets_from c.args.self.now c.args.number 0 c.args.pool.now)
    ∙ ap (λ xs. list_append xs (targets_from c.args.self.now c.args.number 0 c.args.pool.now)) (sym c.new-targets.ensures.items)

pub returns-in-None : goal.returns-in-None
returns-in-None c = c.loop-index.invariant ∙ targets_fault c.args.self.now c.args.number c.args.pool.now c.loop-index.index c.get.result
    c.loop-index.targets.items c.get.ensures (sym c.in-None.ensures)

pub loop-index-preserved : goal.loop-index-preserved
loop-index-preserved c =
    c.loop-index.invariant ∙ targets_next c.args.self.now c.args.number c.args.pool.now c.loop-index.index c.get.result c.in-Some.target
    c.loop-index.targets.items c.get.ensures (sym c.in-Some.ensures)
    ∙ ap (λ xs. list_append xs (targets_from c.args.self.now c.args.number (c.loop-index.index + 1) (drop (c.loop-index.index + 1) c.args.pool.now)))
    (sym c.in_ok-push_item.ensures)

pub returns : goal.returns
returns c =
    let end : length c.args.pool.now ≤ c.loop-index.index = omega arith in
    c.loop-index.invariant ∙ targets_end c.args.self.now c.args.number c.args.pool.now c.loop-index.index c.loop-index.targets.items end
