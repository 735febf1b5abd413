use Rattle.std.proofs.Common.{◌≡◌, ◌∙◌, ◌≤◌, ◌+◌, ◌++◌, ap, subst, sym}
use Rattle.std.specs.Prelude.{map}
use Rattle.jc_transient.specs.State.{usual_cells}
use Rattle.jc_environment.specs.Objects.{cells_of_all, sized, sized_objects}
use Rattle.jc_environment.proofs.ObjectCounts.{most_sized}
use Rattle.jc_environment.proofs.objects.sized_objects.Goals as goal

pub returns-clause-cells : goal.returns-clause-cells
returns-clause-cells c =
    let all : c.add_sized.new.to.items ≡ sized_objects c.args.table.now c.args.buffer =
    c.add_sized.ensures ∙ (ap (λ l. l ++ map (sized c.args.buffer) c.as_slice.result.now) c.new-objects.ensures
    ∙ ap (map (sized c.args.buffer)) (c.as_slice.ensures.value ∙ c.fixed_objects-usual.ensures.all)) in
    subst (λ l. cells_of_all l ≤ usual_cells + c.args.buffer) (sym all) (most_sized c.args.table.now c.args.buffer)
