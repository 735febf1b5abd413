use Rattle.std.proofs.Common.{◌≤◌, length, subst, sym}
use Rattle.jc_transient.specs.State.{usual_cells}
use Rattle.jc_environment.specs.Objects.{cells_of_all}
use Rattle.jc_environment.proofs.ObjectCounts.{most_cells, most_count}
use Rattle.jc_environment.proofs.objects.fixed_objects.Goals as goal

pub returns-clause-cells : goal.returns-clause-cells
returns-clause-cells g = subst (λ l. cells_of_all l ≤ usual_cells) (sym g.listed.ensures) (most_cells g.args.table.now)

pub returns-clause-few : goal.returns-clause-few
returns-clause-few g = subst (λ l. length l ≤ 32) (sym g.listed.ensures) (most_count g.args.table.now)
