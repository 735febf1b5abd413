use Rattle.std.proofs.Common.{List, ℕ, Ok, subst, sym}
use Rattle.std.proofs.lemmas.Result.{err_from_is_err_and}
use Rattle.jc_heap.specs.Image.{table_text}
use Rattle.jc_platform.specs.Table.{Reads}
use Rattle.jc_platform.specs.Tokens.{Tokens}
use Rattle.jcard_dump.proofs.Legends.{legend_told, legend_untold}
use Rattle.jcard_dump.proofs.table.legend_of.Goals as goal

pub returns-in_err-table : goal.returns-in_err-table
returns-in_err-table g c =
    let p = err_from_is_err_and c.from_residual.result c.from_residual.ensures.1 in
    rw (p.1, p.2) (legend_untold c.in_err-table.field-0.0 (g.S.WordStore.words c.args.store.now) c.requires c.in_err-table.ensures)

pub returns : goal.returns
returns g c =
    let w : List ℕ = g.S.WordStore.words c.args.store.now in
    legend_told w c.in_ok-words.words.items c.platform.result c.in_ok-legend.legend c.in_ok-words.ensures
    (subst (λ (t : Tokens). Reads (table_text w) (Ok t)) (sym c.platform.ensures) c.in_ok-table.ensures.1) c.in_ok-legend.ensures
