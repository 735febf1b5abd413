use Rattle.std.proofs.Common.{◌≡◌, ◌<◌, ◌∙◌, ap, arith, length, true}
use Rattle.std.specs.Prelude.{nat_lt}
use Rattle.std.proofs.lemmas.Bool.{ltb-true}
use Rattle.jc_platform.specs.NamePlaces.{entry_of_class}
use Rattle.jc_platform.specs.Names.{ClassEntry}
use Rattle.jc_platform.proofs.EveryRow.{every_class}
use Rattle.jc_platform.proofs.Facts.{few_cells}
use Rattle.jc_platform.proofs.names.PlatformClass.cells.Goals as goal

pub overflow_cast-result : goal.overflow_cast-result
overflow_cast-result c =
    let few : nat_lt (length (entry_of_class c.args.self).cells) 256 ≡ true = every_class (λ e. nat_lt (length e.cells) 256) few_cells c.args.self in
    let same : length c.kinds.result.now ≡ length (entry_of_class c.args.self).cells =
    ap length c.kinds.ensures ∙ ap (λ (e : ClassEntry). length e.cells) c.row.ensures in
    let less : length (entry_of_class c.args.self).cells < 256 = ltb-true _ 256 few in
    omega (arith, same, less)
