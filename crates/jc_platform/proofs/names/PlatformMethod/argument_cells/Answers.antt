use Rattle.std.proofs.Common.{◌<◌, ◌≤◌, ap, arith, length, lit≤}
use Rattle.std.specs.Prelude.{nat_lt}
use Rattle.std.proofs.lemmas.Bool.{ltb-true}
use Rattle.jc_platform.specs.declared.kinds.Receiver.{Receiver}
use Rattle.jc_platform.specs.declared.kinds.Receiver.TheVariants.{Absent, Kept, Registered, Changed}
use Rattle.jc_platform.specs.declared.names.PlatformMethod.{PlatformMethod}
use Rattle.jc_platform.specs.NamePlaces.{entry_of_method}
use Rattle.jc_platform.specs.Names.{MethodEntry}
use Rattle.jc_platform.specs.Signatures.{receiver_cells}
use Rattle.jc_platform.proofs.EveryRow.{every_method}
use Rattle.jc_platform.proofs.Facts.{few_parameters}
use Rattle.jc_platform.proofs.names.PlatformMethod.argument_cells.Goals as goal

few : (m : PlatformMethod) → length (entry_of_method m).parameters < 255
few m = ltb-true _ 255 (every_method (λ e. nat_lt (length e.parameters) 255) few_parameters m)

one_at_most : (r : Receiver) → receiver_cells r ≤ 1
one_at_most Absent = lit≤ tt
one_at_most Kept = lit≤ tt
one_at_most Registered = lit≤ tt
one_at_most Changed = lit≤ tt

pub overflow_cast-result : goal.overflow_cast-result
overflow_cast-result c =
    let same = ap (λ (e : MethodEntry). length e.parameters) c.row-row.ensures in
    omega (arith, same, few c.args.self)

pub overflow_add-result : goal.overflow_add-result
overflow_add-result c =
    let same = ap (λ (e : MethodEntry). length e.parameters) c.row-row.ensures in
    omega (arith, same, few c.args.self, c.cells.ensures, one_at_most c.row-row.result.now.receiver)
