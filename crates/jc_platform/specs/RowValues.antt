-- The code's rows, as the rows that they stand for.
use Rattle.std.specs.Prelude.{List, [], ◌∷◌, replicate}
use Rattle.jc_platform.specs.declared.kinds.CellKind.{CellKind}
use Rattle.jc_platform.specs.declared.kinds.CellKind.TheVariants.{Number, Reference}
use Rattle.jc_platform.specs.declared.kinds.InstanceCells.{InstanceCells}
use Rattle.jc_platform.specs.declared.kinds.InstanceCells.TheVariants.{Empty, Reason, Aid, Pin, Engine, Pair, Cipher}
use Rattle.jc_platform.specs.declared.rows.PackageRow.{PackageRow}
use Rattle.jc_platform.specs.declared.rows.ClassRow.{ClassRow}
use Rattle.jc_platform.specs.declared.rows.MethodRow.{MethodRow}
use Rattle.jc_platform.specs.Names.{PackageEntry, ClassEntry, MethodEntry}

abbrev pub package_value : PackageRow → PackageEntry
package_value e = record { package_id = e.package_id; aid_text = e.aid_text.now }

-- what the cells of an instance hold
abbrev pub kinds_in : InstanceCells → List CellKind
kinds_in Empty = []
kinds_in Reason = Number ∷ []
kinds_in Aid = replicate 9 Number
kinds_in Pin = Number ∷ Number ∷ Number ∷ Number ∷ Reference ∷ []
kinds_in Engine = Number ∷ Reference ∷ []
kinds_in Pair = Number ∷ Reference ∷ Reference ∷ []
kinds_in Cipher = Number ∷ Reference ∷ Reference ∷ replicate 9 Number

abbrev pub class_value : ClassRow → ClassEntry
class_value e = record {
  class = e.class;
  home = e.home;
  name = e.name.now;
  needed = e.needed;
  superclass = e.superclass;
  interfaces = e.interfaces.now;
  form = e.form;
  cells = kinds_in e.cells;
  instantiable = e.instantiable;
  thrown = e.thrown;
}

abbrev pub method_value : MethodRow → MethodEntry
method_value e = record {
  method = e.method;
  class = e.class;
  kind = e.kind;
  name = e.name.now;
  needed = e.needed;
  parameters = e.parameters.now;
  answer = e.answer;
  receiver = e.receiver;
  implementation = e.implementation;
}
