-- The calls of all classes are read by the rows of their methods.
use Rattle.jc_api_framework.specs.RowLaws.{AreReadByRows}
use Rattle.jc_api_framework.proofs.AidRows.{aids_by_rows}
use Rattle.jc_api_framework.proofs.ApduRows.{apdus_by_rows}
use Rattle.jc_api_framework.proofs.AppletRows.{applets_by_rows}
use Rattle.jc_api_framework.proofs.ExceptionRows.{exceptions_by_kinds}
use Rattle.jc_api_framework.proofs.OwnerPinRows.{pins_by_rows}
use Rattle.jc_api_framework.proofs.SystemRows.{system_by_rows, system_kinds}
use Rattle.jc_api_framework.proofs.UtilRows.{utilities_by_rows}

pub by_rows : AreReadByRows
by_rows = record {
  utilities = utilities_by_rows;
  system = system_by_rows;
  aids = aids_by_rows;
  pins = pins_by_rows;
  applets = applets_by_rows;
  apdus = apdus_by_rows;
  exceptions = exceptions_by_kinds;
  system_kinds = system_kinds;
}
