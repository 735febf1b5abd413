use Rattle.std.proofs.Common.{List, ℕ, Ok, ap₂, subst, sym}
use Rattle.jc_heap.specs.Packed.{bytes_of_packed}
use Rattle.jc_platform.specs.Table.{Reads}
use Rattle.jc_packages.proofs.KnownPackages.{records_linked}
use Rattle.jc_packages.proofs.known.KnownPackages.read.Goals as goal

pub invariant_of-result : goal.invariant_of-result
invariant_of-result g c = record {
  reads = subst (λ (l : List ℕ). Reads l (Ok c.in-Ok-table_of.table)) (sym (ap₂ bytes_of_packed c.word-size.ensures c.in-Ok.ensures))
      c.in-Ok-table_of.ensures.1;
  linked = records_linked c.in-Ok-table_of.table c.platform.result c.in-Ok-check.heap.now _ c.in-Ok-read_packages.linked _ c.platform.ensures
      c.in-Ok-records_of.ensures c.in-Ok-new.ensures.ok c.in-Ok-read_packages.ensures.linked;
}
