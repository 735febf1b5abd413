use Rattle.jc_heap.proofs.Migrated.{migrated_alike}
use Rattle.jc_heap.proofs.heap_laws.migrations_keep_heaps.Goals as goal

pub returns : goal.returns
returns c = migrated_alike
