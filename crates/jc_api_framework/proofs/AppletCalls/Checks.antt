-- Applet: what its checks give where a call does not go on.
use Rattle.std.specs.Prelude.{ℕ, List, Option, Some, None}
use Rattle.jc_heap.specs.declared.object.Kind.TheVariants.{Instance}
use Rattle.jc_memory.specs.CommitCapacity.{has_space, lacks_capacity}
use Rattle.jc_memory.specs.State.{MemoryState}
use Rattle.jc_transient.specs.declared.owner.PackageNumber.{PackageNumber}
use Rattle.jc_api.proofs.Exits.{FaultsOnly, plain_if}
use Rattle.jc_api_framework.specs.Applet.Register.{aid_cells, touched_by_registration, unless_full, is_inside, may_be_added, registration_package_in}
use Rattle.jc_api_framework.specs.Applet.Register.{installation_in_transaction, registration_package}

plain_full : (m : MemoryState) (k : PackageNumber) → FaultsOnly (unless_full m k)
plain_full m k = plain_if (has_space m Instance aid_cells) _ _
    (plain_if (lacks_capacity m (touched_by_registration m.heap.now.counts.1)) _ _ tt tt) tt

plain_home : (m : MemoryState) (aid : List ℕ) (instance : ℕ) (o : Option PackageNumber) → FaultsOnly (registration_package_in m aid instance o)
plain_home m aid instance None = tt
plain_home m aid instance (Some k) = plain_if (may_be_added m aid instance) _ _ (plain_if (is_inside m.registers.depth) _ _ tt (plain_full m k)) tt

pub plain_registration : (m : MemoryState) (aid : List ℕ) (instance : ℕ) → FaultsOnly (registration_package m aid instance)
unfolding registration_package
plain_registration m aid instance = plain_home m aid instance (installation_in_transaction m)
