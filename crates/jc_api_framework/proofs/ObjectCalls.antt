-- Object: what its calls may do.
use Rattle.std.proofs.Common.{ℕ, List}
use Rattle.jc_memory.specs.State.{MemoryState, Effect}
use Rattle.jc_platform.specs.declared.names.ObjectsMethod.{ObjectsMethod}
use Rattle.jc_platform.specs.declared.names.ObjectsMethod.TheVariants as objects
use Rattle.jc_linker.specs.Values.{Packages}
use Rattle.jc_frames.specs.declared.cell.Cell.{Cell}
use Rattle.jc_world.specs.Objects.{reference_argument}
use Rattle.jc_api.proofs.Due.{IsPlainCall, called_some}
use Rattle.jc_api_framework.specs.Objects.{object_equals, object_call}

module _ (P : Effect → MemoryState → Type 0) (L : MemoryState → ℕ → Type 0) (args : List Cell) (p : Packages) (m : MemoryState) where
  -- Object and exceptions
  same_due : IsPlainCall P L (object_equals args) m
  unfolding object_equals
  same_due = called_some P L m (reference_argument args 0) _ (λ own is. called_some P L m (reference_argument args 1) _ (λ other there. tt))

  pub objects_due : (method : ObjectsMethod) → IsPlainCall P L (object_call method args) m
  unfolding object_call
  objects_due objects.ObjectEquals = same_due
  objects_due _ = tt
