-- MultiSelectable and AppletEvent: what their calls may do.
use Rattle.std.proofs.Common.{ℕ}
use Rattle.jc_memory.specs.State.{MemoryState, Effect}
use Rattle.jc_platform.specs.declared.names.EventsMethod.{EventsMethod}
use Rattle.jc_platform.specs.declared.names.EventsMethod.TheVariants as events
use Rattle.jc_api.proofs.Due.{IsPlainCall}
use Rattle.jc_api_framework.specs.Events.{event_call}

module _ (P : Effect → MemoryState → Type 0) (L : MemoryState → ℕ → Type 0) (m : MemoryState) where
  pub events_due : (method : EventsMethod) → IsPlainCall P L (event_call method) m
  unfolding event_call
  events_due events.MultiSelectableSelect = tt
  events_due _ = tt
