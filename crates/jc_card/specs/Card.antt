-- The state of a card.
use Rattle.std.specs.Prelude.{ℕ, ◌≡◌, false, List, Option}
use Rattle.std.specs.Option.{option_and_then}
use Rattle.jc_heap.specs.Heap.{HeapView}
use Rattle.jc_linker.specs.Values.{Packages}
use Rattle.jc_memory.specs.State.{MemoryState}
use Rattle.jc_environment.specs.Aid.{aid_at}
use Rattle.jc_environment.specs.Registry.{aid_of_applet}
use Rattle.jc_interp.specs.declared.attacks.Budget.{Budget}
use Rattle.jc_packages.specs.declared.load.OpenLoad.{OpenLoad}

-- what running code changes; the packages, linked; the load that is open, if one is; and how many instructions a command may carry out, with the
-- attack that may come among them
pub record CardState : Type 0 where
  pub memory : MemoryState
  pub packages : Packages
  pub load : Option OpenLoad
  pub budget : Budget

-- between two commands no transaction is open, unless the store has refused a write
abbrev pub IsReady : HeapView → Type 0
IsReady heap = heap.down ≡ false → heap.begun ≡ false

-- the AID of the selected applet, if one is selected
abbrev pub selected_aid : CardState → Option (List ℕ)
selected_aid card = option_and_then (λ r. aid_at card.memory r)
    (option_and_then (λ a. aid_of_applet card.memory.heap.now a.0) card.memory.registers.selected)
