-- What a session holds.
use Rattle.std.specs.Prelude.{[], true, Option, Some, None}
use Rattle.jc_card.specs.Dispatching.{usual_budget}
use Rattle.jc_words.specs.Refusals.{no_refusals}
use Rattle.jc_words.specs.Store.{FuseStoreValue}
use Rattle.jc_card.specs.State.Power.{Off}
use Rattle.jc_card.specs.State.{IsUp, power_of}
use Rattle.jc_card.specs.declared.state.SessionState.{SessionState}
use Rattle.jcard_script.specs.ScriptStates.{ScriptState}

-- the store of no words
abbrev nowhere : FuseStoreValue
nowhere = record { words = []; down = true; passed = 0; refusals = no_refusals; down_below = true; passed_below = 0 }

-- the standing of what is held; nothing is held only while a reset is carried out or the fuse is armed
abbrev pub state_of_held : Option (SessionState FuseStoreValue) → ScriptState
state_of_held None = Off usual_budget nowhere
state_of_held (Some held) = power_of held

-- something is held, and so
abbrev pub IsState : Option (SessionState FuseStoreValue) → Type 0
IsState None = ⊥
IsState (Some held) = IsUp (power_of held)
