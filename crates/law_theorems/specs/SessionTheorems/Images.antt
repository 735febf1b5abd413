-- Stores that sessions leave.
use Rattle.std.specs.Prelude.{ℕ, ◌≡◌, ◌⊎◌, Bool, List, length, Result, Ok, Err}
use Rattle.jc_words.specs.Store.{FuseStoreValue}
use Rattle.jc_commit.specs.Image.{recovered_of}
use Rattle.jc_heap.specs.Heap.{heap_of}
use Rattle.jc_image.specs.declared.laying.ImageRoom.{ImageRoom}
use Rattle.jc_platform.specs.Table.{Reads}
use Rattle.jc_platform.specs.Tokens.{Tokens}
use Rattle.jc_card.specs.ProductImages.{IsMade, new_card_heap}
use Rattle.jc_card.specs.PowerUp.{PowerUpRefuses}
use Rattle.jc_card.specs.declared.power_up.PowerFault.{PowerFault as Fault}
use Rattle.jc_card.specs.declared.power_up.PowerFault.TheVariants.{NoMemory, StoreDown}
use Rattle.jc_card.specs.declared.session.SessionFault.{SessionFault}
use Rattle.jc_card.specs.declared.session.SessionFault.TheVariants.{PowerFault}
use Rattle.jc_card.specs.Session.Requests.{Request, Reply}
use Rattle.jc_card.specs.State.Power.{StoreState}
use Rattle.jc_card.specs.Session.{SessionEnds}
use Rattle.jcard_script.specs.declared.script.ScriptFault.{ScriptFault}
use Rattle.jcard_script.specs.declared.script.ScriptFault.TheVariants.{PowerFault as NotPoweredUp}
use Rattle.jcard_script.specs.Script.{EndsWithin}
use Rattle.law_theorems.specs.Cards.{AreOfBytes}
use Rattle.law_theorems.specs.CardLaws.{IsOwnStore}
use Rattle.law_theorems.specs.ScriptLaws.{state_of}

-- from the store of a new image sessions may go on, and each session, however it ends, leaves such a store; neither its first power up nor a
-- reset in it finds a fault but want of memory, and no power up over such a store does, but that a write was refused
pub record PowerUpAgain : Type 0 where
  pub new : (t : Tokens) (room : ImageRoom) (text : List ℕ) (store : StoreState) → IsMade store.words → Reads text (Ok t)
      → heap_of (recovered_of store.words) ≡ new_card_heap (length store.words) room text t → IsOwnStore t store
  pub ends : (budget : ℕ) (t : Tokens) (before after : StoreState) (requests : List Request) (result : Result (List Reply) SessionFault) → AreOfBytes requests
      → IsOwnStore t before → SessionEnds budget result before requests after → IsOwnStore t after
  pub fault : (budget : ℕ) (t : Tokens) (before after : StoreState) (requests : List Request) (fault : Fault) → AreOfBytes requests → IsOwnStore t before
      → SessionEnds budget (Err (PowerFault fault)) before requests after → fault ≡ NoMemory
  -- so does each script, which may arm the fuse
  pub scripts : (budget : ℕ) (t : Tokens) (before after : FuseStoreValue) (result : Result Unit ScriptFault) (at_end : Bool) (script text : List ℕ)
      → IsOwnStore t (state_of before) → EndsWithin budget result before after at_end script text → IsOwnStore t (state_of after)
  pub script_fault : (budget : ℕ) (t : Tokens) (before after : FuseStoreValue) (fault : Fault) (at_end : Bool) (script text : List ℕ)
      → IsOwnStore t (state_of before) → EndsWithin budget (Err (NotPoweredUp fault)) before after at_end script text → fault ≡ NoMemory
  pub up : (t : Tokens) (store : StoreState) (fault : Fault) → IsOwnStore t store → PowerUpRefuses fault store.words
      → (fault ≡ NoMemory) ⊎ (fault ≡ StoreDown)
