-- What sessions come to.
use Rattle.std.specs.Prelude.{ℕ, List, [], ◌∷◌}
use Rattle.jc_heap.specs.Moves.{AddPackage}
use Rattle.jc_memory.specs.State.{MemoryState, Effect, HeapMove, apply_effects}
use Rattle.jc_memory.specs.Reading.{HasTracePrefix}
use Rattle.jc_platform.specs.Tokens.{Tokens}
use Rattle.jc_card.specs.Answers.{exchange}
use Rattle.jc_card.specs.Card.{CardState}
use Rattle.jc_card.specs.Session.Requests.{Request, Reply, Response, Ready, Down, Armed, Planned}
use Rattle.jc_card.specs.State.Power.{PowerState, Up, Off, KeptState, StoreState}
use Rattle.jc_card.specs.Session.Serving.{SessionRun}
use Rattle.jc_card.specs.Session.{IsSession}
use Rattle.law_soundness.specs.LoadedPackages.{AreBytes}
use Rattle.law_theorems.specs.Cards.{AreOfBytes, IsOwnKept}
use Rattle.law_theorems.specs.CardLaws.{IsOwnStore}

-- a session comes to this state that began without power, with any budget and with what is left of a new image, or of one that sessions left of it
pub record ComesTo (t : Tokens) (s : PowerState) : Type 0 where
  pub budget : ℕ
  pub first : KeptState
  pub requests : List Request
  pub replies : List Reply
  pub own : IsOwnKept t first
  pub bytes : AreOfBytes requests
  pub run : SessionRun (Off budget first) requests replies s

-- so does each session over a store that is so
abbrev pub StoresCome : Type 0
StoresCome = (budget : ℕ) (t : Tokens) (before : StoreState) (requests : List Request) (replies : List Reply) (s : PowerState) → IsOwnStore t before → AreOfBytes requests
    → IsSession budget before requests replies s → ComesTo t s

-- and a command of these bytes then begins with these effects
pub record ComesWithin (t : Tokens) (card : CardState) (bytes : List ℕ) (es : List Effect) : Type 0 where
  pub comes : ComesTo t (Up card)
  pub are : AreBytes bytes
  pub begins : HasTracePrefix (exchange bytes card) card.memory es

-- the memory after these effects
abbrev pub memory_at : CardState → List Effect → MemoryState
memory_at card es = apply_effects es card.memory

-- no package comes in by these effects
abbrev pub AddNone : List Effect → Type 0
AddNone [] = Unit {0}
AddNone (HeapMove (AddPackage components arrays image) ∷ es) = ⊥
AddNone (e ∷ es) = AddNone es

-- it is down, or answers that the fuse is armed or that a fault is planned
abbrev pub IsDown : Reply → Type 0
IsDown Down = Unit {0}
IsDown (Armed k) = Unit {0}
IsDown (Planned fault) = Unit {0}
IsDown (Response response) = ⊥
IsDown Ready = ⊥

-- each of these replies is so
abbrev pub AreDown : List Reply → Type 0
AreDown [] = Unit {0}
AreDown (reply ∷ replies) = IsDown reply × AreDown replies
