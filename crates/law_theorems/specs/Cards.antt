-- Cards as the product's commands leave them, and their sessions.
use Rattle.std.specs.Prelude.{List, [], ◌∷◌, IfSome}
use Rattle.jc_platform.specs.Tokens.{Tokens}
use Rattle.jc_linker.specs.Values.{Packages}
use Rattle.jc_linker.specs.Values.{LinkerComponents}
use Rattle.jc_card.specs.Card.{CardState}
use Rattle.law_code.specs.ReadPackages.{AreRead}
use Rattle.law_soundness.specs.GrowthLaws.{HaveAppletComponents}
use Rattle.jc_card.specs.Session.Requests.{Request, Command, Reset, ArmFuse, PlanFault, Reply}
use Rattle.jc_card.specs.State.Power.{PowerState, Up, Off, KeptState}
use Rattle.jc_card.specs.Session.Serving.{Serves, SessionRun}
use Rattle.law_soundness.specs.StableReading.{IsReadAs}
use Rattle.law_soundness.specs.LoadedPackages.{AreBytes}
use Rattle.law_soundness.specs.ReadingLoads.{IsOpenReadable}
use Rattle.law_soundness.specs.MachineLaws.Commands.{IsReady}
use Rattle.law_soundness.specs.Loads.{AreLaidOut, IsLaidOut}
use Rattle.law_theorems.specs.Heaps.{IsOwnHeap}
use Rattle.law_theorems.specs.NewImages.{KeepsBeginning}

-- packages were linked, each onto those before it, of components with right Class and Applet components
pub record AreLinkedWell (p : Packages) : Type 0 where
  pub components : List LinkerComponents
  pub read : AreRead components p
  pub applets : HaveAppletComponents components

-- a card between two commands, with this platform table: its memory is sound, the packages with which it works are those that are read of
-- its heap, and of the one that a loss of power leaves, and the components of an open load can be read
pub record IsOwnCard (t : Tokens) (card : CardState) : Type 0 where
  pub linked : AreLinkedWell card.packages
  pub ready : IsReady card.packages card.memory
  pub reading : IsReadAs t card.packages card.memory
  pub beginning : KeepsBeginning card.memory.heap.durable.head.1 t card.memory
  pub layout : AreLaidOut card.memory
  pub load : IfSome card.load IsOpenReadable

-- what is left of one without power
pub record IsOwnKept (t : Tokens) (k : KeptState) : Type 0 where
  pub packages : Packages
  pub linked : AreLinkedWell packages
  pub heap : IsOwnHeap k.durable.head.1 t packages k.durable
  pub layout : IsLaidOut k.durable

-- a card that is so, up or off
abbrev pub IsOwnPower : Tokens → PowerState → Type 0
IsOwnPower t (Up card) = IsOwnCard t card
IsOwnPower t (Off budget k) = IsOwnKept t k

-- a command is bytes
abbrev pub IsOfBytes : Request → Type 0
IsOfBytes (Command bytes) = AreBytes bytes
IsOfBytes Reset = Unit {0}
IsOfBytes (ArmFuse k) = Unit {0}
IsOfBytes (PlanFault fault) = Unit {0}

abbrev pub AreOfBytes : List Request → Type 0
AreOfBytes [] = Unit {0}
AreOfBytes (request ∷ requests) = IsOfBytes request × AreOfBytes requests

-- however such a card answers a request, it is so after it; and after a session of them
pub record StaysOwn : Type 0 where
  pub request : (t : Tokens) (s : PowerState) (request : Request) (reply : Reply) (next : PowerState) → IsOfBytes request → IsOwnPower t s
      → Serves s request reply next → IsOwnPower t next
  pub session : (t : Tokens) (s : PowerState) (requests : List Request) (replies : List Reply) (last : PowerState) → AreOfBytes requests → IsOwnPower t s
      → SessionRun s requests replies last → IsOwnPower t last
