-- The manager's commands that bring a package in.
use Rattle.std.specs.Prelude.{ℕ, ◌+◌, List, [], ◌∷◌, Option, Some, None, Result, Ok, Err}
use Rattle.jc_cap.specs.Fault.{number}
use Rattle.jc_linker.specs.Values.{Packages}
use Rattle.jc_linker.specs.declared.fault.LinkFault.{LinkFault}
use Rattle.jc_linker.specs.declared.fault.LinkFault.TheVariants as link
use Rattle.jc_memory.specs.Programs.{Program, Finish, Either, bind}
use Rattle.jc_interp.specs.declared.attacks.Budget.{Budget}
use Rattle.jc_words.specs.declared.store.StoreDown.{StoreDown}
use Rattle.jc_packages.specs.declared.load.OpenLoad.{OpenLoad}
use Rattle.jc_packages.specs.declared.load_refusal.LoadRefusal.{LoadRefusal}
use Rattle.jc_packages.specs.declared.load_refusal.LoadRefusal.TheVariants.{OutOfSequence, UnknownTag, BadComponents, AidTaken, Full, LinkFailed, HeapFull}
use Rattle.jc_packages.specs.Load.{CommandResult, empty_load, component_begin, component_end, component_append, without_memory}
use Rattle.jc_packages.specs.LoadEnd.{LoadResult, end_of_load}
use Rattle.jc_card.specs.Card.{CardState}
use Rattle.jc_card.specs.StatusWord.{status_bytes, no_error, wrong_length, conditions_not_satisfied, wrong_data, no_space, aid_taken, full}

-- the response to a command; the packages, the load and the budget that it leaves
pub record LoadResponse : Type 0 where
  pub response : List ℕ
  pub packages : Packages
  pub load : Option OpenLoad
  pub budget : Budget

-- the number of a fault of linking
abbrev pub link_number : LinkFault → ℕ
link_number link.ImportMissing = 1
link_number link.ImportVersion = 2
link_number (link.Unresolved index) = 3
link_number link.NoMemory = 4

-- the status word of a refusal: 64nn where it is of a component or a package
abbrev pub status_of : LoadRefusal → ℕ
status_of OutOfSequence = conditions_not_satisfied
status_of UnknownTag = wrong_data
status_of (BadComponents fault) = 0x6400 + number fault
status_of AidTaken = aid_taken
status_of Full = full
status_of (LinkFailed fault) = 0x6420 + link_number fault
status_of HeapFull = no_space

-- the response to a command of a load
abbrev pub response_to : CommandResult → List ℕ
response_to (Ok done) = status_bytes no_error
response_to (Err refusal) = status_bytes (status_of refusal)

-- a command that changes nothing but the load
abbrev pub load_command : CardState → CommandResult → Option OpenLoad → Program LoadResponse
load_command card ended load = Finish (record { response = response_to ended; packages = card.packages; load = load; budget = card.budget })

-- one for which a load must be open
abbrev pub on_load : CardState → (OpenLoad → CommandResult × OpenLoad) → Option OpenLoad → Program LoadResponse
on_load card change None = load_command card (Err OutOfSequence) None
on_load card change (Some load) = load_command card (change load).0 (Some (change load).1)

-- Command 80 B0 begin load: a load begins; one that was open is dropped
abbrev pub begin_load : CardState → Program LoadResponse
begin_load card = load_command card (Ok tt) (Some empty_load)

-- Command 80 B2 begin component: a component begins
abbrev pub begin_component : ℕ → CardState → Program LoadResponse
begin_component tag card = on_load card (component_begin tag) card.load

-- memory is refused for the bytes
abbrev pub component_append_without_memory : List ℕ → OpenLoad → CommandResult × OpenLoad
component_append_without_memory more load = without_memory load (component_append more load)

-- Command 80 B4 append: more bytes of the open component; without data the length is wrong. Where there is no other refusal, memory may
-- be refused
abbrev pub append_component : List ℕ → CardState → Program LoadResponse
append_component [] card = Finish (record { response = status_bytes wrong_length; packages = card.packages; load = card.load; budget = card.budget })
append_component (b ∷ more) card = Either (on_load card (component_append (b ∷ more)) card.load)
    (on_load card (component_append_without_memory (b ∷ more)) card.load)

-- Command 80 BC end component: the open component is read and kept, or dropped
abbrev pub end_component : CardState → Program LoadResponse
end_component card = on_load card component_end card.load

-- the load ends
abbrev pub answer_of_left : Budget → LoadResult → LoadResponse
answer_of_left budget left = record { response = response_to left.ended; packages = left.packages; load = left.load; budget = budget }

-- Command 80 BA end load: the package is linked and added, or refused
abbrev pub end_load : CardState → Program LoadResponse
end_load card = bind (end_of_load card.packages card.memory card.load) card.memory (λ left s. Finish (answer_of_left card.budget left))

-- what is said of how it ended: the response, or that the store is down
abbrev pub response_of_end : Result CommandResult StoreDown → Result (List ℕ) StoreDown
response_of_end (Ok ended) = Ok (response_to ended)
response_of_end (Err down) = Err down
