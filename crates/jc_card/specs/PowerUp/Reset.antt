-- What a reset makes of a card.
use Rattle.std.specs.Prelude.{ℕ, ◌≡◌, [], Ok, Some, None}
use Rattle.jc_transient.specs.declared.cell.ClearEvent.{ClearEvent}
use Rattle.jc_transient.specs.State.{IsCleared}
use Rattle.jc_heap.specs.Heap.{HeapState, area_sizes, facts}
use Rattle.jc_platform.specs.Tokens.{Tokens}
use Rattle.jc_platform.specs.Table.{Reads}
use Rattle.jc_packages.specs.Reading.{packages_of}
use Rattle.jc_memory.specs.Cells.{word_at}
use Rattle.jc_memory.specs.Registers.{at_reset}
use Rattle.jc_memory.specs.State.{MemoryState}
use Rattle.jc_card.specs.Card.{CardState}
use Rattle.jc_card.specs.Fixed.{fixed_of}
use Rattle.jc_card.specs.declared.power_up.CardParts.{CardParts}

-- each cell of a transient object reads as 0: as the number 0 and, in an array of references, as null
abbrev pub ReadsAsZero : MemoryState → Type 0
ReadsAsZero s = (r i : ℕ) (event : ClearEvent) → (facts s.heap.now r).event ≡ Some event → word_at s r i ≡ 0

-- what was read for a card over this heap: blank transient contents of the sizes that its words say, the packages of its records linked by its own
-- table, the objects of the runtime environment that it names, no bytes of a command or an answer
pub record ArePartsOf (h : HeapState) (parts : CardParts) : Type 0 where
  pub ram : IsCleared parts.ram
  pub sizes : parts.ram.sizes ≡ area_sizes h
  pub packages : (t : Tokens) × Reads h.text (Ok t) × (packages_of t h ≡ Some parts.linked) × (parts.fixed.items ≡ fixed_of t h)
  pub command : parts.rooms.command ≡ []
  pub sent : parts.rooms.sent ≡ []

-- a card after a reset over this heap: blank transient contents of the sizes that its words say, nothing selected, no command begun and none answered, the
-- packages of the heap's records linked by the heap's own table, the objects of the runtime environment that it names, no open load
pub record IsAtReset (h : HeapState) (card : CardState) : Type 0 where
  pub ram : IsCleared card.memory.ram
  pub sizes : card.memory.ram.sizes ≡ area_sizes h
  pub cells : ReadsAsZero card.memory
  pub registers : card.memory.registers ≡ at_reset
  pub command : card.memory.command ≡ []
  pub sent : card.memory.sent ≡ []
  pub packages : (t : Tokens) × Reads h.text (Ok t) × (packages_of t h ≡ Some card.packages) × (card.memory.fixed ≡ fixed_of t h)
  pub load : card.load ≡ None
