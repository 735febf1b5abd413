-- A card that is made of what a power up reads is as after a reset.
use Rattle.std.proofs.Common.{◌≡◌, ◌∙◌, ◌+◌, Some, None, sym, ap, subst}
use Rattle.jc_heap.specs.Heap.{HeapState, HeapView, facts}
use Rattle.jc_transient.specs.State.{IsCleared}
use Rattle.jc_memory.specs.Cells.{word_in, word_of}
use Rattle.jc_memory.specs.Registers.{at_reset}
use Rattle.jc_memory.specs.State.{MemoryState}
use Rattle.jc_card.specs.Card.{CardState}
use Rattle.jc_card.specs.declared.power_up.CardParts.{CardParts}
use Rattle.jc_card.specs.PowerUp.Reset.{ArePartsOf, IsAtReset, ReadsAsZero}

zero_blank : (s : MemoryState) → IsCleared s.ram → ReadsAsZero s
zero_blank s blank r i event e = ap (λ o. word_in o s r i) e ∙ ap word_of (blank.cells event ((facts s.heap.now r).place + i))

-- the card over this heap that has these parts
pub at_reset_of_parts : (h : HeapState) (heap : HeapView) (parts : CardParts) (card : CardState) → ArePartsOf h parts
    → card.memory ≡ record { heap = heap; ram = parts.ram; fixed = parts.fixed.items; registers = at_reset; command = parts.rooms.command; sent = parts.rooms.sent }
    → card.packages ≡ parts.linked → card.load ≡ None → IsAtReset h card
at_reset_of_parts h heap parts card are memory packages load =
    let blank : IsCleared card.memory.ram = subst IsCleared (sym (ap (λ (m : MemoryState). m.ram) memory)) are.ram in
    record {
      ram = blank;
      sizes = ap (λ (m : MemoryState). m.ram.sizes) memory ∙ are.sizes;
      cells = zero_blank card.memory blank;
      registers = ap (λ (m : MemoryState). m.registers) memory;
      command = ap (λ (m : MemoryState). m.command) memory ∙ are.command;
      sent = ap (λ (m : MemoryState). m.sent) memory ∙ are.sent;
      packages = (
        are.packages.0,
        are.packages.1,
        are.packages.2 ∙ ap Some (sym packages),
        ap (λ (m : MemoryState). m.fixed) memory ∙ are.packages.3,
      );
      load = load;
    }
