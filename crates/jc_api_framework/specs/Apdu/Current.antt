-- Whose command is carried out (API specification, APDU.getCurrentAPDU).
use Rattle.std.specs.Prelude.{ℕ, ◌&&◌, ◌||◌, nat_lt, not, is_some, Bool, true, false, List, [], ◌∷◌, length, take, slice_index, Option}
use Rattle.std.specs.Option.{option_map}
use Rattle.std.specs.Str.{bytes_eq}
use Rattle.jc_environment.specs.Objects.{apdu_place}
use Rattle.jc_firewall.specs.Situation.{same_context}
use Rattle.jc_memory.specs.declared.registers.Installation.{Installation}
use Rattle.jc_memory.specs.declared.registers.Installation.TheVariants.{Idle, Open, Registered}
use Rattle.jc_memory.specs.State.{MemoryState}
use Rattle.jc_memory.specs.Cells.{header_at}
use Rattle.jc_memory.specs.Commands.{data_of}
use Rattle.jc_environment.specs.Registry.{applet_with_aid}
use Rattle.jc_world.specs.Contexts.{context_of, selected_context}

-- the AID by which the manager is selected
abbrev pub manager_aid : List ℕ
manager_aid = 0xF0 ∷ 0x4A ∷ 0x43 ∷ 0x4D ∷ 0x47 ∷ 0x52 ∷ []

-- SELECT by an AID: 00 A4 04 00 with data
abbrev pub is_select : List ℕ → Bool
is_select command = bytes_eq (take 4 command) (0 ∷ 0xA4 ∷ 4 ∷ 0 ∷ []) && nat_lt 0 (length (data_of command))

-- the data are the AID of the manager or of an applet
abbrev pub names_somebody : MemoryState → List ℕ → Bool
names_somebody m aid = bytes_eq aid manager_aid || is_some (applet_with_aid m aid)

-- the command selects the manager or an applet, so that code runs for a select or a deselect
abbrev pub is_selection : MemoryState → Bool
is_selection m = is_select m.command && names_somebody m (data_of m.command)

-- no applet is being installed
abbrev pub is_idle : Installation → Bool
is_idle Idle = true
is_idle (Open p entry) = false
is_idle (Registered p) = false

-- process of the selected applet runs: also of the command that selected it, once its select has ended
abbrev pub has_process : MemoryState → Bool
has_process m = is_idle m.registers.installation && is_some m.registers.selected && (m.registers.selecting || not (is_selection m))

-- the command is that of the code that runs: process of the selected applet called it, in the applet's own context
unfoldable pub has_command : MemoryState → Bool
has_command m = has_process m && same_context (context_of m m.registers.active) (selected_context m)

-- the APDU object, which stands before the buffer. A heap without one is no heap of a card
unfoldable pub apdu_object : MemoryState → Option ℕ
apdu_object m = option_map (λ f. slice_index m.fixed apdu_place) (header_at m (slice_index m.fixed apdu_place))
