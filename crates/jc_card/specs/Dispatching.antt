-- Commands that applets answer, and the making of applets.
use Rattle.std.specs.Prelude.{ℕ, ◌+◌, ◌-◌, ◌==◌, ◌&&◌, nat_lt, Bool, false, List, [], ◌∷◌, ◌++◌, length, slice_index, Option, Some, None}
use Rattle.std.specs.Prelude.{if◌then◌else◌}
use Rattle.std.specs.Int.{w16, cast_unsigned}
use Rattle.std.specs.Option.{option_or}
use Rattle.std.specs.Str.{bytes_eq}
use Rattle.jc_transient.specs.declared.owner.AppletNumber.{AppletNumber}
use Rattle.jc_memory.specs.Commands.{has_extended_length, takes_extended_length, two_bytes}
use Rattle.jc_memory.specs.State.{MemoryState, BeginCommand}
use Rattle.jc_memory.specs.Programs.{Program, Finish, bind}
use Rattle.jc_linker.specs.Values.{Packages}
use Rattle.jc_environment.specs.Registry.{applet_with_aid}
use Rattle.jc_interp.specs.declared.attacks.Budget.{Budget}
use Rattle.jc_dispatch.specs.declared.applet_result.AppletResult.{AppletResult}
use Rattle.jc_dispatch.specs.declared.applet_result.AppletResult.TheVariants.{Done, Reason, Unknown, NotSelected, NotRegistered, Malformed, NoApplet}
use Rattle.jc_dispatch.specs.declared.applet_result.AppletResult.TheVariants.{RegistryFull}
use Rattle.jc_dispatch.specs.ExtendedLength.{implements_extended_length}
use Rattle.jc_dispatch.specs.Phase.{then_with}
use Rattle.jc_dispatch.specs.Select.{manager_selection, process_command, applet_selection}
use Rattle.jc_dispatch.specs.Create.{applet_creation}
use Rattle.jc_card.specs.Command.{Apdu}
use Rattle.jc_card.specs.Card.{CardState}
use Rattle.jc_card.specs.Loading.{LoadResponse}
use Rattle.jc_card.specs.StatusWord.{status_bytes, no_error, wrong_length, wrong_data, unknown, full, conditions_not_satisfied, no_applet, not_selected}

-- this many instructions a command may carry out where nothing else was said
abbrev pub usual_budget : ℕ
usual_budget = 100000

-- the AID by which the manager is selected
abbrev pub manager_aid : List ℕ
manager_aid = 0xF0 ∷ 0x4A ∷ 0x43 ∷ 0x4D ∷ 0x47 ∷ 0x52 ∷ []

-- SELECT by an AID: 00 A4 04 00 with data
abbrev pub is_select : Apdu → Bool
is_select c = c.class == 0 && c.instruction == 0xA4 && c.p1 == 4 && c.p2 == 0 && nat_lt 0 (length c.content)

-- how many bytes a command in the short form expects: its last byte where that follows the header or the data, else none
abbrev pub expected_by_short : List ℕ → ℕ
expected_by_short bytes =
    if length bytes == 5 then slice_index bytes 4 else
    if nat_lt 5 (length bytes) && length bytes == 6 + slice_index bytes 4 then slice_index bytes (length bytes - 1) else 0

-- how many one in the extended form expects: its last two bytes where they follow the header or the data, else none
abbrev pub expected_by_extended : List ℕ → ℕ
expected_by_extended bytes =
    if length bytes == 7 then two_bytes bytes 5 else
    if length bytes == 9 + two_bytes bytes 5 then two_bytes bytes (length bytes - 2) else 0

-- how many bytes a command expects; 0 where it says 0 or nothing
abbrev pub expected_by : List ℕ → ℕ
expected_by bytes = if has_extended_length bytes then expected_by_extended bytes else expected_by_short bytes

-- the status word of a command that an applet answered, or by which one was made
abbrev pub status_of_ending : AppletResult → ℕ
status_of_ending Done = no_error
status_of_ending (Reason r) = cast_unsigned w16 r
status_of_ending Unknown = unknown
status_of_ending NotSelected = not_selected
status_of_ending NotRegistered = conditions_not_satisfied
status_of_ending Malformed = wrong_data
status_of_ending NoApplet = no_applet
status_of_ending RegistryFull = full

-- the selected applet answers; where none is selected, that is the answer
abbrev pub to_selected : Budget → Option AppletNumber → ℕ → Packages → MemoryState → Program AppletResult
to_selected budget None expected p m = Finish NotSelected
to_selected budget (Some a) expected p m = process_command budget p a false expected m

-- the applet with an AID is selected, or the command goes to the one that is
abbrev pub to_named : Budget → Option AppletNumber → ℕ → Packages → MemoryState → Program AppletResult
to_named budget None expected p m = to_selected budget m.registers.selected expected p m
to_named budget (Some a) expected p m = applet_selection budget p a expected m

-- SELECT (00 A4 04 00) of the manager or of an applet; another command goes to the selected applet
unfoldable pub route : Budget → Apdu → ℕ → Packages → MemoryState → Program AppletResult
route budget c expected p m =
    if is_select c then (if bytes_eq c.content manager_aid then manager_selection budget p m else to_named budget
    (applet_with_aid m c.content) expected p m)
    else to_selected budget m.registers.selected expected p m

-- the applet with an AID, or the selected one where no applet has it; none for that of the manager
abbrev pub named_or_selected : MemoryState → List ℕ → Option AppletNumber
named_or_selected m aid = if bytes_eq aid manager_aid then None else option_or (applet_with_aid m aid) m.registers.selected

-- the applet that answers a command; none where the manager does
abbrev pub answering : Apdu → MemoryState → Option AppletNumber
answering c m = if is_select c then named_or_selected m c.content else m.registers.selected

-- the image takes commands in the extended form, and so does the applet that answers this one
unfoldable pub takes_extended : Apdu → Packages → MemoryState → Bool
takes_extended c p m = takes_extended_length m.ram.sizes && implements_extended_length p m (answering c m)

-- a response to the command, and nothing else of the card but its memory changed
abbrev pub with_response : CardState → List ℕ → LoadResponse
with_response card response = record { response = response; packages = card.packages; load = card.load; budget = card.budget }

-- the data that were sent, and then the status word, whatever it is
unfoldable pub dispatch : List ℕ → Apdu → CardState → Program LoadResponse
dispatch bytes c card = then_with (BeginCommand bytes) card.memory (λ v.
    bind (route card.budget c (expected_by bytes) card.packages v) v (λ e w. Finish (with_response card (w.sent ++ status_bytes (status_of_ending e)))))

-- Command 80 B8 create applet: an applet is installed; without data the length is wrong. What its install sends
-- is dropped
unfoldable pub create_applet : List ℕ → CardState → Program LoadResponse
create_applet [] card = Finish (with_response card (status_bytes wrong_length))
create_applet (b ∷ more) card = then_with (BeginCommand []) card.memory (λ v.
    bind (applet_creation card.budget card.packages (b ∷ more) v) v (λ e w. Finish (with_response card (status_bytes (status_of_ending e)))))
