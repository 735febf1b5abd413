-- No transaction is open after a command.
use Rattle.std.proofs.Common.{◌≡◌, Bool, true, false, List, [], ◌∷◌, refl}
use Rattle.std.specs.Prelude.{ℕ, length, pos, nat_le, nat_lt, ◌==◌, if◌then◌else◌, is_none, Option, Some, None, Result, Ok, Err}
use Rattle.std.specs.Option.{option_map}
use Rattle.std.specs.Str.{bytes_eq}
use Rattle.jc_words.specs.Layout.{most_applets}
use Rattle.jc_heap.specs.declared.refusal.HeapRefusal.{HeapRefusal}
use Rattle.jc_heap.specs.Moves.{Begin, refusal_of_package}
use Rattle.jc_heap.specs.Completions.{Attempt, Done, Refused}
use Rattle.jc_frames.specs.declared.cell.Cell.TheVariants.{Short, Reference}
use Rattle.jc_transient.specs.declared.owner.AppletNumber.{AppletNumber}
use Rattle.jc_memory.specs.declared.registers.Installation.TheVariants.{Open}
use Rattle.jc_transient.specs.declared.owner.Owner.TheVariants.{Applet}
use Rattle.jc_transient.specs.declared.owner.PackageNumber.{PackageNumber}
use Rattle.jc_memory.specs.State.{MemoryState, Effect, HeapMove, SetRegisters, BeginCommand, apply_effect}
use Rattle.jc_memory.specs.Programs.{Program, Finish, Perform, bind, unless_refused}
use Rattle.jc_memory.specs.Reading.{AllResults}
use Rattle.jc_memory.specs.Changes.{package_addition}
use Rattle.jc_memory.proofs.ProgramLemmas.{each_always, each_bind, each_more}
use Rattle.jc_platform.specs.declared.names.PlatformMethod.TheVariants.{Applets}
use Rattle.jc_platform.specs.declared.names.AppletsMethod.TheVariants.{AppletSelect, AppletDeselect, AppletProcess}
use Rattle.jc_linker.specs.Lookups.{applet_entry}
use Rattle.jc_linker.specs.Values.{Packages}
use Rattle.jc_environment.specs.Registry.{applet_with_aid}
use Rattle.jc_interp.specs.declared.attacks.Budget.{Budget}
use Rattle.jc_dispatch.specs.Buffer.{apdu_buffer, apdu_object, buffer_fill}
use Rattle.jc_dispatch.specs.Create.{applet_named, applet_creation, creation_in_registry, creation_by_data, creation_of, creation_by_entry}
use Rattle.jc_dispatch.specs.AppletResult.{is_select_accepted}
use Rattle.jc_dispatch.specs.Install.{applet_installation, next_applet, with_installation}
use Rattle.jc_dispatch.specs.AdHocCode.{ad_hoc_run}
use Rattle.jc_dispatch.specs.Phase.{then_with, applet_method_call, close, abort_if_open, instance_of, method_run, registers_released}
use Rattle.jc_dispatch.specs.Select.{after_select, header_of, applet_left, deselection, manager_selection, process_command, applet_selection, with_command, with_next, with_selected}
use Rattle.jc_packages.specs.PendingPackages.{PendingPackageValue, linked_components}
use Rattle.jc_packages.specs.RecordContents.{arrays_of, image_of, parts_of, statics_of}
use Rattle.jc_packages.specs.declared.load_refusal.LoadRefusal.{LoadRefusal}
use Rattle.jc_packages.specs.declared.load.OpenLoad.{OpenLoad}
use Rattle.jc_packages.specs.LoadEnd.{package_entry, assembly_result, after_addition, after_preparation, end_of_load}
use Rattle.jc_card.specs.Answers.{manager_command, exchange, exchange_of_apdu, is_dispatched, run_code}
use Rattle.jc_memory.specs.Commands.{has_extended_length}
use Rattle.jc_card.specs.Command.{Apdu, apdu_of}
use Rattle.jc_card.specs.Card.{CardState}
use Rattle.jc_card.specs.Dispatching.{create_applet, dispatch, expected_by, is_select, manager_aid, route, takes_extended, to_named, to_selected}
use Rattle.jc_card.specs.Loading.{begin_component, end_component, append_component, end_load}

-- no transaction is open
abbrev pub IsShut : {A : Type 0} → A → MemoryState → Type 0
IsShut a v = v.heap.begun ≡ false

-- whatever is done, none is open after it
pub record EndsShut {A : Type 0} (d : Program A) (s : MemoryState) : Type 0 where
  pub each : AllResults d s IsShut

-- what follows is shut whatever came before
then_shut : {A B : Type 0} (more : A → MemoryState → Program B) → ((a : A) (v : MemoryState) → EndsShut (more a v) v) → (d : Program A) (s : MemoryState)
    → EndsShut (bind d s more) s
then_shut more rest d s = record { each = each_bind IsShut more d s (each_always (λ a v. AllResults (more a v) v IsShut) (λ a v. (rest a v).each) d s) }

-- what follows keeps it shut
still_shut : {A B : Type 0} (more : A → MemoryState → Program B) → ((a : A) (v : MemoryState) → v.heap.begun ≡ false → EndsShut (more a v) v)
    → (d : Program A) (s : MemoryState) → EndsShut d s → EndsShut (bind d s more) s
still_shut more rest d s first = record {
  each = each_bind IsShut more d s (each_more IsShut (λ a v. AllResults (more a v) v IsShut) (λ a v shut. (rest a v shut).each) d s first.each);
}

-- nothing is done, or some effects that neither begin nor end a transaction
stays_shut : {A : Type 0} {d : Program A} {s : MemoryState} → AllResults d s IsShut → EndsShut d s
stays_shut each = record { each = each }

shut_if : {A : Type 0} (b : Bool) (x y : Program A) (s : MemoryState) → EndsShut x s → EndsShut y s → EndsShut (if b then x else y) s
shut_if true x y s first second = first
shut_if false x y s first second = second

-- an effect, and then what ends shut
behind : {A : Type 0} (e : Effect) (d : Program A) (s : MemoryState) → EndsShut d (apply_effect e s) → EndsShut (Perform e d) s
behind e d s shut = stays_shut shut.each

-- ---- the runtime environment takes over

closing_shut : (stands : Bool) (m : MemoryState) → m.heap.begun ≡ stands → EndsShut
    (abort_if_open stands (λ v. then_with (SetRegisters (registers_released v.registers)) v (λ w. Finish (tt {0}))) m) m
closing_shut false m e = stays_shut e
closing_shut true m e = stays_shut refl

closed_shut : (m : MemoryState) → EndsShut (close m) m
unfolding close
closed_shut m = closing_shut m.heap.begun m refl

-- ---- applets

applet_left_shut : (budget : Budget) (p : Packages) (one : Option AppletNumber) (m : MemoryState) → m.heap.begun ≡ false
    → EndsShut (applet_left budget p one m) m
unfolding applet_left
applet_left_shut budget p None m shut = stays_shut shut
applet_left_shut budget p (Some a) m shut =
    then_shut _ (λ end v. still_shut _ (λ u w none. stays_shut none) (close v) v (closed_shut v))
    (applet_method_call budget p (Applets AppletDeselect) (instance_of m a.0) (Reference (instance_of m a.0) ∷ []) (Applet a) m) m

left_shut : (budget : Budget) (p : Packages) (next : Option AppletNumber) (m : MemoryState) → m.heap.begun ≡ false
    → EndsShut (deselection budget p next m) m
unfolding deselection
left_shut budget p next m shut =
    let v = apply_effect (SetRegisters (with_next next m.registers)) m in
    behind _ _ m (applet_left_shut budget p m.registers.selected v shut)

processed_shut : (budget : Budget) (p : Packages) (a : AppletNumber) (selecting : Bool) (expected : ℕ) (m : MemoryState)
    → EndsShut (process_command budget p a selecting expected m) m
unfolding process_command
processed_shut budget p a selecting expected m =
    let v = apply_effect (SetRegisters (with_command expected selecting m.registers)) m in
    behind _ _ m (
    then_shut _ (λ u w. then_shut _ (λ end x. still_shut _ (λ u y none. stays_shut none) (close x) x (closed_shut x))
    (applet_method_call budget p (Applets AppletProcess) (instance_of w a.0) (Reference (instance_of w a.0) ∷ Reference (apdu_object w) ∷ []) (Applet a) w) w)
    (buffer_fill v (header_of v.command)) v)

accepted_shut : (accepts : Bool) (budget : Budget) (p : Packages) (a : AppletNumber) (expected : ℕ) (m : MemoryState) → m.heap.begun ≡ false
    → EndsShut (after_select accepts budget p a expected m) m
accepted_shut true budget p a expected m shut = processed_shut budget p a true expected m
accepted_shut false budget p a expected m shut = stays_shut shut

selected_shut : (budget : Budget) (p : Packages) (a : AppletNumber) (expected : ℕ) (m : MemoryState) → EndsShut (applet_selection budget p a expected m) m
unfolding applet_selection
selected_shut budget p a expected m =
    then_shut _ (λ rest v.
    let w = apply_effect (SetRegisters (with_selected (Some a) v.registers)) v in
    behind _ _ v (then_shut _ (λ end x. still_shut _ (λ u y none. accepted_shut (is_select_accepted end.1)
    (record budget { left = end.0 }) p a expected y none) (close x) x
    (closed_shut x))
    (applet_method_call (record budget { left = rest }) p (Applets AppletSelect) (instance_of w a.0) (Reference (instance_of w a.0) ∷ []) (Applet a) w) w))
    (deselection budget p (Some a) m) m

managed_shut : (budget : Budget) (p : Packages) (m : MemoryState) → m.heap.begun ≡ false → EndsShut (manager_selection budget p m) m
unfolding manager_selection
managed_shut budget p m shut = still_shut _ (λ rest v none. stays_shut none) _ m (left_shut budget p None m shut)

installed_shut : (budget : Budget) (p : Packages) (q : PackageNumber) (entry offset : ℕ) (parameters : List ℕ) (m : MemoryState)
    → EndsShut (applet_installation budget p q entry offset parameters m) m
unfolding applet_installation
installed_shut budget p q entry offset parameters m =
    let v = apply_effect (HeapMove Begin) m in
    let w = apply_effect (SetRegisters (with_installation (Open q entry) v.registers)) v in
    behind _ _ m (behind _ _ v (
    then_shut _ (λ u x. then_shut _ (λ end y. still_shut _ (λ u z none. stays_shut none) (close y) y (closed_shut y))
    (method_run budget p q.0 offset (Reference (apdu_buffer x) ∷ Short (pos 0) ∷ Short (pos (length parameters)) ∷ []) (Applet (next_applet m)) x) x)
    (buffer_fill w parameters) w))

installing_shut : (budget : Budget) (p : Packages) (e : ℕ × ℕ) (offset : Option ℕ) (parameters : List ℕ) (m : MemoryState) → m.heap.begun ≡ false
    → EndsShut (creation_by_entry budget p e offset parameters m) m
installing_shut budget p e None parameters m shut = stays_shut shut
installing_shut budget p e (Some offset) parameters m shut = installed_shut budget p (record { 0 = e.0 }) e.1 offset parameters m

created_by_shut : (budget : Budget) (p : Packages) (e : Option (ℕ × ℕ)) (parameters : List ℕ) (m : MemoryState) → m.heap.begun ≡ false
    → EndsShut (creation_in_registry budget p e parameters m) m
created_by_shut budget p None parameters m shut = stays_shut shut
created_by_shut budget p (Some e) parameters m shut =
    shut_if (nat_lt m.heap.now.counts.1 most_applets) _ _ m (installing_shut budget p e
    (option_map (λ a. a.install_offset) (applet_entry p e.0 e.1)) parameters m shut) (stays_shut shut)

created_of_shut : (budget : Budget) (p : Packages) (c : Option (List ℕ × List ℕ)) (m : MemoryState) → m.heap.begun ≡ false
    → EndsShut (creation_by_data budget p c m) m
created_of_shut budget p None m shut = stays_shut shut
created_of_shut budget p (Some c) m shut = created_by_shut budget p (applet_named p c.0) c.1 m shut

created_shut : (budget : Budget) (p : Packages) (bytes : List ℕ) (m : MemoryState) → m.heap.begun ≡ false → EndsShut (applet_creation budget p bytes m) m
unfolding applet_creation
created_shut budget p bytes m shut = created_of_shut budget p (creation_of bytes) m shut

-- ---- commands of applets

to_selected_shut : (budget : Budget) (a : Option AppletNumber) (expected : ℕ) (p : Packages) (m : MemoryState) → m.heap.begun ≡ false
    → EndsShut (to_selected budget a expected p m) m
to_selected_shut budget None expected p m shut = stays_shut shut
to_selected_shut budget (Some a) expected p m shut = processed_shut budget p a false expected m

to_named_shut : (budget : Budget) (a : Option AppletNumber) (expected : ℕ) (p : Packages) (m : MemoryState) → m.heap.begun ≡ false
    → EndsShut (to_named budget a expected p m) m
to_named_shut budget None expected p m shut = to_selected_shut budget m.registers.selected expected p m shut
to_named_shut budget (Some a) expected p m shut = selected_shut budget p a expected m

routed_shut : (budget : Budget) (c : Apdu) (expected : ℕ) (p : Packages) (m : MemoryState) → m.heap.begun ≡ false → EndsShut (route budget c expected p m) m
unfolding route
routed_shut budget c expected p m shut =
    shut_if (is_select c) _ _ m (shut_if (bytes_eq c.content manager_aid) _ _ m (managed_shut budget p m shut)
    (to_named_shut budget (applet_with_aid m c.content) expected p m shut))
    (to_selected_shut budget m.registers.selected expected p m shut)

dispatched_shut : (bytes : List ℕ) (c : Apdu) (card : CardState) → card.memory.heap.begun ≡ false → EndsShut (dispatch bytes c card) card.memory
unfolding dispatch
dispatched_shut bytes c card shut =
    let v = apply_effect (BeginCommand bytes) card.memory in
    behind _ _ card.memory (still_shut _ (λ e w none. stays_shut none) (route card.budget c (expected_by bytes) card.packages v) v
    (routed_shut card.budget c (expected_by bytes) card.packages v shut))

-- ---- the manager's commands

code_run_shut : (limit locals : ℕ) (code : List ℕ) (card : CardState) → EndsShut
    (ad_hoc_run card.budget limit locals code card.packages card.memory) card.memory
unfolding ad_hoc_run
code_run_shut limit locals code card = then_shut _ (λ end v. still_shut _ (λ u w none. stays_shut none) (close v) v (closed_shut v)) _ card.memory

runs_shut : (limit locals : ℕ) (code : List ℕ) (card : CardState) → card.memory.heap.begun ≡ false → EndsShut (run_code limit locals code card) card.memory
unfolding run_code
runs_shut limit locals [] card shut = stays_shut shut
runs_shut limit locals (b ∷ more) card shut =
    still_shut _ (λ end v none. stays_shut none) (ad_hoc_run card.budget limit locals (b ∷ more) card.packages card.memory) card.memory
    (code_run_shut limit locals (b ∷ more) card)

creates_shut : (bytes : List ℕ) (card : CardState) → card.memory.heap.begun ≡ false → EndsShut (create_applet bytes card) card.memory
unfolding create_applet
creates_shut [] card shut = stays_shut shut
creates_shut (b ∷ more) card shut =
    let v = apply_effect (BeginCommand []) card.memory in
    behind _ _ card.memory (still_shut _ (λ e w none. stays_shut none) (applet_creation card.budget card.packages (b ∷ more) v) v
    (created_shut card.budget card.packages (b ∷ more) v shut))

component_begins_shut : (tag : ℕ) (load : Option OpenLoad) (card : CardState) → card.load ≡ load → card.memory.heap.begun ≡ false
    → EndsShut (begin_component tag card) card.memory
component_begins_shut tag None card e shut = rw e (stays_shut shut)
component_begins_shut tag (Some load) card e shut = rw e (stays_shut shut)

component_ends_shut : (load : Option OpenLoad) (card : CardState) → card.load ≡ load → card.memory.heap.begun ≡ false
    → EndsShut (end_component card) card.memory
component_ends_shut None card e shut = rw e (stays_shut shut)
component_ends_shut (Some load) card e shut = rw e (stays_shut shut)

component_grows_shut : (bytes : List ℕ) (load : Option OpenLoad) (card : CardState) → card.load ≡ load → card.memory.heap.begun ≡ false
    → EndsShut (append_component bytes card) card.memory
component_grows_shut [] load card e shut = stays_shut shut
component_grows_shut (b ∷ more) None card e shut = rw e (stays_shut (shut, shut))
component_grows_shut (b ∷ more) (Some load) card e shut = rw e (stays_shut (shut, shut))

if_added_shut : (p : Packages) (q : PendingPackageValue) (answer : Attempt ℕ) (m : MemoryState) → m.heap.begun ≡ false → EndsShut (after_addition p q answer) m
if_added_shut p q (Done r) m shut = stays_shut shut
if_added_shut p q (Refused reason) m shut = stays_shut shut

unless_shut : {A : Type 0} (reason : Option HeapRefusal) (d : Program (Attempt A)) (m : MemoryState) → m.heap.begun ≡ false → EndsShut d m
    → EndsShut (unless_refused reason d) m
unless_shut None d m shut first = first
unless_shut (Some reason) d m shut first = stays_shut shut

added_shut : (p : Packages) (q : PendingPackageValue) (m : MemoryState) → m.heap.begun ≡ false → EndsShut (package_entry p q m) m
added_shut p q m shut =
    shut_if (nat_le 32 (length m.heap.now.packages)) _ _ m (stays_shut shut)
    (still_shut _ (λ answer v none. if_added_shut p q answer v none) (package_addition m (parts_of q.texts) (arrays_of (statics_of q.texts))
    (image_of (statics_of q.texts))) m
    (unless_shut (refusal_of_package m.heap (parts_of q.texts) (arrays_of (statics_of q.texts)) (image_of (statics_of q.texts))) _ m shut
    (stays_shut (λ r new. shut))))

if_prepared_shut : (p : Packages) (m : MemoryState) (q : Result PendingPackageValue LoadRefusal) → m.heap.begun ≡ false
    → EndsShut (after_preparation p m q) m
if_prepared_shut p m (Err refusal) shut = stays_shut shut
if_prepared_shut p m (Ok q) shut = added_shut p q m shut

package_ended_shut : (p : Packages) (m : MemoryState) (load : Option OpenLoad) → m.heap.begun ≡ false → EndsShut (end_of_load p m load) m
unfolding assembly_result
package_ended_shut p m None shut = stays_shut shut
package_ended_shut p m (Some load) shut = shut_if (is_none load.coming) _ _ m (stays_shut
    ((if_prepared_shut p m (linked_components p load.texts) shut).each, shut)) (stays_shut shut)

load_ends_shut : (card : CardState) → card.memory.heap.begun ≡ false → EndsShut (end_load card) card.memory
load_ends_shut card shut = still_shut _ (λ deselection s none. stays_shut none) _ card.memory (package_ended_shut card.packages card.memory card.load shut)

commanded_shut : (c : Apdu) (card : CardState) → card.memory.heap.begun ≡ false → EndsShut (manager_command c card) card.memory
unfolding manager_command
commanded_shut c card shut =
    shut_if (c.instruction == 0x10) _ _ card.memory (runs_shut c.p1 c.p2 c.content card shut) (
    shut_if (c.instruction == 0xB0) _ _ card.memory (stays_shut shut) (
    shut_if (c.instruction == 0xB2) _ _ card.memory (component_begins_shut c.p1 card.load card refl shut) (
    shut_if (c.instruction == 0xB4) _ _ card.memory (component_grows_shut c.content card.load card refl shut) (
    shut_if (c.instruction == 0xBC) _ _ card.memory (component_ends_shut card.load card refl shut) (
    shut_if (c.instruction == 0xBA) _ _ card.memory (load_ends_shut card shut) (
    shut_if (c.instruction == 0xB8) _ _ card.memory (creates_shut c.content card shut) (stays_shut shut)))))))

exchanging_of_shut : (bytes : List ℕ) (c : Option Apdu) (card : CardState) → card.memory.heap.begun ≡ false
    → EndsShut (exchange_of_apdu bytes c card) card.memory
exchanging_of_shut bytes None card shut = stays_shut shut
exchanging_of_shut bytes (Some c) card shut =
    shut_if (has_extended_length bytes) _ _ card.memory
    (shut_if (takes_extended c card.packages card.memory) _ _ card.memory (dispatched_shut bytes c card shut) (stays_shut shut))
    (shut_if (is_dispatched card c) _ _ card.memory (dispatched_shut bytes c card shut)
    (shut_if (c.class == 0x80) _ _ card.memory (commanded_shut c card shut) (stays_shut shut)))

pub exchanging_shut : (bytes : List ℕ) (card : CardState) → card.memory.heap.begun ≡ false → EndsShut (exchange bytes card) card.memory
unfolding exchange
exchanging_shut bytes card shut = exchanging_of_shut bytes (apdu_of bytes) card shut
