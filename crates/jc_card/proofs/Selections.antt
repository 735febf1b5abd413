-- What is selected after a command.
use Rattle.std.proofs.Common.{◌≡◌, ℕ, Bool, true, false, List, ◌++◌, None, if◌then◌else◌, refl, ◌∙◌, ap, subst}
use Rattle.std.specs.Prelude.{◌||◌, is_some}
use Rattle.std.specs.Str.{bytes_eq}
use Rattle.jc_memory.specs.Commands.{has_extended_length}
use Rattle.jc_memory.specs.State.{MemoryState, BeginCommand, SetRegisters, apply_effect}
use Rattle.jc_memory.specs.Programs.{Finish, Perform, Completes}
use Rattle.jc_memory.proofs.ProgramLemmas.{did_bind}
use Rattle.jc_linker.specs.Values.{Packages}
use Rattle.jc_environment.specs.Registry.{applet_with_aid}
use Rattle.jc_interp.specs.declared.attacks.Budget.{Budget}
use Rattle.jc_dispatch.specs.declared.applet_result.AppletResult.{AppletResult}
use Rattle.jc_dispatch.specs.declared.applet_result.AppletResult.TheVariants.{Done}
use Rattle.jc_dispatch.specs.Select.{deselection, manager_selection, with_selected}
use Rattle.jc_card.specs.Answers.{exchange, exchange_extended, exchange_of_apdu, exchange_short, is_dispatched}
use Rattle.jc_card.specs.Answers.{manager_response as to_manager}
use Rattle.jc_card.specs.Command.{Apdu}
use Rattle.jc_card.specs.Card.{CardState}
use Rattle.jc_card.specs.Dispatching.{with_response, dispatch, expected_by, is_select, manager_aid, route, status_of_ending, to_named}
use Rattle.jc_card.specs.Dispatching.{to_selected}
use Rattle.jc_card.specs.Loading.{LoadResponse}
use Rattle.jc_card.specs.StatusWord.{status_bytes}
use Rattle.jc_card.specs.SessionLaws.{ManagerUnselects}

is_first : {A : Type 0} (b : Bool) (x y : A) → b ≡ true → (if b then x else y) ≡ x
is_first true x y e = refl
is_first false x y e = absurd (cc)

is_second : {A : Type 0} (b : Bool) (x y : A) → b ≡ false → (if b then x else y) ≡ y
is_second true x y e = absurd (cc)
is_second false x y e = refl

or_first : (a b : Bool) → a ≡ true → (a || b) ≡ true
or_first true b e = refl
or_first false b e = absurd (cc)

managed_none : (budget : Budget) (p : Packages) (m new : MemoryState) (ending : AppletResult) → Completes (manager_selection budget p m) m ending new
    → new.registers.selected ≡ None
unfolding manager_selection
managed_none budget p m new ending did =
    let last = did_bind (λ rest v. Perform (SetRegisters (with_selected None v.registers)) (Finish Done))
    (deselection budget p None m) m new ending did in
    ap (λ (s : MemoryState). s.registers.selected) last.3.1

routed_none : (budget : Budget) (c : Apdu) (n : ℕ) (p : Packages) (m new : MemoryState) (ending : AppletResult) → is_select c ≡ true → c.content ≡ manager_aid
    → Completes (route budget c n p m) m ending new → new.registers.selected ≡ None
unfolding route
routed_none budget c n p m new ending select content did =
    let named = to_named budget (applet_with_aid m c.content) n p m in
    let other = to_selected budget m.registers.selected n p m in
    let inner = is_first (bytes_eq c.content manager_aid) (manager_selection budget p m) named (ap (λ l. bytes_eq l manager_aid) content) in
    let outer = is_first (is_select c) (if bytes_eq c.content manager_aid then manager_selection budget p m else named) other select in
    managed_none budget p m new ending (subst (λ d. Completes d m ending new) (outer ∙ inner) did)

dispatched_none : (bytes : List ℕ) (c : Apdu) (card : CardState) (a : LoadResponse) (new : MemoryState) → is_select c ≡ true → c.content ≡ manager_aid
    → Completes (dispatch bytes c card) card.memory a new → new.registers.selected ≡ None
unfolding dispatch
dispatched_none bytes c card a new select content did =
    let v = apply_effect (BeginCommand bytes) card.memory in
    let parts = did_bind (λ e w. Finish (with_response card (w.sent ++ status_bytes (status_of_ending e))))
    (route card.budget c (expected_by bytes) card.packages v) v new a did in
    ap (λ (s : MemoryState). s.registers.selected) parts.3.1 ∙ routed_none card.budget c (expected_by bytes) card.packages v parts.1 parts.0 select content parts.2

pub unselects : ManagerUnselects
unfolding exchange
unselects card next bytes response c short is select content did =
    let chosen = ap (λ o. exchange_of_apdu bytes o card) is ∙ is_second (has_extended_length bytes) (exchange_extended bytes c card) (exchange_short bytes c card) short
    ∙ is_first (is_dispatched card c) (dispatch bytes c card) (to_manager c card)
    (or_first (is_select c) (is_some card.memory.registers.selected) select) in
    dispatched_none bytes c card (with_response next response) next.memory select content
    (subst (λ d. Completes d card.memory (with_response next response) next.memory) chosen did)
