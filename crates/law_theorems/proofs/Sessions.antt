-- Sessions leave a card as it should be.
use Rattle.std.proofs.Common.{◌≡◌, ℕ, ◌+◌, ◌<◌, ◌≤◌, ◌==◌, Bool, true, false, List, [], ◌∷◌, length, drop, take, Option, Some, None}
use Rattle.std.proofs.Common.{refl, sym, ◌∙◌, ap, subst, arith, if◌then◌else◌}
use Rattle.std.specs.Prelude.{◌||◌, Ok}
use Rattle.std.proofs.lemmas.List.Elements.{All-drop, All-take}
use Rattle.std.proofs.lemmas.Option.{none-some, same_Some}
use Rattle.jc_words.specs.Refusals.{Refusals}
use Rattle.jc_transient.specs.State.{IsCleared}
use Rattle.jc_heap.specs.Heap.{HeapState, area_sizes, heap_at_rest}
use Rattle.jc_heap.specs.HeapLaws.{AreConsistent}
use Rattle.jc_heap.proofs.Changing.{shape-same}
use Rattle.jc_memory.specs.Registers.{at_reset}
use Rattle.jc_memory.specs.State.{MemoryState}
use Rattle.jc_memory.specs.Programs.{Program, Completes, TearLeaves}
use Rattle.jc_linker.specs.Values.{Packages}
use Rattle.jc_platform.specs.Table.{Reads}
use Rattle.jc_platform.specs.Tokens.{Tokens}
use Rattle.jc_interp.specs.declared.attacks.Budget.{Budget}
use Rattle.jc_packages.specs.Reading.{packages_of}
use Rattle.jc_packages.specs.Load.{empty_load, component_begin, component_end as ended_component}
use Rattle.jc_card.specs.Answers.{respond_with, manager_command, exchange, exchange_of_apdu, is_dispatched, manager_response, run_code}
use Rattle.jc_memory.specs.Commands.{data_of, data_offset, has_extended_length}
use Rattle.jc_card.specs.Command.{Apdu, apdu_of, has_extended_form, has_short_form}
use Rattle.jc_card.specs.Card.{CardState}
use Rattle.jc_card.specs.Dispatching.{with_response, create_applet, dispatch, takes_extended}
use Rattle.jc_environment.specs.Objects.{last_of}
use Rattle.jc_card.specs.Fixed.{fixed_of, last_fixed}
use Rattle.jc_card.proofs.Objects.{last_numbered}
use Rattle.jc_card.specs.Loading.{LoadResponse, begin_component, end_component, append_component, begin_load}
use Rattle.jc_card.specs.StatusWord.{cla_not_supported, ins_not_supported, status_bytes, wrong_length}
use Rattle.jc_card.specs.Session.Requests.{Request, Command, Reset, ArmFuse, PlanFault, Reply, Response, Ready, Down}
use Rattle.jc_card.specs.State.Power.{KeptState, PowerState, Up, Off, armed, armed_card, budget_of, durable_state, planned}
use Rattle.jc_card.specs.declared.planned_fault.PlannedFault.{PlannedFault}
use Rattle.jc_card.specs.Session.Serving.{AnswersCommand, AnswersReset, Serves, SessionRun}
use Rattle.jc_card.specs.Session.Starting.{IsPoweredUp}
use Rattle.law_code.proofs.Aids.{have_aids}
use Rattle.law_code.proofs.ClassLaws.{have_classes}
use Rattle.law_code.proofs.MethodLaws.{have_methods, have_no_code}
use Rattle.law_soundness.specs.LoadedPackages.{AreBytes}
use Rattle.law_soundness.proofs.OpenLoads.{are_readable}
use Rattle.law_soundness.specs.MemoryLaws.State.{IsSoundMemory, IsSoundUpTo}
use Rattle.law_soundness.proofs.Transients.{blank_lives}
use Rattle.law_soundness.specs.MachineLaws.Soundness.{AreKnown}
use Rattle.law_soundness.proofs.CommandLaws.{commands_are_sound}
use Rattle.law_soundness.proofs.Phases.{Good}
use Rattle.law_theorems.specs.Heaps.{IsOwnHeap}
use Rattle.law_theorems.proofs.Memories.{loads_are_sound}
use Rattle.law_theorems.proofs.ImageEffects.{effects_keep}
use Rattle.law_theorems.specs.Cards.{AreLinkedWell, AreOfBytes, IsOfBytes, IsOwnCard, IsOwnKept, IsOwnPower, StaysOwn}
use Rattle.law_soundness.specs.Loads.{IsLaidOut}
use Rattle.law_theorems.proofs.Commands.{IsAnswered, answers_good, creates_good, did_own, dispatched_good, grows_good, loads_good, lost_own, on_load_good}
use Rattle.law_theorems.proofs.Commands.{own_memory, runs_good}
use Rattle.law_theorems.proofs.CardHeaps.{IsLeft, left_own, own_at}
use Rattle.law_theorems.proofs.Loads.{ends_lost, ends_own}

-- packages that were linked well are known
pub linked_known : (p : Packages) → AreLinkedWell p → AreKnown p
linked_known p l = record {
  classes = have_classes l.components p l.read;
  aids = have_aids l.components p l.read.linked l.applets;
  methods = have_methods l.components p l.read;
  platform = have_no_code l.components p l.read.linked;
}

-- a text is read as one table
abbrev pub OneTable : Type 0
OneTable = (text : List ℕ) (t u : Tokens) → Reads text (Ok t) → Reads text (Ok u) → t ≡ u

-- ---- the data of a command

data_bytes : (bytes : List ℕ) → AreBytes bytes → AreBytes (data_of bytes)
unfolding data_of
data_bytes bytes are = All-take (λ b. b < 256) _ (drop (data_offset bytes) bytes) (All-drop (λ b. b < 256) (data_offset bytes) bytes are)

content_if : (b : Bool) (a c : Apdu) → (if b then Some a else None) ≡ Some c → AreBytes a.content → AreBytes c.content
content_if true a c e are = subst AreBytes (ap (λ x. x.content) (same_Some a c e)) are
content_if false a c e are = absurd (none-some c e)

content_of : (bytes : List ℕ) (c : Apdu) → AreBytes bytes → apdu_of bytes ≡ Some c → AreBytes c.content
content_of bytes c are e = content_if (has_short_form bytes || has_extended_form bytes) _ c e (data_bytes bytes are)

-- ---- a command

module _ (t : Tokens) (card : CardState) (own : IsOwnCard t card) where
  -- wherever a command ends, or the power is lost within it
  record Does (d : Program LoadResponse) : Type 0 where
    did : (ans : LoadResponse) (new : MemoryState) → Completes d card.memory ans new
        → IsOwnCard t (record { memory = new; packages = ans.packages; load = ans.load; budget = ans.budget })
    lost : (passed : ℕ) (h : HeapState) → TearLeaves d card.memory passed h → IsLeft card.memory.heap.durable.head.1 t card.packages h

  are_known : AreKnown card.packages
  are_known = linked_known card.packages own.linked

  does : (d : Program LoadResponse) → Good card.packages d card.memory (IsAnswered card.packages) → Does d
  does d good = record { did = did_own effects_keep t card own d good; lost = lost_own effects_keep t card own d good }

  does_if : (b : Bool) (x y : Program LoadResponse) → Does x → Does y → Does (if b then x else y)
  does_if true x y first second = first
  does_if false x y first second = second

  commanded_does : (c : Apdu) → AreBytes c.content → Does (manager_command c card)
  unfolding manager_command
  commanded_does c are =
      does_if (c.instruction == 0x10) _ _ (does (run_code c.p1 c.p2 c.content card) (runs_good commands_are_sound t card own are_known c.p1 c.p2 c.content))
      (does_if (c.instruction == 0xB0) _ _ (does (begin_load card) (loads_good commands_are_sound t card own are_known (Ok tt)
      (Some empty_load) are_readable.new))
      (does_if (c.instruction == 0xB2) _ _ (does (begin_component c.p1 card) (on_load_good commands_are_sound t card own are_known (component_begin c.p1)
      (are_readable.begins c.p1) card.load own.load))
      (does_if (c.instruction == 0xB4) _ _ (does (append_component c.content card) (grows_good commands_are_sound t card own are_known c.content are))
      (does_if (c.instruction == 0xBC) _ _ (does (end_component card) (on_load_good commands_are_sound t card own are_known ended_component are_readable.ends
      card.load own.load))
      (does_if (c.instruction == 0xBA) _ _ (record {
        did = ends_own effects_keep loads_are_sound t card own;
        lost = ends_lost effects_keep loads_are_sound t card own;
      })
      (does_if (c.instruction == 0xB8) _ _ (does (create_applet c.content card) (creates_good commands_are_sound t card own are_known c.content))
      (does (respond_with card (status_bytes ins_not_supported)) (answers_good commands_are_sound t card own are_known (status_bytes ins_not_supported)))))))))

  managed_does : (c : Apdu) → AreBytes c.content → Does (manager_response c card)
  managed_does c are = does_if (c.class == 0x80) _ _ (commanded_does c are) (does (respond_with card (status_bytes cla_not_supported))
      (answers_good commands_are_sound t card own are_known (status_bytes cla_not_supported)))

  refused_does : Does (respond_with card (status_bytes wrong_length))
  refused_does = does (respond_with card (status_bytes wrong_length)) (answers_good commands_are_sound t card own are_known (status_bytes wrong_length))

  dispatch_does : (bytes : List ℕ) (c : Apdu) → Does (dispatch bytes c card)
  dispatch_does bytes c = does (dispatch bytes c card) (dispatched_good commands_are_sound t card own are_known bytes c)

  apdu_does : (bytes : List ℕ) (o : Option Apdu) → ((c : Apdu) → o ≡ Some c → AreBytes c.content) → Does (exchange_of_apdu bytes o card)
  apdu_does bytes None are = refused_does
  apdu_does bytes (Some c) are =
      does_if (has_extended_length bytes) _ _ (does_if (takes_extended c card.packages card.memory) _ _ (dispatch_does bytes c) refused_does)
      (does_if (is_dispatched card c) _ _ (dispatch_does bytes c) (managed_does c (are c refl)))

  exchanging_does : (bytes : List ℕ) → AreBytes bytes → Does (exchange bytes card)
  unfolding exchange
  exchanging_does bytes are = apdu_does bytes (apdu_of bytes) (λ c is. content_of bytes c are is)

  pub command_own : (bytes : List ℕ) (reply : Reply) (next : PowerState) → AreBytes bytes → AnswersCommand (Up card) bytes reply next → IsOwnPower t next
  command_own bytes (Response r) (Up next) are did = (exchanging_does bytes are).did (with_response next r) next.memory did
  command_own bytes Down (Off b k) are lost = record {
    packages = card.packages;
    linked = own.linked;
    heap = own_at card.memory.heap.durable.head.1 t card.packages k.durable ((exchanging_does bytes are).lost k.passed k.durable lost.1.0).heap;
    layout = ((exchanging_does bytes are).lost k.passed k.durable lost.1.0).layout;
  }
  command_own bytes reply next are none = absurd none

-- ---- a reset

pub kept_own : (t : Tokens) (s : PowerState) → IsOwnPower t s → IsOwnKept t (durable_state s)
kept_own t (Up card) own = record {
  packages = card.packages;
  linked = own.linked;
  heap = (left_own card.memory.heap.durable.head.1 t card.packages card.memory (own_memory t card own)).heap;
  layout = own.layout.durable;
}
kept_own t (Off b k) own = own

module _ (n : ℕ) (t : Tokens) (p : Packages) (h : HeapState) (own : IsOwnHeap h.head.1 t p h) (linked : AreLinkedWell p) (layout : IsLaidOut h)
    (passed : ℕ) (budget : Budget) (refusals : Refusals) (m : MemoryState) (clear : IsCleared m.ram) (fits : m.ram.sizes ≡ area_sizes h) where
  abbrev reset_memory : MemoryState
  reset_memory = record m { heap = heap_at_rest h passed refusals n; fixed = fixed_of t h; registers = at_reset }

  reset_whole : AreConsistent (heap_at_rest h passed refusals n)
  reset_whole = record { now = own.stands; durable = own.stands; shape = shape-same h; order = omega arith }

  last_is : last_of (fixed_of t h) ≡ last_fixed t h
  last_is = last_numbered t h

  reset_sound : IsSoundMemory p reset_memory
  reset_sound = record {
    whole = reset_whole;
    registry = own.registry;
    registry_kept = own.registry;
    now = subst (IsSoundUpTo h.counts.1 p h) (sym last_is) own.fits;
    durable = subst (IsSoundUpTo h.counts.1 p h) (sym last_is) own.fits;
    settled = λ off. refl;
    packages = refl;
    loaded = own.loaded;
    counts = λ closed. refl;
    active = refl;
    behind = let b = last_is in let c = own.behind in omega (arith, b, c);
    own = λ r low there. let b = last_is in own.own r (omega (arith, low, b)) there;
    home = refl;
    selected = λ a e. absurd (none-some a e);
    transients = blank_lives h m.ram clear fits;
  }

  reset_own : IsOwnCard t (record { memory = reset_memory; packages = p; load = None; budget = budget })
  reset_own = record {
    linked = linked;
    ready = record { sound = reset_sound; environment = record { now = own.environment; durable = own.environment }; closed = refl; idle = refl };
    reading = record { now = own.packages; durable = own.packages };
    beginning = record { now = own.beginning; durable = own.beginning; fixed = refl; same = refl };
    layout = record { now = layout; durable = layout };
    load = tt;
  }

pub powered_own : OneTable → (t : Tokens) (k : KeptState) (budget : ℕ) (card : CardState) → IsOwnKept t k → IsPoweredUp k budget card → IsOwnCard t card
powered_own g t k budget card own up =
    let table : up.reset.packages.0 ≡ t = g k.durable.text up.reset.packages.0 t up.reset.packages.1 own.heap.beginning.table in
    let read : packages_of t k.durable ≡ Some card.packages = subst (λ u. packages_of u k.durable ≡ Some card.packages) table up.reset.packages.2 in
    let known : card.memory.fixed ≡ fixed_of t k.durable = subst (λ u. card.memory.fixed ≡ fixed_of u k.durable) table up.reset.packages.3 in
    let same : card.packages ≡ own.packages = same_Some card.packages own.packages (sym read ∙ own.heap.packages) in
    let reset = reset_own k.size t own.packages k.durable own.heap own.linked own.layout card.memory.heap.passed card.budget k.refusals card.memory
    up.reset.ram up.reset.sizes in
    let path : card ≡ record {
      memory = record card.memory {
        heap = heap_at_rest k.durable card.memory.heap.passed k.refusals k.size;
        fixed = fixed_of t k.durable;
        registers = at_reset;
      };
      packages = own.packages;
      load = None;
      budget = card.budget;
    } =
    λ i. record {
      memory = record {
        heap = up.heap i;
        ram = card.memory.ram;
        fixed = known i;
        registers = up.reset.registers i;
        command = card.memory.command;
        sent = card.memory.sent;
      };
      packages = same i;
      load = up.reset.load i;
      budget = card.budget;
    } in
    subst (IsOwnCard t) (sym path) reset

reset_answered : OneTable → (t : Tokens) (s : PowerState) (reply : Reply) (next : PowerState) → IsOwnPower t s → AnswersReset s reply next
    → IsOwnPower t next
reset_answered g t s Ready (Up card) own up = powered_own g t (durable_state s) (budget_of s) card (kept_own t s own) up
reset_answered g t s Down (Off b k) own same =
    let old = kept_own t s own in
    subst (IsOwnKept t) (sym same.0) (record { packages = old.packages; linked = old.linked; heap = old.heap; layout = old.layout })
reset_answered g t s reply next own none = absurd none

-- ---- arming the fuse

armed_sound : (p : Packages) (k : ℕ) (card : CardState) → IsSoundMemory p card.memory → IsSoundMemory p (armed_card k card).memory
armed_sound p k card s = record {
  whole = record { now = s.whole.now; durable = s.whole.durable; shape = s.whole.shape; order = s.whole.order };
  registry = s.registry;
  registry_kept = s.registry_kept;
  now = s.now;
  durable = s.durable;
  settled = s.settled;
  packages = s.packages;
  loaded = s.loaded;
  counts = s.counts;
  active = s.active;
  behind = s.behind;
  own = s.own;
  home = s.home;
  selected = s.selected;
  transients = s.transients;
}

armed_own : (t : Tokens) (k : ℕ) (s : PowerState) → IsOwnPower t s → IsOwnPower t (armed k s)
armed_own t k (Up card) own = record {
  linked = own.linked;
  ready = record {
    sound = armed_sound card.packages k card own.ready.sound;
    environment = record { now = own.ready.environment.now; durable = own.ready.environment.durable };
    closed = own.ready.closed;
    idle = own.ready.idle;
  };
  reading = record { now = own.reading.now; durable = own.reading.durable };
  beginning = record { now = own.beginning.now; durable = own.beginning.durable; fixed = own.beginning.fixed; same = own.beginning.same };
  layout = record { now = own.layout.now; durable = own.layout.durable };
  load = own.load;
}
armed_own t k (Off b kept) own = record { packages = own.packages; linked = own.linked; heap = own.heap; layout = own.layout }

-- ---- planning a fault

planned_own : (t : Tokens) (fault : Option PlannedFault) (s : PowerState) → IsOwnPower t s → IsOwnPower t (planned fault s)
planned_own t fault (Up card) own = record {
  linked = own.linked;
  ready = own.ready;
  reading = own.reading;
  beginning = own.beginning;
  layout = own.layout;
  load = own.load;
}
planned_own t fault (Off b kept) own = own

-- ---- sessions

command_answered : (t : Tokens) (s : PowerState) (bytes : List ℕ) (reply : Reply) (next : PowerState) → AreBytes bytes → IsOwnPower t s
    → AnswersCommand s bytes reply next → IsOwnPower t next
command_answered t (Up card) bytes reply next are own served = command_own t card own bytes reply next are served
command_answered t (Off b k) bytes Down (Off d l) are own same = subst (IsOwnKept t) (sym same.0) own
command_answered t (Off b k) bytes reply next are own none = absurd none

request_own : OneTable → (t : Tokens) (s : PowerState) (request : Request) (reply : Reply) (next : PowerState) → IsOfBytes request → IsOwnPower t s
    → Serves s request reply next → IsOwnPower t next
request_own g t s (Command bytes) reply next are own served = command_answered t s bytes reply next are own served
request_own g t s Reset reply next are own served = reset_answered g t s reply next own served
request_own g t s (ArmFuse k) reply next are own served = subst (IsOwnPower t) (sym served.1) (armed_own t k s own)
request_own g t s (PlanFault fault) reply next are own served = subst (IsOwnPower t) (sym served.1) (planned_own t fault s own)

session_own : OneTable → (t : Tokens) (s : PowerState) (requests : List Request) (replies : List Reply) (last : PowerState) → AreOfBytes requests
    → IsOwnPower t s → SessionRun s requests replies last → IsOwnPower t last
session_own g t s [] [] last are own same = subst (IsOwnPower t) (sym same) own
session_own g t s (request ∷ requests) (reply ∷ replies) last are own run = session_own g t run.0 requests replies last are.1
    (request_own g t s request reply run.0 are.0 own run.1) run.2
session_own g t s [] (reply ∷ replies) last are own none = absurd none
session_own g t s (request ∷ requests) [] last are own none = absurd none

pub stays_own : OneTable → StaysOwn
stays_own g = record { request = request_own g; session = session_own g }
