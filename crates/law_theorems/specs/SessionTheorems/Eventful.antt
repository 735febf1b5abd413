-- A command in which much happens meets the premises of the theorems: two packages came in, an applet of each with an OwnerPIN was installed,
-- and the first is selected.
use Rattle.std.specs.Prelude.{ℕ, ◌≡◌, ◌<◌, ◌≤◌, true, List, [], ◌∷◌, ◌++◌, length}
use Rattle.jc_heap.specs.declared.place.Place.{Place}
use Rattle.jc_heap.specs.Heap.{HeapState}
use Rattle.jc_heap.specs.HeapLaws.{writes_of_moves}
use Rattle.jc_heap.specs.Moves.{Write, SetPlaces, WriteNonAtomic, Commit, Abort}
use Rattle.jc_frames.specs.Frames.{Frames}
use Rattle.jc_memory.specs.Programs.{Completes}
use Rattle.jc_memory.specs.State.{MemoryState, Effect, HeapMove, moves_of}
use Rattle.jc_environment.specs.Pins.{counter}
use Rattle.jc_platform.specs.Tokens.{Tokens}
use Rattle.jc_dispatch.specs.Phase.{close}
use Rattle.jc_card.specs.Card.{CardState}
use Rattle.jc_card.specs.Session.Requests.{Command, Reset, Response, Ready, Down}
use Rattle.jc_card.specs.State.Power.{Up, Off, KeptState}
use Rattle.jc_card.specs.Session.Serving.{AnswersCommand, SessionRun}
use Rattle.law_code.specs.Reach.{IsOutside}
use Rattle.law_code.specs.PinChanges.{IsChanged}
use Rattle.law_theorems.specs.Outcomes.{ComesTo, ComesWithin, memory_at}
use Rattle.law_soundness.specs.LoadedPackages.{AreBytes}
use Rattle.law_theorems.specs.Tries.{IsUpdate, is_owner_pin}
use Rattle.law_theorems.specs.SessionTheorems.Cuts.{IsHeapCutAt, SetNoTries}
use Rattle.law_theorems.specs.SessionTheorems.Isolation.{RunsApart}
use Rattle.law_theorems.specs.SessionTheorems.References.{RunsFrom}
use Rattle.law_theorems.specs.SessionTheorems.TryChanges.{Renews}

-- a card, a command, and the PINs of the applet that answers it and of one in another context. The command's effects, in their order: some; it counts a
-- try of its PIN, and the rest are left; it writes a field; some, with a transaction; it commits; some, with another transaction; it
-- updates the PIN; some; and it aborts
pub record Acts : Type 0 where
  pub card : CardState
  pub bytes : List ℕ
  pub own : ℕ
  pub other : ℕ
  pub first : List Effect
  pub tries : ℕ
  pub place : Place
  pub value : ℕ
  pub during : List Effect
  pub again : List Effect
  pub changes : List (Place × ℕ)
  pub later : List Effect

-- up to the count of the try, the commit, the update and the abort, each with what it is
abbrev pub to_count : Acts → List Effect
to_count a = a.first ++ (HeapMove (WriteNonAtomic (counter a.own) a.tries) ∷ [])

abbrev pub to_field : Acts → List Effect
to_field a = to_count a ++ (HeapMove (Write a.place a.value) ∷ [])

abbrev pub before_commit : Acts → List Effect
before_commit a = to_field a ++ a.during

abbrev pub to_commit : Acts → List Effect
to_commit a = before_commit a ++ (HeapMove Commit ∷ [])

abbrev pub before_update : Acts → List Effect
before_update a = to_commit a ++ a.again

abbrev pub to_update : Acts → List Effect
to_update a = before_update a ++ (HeapMove (SetPlaces a.changes) ∷ [])

abbrev pub before_abort : Acts → List Effect
before_abort a = to_update a ++ a.later

-- the command meets the premises of the theorems
pub record MeetPremises (t : Tokens) (a : Acts) : Type 0 where
  pub comes : ComesTo t (Up a.card)
  pub are : AreBytes a.bytes
  pub packages : length a.card.packages.loaded ≡ 2
  pub applets : a.card.memory.heap.now.counts ≡ (2, 2)
  -- of `ended` in `sessions_take_back_what_is_not_committed`: it is answered
  pub last : CardState
  pub ended : AnswersCommand (Up a.card) a.bytes (Response (0x90 ∷ 0 ∷ [])) (Up last)
  -- of `aborted` and `returned` there: a transaction is open, in which the PIN was updated, and it is aborted, or closed
  pub begun : (memory_at a.card (before_update a)).heap.begun ≡ true
  pub updated : IsUpdate a.own a.changes (memory_at a.card (before_update a))
  pub inside : (memory_at a.card (before_abort a)).heap.begun ≡ true
  pub aborted : ComesWithin t a.card a.bytes (before_abort a ++ (HeapMove Abort ∷ []))
  pub closed : MemoryState
  pub returned : Completes (close (memory_at a.card (before_abort a))) (memory_at a.card (before_abort a)) tt closed
  -- of `lost` there, of `down_tells_of_refused_writes`, and of `cut` in `a_cut_leaves_the_changes_before_it`: the power is cut in that
  -- abort, a reset is cut, and one completes
  pub off : KeptState
  pub few : off.passed < 18446744073709551615
  pub down : AnswersCommand (Up a.card) a.bytes Down (Off a.card.budget.left off)
  pub reset : CardState
  pub lost : SessionRun (Up a.card) (Command a.bytes ∷ (Reset ∷ Reset ∷ [])) (Down ∷ (Down ∷ Ready ∷ [])) (Up reset)
  -- of `committed` there: it is cut in the update, after the commit
  pub writes_update : ℕ
  pub heap_update : HeapState
  pub cut_update : IsHeapCutAt a.card a.bytes writes_update heap_update
  pub effects_update : cut_update.effects ≡ to_commit a ++ (a.again ++ (HeapMove (SetPlaces a.changes) ∷ []))
  pub committed : writes_of_moves (moves_of (to_commit a)) a.card.memory.heap ≤ writes_update
  -- of `counted` there: it is cut in the field, after the count
  pub writes_field : ℕ
  pub heap_field : HeapState
  pub cut_field : IsHeapCutAt a.card a.bytes writes_field heap_field
  pub effects_field : cut_field.effects ≡ to_count a ++ (HeapMove (Write a.place a.value) ∷ [])
  pub counted : writes_of_moves (moves_of (to_count a)) a.card.memory.heap ≤ writes_field
  pub pin : is_owner_pin a.card.packages (memory_at a.card a.first).heap.durable a.own ≡ true
  pub unchanged : IsChanged (memory_at a.card a.first) a.own → ⊥
  pub no_tries : SetNoTries a.own (HeapMove (Write a.place a.value) ∷ []) (memory_at a.card (to_count a))
  -- of `sessions_change_tries_by_pin_calls_alone`: the field is none of what changes tries
  pub wrote : ComesWithin t a.card a.bytes (to_field a)
  pub still : is_owner_pin a.card.packages (memory_at a.card (to_count a)).heap.now a.own ≡ true
  pub other_change : Renews a.own (HeapMove (Write a.place a.value)) (memory_at a.card (to_count a)) → ⊥
  -- of `commits` in `commands_are_the_environments_and_runs_of_code`
  pub commits : ComesWithin t a.card a.bytes (to_commit a)
  -- of `sessions_keep_contexts_apart`: the PIN of the other applet is out of reach there
  pub foreign : is_owner_pin a.card.packages (memory_at a.card (to_count a)).heap.now a.other ≡ true
  pub outside : IsOutside a.card.packages (memory_at a.card (to_count a)) a.other
  -- and a step of code writes the field then
  pub standing : Frames
  pub gone_on : Frames
  pub apart : RunsApart t a.card a.bytes (to_count a) a.other 1 [] standing gone_on (memory_at a.card (to_field a))
  -- of `references_name_what_is_there`: code began within it, and took this number of steps before it committed
  pub begun_with : List Effect
  pub steps : ℕ
  pub lent : List ℕ
  pub process : Frames
  pub frames : Frames
  pub reached : MemoryState
  pub ran : RunsFrom t a.card a.bytes begun_with steps lent process frames reached

-- a platform table, and such a command over it
pub record HaveEventfulWitness : Type 0 where
  pub t : Tokens
  pub acts : Acts
  pub meets : MeetPremises t acts
