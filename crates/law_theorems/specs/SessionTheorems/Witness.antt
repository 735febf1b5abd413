-- The premises of the theorems can be met: a new image, its first reset, a cut one, a command, and code that begins to run within it.
use Rattle.std.specs.Prelude.{ℕ, ◌≡◌, ◌≤◌, ◌<◌, true, false, List, [], ◌∷◌, length, Ok}
use Rattle.jc_words.specs.Layout.{least_size}
use Rattle.jc_words.specs.Refusals.{IsWithinFuse, no_refusals}
use Rattle.jc_words.specs.Image.{heap_end}
use Rattle.jc_commit.specs.Image.{recovered_of}
use Rattle.jc_heap.specs.Heap.{heap_of}
use Rattle.jc_frames.specs.declared.outcome.Outcome.TheVariants.{Fault}
use Rattle.jc_frames.specs.Frames.{Ends}
use Rattle.jc_transient.specs.State.{AreSizes}
use Rattle.jc_memory.specs.Reading.{HasTrace}
use Rattle.jc_memory.specs.State.{BeginCommand}
use Rattle.jc_image.specs.declared.laying.ImageRoom.{ImageRoom}
use Rattle.jc_platform.specs.Table.{Reads}
use Rattle.jc_platform.specs.Tokens.{Tokens}
use Rattle.jc_interp.specs.Run.{bare_frames}
use Rattle.jc_interp.specs.Step.{machine_step}
use Rattle.jc_card.specs.Card.{CardState}
use Rattle.jc_card.specs.ProductImages.{IsMade, new_card_heap}
use Rattle.jc_card.specs.Session.Requests.{Reset, Response, Ready, Down}
use Rattle.jc_card.specs.State.Power.{PowerState, Up, Off, KeptState, StoreState, armed, durable_state, with_refusal}
use Rattle.jc_card.specs.Session.Serving.{AnswersCommand, Serves, SessionRun}
use Rattle.jc_card.specs.Session.{SessionEnds}
use Rattle.law_theorems.specs.Outcomes.{ComesTo, ComesWithin}
use Rattle.law_soundness.specs.LoadedPackages.{AreBytes}
use Rattle.law_theorems.specs.DownRuns.{ArmNone}
use Rattle.law_theorems.specs.SessionTheorems.Fuse.{refusals_of}
use Rattle.law_theorems.specs.SessionTheorems.References.{RunsFrom}

-- what is kept of a new image
abbrev pub new_kept : ℕ → ImageRoom → List ℕ → Tokens → KeptState
new_kept n room text t = record { durable = new_card_heap n room text t; laid = true; down = false; passed = 0; refusals = no_refusals; size = heap_end n room.capacity }

-- it with its fuse armed, so that no write passes
abbrev pub new_armed : ℕ → ℕ → ImageRoom → List ℕ → Tokens → PowerState
new_armed budget n room text t = armed 0 (Off budget (new_kept n room text t))

-- a reset of it that the fuse cuts
abbrev pub new_blown : ℕ → ℕ → ImageRoom → List ℕ → Tokens → PowerState
new_blown budget n room text t = Off budget (with_refusal 0 (durable_state (new_armed budget n room text t)))

-- a command that begins a load
abbrev pub begin_load_bytes : List ℕ
begin_load_bytes = 0x80 ∷ 0xB0 ∷ 0 ∷ 0 ∷ []

-- SELECT by a name of one byte
abbrev pub select_bytes : List ℕ
select_bytes = 0 ∷ 0xA4 ∷ 4 ∷ 0 ∷ 1 ∷ 1 ∷ []

-- With any budget and any table that reads sessions come to a new image without power, and to the card after its first reset
pub record HaveWitness (budget n : ℕ) (room : ImageRoom) (text : List ℕ) (t : Tokens) : Type 0 where
  pub off : ComesTo t (Off budget (new_kept n room text t))
  pub card : CardState
  pub up : ComesTo t (Up card)
  -- of `down_tells_of_refused_writes`: a reset is cut
  pub down : Serves (Up card) Reset Down (Off budget (with_refusal 0 (durable_state (Up card))))
  pub few : (refusals_of (Up card)).count < 18446744073709551615
  -- of `lost` in `sessions_take_back_what_is_not_committed`: another one completes
  pub other : CardState
  pub lost : SessionRun (Up card) (Reset ∷ Reset ∷ []) (Down ∷ Ready ∷ []) (Up other)
  -- of `ended` there: a command is answered
  pub next : CardState
  pub bytes : AreBytes begin_load_bytes
  pub ended : AnswersCommand (Up card) begin_load_bytes (Response (0x90 ∷ 0 ∷ [])) (Up next)
  -- of `commands_are_the_environments_and_runs_of_code`: another one begins with an effect
  pub effect : ComesWithin t card select_bytes (BeginCommand select_bytes ∷ [])
  -- of `references_name_what_is_there`: within the first code begins that was lent, and a step ends its run
  pub begins : RunsFrom t card begin_load_bytes [] 0 [] (bare_frames 0 0) (bare_frames 0 0) card.memory
  pub step : HasTrace (machine_step [] card.packages (bare_frames 0 0) card.memory) card.memory [] (Ends Fault)
  -- of `fuses_cut_where_they_were_set`: a reset is cut after `stop 0`
  pub cut : SessionRun (new_armed budget n room text t) (Reset ∷ []) (Down ∷ []) (new_blown budget n room text t)
  pub none : ArmNone (Reset ∷ [])
  pub spared : (refusals_of (new_blown budget n room text t)).faults ≡ 0
  pub within : IsWithinFuse (durable_state (new_blown budget n room text t)).passed (refusals_of (new_blown budget n room text t)).fuse

abbrev pub HaveWitnesses : Type 0
HaveWitnesses = (budget n : ℕ) (room : ImageRoom) (text : List ℕ) (t : Tokens) → least_size ≤ n → AreSizes room.cells room.buffer → Reads text (Ok t)
    → HaveWitness budget n room text t

-- of `sessions_without_refused_writes_are_of_whole_copies` and `images_power_up_again`: over each store of a new image a session ends well, and
-- refuses no write
abbrev pub NewStoresServe : Type 0
NewStoresServe = (budget : ℕ) (t : Tokens) (room : ImageRoom) (text : List ℕ) (store : StoreState) → IsMade store.words → Reads text (Ok t)
    → heap_of (recovered_of store.words) ≡ new_card_heap (length store.words) room text t
    → SessionEnds budget (Ok (Ready ∷ [])) store (Reset ∷ []) (record store { down = false })
