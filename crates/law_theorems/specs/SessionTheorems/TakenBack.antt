-- What is not committed is taken back.
use Rattle.std.specs.Prelude.{ℕ, ◌≡◌, true, false, List, [], ◌∷◌, ◌++◌}
use Rattle.jc_heap.specs.Moves.{Abort}
use Rattle.jc_memory.specs.State.{MemoryState, Effect, HeapMove}
use Rattle.jc_memory.specs.Programs.{Completes}
use Rattle.jc_platform.specs.Tokens.{Tokens}
use Rattle.jc_card.specs.Card.{CardState}
use Rattle.jc_dispatch.specs.Phase.{close}
use Rattle.jc_card.specs.Session.Requests.{Request, Reset, Reply, Response, Ready, Down}
use Rattle.jc_card.specs.State.Power.{Up}
use Rattle.jc_card.specs.Session.Serving.{AnswersCommand, SessionRun}
use Rattle.law_theorems.specs.Cards.{IsOfBytes}
use Rattle.law_theorems.specs.Outcomes.{AreDown, ComesTo, ComesWithin, memory_at}
use Rattle.law_theorems.specs.Losses.{IsLeftBy, IsWhatWasFound}
use Rattle.law_soundness.specs.LoadedPackages.{AreBytes}
use Rattle.law_theorems.specs.Rest.{IsResting}

pub record IsTakenBack : Type 0 where
  -- the power is cut within a request, and within each of any number of resets; meanwhile commands are answered down, and the fuse may be
  -- armed. Then a reset completes
  pub lost : (t : Tokens) (card next : CardState) (request : Request) (requests : List Request) (replies : List Reply) → ComesTo t (Up card) → IsOfBytes request
      → AreDown replies → SessionRun (Up card) (request ∷ (requests ++ (Reset ∷ []))) (Down ∷ (replies ++ (Ready ∷ []))) (Up next)
      → IsLeftBy card request next.memory.heap.now × IsResting next.memory.heap
  -- a transaction is aborted, by code or as the runtime environment takes over
  pub aborted : (t : Tokens) (card : CardState) (bytes : List ℕ) (es : List Effect) → ComesWithin t card bytes (es ++ (HeapMove Abort ∷ []))
      → IsWhatWasFound card es (memory_at card (es ++ (HeapMove Abort ∷ []))).heap.now
  -- the runtime environment takes over from a method that left one open
  pub returned : (t : Tokens) (card : CardState) (bytes : List ℕ) (es : List Effect) (new : MemoryState) → ComesWithin t card bytes es
      → (memory_at card es).heap.begun ≡ true → Completes (close (memory_at card es)) (memory_at card es) tt new
      → IsWhatWasFound card es new.heap.now × (new.heap.begun ≡ false)
  -- after a command none is open
  pub ended : (t : Tokens) (card next : CardState) (bytes response : List ℕ) → ComesTo t (Up card) → AreBytes bytes
      → AnswersCommand (Up card) bytes (Response response) (Up next) → IsResting next.memory.heap
