-- What a command is made of.
use Rattle.std.specs.Prelude.{◌≡◌, ◌⊎◌, ℕ, true, List, [], ◌∷◌, ◌++◌}
use Rattle.jc_heap.specs.Moves.{Move, Commit, Abort}
use Rattle.jc_memory.specs.State.{Effect, HeapMove, apply_effects}
use Rattle.jc_platform.specs.Tokens.{Tokens}
use Rattle.jc_card.specs.Card.{CardState}
use Rattle.law_soundness.specs.MachineLaws.CommandParts.{IsByEnvironment, IsOfRun}
use Rattle.law_theorems.specs.Outcomes.{ComesWithin, memory_at}
use Rattle.law_theorems.specs.SessionTheorems.References.{RunsFrom}

pub record CommandsRunCode : Type 0 where
  -- each effect of a command of a session is one of the runtime environment's, or one of a step of code that began in it
  pub each : (t : Tokens) (card : CardState) (bytes : List ℕ) (es : List Effect) (e : Effect) → ComesWithin t card bytes (es ++ (e ∷ []))
      → IsByEnvironment e (memory_at card es) ⊎ IsOfRun card.packages card.memory es e
  -- so no commit stands in it that code did not ask for
  pub commits : (t : Tokens) (card : CardState) (bytes : List ℕ) (es : List Effect) → ComesWithin t card bytes (es ++ (HeapMove Commit ∷ []))
      → IsOfRun card.packages card.memory es (HeapMove Commit)
  -- and of what code left open the runtime environment does nothing but take it back
  pub left : (t : Tokens) (card : CardState) (bytes : List ℕ) (es : List Effect) (move : Move) → ComesWithin t card bytes (es ++ (HeapMove move ∷ []))
      → (memory_at card es).heap.begun ≡ true → (move ≡ Abort) ⊎ IsOfRun card.packages card.memory es (HeapMove move)
  -- and each such run is one to which `references_name_what_is_there` applies
  pub runs : (t : Tokens) (card : CardState) (bytes : List ℕ) (es : List Effect) (e : Effect) → ComesWithin t card bytes (es ++ (e ∷ []))
      → (r : IsOfRun card.packages card.memory es e)
      → RunsFrom t card bytes r.before r.taken r.lent r.first r.last (apply_effects r.ran (memory_at card r.before))
