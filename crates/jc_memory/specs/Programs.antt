-- What may be done, as data, and how it ends: the form of instructions, calls, runs and commands.
use Rattle.std.specs.Prelude.{ℕ, ◌≡◌, ◌⊎◌, Option, Some, None}
use Rattle.jc_heap.specs.declared.refusal.HeapRefusal.{HeapRefusal}
use Rattle.jc_heap.specs.Heap.{HeapState}
use Rattle.jc_heap.specs.Moves.{IsTorn, IsCutIn}
use Rattle.jc_heap.specs.Completions.{Completion, Completed, Torn, Attempt, Refused}
use Rattle.jc_memory.specs.State.{MemoryState, Effect, HeapMove, apply_effect, IsNew}

-- what may be done: nothing more, with this answer; an effect and then the rest; a new reference chosen and
-- then what it asks for; the one or the other
pub data Program (A : Type 0) : Type 0 where
  Finish : A → Program A
  Perform : Effect → Program A → Program A
  Choose : (ℕ → Program A) → Program A
  Either : Program A → Program A → Program A

-- all of it was done: the answer, and the memory that it left
abbrev pub Completes : {A : Type 0} → Program A → MemoryState → A → MemoryState → Type 0
Completes (Finish a) s answer new = (answer ≡ a) × (new ≡ s)
Completes (Perform e rest) s answer new = Completes rest (apply_effect e s) answer new
Completes (Choose choose) s answer new = (r : ℕ) × IsNew s.heap.now r × Completes (choose r) s answer new
Completes (Either x y) s answer new = Completes x s answer new ⊎ Completes y s answer new

-- a loss of power within it may leave this durable heap: the one before one of its moves
abbrev pub TearLeaves : {A : Type 0} → Program A → MemoryState → ℕ → HeapState → Type 0
TearLeaves (Finish a) s p h = ⊥
TearLeaves (Perform (HeapMove m) rest) s p h = ((h ≡ s.heap.durable) × IsCutIn m s.heap p) ⊎ TearLeaves rest (apply_effect (HeapMove m) s) p h
TearLeaves (Perform e rest) s p h = TearLeaves rest (apply_effect e s) p h
TearLeaves (Choose choose) s p h = (r : ℕ) × IsNew s.heap.now r × TearLeaves (choose r) s p h
TearLeaves (Either x y) s p h = TearLeaves x s p h ⊎ TearLeaves y s p h

-- the store refused a write within it
abbrev pub IsTornIn : {A : Type 0} → Program A → MemoryState → MemoryState → Type 0
IsTornIn d s new = IsTorn (TearLeaves d s) s.heap new.heap

-- a call that may do this ends so: the clause of every layer
abbrev pub Executes : {A : Type 0} → Program A → MemoryState → Completion MemoryState A → Type 0
Executes d s (Completed answer new) = Completes d s answer new
Executes d s (Torn new) = IsTornIn d s new

-- first this, and then what its answer and the memory then ask for
abbrev pub bind : {A B : Type 0} → Program A → MemoryState → (A → MemoryState → Program B) → Program B
bind (Finish a) s more = more a s
bind (Perform e rest) s more = Perform e (bind rest (apply_effect e s) more)
bind (Choose choose) s more = Choose (λ r. bind (choose r) s more)
bind (Either x y) s more = Either (bind x s more) (bind y s more)

-- the same with another answer
abbrev pub map_result : {A B : Type 0} → (A → B) → Program A → Program B
map_result f (Finish a) = Finish (f a)
map_result f (Perform e rest) = Perform e (map_result f rest)
map_result f (Choose choose) = Choose (λ r. map_result f (choose r))
map_result f (Either x y) = Either (map_result f x) (map_result f y)

-- this, unless there is a reason against it: then what follows of the reason
abbrev pub unless_else : {R B : Type 0} → (R → B) → Option R → B → B
unless_else other None d = d
unless_else other (Some reason) d = other reason

-- this, unless there is a reason against it, which is then the answer
abbrev pub unless_refused : {A : Type 0} → Option HeapRefusal → Program (Attempt A) → Program (Attempt A)
unless_refused refusal d = unless_else (λ reason. Finish (Refused reason)) refusal d
