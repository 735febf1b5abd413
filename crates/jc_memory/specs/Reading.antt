-- What is so of everything that may be done: readings of a tree.
use Rattle.std.specs.Prelude.{ℕ, ◌≡◌, ◌⊎◌, List, [], ◌∷◌}
use Rattle.jc_memory.specs.State.{MemoryState, Effect, apply_effect, IsNew}
use Rattle.jc_memory.specs.Programs.{Program, Finish, Perform, Choose, Either}

-- whatever is chosen, the answer and the memory left are so
abbrev pub AllResults : {A : Type 0} → Program A → MemoryState → (A → MemoryState → Type 0) → Type 0
AllResults (Finish a) s P = P a s
AllResults (Perform e rest) s P = AllResults rest (apply_effect e s) P
AllResults (Choose choose) s P = (r : ℕ) → IsNew s.heap.now r → AllResults (choose r) s P
AllResults (Either x y) s P = AllResults x s P × AllResults y s P

-- whatever is chosen, each effect is due in the memory that it finds
abbrev pub AllDue : {A : Type 0} → (Effect → MemoryState → Type 0) → Program A → MemoryState → Type 0
AllDue P (Finish a) s = Unit {0}
AllDue P (Perform e rest) s = P e s × AllDue P rest (apply_effect e s)
AllDue P (Choose choose) s = (r : ℕ) → IsNew s.heap.now r → AllDue P (choose r) s
AllDue P (Either x y) s = AllDue P x s × AllDue P y s

-- each of these effects is due in the memory that it finds
abbrev pub AllEffectsDue : (Effect → MemoryState → Type 0) → List Effect → MemoryState → Type 0
AllEffectsDue P [] s = Unit {0}
AllEffectsDue P (e ∷ es) s = P e s × AllEffectsDue P es (apply_effect e s)

-- all of it was done by these effects, in this order, with this answer
abbrev pub HasTrace : {A : Type 0} → Program A → MemoryState → List Effect → A → Type 0
HasTrace (Finish a) s es answer = (es ≡ []) × (answer ≡ a)
HasTrace (Perform e rest) s es answer = (more : List Effect) × (es ≡ e ∷ more) × HasTrace rest (apply_effect e s) more answer
HasTrace (Choose choose) s es answer = (r : ℕ) × IsNew s.heap.now r × HasTrace (choose r) s es answer
HasTrace (Either x y) s es answer = HasTrace x s es answer ⊎ HasTrace y s es answer

-- it begins with these effects, in this order
abbrev pub HasTracePrefix : {A : Type 0} → Program A → MemoryState → List Effect → Type 0
HasTracePrefix d s [] = Unit {0}
HasTracePrefix (Finish a) s (e ∷ es) = ⊥
HasTracePrefix (Perform first rest) s (e ∷ es) = (e ≡ first) × HasTracePrefix rest (apply_effect first s) es
HasTracePrefix (Choose choose) s (e ∷ es) = (r : ℕ) × IsNew s.heap.now r × HasTracePrefix (choose r) s (e ∷ es)
HasTracePrefix (Either x y) s (e ∷ es) = HasTracePrefix x s (e ∷ es) ⊎ HasTracePrefix y s (e ∷ es)
