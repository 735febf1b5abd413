-- The first effects of what is done.
use Rattle.std.proofs.Common.{◌≡◌, List, [], ◌∷◌, ◌++◌, refl, inl, inr}
use Rattle.jc_memory.specs.State.{MemoryState, Effect, apply_effect, apply_effects}
use Rattle.jc_memory.specs.Programs.{Program, Finish, Perform, Choose, Either}
use Rattle.jc_memory.specs.Reading.{AllEffectsDue, HasTracePrefix}

pub front : {A : Type 0} (d : Program A) (m : MemoryState) (es fs : List Effect) → HasTracePrefix d m (es ++ fs) → HasTracePrefix d m es
front d m [] fs b = tt
front (Finish a) m (e ∷ es) fs b = absurd b
front (Perform first rest) m (e ∷ es) fs b = (b.0, front rest (apply_effect first m) es fs b.1)
front (Choose choose) m (e ∷ es) fs b = (b.0, b.1, front (choose b.0) m (e ∷ es) fs b.2)
front (Either x y) m (e ∷ es) fs (inl b) = inl (front x m (e ∷ es) fs b)
front (Either x y) m (e ∷ es) fs (inr b) = inr (front y m (e ∷ es) fs b)

-- ---- each is due

pub due_after : (P : Effect → MemoryState → Type 0) (es fs : List Effect) (s : MemoryState) → AllEffectsDue P (es ++ fs) s
    → AllEffectsDue P fs (apply_effects es s)
due_after P [] fs s due = due
due_after P (e ∷ es) fs s due = due_after P es fs (apply_effect e s) due.1

pub due_all : (P : Effect → MemoryState → Type 0) (Q : MemoryState → Type 0) → ((e : Effect) (s : MemoryState) → P e s → Q s → Q (apply_effect e s))
    → (es : List Effect) (s : MemoryState) → AllEffectsDue P es s → Q s → Q (apply_effects es s)
due_all P Q keeps [] s due q = q
due_all P Q keeps (e ∷ es) s due q = due_all P Q keeps es (apply_effect e s) due.1 (keeps e s due.0 q)

pub behind_both : (es fs : List Effect) (m : MemoryState) → apply_effects (es ++ fs) m ≡ apply_effects fs (apply_effects es m)
behind_both [] fs m = refl
behind_both (e ∷ es) fs m = behind_both es fs (apply_effect e m)
