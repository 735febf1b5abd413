-- What instructions do that go on in the same method, with the same callers: each effect is due, and something is so of each reference in the frame.
use Rattle.std.proofs.Common.{◌≡◌, ℕ, Bool, true, false, List, Option, Some, None, Result, Ok, Err, refl, if◌then◌else◌}
use Rattle.jc_heap.specs.declared.refusal.HeapRefusal.{HeapRefusal}
use Rattle.jc_frames.specs.declared.method.Origin.{Origin}
use Rattle.jc_frames.specs.declared.outcome.FrameExit.{FrameExit}
use Rattle.jc_frames.specs.declared.outcome.FrameExit.TheVariants as stop
use Rattle.jc_frames.specs.Frames.{Caller, Frames, Next, GoesOn, Throws, Ends}
use Rattle.jc_memory.specs.State.{MemoryState, Effect}
use Rattle.jc_memory.specs.Programs.{Program}
use Rattle.jc_world.specs.Instructions.{exit_of, if_ok, if_some, unless}
use Rattle.law_code.specs.FrameReferences.{FrameRefersSo}
use Rattle.jc_api.proofs.Due.{DueThen}
use Rattle.jc_api.proofs.Exits.{FaultsOnly, IsPlainExit}
use Rattle.law_code.proofs.StackCells.{without_cells}

-- what follows is in a method of these callers, with this origin, and so is each reference in its frame; or the run ends with a code fault
abbrev pub IsPlainNext : (ℕ → Type 0) → List Caller → Origin → Next Frames → Type 0
IsPlainNext L callers origin (GoesOn s) = (s.callers ≡ callers) × (s.current.origin ≡ origin) × FrameRefersSo L s.current
IsPlainNext L callers origin (Throws e s) = (s.callers ≡ callers) × (s.current.origin ≡ origin) × FrameRefersSo L s.current
IsPlainNext L callers origin (Ends o) = IsPlainExit (stop.End o)

-- each effect is due, and it goes on plainly in the method that runs
abbrev pub StaysIn : (Effect → MemoryState → Type 0) → (MemoryState → ℕ → Type 0) → Frames → Program (Next Frames) → MemoryState → Type 0
StaysIn P L s d m = DueThen P (λ next v. IsPlainNext (L v) s.callers s.current.origin next) d m

module _ (P : Effect → MemoryState → Type 0) (L : MemoryState → ℕ → Type 0) (m : MemoryState) (s : Frames) where
  pub going_if : (b : Bool) (x y : Program (Next Frames)) → (b ≡ true → StaysIn P L s x m) → (b ≡ false → StaysIn P L s y m)
      → StaysIn P L s (if b then x else y) m
  going_if true x y on off = on refl
  going_if false x y on off = off refl

  pub going_some : {A : Type 0} (o : Option A) (go : A → Program (Next Frames)) → ((a : A) → o ≡ Some a → StaysIn P L s (go a) m)
      → StaysIn P L s (if_some o go) m
  going_some None go k = tt
  going_some (Some a) go k = k a refl

  module _ (so : FrameRefersSo (L m) s.current) where
    pub going_stopped : (e : FrameExit) → IsPlainExit e → StaysIn P L s (exit_of s e) m
    going_stopped (stop.Throw e) plain = (refl, refl, without_cells (L m) s.current so)
    going_stopped (stop.End o) plain = plain

    pub going_ok : {A : Type 0} (x : Result A FrameExit) (go : A → Program (Next Frames)) → FaultsOnly x → ((a : A) → x ≡ Ok a → StaysIn P L s (go a) m)
        → StaysIn P L s (if_ok s x go) m
    going_ok (Ok a) go plain k = k a refl
    going_ok (Err e) go plain k = going_stopped e plain

    pub going_unless : (o : Option HeapRefusal) (d : Program (Next Frames)) → StaysIn P L s d m → StaysIn P L s (unless s o d) m
    going_unless None d k = k
    going_unless (Some reason) d k = (refl, refl, without_cells (L m) s.current so)
