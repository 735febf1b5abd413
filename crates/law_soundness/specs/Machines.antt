-- A memory with the frames of the code that runs.
use Rattle.std.specs.Prelude.{◌≡◌, ◌==◌, true, false, List, [], ◌∷◌}
use Rattle.jc_transient.specs.Owners.{owner_number}
use Rattle.jc_memory.specs.State.{MemoryState}
use Rattle.jc_linker.specs.Values.{Packages}
use Rattle.jc_frames.specs.Frames.{Caller, Frames}
use Rattle.law_soundness.specs.MemoryLaws.Environment.{HasEnvironment}
use Rattle.law_soundness.specs.LivingReferences.{AreLivingFrames}
use Rattle.law_soundness.specs.MemoryLaws.State.{IsSoundMemory, IsSteady, is_owner_up_to, most_owner}

-- for whom each caller ran is there, and was not the runtime environment
abbrev pub KnowOwners : List Caller → MemoryState → Type 0
KnowOwners [] m = Unit {0}
KnowOwners (c ∷ callers) m = (is_owner_up_to (most_owner m) m.heap.now (owner_number c.resume.active) ≡ true)
    × (owner_number c.resume.active ≡ 0 → ⊥) × KnowOwners callers m

-- the memory is sound, between two instructions; for whom each caller ran is there; the runtime environment's own objects are of the
-- platform's classes; methods of packages don't run for it; and each reference in frames is null or names an object
pub record IsSoundMachine (p : Packages) (s : Frames) (m : MemoryState) : Type 0 where
  pub sound : IsSoundMemory p m
  pub steady : IsSteady m
  pub callers : KnowOwners s.callers m
  pub environment : HasEnvironment p m
  pub code : s.current.origin.package_number == 0 ≡ false → owner_number m.registers.active ≡ 0 → ⊥
  pub living : AreLivingFrames m.heap.now s
