-- What is read of a heap's packages stays as it is.
use Rattle.std.specs.Prelude.{◌≡◌, Some}
use Rattle.jc_memory.specs.State.{MemoryState, Effect, apply_effect}
use Rattle.jc_linker.specs.Values.{Packages}
use Rattle.jc_platform.specs.Tokens.{Tokens}
use Rattle.jc_packages.specs.Reading.{packages_of}
use Rattle.law_soundness.specs.MemoryLaws.State.{IsSoundMemory}
use Rattle.law_soundness.specs.MemoryLaws.Fit.{IsFit}

-- these packages are read of a memory's heap, and of the one that a loss of power leaves
pub record IsReadAs (t : Tokens) (p : Packages) (m : MemoryState) : Type 0 where
  pub now : packages_of t m.heap.now ≡ Some p
  pub durable : packages_of t m.heap.durable ≡ Some p

-- an effect that fits a sound memory's packages leaves those that are read
abbrev pub KeepsReading : Type 0
KeepsReading = (t : Tokens) (p : Packages) (e : Effect) (m : MemoryState) → IsFit p e m → IsSoundMemory p m → IsReadAs t p m → IsReadAs t p (apply_effect e m)
