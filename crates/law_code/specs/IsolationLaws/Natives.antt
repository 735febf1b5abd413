-- Methods of the platform spare what is outside reach and is not what they are called on.
use Rattle.std.specs.Prelude.{ℕ, ◌≡◌, true, List, Some}
use Rattle.jc_frames.specs.declared.cell.Cell.{Cell}
use Rattle.jc_heap.specs.Heap.{facts}
use Rattle.jc_memory.specs.State.{MemoryState}
use Rattle.jc_memory.specs.Reading.{AllDue}
use Rattle.jc_platform.specs.declared.names.PlatformMethod.{PlatformMethod}
use Rattle.jc_platform.specs.Signatures.{sets_receiver}
use Rattle.jc_linker.specs.Values.{Packages}
use Rattle.jc_firewall.specs.FirewallLaws.{IsInReach}
use Rattle.jc_world.specs.Contexts.{situation_of}
use Rattle.jc_world.specs.Objects.{reference_argument}
use Rattle.jc_interp.specs.Natives.{native_call}
use Rattle.law_code.specs.Reach.{IsOutside}
use Rattle.law_code.specs.IsolationLaws.SparingEffects.{LeavesObject}

-- the object that a method is called on is within the reach of the code that runs
abbrev pub ReachesCalled : List Cell → Packages → MemoryState → Type 0
ReachesCalled args p m = (own : ℕ) → reference_argument args 0 ≡ Some own → IsInReach (situation_of p m (facts m.heap.now own))

-- where a method that sets cells of its receiver is called on an object within reach, each effect of a method of the platform
-- spares each object outside it: of arrays the firewall is asked
abbrev pub NativesSpare : Type 0
NativesSpare = (method : PlatformMethod) (args : List Cell) (p : Packages) (m : MemoryState) (q : ℕ) → IsOutside p m q →
    (sets_receiver method ≡ true → ReachesCalled args p m) → AllDue (LeavesObject q) (native_call method args p m) m
