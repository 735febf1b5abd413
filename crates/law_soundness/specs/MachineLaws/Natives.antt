-- Methods of the platform leave a memory sound: what they set fits the packages that are linked.
use Rattle.std.specs.Prelude.{ℕ, ◌≡◌, true, List, Some}
use Rattle.jc_heap.specs.Heap.{facts}
use Rattle.jc_frames.specs.declared.cell.Cell.{Cell}
use Rattle.jc_memory.specs.State.{MemoryState}
use Rattle.jc_memory.specs.Reading.{AllDue}
use Rattle.jc_platform.specs.declared.names.PlatformMethod.{PlatformMethod}
use Rattle.jc_platform.specs.declared.names.PlatformMethod.TheVariants.{Aids}
use Rattle.jc_platform.specs.declared.names.AidsMethod.TheVariants.{AidInit}
use Rattle.jc_platform.specs.NamePlaces.{class_of}
use Rattle.jc_platform.specs.Signatures.{minds_receiver}
use Rattle.jc_linker.specs.Values.{Packages}
use Rattle.jc_packages.specs.Objects.{is_instance}
use Rattle.jc_linker.specs.Classes.{is_a}
use Rattle.jc_world.specs.Objects.{reference_argument}
use Rattle.jc_interp.specs.Natives.{native_call}
use Rattle.law_code.specs.Classes.{HasAids, KnowsClasses}
use Rattle.law_soundness.specs.MemoryLaws.Environment.{HasEnvironment}
use Rattle.law_soundness.specs.MemoryLaws.Fit.{IsFit}
use Rattle.law_soundness.specs.LivingReferences.{AreLivingCells}
use Rattle.law_soundness.specs.MemoryLaws.State.{IsSoundMemory, IsSteady}

-- a method that sets cells of its receiver, or registers it as an applet, is called on an instance of its class, or of one below it; and the constructor of AID on no object of the runtime environment
pub record IsReceiver (p : Packages) (m : MemoryState) (method : PlatformMethod) (args : List Cell) : Type 0 where
  pub instance : minds_receiver method ≡ true → (r : ℕ) → reference_argument args 0 ≡ Some r → is_instance (facts m.heap.now r).kind ≡ true
  pub class : minds_receiver method ≡ true → (r : ℕ) → reference_argument args 0 ≡ Some r → is_a p (facts m.heap.now r).class (class_of method) ≡ true
  pub owned : method ≡ Aids AidInit → (r : ℕ) → reference_argument args 0 ≡ Some r → (facts m.heap.now r).owner ≡ 0 → ⊥

-- it is called so over packages that were linked, in a sound memory between two instructions, with references that are null or name an object
pub record IsSoundCall (method : PlatformMethod) (args : List Cell) (p : Packages) (m : MemoryState) : Type 0 where
  pub classes : KnowsClasses p
  pub aids : HasAids p
  pub sound : IsSoundMemory p m
  pub steady : IsSteady m
  pub environment : HasEnvironment p m
  pub receiver : IsReceiver p m method args
  pub living : AreLivingCells m.heap.now args

-- each effect of such a call fits
abbrev pub NativesFit : Type 0
NativesFit = (method : PlatformMethod) (args : List Cell) (p : Packages) (m : MemoryState) → IsSoundCall method args p m
    → AllDue (IsFit p) (native_call method args p m) m
