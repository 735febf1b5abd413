-- Steps that stay in their context.
use Rattle.std.specs.Prelude.{ℕ, ◌≡◌, ◌≤◌, List, length, Option, Some, None, Ok}
use Rattle.jc_frames.specs.declared.instr.Instr.TheVariants as instr
use Rattle.jc_frames.specs.declared.instr.InvokeOp.{InvokeOp}
use Rattle.jc_frames.specs.Table.{decode}
use Rattle.jc_frames.specs.Frames.{Frames}
use Rattle.jc_memory.specs.State.{MemoryState}
use Rattle.jc_memory.specs.Reading.{AllDue}
use Rattle.jc_cap.specs.declared.pool.Entry.{Entry}
use Rattle.jc_platform.specs.declared.names.MethodKind.TheVariants.{Static}
use Rattle.jc_platform.specs.declared.names.PlatformMethod.{PlatformMethod}
use Rattle.jc_platform.specs.NamePlaces.{kind_of_method}
use Rattle.jc_linker.specs.declared.target.Method.TheVariants.{Native}
use Rattle.jc_linker.specs.declared.target.Target.TheVariants.{StaticMethod}
use Rattle.jc_linker.specs.Lookups.{target_at}
use Rattle.jc_linker.specs.Resolve.{resolution}
use Rattle.jc_linker.specs.Values.{Packages}
use Rattle.jc_instructions.specs.declared.invoke.MethodCall.{MethodCall}
use Rattle.jc_instructions.specs.Invoke.{method_selection}
use Rattle.jc_interp.specs.Step.{at_place, code_of, machine_step}
use Rattle.law_code.specs.Reach.{IsOutside}
use Rattle.law_code.specs.IsolationLaws.SparingEffects.{LeavesObject}

-- what an entry resolves to as a static method of the platform is one, constructors among them
abbrev pub ResolveStatics : Type 0
ResolveStatics = (p : Packages) (number : ℕ) (e : Entry) (class : Option ℕ) (method : PlatformMethod)
    → resolution p number e ≡ Some (StaticMethod class (Native method)) → kind_of_method method ≡ Static

-- entries that packages name as static methods of the platform are such
abbrev pub NamesStatics : Packages → Type 0
NamesStatics p = (number index : ℕ) (class : Option ℕ) (method : PlatformMethod) → target_at p number index ≡ Some (StaticMethod class (Native method))
    → kind_of_method method ≡ Static

-- the instruction at the frame's place calls so, and the firewall lets it
abbrev pub IsCalled : List ℕ → Packages → Frames → MemoryState → MethodCall → Type 0
IsCalled lent p s m c = (invoke : InvokeOp) × (next : ℕ) × (decode (code_of lent p s.current.origin.package_number) s.current.place
    ≡ Some (instr.Invoke invoke, next)) × (method_selection invoke p (at_place s next) m ≡ Ok c)

-- a step stays in its context: no method is called in another one
abbrev pub Stays : List ℕ → Packages → Frames → MemoryState → Type 0
Stays lent p s m = (c : MethodCall) → IsCalled lent p s m c → c.switches_to ≡ None

-- each effect of such a step spares each object outside reach
abbrev pub StepsSpare : Type 0
StepsSpare = (lent : List ℕ) (p : Packages) (s : Frames) (m : MemoryState) (q : ℕ) → NamesStatics p → IsOutside p m q
    → Stays lent p s m → AllDue (LeavesObject q) (machine_step lent p s m) m
