-- Calls that are carried out at once: what they put on the stack.
use Rattle.std.proofs.Common.{◌≡◌, ◌∙◌, ℕ, ℤ, ◌+◌, ◌<◌, ◌≤◌, Bool, true, false, List, [], ◌∷◌, Option, Some, Ok, drop, length, arith, refl, ap, subst, sym}
use Rattle.std.specs.Prelude.{nat_lt}
use Rattle.jc_memory.specs.State.{MemoryState}
use Rattle.jc_memory.specs.Programs.{Program, Finish, Executes}
use Rattle.jc_platform.specs.declared.names.PlatformMethod.{PlatformMethod}
use Rattle.jc_platform.specs.declared.names.PlatformMethod.TheVariants.{Apdus, Applets, Utilities}
use Rattle.jc_platform.specs.declared.names.ApdusMethod.TheVariants.{ApduGetBuffer}
use Rattle.jc_platform.specs.declared.names.AppletsMethod.TheVariants.{AppletSelectingApplet}
use Rattle.jc_platform.specs.declared.names.UtilitiesMethod.TheVariants.{UtilGetShort}
use Rattle.jc_platform.specs.Names.{apdus_rows, applets_rows}
use Rattle.jc_platform.specs.Signatures.{argument_cells}
use Rattle.jc_linker.specs.declared.target.Target.{Target}
use Rattle.jc_linker.specs.declared.target.Method.TheVariants.{Native}
use Rattle.jc_linker.specs.Lookups.{target_at}
use Rattle.jc_linker.specs.Values.{Packages}
use Rattle.jc_frames.specs.declared.cell.Cell.{Cell}
use Rattle.jc_frames.specs.declared.cell.Cell.TheVariants.{Short, Reference}
use Rattle.jc_frames.specs.declared.instr.InvokeOp.TheVariants.{Virtual}
use Rattle.jc_frames.specs.Calls.{arguments_on}
use Rattle.jc_frames.specs.Frames.{Frames, Next, GoesOn, in_frame, push, with_stack}
use Rattle.jc_world.specs.declared.native_result.NativeResult.TheVariants.{ReturnValue}
use Rattle.jc_world.specs.Answers.{bool_value}
use Rattle.jc_world.specs.Instructions.{after_instruction, continue_with}
use Rattle.jc_world.specs.NativeCalls.{return_value}
use Rattle.jc_api.specs.Forms.{tells}
use Rattle.jc_api_framework.specs.Apdu.{apdu_call, apdu_get_buffer}
use Rattle.jc_api_framework.specs.Apdu.Buffer.{buffer_of}
use Rattle.jc_api_framework.specs.Applet.{applet_call}
use Rattle.jc_api_framework.specs.Util.{util_get_short}
use Rattle.jc_instructions.specs.AtOnce.{IsDoneAtOnce}
use Rattle.jc_instructions.specs.Invoke.{ChoosesOfPlatform, method_selection, virtual_by}
use Rattle.jc_interp.specs.Natives.{native_call}
use Rattle.jc_interp.specs.Calling.{invoke_instruction, native_invoke, static_invoke}
use Rattle.jc_interp.proofs.ShortsAtOnce.{got}

is_less : (n k : ℕ) → n < k → nat_lt n k ≡ true
is_less n k e = grind arith

-- where there is room a cell comes on the stack
pushed : (cell : Cell) (s : Frames) → length s.current.stack < s.current.limit → in_frame s (push cell s.current) ≡ GoesOn (with_stack s (cell ∷ s.current.stack))
pushed cell s room = rw (is_less (length s.current.stack) s.current.limit room) refl

-- the short of an own array
pub got_at_once : (place : ℕ) (args : List Cell) (v : ℤ) (p : Packages) (s : Frames) (m : MemoryState) → arguments_on 2 s.current.stack ≡ Some args
    → util_get_short args p m ≡ Ok (tells v) → length (drop 2 s.current.stack) < s.current.limit
    → static_invoke (Native (Utilities UtilGetShort)) place p s m ≡ continue_with (with_stack s (Short v ∷ drop 2 s.current.stack))
got_at_once place args v p s m here is room =
    got place args v p s m here is ∙ ap (λ next. Finish next) (pushed (Short v) (with_stack s (drop 2 s.current.stack)) room)

-- a virtual call runs the method of the platform that its entry names, which takes the receiver alone, returns a value and does nothing else
pub returned : (index place : ℕ) (entry : Target) (method : PlatformMethod) (args : List Cell) (cell : Cell) (p : Packages) (s : Frames) (m : MemoryState)
    → Some entry ≡ target_at p s.current.origin.package_number index → ChoosesOfPlatform (virtual_by (Some entry) p s.current.stack m) method
    → argument_cells method ≡ 1 → arguments_on 1 s.current.stack ≡ Some args → native_call method args p m ≡ return_value (ReturnValue cell)
    → length (drop 1 s.current.stack) < s.current.limit
    → invoke_instruction (Virtual index) place p s m ≡ continue_with (with_stack s (cell ∷ drop 1 s.current.stack))
unfolding invoke_instruction method_selection native_invoke
returned index place entry method args cell p s m is chosen one here answered room =
    let found = subst (λ (t : Option Target). ChoosesOfPlatform (virtual_by t p s.current.stack m) method) is chosen in
    rw (found.1, one, here, answered) (ap (λ next. Finish next) (pushed cell (with_stack s (drop 1 s.current.stack)) room))

pub one_of_selecting : argument_cells (Applets AppletSelectingApplet) ≡ 1
unfolding argument_cells applets_rows
one_of_selecting = refl

pub one_of_buffer : argument_cells (Apdus ApduGetBuffer) ≡ 1
unfolding argument_cells apdus_rows
one_of_buffer = refl

-- `Applet.selectingApplet`
pub selecting : (args : List Cell) (cell : Cell) (p : Packages) (m : MemoryState) → bool_value m.registers.selecting ≡ ReturnValue cell
    → native_call (Applets AppletSelectingApplet) args p m ≡ return_value (ReturnValue cell)
unfolding native_call applet_call
selecting args cell p m is = ap (λ a. return_value a) is

-- `APDU.getBuffer`
pub buffer : (args : List Cell) (r : ℕ) (p : Packages) (m : MemoryState) → buffer_of m ≡ Some r
    → native_call (Apdus ApduGetBuffer) args p m ≡ return_value (ReturnValue (Reference r))
unfolding native_call apdu_call
buffer args r p m found = rw found refl

-- once the receiver is taken there is room
pub room_left : (stack args : List Cell) (room limit : ℕ) → arguments_on 1 stack ≡ Some args → room + length stack ≡ limit → length (drop 1 stack) < limit
room_left [] args room limit here fits = cc
room_left (a ∷ rest) args room limit here fits = omega (arith, fits)

-- what was done at once was carried out
pub carried_out : (program : Program (Next Frames)) (s t : Frames) (m : MemoryState) → IsDoneAtOnce true program s t
    → Executes program m (after_instruction (Ok tt) t m)
carried_out program s t m done = subst (λ (q : Program (Next Frames)). Executes q m (after_instruction (Ok tt) t m)) (sym done.0) (refl, refl)

-- what was not done at once left the frames as they were
pub left_alone : (done : Bool) (program : Program (Next Frames)) (s t : Frames) → done ≡ false → IsDoneAtOnce done program s t → t ≡ s
left_alone done program s t not stays = subst (λ (b : Bool). IsDoneAtOnce b program s t) not stays

-- there are two arguments
pub two_there : (stack : List Cell) (args : List Cell) → arguments_on 2 stack ≡ Some args → 2 ≤ length stack
two_there [] args e = cc
two_there (a ∷ []) args e = cc
two_there (a ∷ b ∷ rest) args e = omega arith
