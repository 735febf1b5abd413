-- Where code goes on, the method was carried out and then what it answered.
use Rattle.std.proofs.Common.{◌≡◌, ◌∙◌, ℕ, drop, Some, Ok, ap, refl, subst, sym}
use Rattle.jc_heap.specs.Completions.{Completed}
use Rattle.jc_memory.specs.Programs.{Executes}
use Rattle.jc_frames.specs.Calls.{arguments_on}
use Rattle.jc_frames.specs.Frames.{GoesOn, in_frame, push, unless_fault, with_stack}
use Rattle.jc_world.specs.declared.native_result.NativeResult.TheVariants.{ReturnVoid, ReturnValue}
use Rattle.jc_world.specs.NativeCalls.{after_call}
use Rattle.jc_interp.specs.Natives.{native_call}
use Rattle.jc_interp.proofs.PlatformCalls.{invoked}
use Rattle.jc_interp.proofs.calling.invoke_named.Goals as goal

pub returns-in-ReturnVoid : goal.returns-in-ReturnVoid
returns-in-ReturnVoid g c =
    let p = c.args.linked.now in
    let s = c.args.frames.now in
    let m = c.args.memory.now in
    let mid = c.call_native.new.memory in
    let here = subst (λ n. arguments_on n s.current.stack ≡ Some c.in-Some.arguments.now) c.in-Some.ensures.cells c.in-Some.ensures.arguments in
    let made = subst (λ r. Executes (native_call c.args.method c.in-Some.arguments.now p m) m (after_call r mid))
    (c.in_ok-answered.was ∙ ap (λ a. Ok a) c.in-ReturnVoid.is) c.call_native.ensures in
    let left = c.discard.ensures ∙ ap (λ (n : ℕ). with_stack s (drop n s.current.stack)) c.in-Some.ensures.cells in
    invoked c.args.index c.args.place c.args.entry.now c.args.method c.in-Some.arguments.now ReturnVoid p s m mid (Completed (GoesOn c.discard.new.self) mid)
    c.requires.entry c.in-Some.ensures.chosen here made (ap (λ f. GoesOn f) left, refl)

pub returns-in-ReturnValue : goal.returns-in-ReturnValue
returns-in-ReturnValue g c =
    let p = c.args.linked.now in
    let s = c.args.frames.now in
    let m = c.args.memory.now in
    let mid = c.call_native.new.memory in
    let cell = c.in-ReturnValue.cell in
    let here = subst (λ n. arguments_on n s.current.stack ≡ Some c.in-Some.arguments.now) c.in-Some.ensures.cells c.in-Some.ensures.arguments in
    let made = subst (λ r. Executes (native_call c.args.method c.in-Some.arguments.now p m) m (after_call r mid))
    (c.in_ok-answered.was ∙ ap (λ a. Ok a) c.in-ReturnValue.is) c.call_native.ensures in
    let left = c.discard.ensures ∙ ap (λ (n : ℕ). with_stack s (drop n s.current.stack)) c.in-Some.ensures.cells in
    let pushed = sym (ap (λ r. unless_fault r c.try_push.new.self) c.in_ok-try_push-in-ReturnValue.was) ∙ c.try_push.ensures
    ∙ ap (λ f. in_frame f (push cell f.current)) left in
    invoked c.args.index c.args.place c.args.entry.now c.args.method c.in-Some.arguments.now (ReturnValue cell) p s m mid
    (Completed (GoesOn c.try_push.new.self) mid) c.requires.entry c.in-Some.ensures.chosen here made (pushed, refl)
