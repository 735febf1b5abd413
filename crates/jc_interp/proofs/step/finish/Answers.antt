-- The end of a method throws nothing, and a package has each call that does not end by a code fault anyway.
use Rattle.std.proofs.Common.{rules, refl, sym, subst}
use Rattle.jc_heap.specs.Completions.{Completed}
use Rattle.jc_memory.specs.Programs.{Executes, bind}
use Rattle.jc_frames.specs.Frames.{GoesOn}
use Rattle.jc_world.specs.Instructions.{after_instruction}
use Rattle.jc_interp.specs.Step.{throw_from}
use Rattle.jc_interp.specs.PausedSteps.{paused_rest}
use Rattle.jc_interp.proofs.StepEnds.{ended_step}
use Rattle.jc_interp.proofs.Lent.{had_call}
use Rattle.jc_interp.proofs.QuietReturns.{return_step}
use Rattle.jc_interp.proofs.step.finish.Goals as goal

pub finish_call-requires-clause-runs : goal.finish_call-requires-clause-runs
finish_call-requires-clause-runs g c = rw c.in-Needs.is at c.requires.runs

pub returns-in-Return : goal.returns-in-Return
returns-in-Return g c = rw (c.in-Needs.is, c.in-Return.is) (return_step c.in-Return.how c.args.frames.now c.args.memory.now _
    c.args.pause.now.place c.args.linked.now c.return_if_had.ensures)

pub returns-in-Invoke : goal.returns-in-Invoke
returns-in-Invoke g c =
    let after = after_instruction c.finish_call.result c.finish_call.new.frames c.finish_call.new.memory in
    rw (c.in-Needs.is, c.in-Invoke.is) (subst (λ program. Executes (bind program c.args.memory.now
    (λ next v. throw_from c.args.pause.now.place c.args.linked.now next v)) c.args.memory.now after)
    (sym (had_call c.in-Invoke.call c.args.pause.now.place c.args.linked.now c.args.frames.now c.args.memory.now)) c.finish_call.ensures)

pub returns-then-is_ok : goal.returns-then-is_ok
returns-then-is_ok g c =
    let made : Executes (paused_rest c.args.pause.now.why c.args.pause.now.place c.args.linked.now c.args.frames.now c.args.memory.now) c.args.memory.now
    (Completed (GoesOn c.execute-ended.new.frames) c.execute-ended.new.memory) = search rules in
    ended_step (paused_rest c.args.pause.now.why c.args.pause.now.place c.args.linked.now c.args.frames.now c.args.memory.now) c.args.memory.now
    (Completed (GoesOn c.execute-ended.new.frames) c.execute-ended.new.memory) (Completed (GoesOn c.execute-ended.new.frames) c.execute-ended.new.memory)
    c.args.pause.now.place c.args.linked.now made (refl, refl)
