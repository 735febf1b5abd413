use Rattle.std.proofs.Common.{refl}
use Rattle.jc_heap.specs.Completions.{Completed}
use Rattle.jc_frames.specs.Frames.{GoesOn}
use Rattle.jc_interp.specs.Calling.{invoke_instruction}
use Rattle.jc_interp.proofs.StepEnds.{ended_step}
use Rattle.jc_interp.proofs.step.finish_call.Goals as goal

pub returns-in-Ok : goal.returns-in-Ok
returns-in-Ok g c =
    ended_step (invoke_instruction c.args.call c.args.place c.args.linked.now c.args.frames.now c.args.memory.now) c.args.memory.now
    (Completed (GoesOn c.invoke_instruction.new.frames) c.invoke_instruction.new.memory)
    (Completed (GoesOn c.invoke_instruction.new.frames) c.invoke_instruction.new.memory) c.args.place c.args.linked.now c.in-Ok.ensures (refl, refl)
