use Rattle.std.proofs.Common.{◌+◌, arith, ap, sym, ◌∙◌}
use Rattle.jc_heap.specs.Completions.{Completed, Torn}
use Rattle.jc_memory.proofs.ProgramLemmas.{down_did}
use Rattle.jc_frames.specs.declared.outcome.Outcome.TheVariants.{Fault}
use Rattle.jc_frames.specs.Frames.{GoesOn, Ends}
use Rattle.jc_interp.specs.Step.{code_of}
use Rattle.jc_interp.specs.PausedSteps.{step_rest}
use Rattle.jc_interp.proofs.Advances.{away_fewer}
use Rattle.jc_interp.proofs.Runs.{run_cut, run_ended, run_thrown, run_more}
use Rattle.jc_interp.proofs.RunningCode.{paused_code}
use Rattle.jc_interp.proofs.run.run_part.Goals as goal

pub finish-requires-clause-runs : goal.finish-requires-clause-runs
finish-requires-clause-runs g c = paused_code c.in-Some.pause.why c.args.lent.now c.loop-rest.code.now c.args.linked.now c.loop-rest.number
    c.loop-rest.frames c.run_in_frames.new.frames c.loop-rest.invariant.own c.loop-rest.invariant.here c.in-Some.ensures.origin

pub note_end-requires : goal.note_end-requires
note_end-requires g c =
    let e = rw c.in-Err-End.field-0-is at c.in-Err-End.ensures in
    record {
      up = down_did (step_rest c.in-Some.pause c.args.linked.now c.run_in_frames.new.frames c.loop-rest.memory) c.loop-rest.memory c.finish.new.memory
          (Ends c.in-Err-End.outcome) e ∙ c.loop-rest.invariant.up;
    }

pub returns-in-Err-End : goal.returns-in-Err-End
returns-in-Err-End g c =
    let e = rw c.in-Err-End.field-0-is at c.in-Err-End.ensures in
    λ attack away. c.loop-rest.invariant.continues attack away (Completed (c.in-Some.rest + c.args.later, c.in-Err-End.outcome) c.finish.new.memory)
    (run_ended attack (c.loop-rest.left + c.args.later) (c.in-Some.rest + c.args.later) c.in-Some.pause c.args.lent.now c.args.linked.now
    c.loop-rest.frames c.run_in_frames.new.frames c.loop-rest.memory c.finish.new.memory
    (c.in-Some.ensures.same attack c.args.later c.args.lent.now
    (away_fewer attack c.args.budget c.loop-rest.left c.args.later c.loop-rest.invariant.few away)
    (c.loop-rest.invariant.own
    ∙ ap (code_of c.args.lent.now c.args.linked.now) c.loop-rest.invariant.here)) c.in-Err-End.outcome e)

pub returns-in-Err-Throw : goal.returns-in-Err-Throw
returns-in-Err-Throw g c =
    let e = rw c.in-Err-Throw.field-0-is at c.in-Err-Throw.ensures in
    λ attack away. c.loop-rest.invariant.continues attack away (Completed (c.in-Some.rest + c.args.later, Fault) c.finish.new.memory)
    (run_thrown attack (c.loop-rest.left + c.args.later) (c.in-Some.rest + c.args.later) c.in-Some.pause c.args.lent.now c.args.linked.now
    c.loop-rest.frames c.run_in_frames.new.frames c.loop-rest.memory c.finish.new.memory
    (c.in-Some.ensures.same attack c.args.later c.args.lent.now
    (away_fewer attack c.args.budget c.loop-rest.left c.args.later c.loop-rest.invariant.few away)
    (c.loop-rest.invariant.own
    ∙ ap (code_of c.args.lent.now c.args.linked.now) c.loop-rest.invariant.here)) _ _ e)

pub returns-in-Err-Down : goal.returns-in-Err-Down
returns-in-Err-Down g c =
    let e = rw c.in-Err-Down.field-0-is at c.in-Err-Down.ensures in
    λ attack away. c.loop-rest.invariant.continues attack away (Torn c.finish.new.memory)
    (run_cut attack (c.loop-rest.left + c.args.later) (c.in-Some.rest + c.args.later) c.in-Some.pause c.args.lent.now c.args.linked.now
    c.loop-rest.frames c.run_in_frames.new.frames c.loop-rest.memory c.finish.new.memory
    (c.in-Some.ensures.same attack c.args.later c.args.lent.now
    (away_fewer attack c.args.budget c.loop-rest.left c.args.later c.loop-rest.invariant.few away)
    (c.loop-rest.invariant.own
    ∙ ap (code_of c.args.lent.now c.args.linked.now) c.loop-rest.invariant.here)) e)

pub loop-rest-preserved-then-origin-number : goal.loop-rest-preserved-then-origin-number
loop-rest-preserved-then-origin-number g c = record {
  continues = λ attack away after rest. c.loop-rest.invariant.continues attack away after
      (run_more attack (c.loop-rest.left + c.args.later) (c.in-Some.rest + c.args.later) c.in-Some.pause c.args.lent.now c.args.linked.now
      c.loop-rest.frames c.run_in_frames.new.frames c.loop-rest.memory c.finish.new.memory
      (c.in-Some.ensures.same attack c.args.later c.args.lent.now
      (away_fewer attack c.args.budget c.loop-rest.left c.args.later c.loop-rest.invariant.few away)
      (c.loop-rest.invariant.own
      ∙ ap (code_of c.args.lent.now c.args.linked.now) c.loop-rest.invariant.here)) c.finish.new.frames after c.in-Ok.ensures rest);
  up = down_did (step_rest c.in-Some.pause c.args.linked.now c.run_in_frames.new.frames c.loop-rest.memory) c.loop-rest.memory c.finish.new.memory
      (GoesOn c.finish.new.frames) c.in-Ok.ensures ∙ c.loop-rest.invariant.up;
  own = c.code_of-code-then-origin-number.ensures.code;
  here = ap (λ o. o.package_number) c.origin-number-then-origin-number.ensures;
  short = c.code_of-code-then-origin-number.ensures.short;
  few = omega (arith, c.in-Some.ensures.fewer, c.loop-rest.invariant.few);
}

pub loop-rest-preserved : goal.loop-rest-preserved
loop-rest-preserved g c = record {
  continues = λ attack away after rest. c.loop-rest.invariant.continues attack away after
      (run_more attack (c.loop-rest.left + c.args.later) (c.in-Some.rest + c.args.later) c.in-Some.pause c.args.lent.now c.args.linked.now
      c.loop-rest.frames c.run_in_frames.new.frames c.loop-rest.memory c.finish.new.memory
      (c.in-Some.ensures.same attack c.args.later c.args.lent.now
      (away_fewer attack c.args.budget c.loop-rest.left c.args.later c.loop-rest.invariant.few away)
      (c.loop-rest.invariant.own
      ∙ ap (code_of c.args.lent.now c.args.linked.now) c.loop-rest.invariant.here)) c.finish.new.frames after c.in-Ok.ensures rest);
  up = down_did (step_rest c.in-Some.pause c.args.linked.now c.run_in_frames.new.frames c.loop-rest.memory) c.loop-rest.memory c.finish.new.memory
      (GoesOn c.finish.new.frames) c.in-Ok.ensures ∙ c.loop-rest.invariant.up;
  own = c.loop-rest.invariant.own;
  here = sym c.if-origin-number.false ∙ ap (λ o. o.package_number) c.origin.ensures;
  short = c.loop-rest.invariant.short;
  few = omega (arith, c.in-Some.ensures.fewer, c.loop-rest.invariant.few);
}
