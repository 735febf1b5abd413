use Rattle.std.proofs.Common.{◌≡◌, arith, sym, ◌∙◌, ap}
use Rattle.jc_interp.specs.Step.{code_of}
use Rattle.jc_interp.proofs.Advances.{away_fewer, goes_on, needed, pauses, used_up}
use Rattle.jc_interp.proofs.RunningCode.{still_needed}
use Rattle.jc_interp.proofs.frames_only.run_in_frames.Goals as goal
use Rattle.jc_interp.proofs.frames_only.run_in_frames.Goals.{in-Err+else-not-read_at_once, in_default}

pub returns-then-not-read_at_once-clause-same : goal.returns-then-not-read_at_once-clause-same
returns-then-not-read_at_once-clause-same g c = λ attack more lent away own. c.loop-left.invariant.same attack more lent away own
    ∙ pauses attack lent c.args.code.now c.args.linked.now c.loop-left.frames c.read_at_once.new.frames c.args.memory.now
    (own ∙ ap (λ o. code_of lent c.args.linked.now o.package_number) (sym c.loop-left.invariant.origin)) c.loop-left.left more
    c.loop-left-test.true (away_fewer attack c.args.budget c.loop-left.left more c.loop-left.invariant.few away) c.in-Err.pause c.in-Err.ensures.place
    (rw (c.if-not-read_at_once.ensures 0) (c.in-Err.ensures.same c.args.linked.now c.args.memory.now))

pub returns-then-not-read_at_once-clause-origin : goal.returns-then-not-read_at_once-clause-origin
returns-then-not-read_at_once-clause-origin g c = still_needed c.in-Err.pause.why c.loop-left.frames c.step_in_frames.new.frames c.args.frames.now
    c.read_at_once.new.frames c.in-Err.ensures.kept c.loop-left.invariant.origin (c.if-not-read_at_once.ensures 0)

pub loop-left-preserved : goal.loop-left-preserved
loop-left-preserved g c = elim c.match-step_in_frames.branch [
  | in-Err+else-not-read_at_once w ↦
      let done = w.if-not-read_at_once.ensures w.in-Err.pause.place in
      record {
        same = λ attack more lent away own. c.loop-left.invariant.same attack more lent away own
            ∙ goes_on attack lent c.args.code.now c.args.linked.now c.loop-left.frames c.match-step_in_frames.frames c.args.memory.now
            (own ∙ ap (λ o. code_of lent c.args.linked.now o.package_number) (sym c.loop-left.invariant.origin)) c.loop-left.left more
            c.loop-left-test.true (away_fewer attack c.args.budget c.loop-left.left more c.loop-left.invariant.few away)
            (rw w.frames-is (sym done.0 ∙ w.in-Err.ensures.same c.args.linked.now c.args.memory.now));
        few = omega arith;
        origin = rw w.frames-is (done.1 ∙ needed w.in-Err.pause.why (c.step_in_frames.new.frames.current.origin ≡ c.loop-left.frames.current.origin)
            w.in-Err.pause.place c.args.linked.now c.step_in_frames.new.frames w.read_at_once.new.frames c.args.memory.now done.0 w.in-Err.ensures.kept
            ∙ c.loop-left.invariant.origin);
      }
  | in_default w ↦ record {
    same = λ attack more lent away own. c.loop-left.invariant.same attack more lent away own
        ∙ goes_on attack lent c.args.code.now c.args.linked.now c.loop-left.frames c.match-step_in_frames.frames c.args.memory.now
        (own ∙ ap (λ o. code_of lent c.args.linked.now o.package_number) (sym c.loop-left.invariant.origin)) c.loop-left.left more
        c.loop-left-test.true (away_fewer attack c.args.budget c.loop-left.left more c.loop-left.invariant.few away)
        (rw w.frames-is (w.in_default.ensures.same c.args.linked.now c.args.memory.now));
    few = omega arith;
    origin = rw w.frames-is (w.in_default.ensures.origin ∙ c.loop-left.invariant.origin);
  }
]

pub returns-clause-same : goal.returns-clause-same
returns-clause-same g c = λ attack more lent away own. c.loop-left.invariant.same attack more lent away own
    ∙ used_up attack c.loop-left.left more lent c.args.linked.now c.loop-left.frames c.args.memory.now (omega (arith, c.loop-left-test.false))
