use Rattle.std.proofs.Common.{◌+◌, Ok, None, ap, ◌∙◌, arith}
use Rattle.std.proofs.lemmas.Result.{err_from_is_err_and}
use Rattle.jc_heap.specs.Completions.{Torn}
use Rattle.jc_interp.proofs.Advances.{none_away}
use Rattle.jc_interp.proofs.Runs.{none_more, part_after}
use Rattle.jc_interp.proofs.Struck.{on_past}
use Rattle.jc_interp.proofs.run.run_attacked.Goals.{then-attack-gt0+then-attack-left+in_ok-end+in_default-2, else-attack-gt0}
use Rattle.jc_interp.proofs.run.run_attacked.Goals.{else-attack-gt0-via-then-attack-gt0+else-attack-left, else-attack-gt0-via-else-attack-gt0}
use Rattle.jc_interp.proofs.run.run_attacked.Goals as goal

pub returns-in_err-end : goal.returns-in_err-end
returns-in_err-end g c =
    let so_far = rw c.in-Some.is at c.loop-faults.invariant.continues in
    let torn = rw c.in_err-end.was at c.run_to_fault.ensures in
    let down = err_from_is_err_and c.from_residual.result c.from_residual.ensures.1 in
    rw down.1 (so_far (Torn c.run_to_fault.new.memory) torn)

pub loop-faults-preserved : goal.loop-faults-preserved
loop-faults-preserved g c =
    let a = c.in-Some.attack in
    let left = c.loop-faults.left in
    let so_far = rw c.in-Some.is at c.loop-faults.invariant.continues in
    let passed = on_past c.args.budget.attack c.args.budget.left a left c.args.lent.now c.args.linked.now c.args.frames.now c.loop-faults.frames
    c.args.memory.now c.loop-faults.memory so_far in
    elim c.if-attack-gt0.branch [
      | then-attack-gt0+then-attack-left+in_ok-end+in_default-2 w ↦
          let part = rw (w.in_ok-end.was ∙ ap (λ e. Ok e) w.in_default-2.is) at w.run_to_fault.ensures in
          rw (w.frames-is, w.memory-is, w.left-is, c.later_attack-faults.ensures) (record {
            continues = λ after made. so_far after (part.1 after made);
            up = part.0 ∙ c.loop-faults.invariant.up;
            few = omega (arith, c.loop-faults.invariant.few, w.if-attack-left.true);
          })
      | else-attack-gt0 w ↦ rw (w.frames-is, w.memory-is, w.left-is, c.later_attack-faults.ensures) (record {
        continues = elim w.else-attack-gt0.branch [
          | else-attack-gt0-via-then-attack-gt0+else-attack-left v ↦ passed (λ some few. absurd (omega (arith, few, v.if-attack-left.false)))
          | else-attack-gt0-via-else-attack-gt0 v ↦ passed (λ some few. absurd (omega (arith, some, v.if-attack-gt0.false)))
        ];
        up = c.loop-faults.invariant.up;
        few = c.loop-faults.invariant.few;
      })
    ]

pub returns : goal.returns
returns g c =
    let left = c.loop-faults.left in
    let so_far = rw c.in_default.is at c.loop-faults.invariant.continues in
    part_after c.args.budget.attack c.args.budget.left None left c.args.lent.now c.args.linked.now c.args.frames.now c.loop-faults.frames c.args.memory.now
    c.loop-faults.memory so_far c.loop-faults.invariant.up c.run_whole.result None 0 c.run_whole.new.frames c.run_whole.new.memory
    (none_more c.run_whole.result None left None c.args.lent.now c.args.linked.now c.loop-faults.frames c.run_whole.new.frames c.loop-faults.memory
    c.run_whole.new.memory (c.run_whole.ensures None (none_away (left + 0) 0)))
