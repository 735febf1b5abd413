use Rattle.std.proofs.Common.{◌+◌, ◌-◌, Option, None, Ok, ◌∙◌, ap, arith}
use Rattle.std.proofs.lemmas.Result.{err_from_is_err_and}
use Rattle.jc_heap.specs.Completions.{Completed, Torn}
use Rattle.jc_interp.specs.declared.attacks.Attack.{Attack}
use Rattle.jc_interp.specs.Attacks.{IsAway}
use Rattle.jc_interp.proofs.Advances.{away_less, none_away}
use Rattle.jc_interp.proofs.Runs.{one_more}
use Rattle.jc_interp.proofs.run.run_noted.Goals as goal

pub returns-in-Some : goal.returns-in-Some
returns-in-Some g c = λ attack away. one_more attack c.args.budget c.loop-turns.turns c.args.later c.loop-turns-test.true c.args.lent.now
    c.args.linked.now c.args.frames.now c.loop-turns.frames c.args.memory.now c.loop-turns.memory (c.loop-turns.invariant.continues attack away)
    (Completed c.in-Some.end c.run_part.new.memory) (rw (c.in_ok-end.was ∙ ap (λ e. Ok e) c.in-Some.is) at (c.run_part.ensures attack (away_less attack
    (c.args.budget + c.args.later) c.args.later (1 + (c.args.budget - (c.loop-turns.turns + 1) + c.args.later))
    (c.args.budget - (c.loop-turns.turns + 1) + c.args.later) (omega (arith, c.loop-turns-test.true)) (omega arith) away)))

pub returns-in_err-end : goal.returns-in_err-end
returns-in_err-end g c =
    let p = err_from_is_err_and c.from_residual.result c.from_residual.ensures.1 in
    rw p.1 (λ attack away. one_more attack c.args.budget c.loop-turns.turns c.args.later c.loop-turns-test.true c.args.lent.now c.args.linked.now
    c.args.frames.now c.loop-turns.frames c.args.memory.now c.loop-turns.memory (c.loop-turns.invariant.continues attack away)
    (Torn c.run_part.new.memory) (rw c.in_err-end.was at (c.run_part.ensures attack (away_less attack (c.args.budget + c.args.later) c.args.later
    (1 + (c.args.budget - (c.loop-turns.turns + 1) + c.args.later)) (c.args.budget - (c.loop-turns.turns + 1) + c.args.later)
    (omega (arith, c.loop-turns-test.true)) (omega arith) away))))

pub loop-turns-preserved : goal.loop-turns-preserved
loop-turns-preserved g c =
    let limit = c.args.budget + c.args.later in
    let rest = c.args.budget - (c.loop-turns.turns + 1) + c.args.later in
    let part = λ (attack : Option Attack) (away : IsAway attack limit c.args.later).
    rw (c.in_ok-end.was ∙ ap (λ e. Ok e) c.in_default.is) at (c.run_part.ensures attack (away_less attack limit c.args.later (1 + rest) rest
    (omega (arith, c.loop-turns-test.true)) (omega arith) away)) in
    record {
      continues = λ attack away after made. one_more attack c.args.budget c.loop-turns.turns c.args.later c.loop-turns-test.true c.args.lent.now
          c.args.linked.now c.args.frames.now c.loop-turns.frames c.args.memory.now c.loop-turns.memory (c.loop-turns.invariant.continues attack away)
          after ((part attack away).1 after made);
      up = (part None (none_away limit c.args.later)).0 ∙ c.loop-turns.invariant.up;
    }
