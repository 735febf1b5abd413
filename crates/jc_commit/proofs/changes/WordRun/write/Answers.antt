use Rattle.std.proofs.Common.{◌-◌, ◌<◌, ℕ, List, length, get_or, sym, ap, arith}
use Rattle.jc_commit.proofs.WordRuns.{viewed_length, run_words-at, run_written, part_written}
use Rattle.jc_commit.proofs.changes.WordRun.write.Goals as goal

-- the last of them is there
pub write_run-requires-clause-there : goal.write_run-requires-clause-there
write_run-requires-clause-there g c =
    let first = c.self.inside.first in
    let words = c.self.inside.words.now in
    let long = viewed_length first words c.args.self.now c.self.view_is in
    let last = length words - 1 in
    let inside : last < length c.args.self.now = omega (arith, long, c.self.invariant.0) in
    let there = c.requires last inside in
    let at = ap (λ (l : List (ℕ × ℕ)). (get_or l last (0, 0)).0) (sym c.self.view_is) in
    let here = ap (λ (d : ℕ × ℕ). d.0) (run_words-at first words last (omega (arith, c.self.invariant.0))) in
    omega (arith, there, at, here, c.self.invariant.0)

pub returns-in-Ok : goal.returns-in-Ok
returns-in-Ok g c =
    let words = c.self.inside.words.now in
    (length words, run_written c.self.inside.first words c.args.self.now c.self.view_is c.in-Ok.ensures)

pub returns-in-Err : goal.returns-in-Err
returns-in-Err g c =
    let k = c.in-Err.field-0.written in
    (k, part_written c.self.inside.first c.self.inside.words.now c.args.self.now k c.self.view_is c.in-Err.ensures.0 c.in-Err.ensures.1)
