use Rattle.jcard_sweeps.specs.ScriptLines.{line_of}
use Rattle.jcard_tear.specs.Sweep.{given_of}
use Rattle.jcard_tear.proofs.CutCommands.{down_outcome}
use Rattle.jcard_tear.proofs.each.line_outcome.Goals as goal

pub returns-in-Err-Down : goal.returns-in-Err-Down
returns-in-Err-Down g c = down_outcome c.args.words.now (given_of c.args.follow_up) c.args.follow_up.behind (line_of c.args.line)
    (rw c.in-Err-Down.field-0-is at c.in-Err-Down.ensures)
