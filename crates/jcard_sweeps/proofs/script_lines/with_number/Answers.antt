use Rattle.std.proofs.Common.{◌∙◌, sym}
use Rattle.jcard_sweeps.proofs.Lines.{number_found, number_missing, number_passed}
use Rattle.jcard_sweeps.proofs.script_lines.with_number.Goals as goal

pub returns-then-command-number : goal.returns-then-command-number
returns-then-command-number c = sym (number_found c.args.number c.args.commands.now c.loop-command.command-index _ c.loop-command-test.true c.if-command-number.true)
    ∙ c.loop-command.invariant

pub loop-command-preserved : goal.loop-command-preserved
loop-command-preserved c = sym (number_passed c.args.number c.args.commands.now c.loop-command.command-index _ c.loop-command-test.true c.if-command-number.false)
    ∙ c.loop-command.invariant

pub returns : goal.returns
returns c = sym (number_missing c.args.number c.args.commands.now c.loop-command.command-index c.loop-command-test.false) ∙ c.loop-command.invariant
