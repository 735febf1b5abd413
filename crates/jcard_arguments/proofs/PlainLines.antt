-- The plain lines of every command.
use Rattle.jcard_arguments.proofs.AttackLines.{attack_joins, attacks}
use Rattle.jcard_arguments.proofs.Dumps.{dumps}
use Rattle.jcard_arguments.proofs.OptionLines.{news, tries}
use Rattle.jcard_arguments.proofs.Runs.{runs}
use Rattle.jcard_arguments.proofs.TearLines.{joins, tears}
use Rattle.jcard_arguments.proofs.TestLines.{tests}
use Rattle.jcard_arguments.specs.Arguments.{TakesPlainLines}

pub plain_lines : TakesPlainLines
plain_lines = (runs, dumps, news, tries, tears, joins, attacks, attack_joins, tests)
