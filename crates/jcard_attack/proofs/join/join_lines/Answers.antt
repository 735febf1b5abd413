use Rattle.std.specs.Prelude.{MatchResult}
use Rattle.jcard_attack.proofs.PartWholes.{whole_joined}
use Rattle.jcard_attack.proofs.join.join_lines.Goals as goal

pub returns-clause-whole : goal.returns-clause-whole
returns-clause-whole c = λ s tellable parts. whole_joined s c.args.parts c.args.text.now c.joined.result c.requires tellable parts c.joined.ensures
