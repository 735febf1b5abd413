use Rattle.std.proofs.Common.{append-nil, sym}
use Rattle.jcard_test.specs.Sources.{names_in}
use Rattle.jcard_test.proofs.sources.add_sources.Goals as goal

pub loop-source-init : goal.loop-source-init
loop-source-init c = sym (append-nil (names_in c.args.operands.now.items))
