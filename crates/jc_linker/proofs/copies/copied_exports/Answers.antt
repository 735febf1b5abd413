use Rattle.std.proofs.Common.{◌≡◌, ◌∙◌, ◌++◌, ◌+◌, ◌*◌, ◌≤◌, [], ◌∷◌}
use Rattle.jc_linker.proofs.Walks.{taken_map}
use Rattle.jc_linker.specs.Outlines.{export_of}
use Rattle.jc_linker.proofs.copies.copied_exports.Goals as goal

pub loop-token-preserved : goal.loop-token-preserved
loop-token-preserved c = cc (
  taken_map export_of c.args.exports.now c.loop-token.token c.get.result c.get.ensures,
  c.in_ok-push.ensures.items,
  c.in_ok-export.ensures,
  c.loop-token.invariant,
)
