use Rattle.std.proofs.Common.{◌≡◌, ◌∙◌, ◌++◌, ◌+◌, ◌*◌, ◌≤◌, [], ◌∷◌}
use Rattle.jc_linker.proofs.Walks.{taken_map}
use Rattle.jc_cap.specs.ComponentViews.{applet_info}
use Rattle.jc_linker.specs.Outlines.{applet_of}
use Rattle.jc_linker.proofs.copies.copied_applets.Goals as goal

pub loop-entry-preserved : goal.loop-entry-preserved
loop-entry-preserved c = cc (
  taken_map applet_of c.args.applets.now c.loop-entry.entry (applet_info c.get.result) c.get.ensures,
  c.in_ok-push.ensures.items,
  c.in_ok-applet.ensures,
  c.loop-entry.invariant,
)
