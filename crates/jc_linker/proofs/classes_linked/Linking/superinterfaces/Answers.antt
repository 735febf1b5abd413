use Rattle.std.proofs.Common.{◌≡◌, ◌∙◌, ◌++◌, ◌+◌, ◌*◌, ◌≤◌, [], ◌∷◌}
use Rattle.jc_linker.proofs.Walks.{taken_map}
use Rattle.jc_linker.specs.Linking.{superinterface_of}
use Rattle.jc_linker.proofs.classes_linked.Linking.superinterfaces.Goals as goal

pub loop-place-preserved : goal.loop-place-preserved
loop-place-preserved c = cc (
  taken_map (superinterface_of c.args.self.now.names.now c.args.self.now.number) c.args.list.now c.loop-place.place c.get.result
      c.get.ensures,
  c.in_ok-push.ensures.items,
  c.superinterface.ensures,
  c.loop-place.invariant,
)
