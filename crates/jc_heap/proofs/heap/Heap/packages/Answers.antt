use Rattle.std.proofs.Common.{◌∙◌, ap, sym, min, arith}
use Rattle.jc_words.specs.Layout.{most_packages}
use Rattle.jc_heap.proofs.Changing.{up_is}
use Rattle.jc_heap.proofs.NewPackages.{view_count}
use Rattle.jc_heap.proofs.RecordReading.{view_packages}
use Rattle.jc_heap.proofs.heap.Heap.packages.Goals as goal

pub returns-clause-exact : goal.returns-clause-exact
returns-clause-exact g c = c.min.ensures ∙ ap (λ w. min w most_packages) c.read.ensures
    ∙ sym (view_packages c.self.inside.journal c.args.self.now c.self.inside.size c.self.view_is
    (c.self.invariant.now (up_is c.self.inside.journal c.args.self.now c.self.inside.size c.self.view_is c.requires)))

pub returns-clause-count : goal.returns-clause-count
returns-clause-count g c = λ h. omega (
  arith,
  h,
  c.min.ensures,
  c.read.ensures,
  view_count c.self.inside.journal c.args.self.now c.self.inside.size
      c.self.view_is (c.self.invariant.now (up_is c.self.inside.journal c.args.self.now c.self.inside.size c.self.view_is c.requires)),
)
