use Rattle.std.proofs.Common.{◌≡◌, ◌<◌, ◌≤◌, ◌∙◌, sym, subst, length, slice_index, true, arith}
use Rattle.jc_words.specs.Layout.{most_packages}
use Rattle.jc_heap.specs.Heap.{is_allocated}
use Rattle.jc_heap.specs.Component.{record_of}
use Rattle.jc_heap.proofs.Changing.{up_is}
use Rattle.jc_heap.proofs.RecordReading.{view_packages, view_package}
use Rattle.jc_heap.proofs.heap.Heap.package_address.Goals as goal

pub overflow_add-k : goal.overflow_add-k
overflow_add-k g c = omega (
  arith,
  c.requires.below,
  view_packages c.self.inside.journal c.args.self.now c.self.inside.size c.self.view_is
      (c.self.invariant.now (up_is c.self.inside.journal c.args.self.now c.self.inside.size c.self.view_is c.requires.up)),
)

pub read-requires : goal.read-requires
read-requires g c =
    let up = up_is c.self.inside.journal c.args.self.now c.self.inside.size c.self.view_is c.requires.up in
    let few : c.args.k < most_packages = omega (
      arith,
      c.requires.below,
      view_packages c.self.inside.journal c.args.self.now c.self.inside.size c.self.view_is (c.self.invariant.now up),
    ) in
    record {
      below = omega (arith, (c.self.invariant.now up).based, (c.self.invariant.now up).fits);
      not_count = λ f. omega arith;
      beside = λ _. omega arith;
    }

pub returns-clause-exact : goal.returns-clause-exact
returns-clause-exact g c = c.at.ensures ∙ c.read.ensures
    ∙ sym (view_package c.self.inside.journal c.args.self.now c.self.inside.size c.args.k c.self.view_is
    (c.self.invariant.now (up_is c.self.inside.journal c.args.self.now c.self.inside.size c.self.view_is c.requires.up)) c.requires.below)

pub returns-clause-there : goal.returns-clause-there
returns-clause-there g c =
    let is : slice_index c.args.self.now.now.packages c.args.k ≡ c.at.result = sym (c.at.ensures ∙ c.read.ensures
    ∙ sym (view_package c.self.inside.journal c.args.self.now c.self.inside.size c.args.k c.self.view_is
    (c.self.invariant.now (up_is c.self.inside.journal c.args.self.now c.self.inside.size c.self.view_is c.requires.up)) c.requires.below)) in
    subst (λ r. is_allocated c.args.self.now.now r ≡ true) is (c.requires.whole.met c.args.k c.requires.below)

pub returns-clause-record : goal.returns-clause-record
returns-clause-record g c =
    let is : slice_index c.args.self.now.now.packages c.args.k ≡ c.at.result = sym (c.at.ensures ∙ c.read.ensures
    ∙ sym (view_package c.self.inside.journal c.args.self.now c.self.inside.size c.args.k c.self.view_is
    (c.self.invariant.now (up_is c.self.inside.journal c.args.self.now c.self.inside.size c.self.view_is c.requires.up)) c.requires.below)) in
    let long : 2 ≤ length (record_of c.args.self.now.now c.at.result) =
    subst (λ r. 2 ≤ length (record_of c.args.self.now.now r)) is (c.requires.whole.records c.args.k c.requires.below) in
    omega (arith, long)
