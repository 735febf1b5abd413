use Rattle.std.proofs.Common.{ap, ◌≡◌, ◌≤◌, ◌∙◌, IfSome, Some, length, subst, sym}
use Rattle.jc_heap.specs.Component.{record_of}
use Rattle.jc_heap.specs.Statics.{statics_of}
use Rattle.jc_heap.proofs.StaticImages.{all_static, statics_within}
use Rattle.jc_memory.proofs.memory.Memory.statics.Goals as goal

pub returns-in-Some-clause-exact : goal.returns-in-Some-clause-exact
returns-in-Some-clause-exact g c =
    let up = ap (λ s. s.heap.down) c.self.view_is ∙ c.requires.up in
    let image = c.in-Some.ensures c.self.inside.heap.now c.self.inside.heap.durable (c.self.invariant.1 up).1 in
    let exact : statics_of (record_of c.args.self.now.heap.now c.args.owner) ≡ Some c.in-Some.begin =
    subst (λ s. statics_of (record_of s.heap.now c.args.owner) ≡ Some c.in-Some.begin) c.self.view_is image.now in
    sym exact

pub returns-in-Some-clause-within : goal.returns-in-Some-clause-within
returns-in-Some-clause-within g c =
    let record_words = record_of c.args.self.now.heap.now c.args.owner in
    subst (λ t. IfSome t (λ o. o ≤ length record_words)) (sym (returns-in-Some-clause-exact g c)) (statics_within record_words c.requires.there)

pub returns-in-Some-clause-image : goal.returns-in-Some-clause-image
returns-in-Some-clause-image g c =
    all_static (record_of c.args.self.now.heap.now c.args.owner) (Some c.in-Some.begin) (returns-in-Some-clause-exact g c)

pub returns-in-None-clause-within : goal.returns-in-None-clause-within
returns-in-None-clause-within g c =
    let record_words = record_of c.args.self.now.heap.now c.args.owner in
    subst (λ t. IfSome t (λ o. o ≤ length record_words)) (sym c.walk_to_statics.ensures) (statics_within record_words c.requires.there)

pub returns-in-None-clause-image : goal.returns-in-None-clause-image
returns-in-None-clause-image g c =
    all_static (record_of c.args.self.now.heap.now c.args.owner) c.walk_to_statics.result c.walk_to_statics.ensures
