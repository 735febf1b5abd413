use Rattle.std.proofs.Common.{◌∙◌, ap, arith}
use Rattle.jc_transient.specs.declared.cell.ClearEvent.TheVariants.{Reset}
use Rattle.jc_heap.specs.Heap.{area_end, area_limit}
use Rattle.jc_heap.specs.Moves.{AddTransient, refusal_of_transient}
use Rattle.jc_card.proofs.FixedObjects.{top-add, end-add, limit-add, durable-changed, transient_allowed, only_torn, torn_head}
use Rattle.jc_card.proofs.fixed.make.Goals as goal

pub returns-in-Ok-clause-head : goal.returns-in-Ok-clause-head
returns-in-Ok-clause-head g c =
    ap (λ v. v.durable.head) c.in-Ok.ensures.moves.2
    ∙ durable-changed c.args.heap.now c.args.object.now.kind c.class_number-class.result 0 c.args.object.now.cells c.requires.outside c.requires.settled

pub returns-in-Ok-clause-top : goal.returns-in-Ok-clause-top
returns-in-Ok-clause-top g c =
    ap (λ v. v.now.top) c.in-Ok.ensures.moves.2 ∙ top-add c.args.heap.now.now c.args.object.now.kind c.class_number-class.result 0 c.args.object.now.cells

pub returns-in-Ok-clause-end : goal.returns-in-Ok-clause-end
returns-in-Ok-clause-end g c =
    ap (λ v. area_end (v.now) Reset) c.in-Ok.ensures.moves.2 ∙ end-add c.args.heap.now.now c.args.object.now.kind c.class_number-class.result 0
    c.args.object.now.cells

pub returns-in-Ok-clause-area : goal.returns-in-Ok-clause-area
returns-in-Ok-clause-area g c =
    ap (λ v. area_limit (v.now) Reset) c.in-Ok.ensures.moves.2 ∙ limit-add c.args.heap.now.now c.args.object.now.kind c.class_number-class.result 0
    c.args.object.now.cells

pub returns-in-Err-clause-stopped : goal.returns-in-Err-clause-stopped
returns-in-Err-clause-stopped g c =
    let torn = only_torn (refusal_of_transient c.args.heap.now Reset c.args.object.now.cells) c.in-Err.field-0 c.args.heap.now c.new_transient.new.self
    (AddTransient c.args.object.now.kind Reset c.class_number-class.result 0 c.args.object.now.cells) c.args.heap.now.now.top
    (transient_allowed c.args.heap.now c.args.object.now.cells c.requires.outside c.requires.space c.requires.area
    (omega (arith, c.commit_capacity.ensures.exact, c.commit_capacity.ensures.least))) c.in-Err.ensures.moves in
    torn.down

pub returns-in-Err-clause-refusals : goal.returns-in-Err-clause-refusals
returns-in-Err-clause-refusals g c =
    let torn = only_torn (refusal_of_transient c.args.heap.now Reset c.args.object.now.cells) c.in-Err.field-0 c.args.heap.now c.new_transient.new.self
    (AddTransient c.args.object.now.kind Reset c.class_number-class.result 0 c.args.object.now.cells) c.args.heap.now.now.top
    (transient_allowed c.args.heap.now c.args.object.now.cells c.requires.outside c.requires.space c.requires.area
    (omega (arith, c.commit_capacity.ensures.exact, c.commit_capacity.ensures.least))) c.in-Err.ensures.moves in
    torn.refusals

pub returns-in-Err-clause-size : goal.returns-in-Err-clause-size
returns-in-Err-clause-size g c =
    let torn = only_torn (refusal_of_transient c.args.heap.now Reset c.args.object.now.cells) c.in-Err.field-0 c.args.heap.now c.new_transient.new.self
    (AddTransient c.args.object.now.kind Reset c.class_number-class.result 0 c.args.object.now.cells) c.args.heap.now.now.top
    (transient_allowed c.args.heap.now c.args.object.now.cells c.requires.outside c.requires.space c.requires.area
    (omega (arith, c.commit_capacity.ensures.exact, c.commit_capacity.ensures.least))) c.in-Err.ensures.moves in
    torn.size

pub returns-in-Err-clause-head : goal.returns-in-Err-clause-head
returns-in-Err-clause-head g c =
    let torn = only_torn (refusal_of_transient c.args.heap.now Reset c.args.object.now.cells) c.in-Err.field-0 c.args.heap.now c.new_transient.new.self
    (AddTransient c.args.object.now.kind Reset c.class_number-class.result 0 c.args.object.now.cells) c.args.heap.now.now.top
    (transient_allowed c.args.heap.now c.args.object.now.cells c.requires.outside c.requires.space c.requires.area
    (omega (arith, c.commit_capacity.ensures.exact, c.commit_capacity.ensures.least))) c.in-Err.ensures.moves in
    torn_head (AddTransient c.args.object.now.kind Reset c.class_number-class.result 0 c.args.object.now.cells) c.args.heap.now c.new_transient.new.self torn
