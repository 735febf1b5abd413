use Rattle.jc_cap.specs.MethodReading.{handler_at}
use Rattle.jc_cap.proofs.Found.{sized_list}
use Rattle.jc_cap.proofs.EqualSizes.{handler_size}
use Rattle.std.proofs.Common.{◌∙◌, sym, ap, Ok}
use Rattle.jc_cap.specs.Reading.{many_at, list_or_empty}
use Rattle.jc_cap.proofs.handlers.handlers_found_in.Goals as goal

pub split_at-requires : goal.split_at-requires
split_at-requires c = (sized_list handler_at 8 handler_size c.args.count c.args.bytes.now c.requires).within

pub invariant_of-result : goal.invariant_of-result
invariant_of-result c = (sized_list handler_at 8 handler_size c.args.count c.args.bytes.now c.requires).list

pub returns : goal.returns
returns c = (sized_list handler_at 8 handler_size c.args.count c.args.bytes.now c.requires).is
    ∙ ap (λ t. Ok (list_or_empty (many_at handler_at c.args.count c.args.bytes.now), t)) (sym c.split_at.ensures.back)
