use Rattle.std.proofs.Common.{◌∙◌, ap, arith}
use Rattle.std.proofs.lemmas.List.{length-map, take_all}
use Rattle.jc_heap.specs.Component.{record_of}
use Rattle.jc_packages.specs.Known.{package_records}
use Rattle.jc_packages.proofs.KnownPackages.{one_more}
use Rattle.jc_packages.proofs.known.records_of.Goals as goal

pub loop-k-preserved : goal.loop-k-preserved
loop-k-preserved g c =
    let h = c.args.heap.now.now in
    one_more (λ r. r.items) (record_of h) _ _ c.in_ok-words.words h.packages c.loop-k.k c.in_ok-push.ensures.items (omega (arith, c.packages-k-end.ensures.exact))
    (c.in_ok-words.ensures ∙ ap (record_of h) c.record_at.ensures.place) c.loop-k.invariant

pub returns : goal.returns
returns g c =
    let h = c.args.heap.now.now in
    c.loop-k.invariant ∙ take_all c.loop-k.k (package_records h) (omega (arith, c.packages-k-end.ensures.exact, length-map h.packages (record_of h)))
