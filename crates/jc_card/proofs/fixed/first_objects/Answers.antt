use Rattle.std.proofs.Common.{◌≡◌, ◌+◌, ◌++◌, [], ◌∷◌, length, sym, ap, ◌∙◌, arith}
use Rattle.std.proofs.lemmas.List.FromFn.{map-range_with_len_more}
use Rattle.jc_heap.specs.Heap.{HeapState}
use Rattle.jc_card.specs.Fixed.{next_or_null, numbered, object_number}
use Rattle.jc_card.proofs.Objects.{zeroth, next_number}
use Rattle.jc_card.proofs.fixed.first_objects.Goals as goal

pub loop-init : goal.loop-init
loop-init g c = record {
  at = c.null-at.ensures ∙ sym (zeroth c.args.heap.now.now);
  object = λ some. absurd (some c.null-at.ensures);
  long = ap length c.new-fixed.ensures;
  front = c.new-fixed.ensures;
}

pub loop-preserved : goal.loop-preserved
loop-preserved g c =
    let h : HeapState = c.args.heap.now.now in
    let is : c.next_or_null-at.result ≡ object_number h (c.loop.counter + 1) = c.next_or_null-at.ensures.next ∙ ap (next_or_null h) c.loop.invariant.at
    ∙ sym (next_number h c.loop.counter) in
    let place : 1 + c.loop.counter ≡ c.loop.counter + 1 = omega arith in
    record {
      at = is;
      object = c.next_or_null-at.ensures.object;
      long = c.push.ensures.len ∙ ap (λ n. n + 1) c.loop.invariant.long;
      front = c.push.ensures.items ∙ ap (λ l. l ++ c.address.result ∷ []) c.loop.invariant.front
          ∙ ap (λ x. numbered h c.loop.counter ++ x ∷ []) (c.address.ensures ∙ is)
          ∙ sym (map-range_with_len_more (object_number h) 1 c.loop.counter (c.loop.counter + 1) place);
    }
