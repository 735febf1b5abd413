use Rattle.std.proofs.Common.{sym, ◌∙◌, ◌++◌, ◌∷◌, [], ◌/◌, ◌%◌, ap, map, drop, arith, List, ℕ}
use Rattle.std.specs.List.{range_with_len}
use Rattle.std.proofs.lemmas.List.FromFn.{map-range_with_len_more}
use Rattle.jc_heap.specs.Component.{record_of}
use Rattle.jc_heap.specs.Packed.{packed_byte}
use Rattle.jc_packages.proofs.reading.read_text.Goals as goal

pub loop-i-preserved : goal.loop-i-preserved
loop-i-preserved g c =
    let f : ℕ → ℕ = packed_byte (drop c.args.span.at (record_of c.args.heap.now.now c.args.at)) in
    let front : List ℕ → List ℕ = λ l. c.args.tag ∷ c.args.span.size / 256 ∷ c.args.span.size % 256 ∷ l in
    c.in_ok-push_byte-4.ensures
    ∙ ap (λ l. l ++ c.info_byte.result ∷ []) c.loop-i.invariant
    ∙ ap (λ x. front (map f (range_with_len 0 c.loop-i.i) ++ x ∷ [])) c.info_byte.ensures
    ∙ ap front (sym (map-range_with_len_more f 0 c.loop-i.i c.loop-i.i (omega arith)))
