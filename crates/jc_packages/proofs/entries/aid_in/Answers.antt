use Rattle.std.proofs.Common.{sym, ◌∙◌, ◌++◌, ◌∷◌, [], ap, map, drop, arith, ℕ}
use Rattle.std.specs.List.{range_with_len}
use Rattle.std.proofs.lemmas.List.FromFn.{map-range_with_len_more}
use Rattle.jc_heap.specs.Heap.{cells}
use Rattle.jc_heap.specs.Packed.{packed_byte}
use Rattle.jc_packages.proofs.entries.aid_in.Goals as goal

pub loop-i-preserved : goal.loop-i-preserved
loop-i-preserved g c =
    let f : ℕ → ℕ = packed_byte (drop 1 (cells c.args.marked.now.now c.args.object)) in (
      c.push.ensures.items
          ∙ ap (λ l. l ++ c.aid_byte.result ∷ []) c.loop-i.invariant.0
          ∙ ap (λ x. map f (range_with_len 0 c.loop-i.i) ++ x ∷ []) c.aid_byte.ensures
          ∙ sym (map-range_with_len_more f 0 c.loop-i.i c.loop-i.i (omega arith)),
      grind arith,
    )
