use Rattle.std.proofs.Common.{sym, ◌∙◌, ◌++◌, ◌∷◌, [], ap, map, arith, ℕ}
use Rattle.std.specs.List.{range_with_len}
use Rattle.std.proofs.lemmas.List.FromFn.{map-range_with_len_more}
use Rattle.jc_image.specs.Listing.{byte_in}
use Rattle.jc_image.proofs.listing.bytes_in.Goals as goal

pub loop-i-preserved : goal.loop-i-preserved
loop-i-preserved g c =
    let f : ℕ → ℕ = byte_in (g.S.WordStore.words c.args.store.now) c.args.at in (
      c.push.ensures.items
          ∙ ap (λ l. l ++ c.byte_in.result ∷ []) c.loop-i.invariant.0
          ∙ ap (λ x. map f (range_with_len 0 c.loop-i.i) ++ x ∷ []) c.byte_in.ensures
          ∙ sym (map-range_with_len_more f 0 c.loop-i.i c.loop-i.i (omega arith)),
      grind arith,
    )
