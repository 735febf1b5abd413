use Rattle.std.proofs.Common.{◌∙◌, ℕ, slice_index, refl, sym, ap}
use Rattle.jc_digests.specs.Checksums.{bits_in, generator_16, remainder}
use Rattle.jc_digests.proofs.Remainders.{remainder_more}
use Rattle.jc_digests.proofs.checksums.update_16.Goals as goal

pub loop-byte-init : goal.loop-byte-init
unfolding remainder
loop-byte-init c = refl

pub loop-byte-preserved : goal.loop-byte-preserved
loop-byte-preserved c =
    let piece = c.args.piece.now in
    let i = c.loop-byte.byte-index in
    c.byte_into_16-next.ensures
    ∙ ap (λ (r : ℕ). bits_in generator_16 r (slice_index piece i) 8) c.loop-byte.invariant
    ∙ sym (remainder_more generator_16 c.args.register piece i c.loop-byte-test.true)
