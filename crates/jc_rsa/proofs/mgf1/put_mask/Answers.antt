use Rattle.std.proofs.Common.{◌≡◌, ◌<◌, ◌+◌, ◌-◌, ◌*◌, ◌++◌, ◌∙◌, ℕ, List, length, min, take, refl, ap, sym, arith}
use Rattle.std.specs.Int.{div_ceil, to_be_bytes, w32}
use Rattle.jc_digests.specs.Kept.{digest_size}
use Rattle.jc_rsa.specs.Hashing.{digest_of}
use Rattle.jc_rsa.proofs.Digests.{digest_some}
use Rattle.jc_rsa.proofs.Masks.{block_more, mask_whole, none_yet, start_below}
use Rattle.jc_rsa.proofs.mgf1.put_mask.Goals as goal

pub parts-init : goal.parts-init
parts-init c = record { long = refl; written = none_yet c.args.algorithm c.args.seed.now c.args.to.now (length c.args.to.now) }

pub parts-preserved : goal.parts-preserved
parts-preserved c =
    let a = c.args.algorithm in
    let seed = c.args.seed.now in
    let to = c.parts.to in
    let next = c.put_block.new.to in
    let n = length c.args.to.now in
    let i = c.parts.i in
    let size = digest_size a in
    let block : List ℕ = digest_of a (seed ++ to_be_bytes w32 i) in
    let size_is : c.digest_size-size.result ≡ size = c.digest_size-size.ensures in
    let long : length to ≡ n = c.parts.invariant.long in
    let count : c.div_ceil-count.result ≡ div_ceil n size = c.div_ceil-count.ensures ∙ ap (div_ceil n) size_is in
    let begun : i < div_ceil n size = omega (arith, c.parts-test.true, count) in
    let end : c.put_block.result ≡ min (i * size + size) n = c.put_block.ensures.end ∙ (λ j. min (i * size_is j + size) (long j)) in
    record {
      long = c.put_block.auto.to ∙ long;
      written = block_more a seed to next i n (start_below i n size (digest_some a) begun) c.parts.invariant.written (
          ap (λ (k : ℕ). take k next) (sym end) ∙ c.put_block.ensures.written
          ∙ (λ j. take (i * size_is j) to ++ take (long j - i * size_is j) block)
          );
    }

pub returns : goal.returns
returns c =
    let a = c.args.algorithm in
    let n = length c.args.to.now in
    let last : c.parts.i ≡ c.div_ceil-count.result = omega arith in
    mask_whole a c.args.seed.now c.parts.to c.parts.i n (last ∙ c.div_ceil-count.ensures ∙ ap (div_ceil n) c.digest_size-size.ensures)
    c.parts.invariant.long c.parts.invariant.written
