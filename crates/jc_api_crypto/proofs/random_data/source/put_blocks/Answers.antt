use Rattle.std.proofs.Common.{◌≡◌, ◌∙◌, ◌+◌, ◌*◌, ◌++◌, ℕ, suc, length, take, refl, ap, arith}
use Rattle.jc_api_crypto.specs.RandomData.{random_blocks}
use Rattle.jc_api_crypto.proofs.random_data.source.put_blocks.Goals as goal

pub blocks-2-init : goal.blocks-2-init
unfolding random_blocks
blocks-2-init c = (refl, c.requires.room)

pub blocks-2-preserved : goal.blocks-2-preserved
unfolding random_blocks
blocks-2-preserved c =
    let n = c.blocks-2.n in
    let inv = c.blocks-2.invariant in
    let block = c.random_block-block.result in
    let next : suc n ≡ n + 1 = omega arith in
    let long : length block ≡ 32 = omega (arith, c.random_block-block.type_inv) in
    let end : 32 * (n + 1) ≡ 32 * n + length block = omega (arith, long) in (
      ap (λ (k : ℕ). take k c.put.new.bytes) end ∙ c.put.ensures ∙ (λ j. inv.0 j ++ c.random_block-block.ensures j)
          ∙ ap (random_blocks c.args.source.now c.args.number) next,
      c.put.auto.bytes ∙ inv.1,
    )
