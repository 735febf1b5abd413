use Rattle.std.proofs.Common.{◌≡◌, ◌*◌, length, take}
use Rattle.jc_api_crypto.specs.RandomData.{random_blocks}
use Rattle.jc_api_crypto.proofs.random_data.source.put_blocks.Given as goal

abbrev pub invariant-blocks-2 : goal.invariant-blocks-2
invariant-blocks-2 l = (take (32 * l.n) l.to ≡ random_blocks l.source l.number l.n) × (length l.to ≡ 32 * l.count)
