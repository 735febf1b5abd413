use Rattle.std.proofs.Common.{◌∙◌, ◌*◌, ◌%◌, ◌^◌, ℕ, List, take, ap}
use Rattle.std.specs.Int.{to_be_bytes, w128}
use Rattle.sha2.specs.Sha512.{compress}
use Rattle.jc_digests.specs.Pieces.{closed}
use Rattle.jc_digests.proofs.kept.Words64KeptHash.close.Goals as goal

pub returns : goal.returns
returns c =
    c.close.ensures ∙ ap (λ (field : List ℕ). closed compress 128 c.args.self.now.words (take c.args.used c.args.block.now) field)
    (c.to_be_bytes.ensures ∙ ap (λ (n : ℕ). to_be_bytes w128 (n * 8 % 2 ^ 128)) c.from.ensures)
