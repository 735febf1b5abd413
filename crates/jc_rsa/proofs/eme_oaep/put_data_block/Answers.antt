use Rattle.std.proofs.Common.{◌≡◌, ◌≤◌, ◌-◌, ◌∙◌, ◌∷◌, ◌++◌, [], ℕ, List, length, replicate, ap, arith}
use Rattle.jc_digests.specs.Kept.{digest_size}
use Rattle.jc_rsa.specs.EmeOaep.{data_block}
use Rattle.jc_rsa.specs.Hashing.{digest_of}
use Rattle.jc_rsa.proofs.Blocks.{four_parts}
use Rattle.jc_rsa.proofs.Digests.{length-digest_of}
use Rattle.jc_rsa.proofs.eme_oaep.put_data_block.Goals as goal

pub returns : goal.returns
unfolding data_block
returns c =
    let a = c.args.algorithm in
    let m = c.args.message.now in
    let to = c.args.to.now in
    let label : List ℕ = digest_of a [] in
    let room = c.requires in
    let label_long : length c.put_digest.new.to ≡ digest_size a = ap length c.put_digest.ensures ∙ length-digest_of a [] in
    let count : length c.put-start.new.to - length m - length c.put_digest.new.to - 1 ≡ length to - length m - digest_size a - 1 = omega arith in
    let all : length c.put.new.to ≤ c.put.result = omega (arith, room, label_long) in
    four_parts c.put.result label (replicate (length to - length m - digest_size a - 1) 0) (1 ∷ []) m c.put.new.to (
    c.put.ensures.written ∙ ap (λ (xs : List ℕ). xs ++ m) (
    c.put-after.ensures.written ∙ ap (λ (xs : List ℕ). xs ++ 1 ∷ []) (
    c.put_repeated-end.ensures.written
    ∙ (λ j. (c.put-start.ensures.written ∙ c.put_digest.ensures) j ++ replicate (count j) 0)
    )
    )
    ) all
