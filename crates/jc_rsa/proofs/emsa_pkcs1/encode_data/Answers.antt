use Rattle.std.proofs.Common.{◌≡◌, ◌≤◌, ◌-◌, ◌∙◌, ◌∷◌, ◌++◌, [], ℕ, List, length, replicate, ap, arith}
use Rattle.jc_rsa.specs.EmsaPkcs1.{signature_block}
use Rattle.jc_rsa.proofs.Blocks.{four_parts}
use Rattle.jc_rsa.proofs.emsa_pkcs1.encode_data.Goals as goal

pub returns : goal.returns
unfolding signature_block
returns c =
    let t = c.args.contents.now in
    let to = c.args.to.now in
    let ps : List ℕ = replicate (length to - length t - 3) 0xff in
    let room = c.requires in
    let same : length c.put-start.new.to - length t - 3 ≡ length to - length t - 3 = omega arith in
    let all : length c.put.new.to ≤ c.put.result = omega (arith, room) in
    four_parts c.put.result (0 ∷ 1 ∷ []) ps (0 ∷ []) t c.put.new.to (
    c.put.ensures.written ∙ ap (λ (xs : List ℕ). xs ++ t) (
    c.put-after.ensures.written ∙ ap (λ (xs : List ℕ). xs ++ 0 ∷ []) (
    c.put_repeated-end.ensures.written
    ∙ (λ j. c.put-start.ensures.written j ++ replicate (same j) 0xff)
    )
    )
    ) all
