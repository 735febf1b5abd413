use Rattle.std.proofs.Common.{◌≤◌, ◌∙◌, ◌++◌, ℕ, List, length, ap, sym, arith}
use Rattle.std.proofs.lemmas.List.{take_all}
use Rattle.jc_rsa.proofs.DigestInfos.{digest_info-is, prefix-size}
use Rattle.jc_rsa.proofs.emsa_pkcs1.put_digest_info.Goals as goal

pub put-end-requires : goal.put-end-requires
put-end-requires c = omega (arith, ap length c.digest_info_prefix.ensures, prefix-size c.args.algorithm, c.requires.room)

pub put-requires : goal.put-requires
put-requires c = omega (arith, ap length c.digest_info_prefix.ensures, prefix-size c.args.algorithm, c.requires.room, c.requires.digest)

pub returns : goal.returns
returns c =
    let digest = c.args.digest.now in
    let all : length c.put.new.to ≤ c.put.result =
    omega (arith, ap length c.digest_info_prefix.ensures, prefix-size c.args.algorithm, c.requires.room, c.requires.digest) in
    sym (take_all c.put.result c.put.new.to all) ∙ c.put.ensures.written
    ∙ ap (λ (xs : List ℕ). xs ++ digest) (c.put-end.ensures.written ∙ c.digest_info_prefix.ensures)
    ∙ digest_info-is c.args.algorithm digest c.requires.digest
