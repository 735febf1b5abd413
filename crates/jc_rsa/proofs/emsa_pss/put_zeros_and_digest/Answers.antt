use Rattle.std.proofs.Common.{◌≤◌, ◌∙◌, ◌++◌, ℕ, List, length, ap, sym, arith}
use Rattle.std.proofs.lemmas.List.{take_all}
use Rattle.jc_rsa.proofs.emsa_pss.put_zeros_and_digest.Goals as goal

pub returns : goal.returns
returns c =
    let digest = c.args.digest.now in
    let all : length c.put.new.to ≤ c.put.result = omega (arith, c.requires) in
    sym (take_all c.put.result c.put.new.to all) ∙ c.put.ensures.written ∙ ap (λ (xs : List ℕ). xs ++ digest) c.put_repeated-start.ensures.written
