use Rattle.std.proofs.Common.{◌-◌, ◌∙◌, ℕ, List, length, ap, sym}
use Rattle.std.proofs.lemmas.List.{take_rest}
use Rattle.jc_rsa.specs.EmsaPss.{pss}
use Rattle.jc_rsa.proofs.emsa_pss.has_last_salt.Goals as goal

pub returns : goal.returns
returns c =
    let block = c.args.block.now in
    let em = c.args.encoding.now in
    let f : List ℕ → List ℕ = λ salt. pss c.args.algorithm c.args.digest.now salt c.args.spare (length em) in
    let rest = take_rest block (length block - c.args.salt_size) in
    (λ yes. c.has_salt.ensures.0 yes ∙ ap f rest, λ is. c.has_salt.ensures.1 (is ∙ ap f (sym rest)))
