use Rattle.std.proofs.Common.{ℕ, subst}
use Rattle.std.specs.Prelude.{◌↔◌, IsTrue}
use Rattle.jc_rsa.specs.EmsaPss.{IsPss}
use Rattle.jc_public_keys.proofs.Encodings.{pss_tested}
use Rattle.jc_public_keys.proofs.rsa_signatures.is_pss.Goals as goal

pub returns : goal.returns
returns c =
    let h = c.args.hash in
    let digest = c.args.digest.now in
    let em = c.args.encoding.now in
    pss_tested h digest em c.verify.result
    (subst (λ (n : ℕ). IsTrue c.verify.result ↔ IsPss h digest n 1 em) c.digest_size.ensures c.verify.ensures)
