use Rattle.std.proofs.Common.{◌∙◌, [], List, ℕ, ap, subst}
use Rattle.jc_ciphers.specs.Macs.{marked}
use Rattle.jc_ciphers.proofs.hmac.begun.Goals as goal

pub returns : goal.returns
returns g c =
    let P : List ℕ → Type 0 = λ m. g.D.Digest.holds c.update.new.self m in
    subst P (c.mark.ensures ∙ ap (marked c.args.block.now c.args.pad) c.requires.block) (c.update.ensures [] c.new-digest.ensures)
