use Rattle.std.proofs.Common.{◌∙◌, ℕ, List, ap}
use Rattle.jc_ciphers.specs.Aes.{encrypted}
use Rattle.jc_ciphers.specs.Macs.{cmac_end}
use Rattle.jc_ciphers.proofs.KeptEnds.{cmac_front}
use Rattle.jc_ciphers.proofs.kept.macs.finish_cmac_of.Goals as goal

pub returns : goal.returns
returns c =
    c.finish_cmac.ensures ∙ ap (λ (key : List ℕ). cmac_end (encrypted key) 16 c.args.chain.now c.args.block.now c.args.used) c.new-cipher.ensures
    ∙ cmac_front (encrypted c.args.key.now) 16 c.args.chain.now c.args.block.now c.args.used c.requires.block c.requires.used
