use Rattle.std.proofs.Common.{◌∙◌, ◌+◌, ◌-◌, [], ◌∷◌, ◌++◌, append_assoc, length, replicate, take}
use Rattle.std.proofs.lemmas.List.{length-set, take_more_set}
use Rattle.jc_ciphers.proofs.bytes.end_by_bit.Goals as goal

pub returns : goal.returns
returns c =
    let at = c.args.at in
    let to = c.args.to.now in
    c.clear_from.ensures
    ∙ (λ j. take_more_set to at 0x80 c.requires j ++ replicate (length-set to at 0x80 j - (at + 1)) 0)
    ∙ append_assoc (take at to) (0x80 ∷ []) (replicate (length to - (at + 1)) 0)
