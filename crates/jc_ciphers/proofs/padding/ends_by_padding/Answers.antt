use Rattle.std.proofs.Common.{◌≡◌, ◌∙◌, ◌-◌, List, ℕ, drop, length, length-drop, take, sym, arith}
use Rattle.std.proofs.lemmas.Bool.Decides.{Decides-eqb}
use Rattle.std.proofs.lemmas.List.{take_all}
use Rattle.std.proofs.lemmas.Slice.Eq.{slice_eq-Decides}
use Rattle.jc_ciphers.proofs.padding.ends_by_padding.Goals as goal

pub returns : goal.returns
returns c =
    let block = c.args.block.now in
    let at = c.args.at in
    let rest : List ℕ = take (length block - at) (drop at block) in
    let whole : rest ≡ drop at block = take_all (length block - at) (drop at block) (omega (arith, length-drop at block)) in
    let padded = c.pad-count.ensures.padded in
    let d = slice_eq-Decides Decides-eqb rest (take c.pad-count.result c.pad-count.new.to) c.eq.result c.eq.ensures in
    (λ yes. sym whole ∙ d.0 yes ∙ padded, λ is. d.1 (whole ∙ is ∙ sym padded))
