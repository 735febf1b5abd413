use Rattle.std.proofs.Common.{◌≡◌, ◌∙◌, ◌+◌, [], ◌∷◌, ◌++◌, suc, length, refl, sym, ap, arith}
use Rattle.std.proofs.lemmas.List.{length-set, take_all, take_more_set}
use Rattle.jc_ciphers.specs.Macs.{listed, reduced_byte}
use Rattle.jc_ciphers.proofs.macs.double.Goals as goal

pub bytes-init : goal.bytes-init
unfolding listed
bytes-init c = (refl, c.requires)

pub bytes-preserved : goal.bytes-preserved
unfolding listed
bytes-preserved c =
    let i = c.bytes.i in
    let b = c.args.block.now in
    let v = c.reduced_byte.result in
    let inv = c.bytes.invariant in
    let next : suc i ≡ i + 1 = omega arith in (
      take_more_set c.bytes.to i v (omega (arith, inv.1)) ∙ (λ j. inv.0 j ++ c.reduced_byte.ensures j ∷ []) ∙ ap (listed (reduced_byte (length b) b)) next,
      length-set c.bytes.to i v ∙ inv.1,
    )

pub returns : goal.returns
returns c =
    let inv = c.bytes.invariant in
    let b = c.args.block.now in
    let all : c.bytes.i ≡ length b = omega arith in
    sym (take_all c.bytes.i c.bytes.to (omega (arith, inv.1, all))) ∙ inv.0 ∙ ap (listed (reduced_byte (length b) b)) all
