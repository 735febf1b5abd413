use Rattle.std.proofs.Common.{◌≡◌, ◌∙◌, [], ◌∷◌, ◌++◌, ℕ, replicate, take, refl, sym, ap, arith}
use Rattle.std.proofs.lemmas.List.{length-set, take_more_set}
use Rattle.std.proofs.lemmas.List.{replicate_more}
use Rattle.jc_ciphers.proofs.padding.fill.Goals as goal

pub bytes-init : goal.bytes-init
bytes-init c = (refl, refl)

pub bytes-preserved : goal.bytes-preserved
bytes-preserved c =
    let i = c.bytes.i in
    let x = c.args.byte in
    let inv = c.bytes.invariant in
    let within = c.requires in (
      take_more_set c.bytes.to i x (omega (arith, inv.1, within)) ∙ (λ j. inv.0 j ++ x ∷ []) ∙ replicate_more i x,
      length-set c.bytes.to i x ∙ inv.1,
    )

pub returns : goal.returns
returns c =
    let inv = c.bytes.invariant in
    let all : c.bytes.i ≡ c.args.count = omega arith in
    (λ j. take (sym all j) c.bytes.to) ∙ inv.0 ∙ ap (λ (n : ℕ). replicate n c.args.byte) all
