use Rattle.std.proofs.Common.{◌≡◌, ◌∙◌, ◌∷◌, ◌+◌, ℕ, suc, List, take, replicate, ap, refl, arith}
use Rattle.std.proofs.lemmas.List.{take-replicate}
use Rattle.jc_digests.specs.declared.absorbing.TheConstants.{FILLING}
use Rattle.jc_digests.proofs.absorbing.filling.Goals as goal

bytes_are : FILLING ≡ 0x80 ∷ replicate 127 0
bytes_are = refl

pub returns : goal.returns
returns c =
    let zeros = c.args.zeros in
    let more : zeros + 1 ≡ suc zeros = omega arith in
    ap (λ (xs : List ℕ). take (zeros + 1) xs) bytes_are
    ∙ ap (λ (n : ℕ). take n (0x80 ∷ replicate 127 0)) more
    ∙ ap (λ (xs : List ℕ). 0x80 ∷ xs) (take-replicate zeros 127 0 (omega arith))
