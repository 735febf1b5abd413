use Rattle.std.proofs.Common.{◌≤◌, ◌∙◌, ◌∷◌, ◌++◌, [], ℕ, List, length, ap, arith}
use Rattle.jc_rsa.specs.EmePkcs1.{encryption_block}
use Rattle.jc_rsa.proofs.Blocks.{four_parts}
use Rattle.jc_rsa.proofs.eme_pkcs1.encode.Goals as goal

pub returns : goal.returns
unfolding encryption_block
returns c =
    let ps = c.args.padding.now in
    let m = c.args.message.now in
    let all : length c.put.new.to ≤ c.put.result = omega arith in
    four_parts c.put.result (0 ∷ 2 ∷ []) ps (0 ∷ []) m c.put.new.to (
    c.put.ensures.written ∙ ap (λ (xs : List ℕ). xs ++ m) (
    c.put-after.ensures.written ∙ ap (λ (xs : List ℕ). xs ++ 0 ∷ []) (
    c.put-end.ensures.written ∙ ap (λ (xs : List ℕ). xs ++ ps) c.put-start.ensures.written
    )
    )
    ) all
