use Rattle.std.proofs.Common.{◌≤◌, ◌∙◌, ◌∷◌, ◌++◌, [], ℕ, List, length, ap, sym, arith}
use Rattle.std.proofs.lemmas.List.{take_all}
use Rattle.jc_rsa.specs.EmsaPss.{cleared, sealed}
use Rattle.jc_rsa.proofs.emsa_pss.put_sealed.Goals as goal

pub returns : goal.returns
unfolding sealed
returns c =
    let all : length c.put.new.to ≤ c.put.result = omega arith in
    sym (take_all c.put.result c.put.new.to all) ∙ c.put.ensures.written
    ∙ ap (λ (xs : List ℕ). xs ++ 0xbc ∷ []) (
    c.put-end.ensures.written
    ∙ ap (λ (xs : List ℕ). xs ++ c.args.hash.now) (c.put-start.ensures.written ∙ c.clear.ensures ∙ ap (cleared c.args.spare) c.mask.ensures)
    )
