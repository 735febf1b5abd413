use Rattle.std.proofs.Common.{◌≤◌, ◌-◌, ◌∙◌, ◌∷◌, ◌++◌, [], ℕ, List, append_assoc, length, replicate, ap, sym, arith}
use Rattle.std.proofs.lemmas.List.{take_all}
use Rattle.jc_rsa.specs.EmsaPss.{salt_block}
use Rattle.jc_rsa.proofs.emsa_pss.put_salt_block.Goals as goal

pub returns : goal.returns
unfolding salt_block
returns c =
    let salt = c.args.salt.now in
    let room = c.requires in
    let zeros : List ℕ = replicate (length c.args.to.now - length salt - 1) 0 in
    let all : length c.put.new.to ≤ c.put.result = omega (arith, room) in
    sym (take_all c.put.result c.put.new.to all) ∙ c.put.ensures.written
    ∙ ap (λ (xs : List ℕ). xs ++ salt) (c.put-after.ensures.written ∙ ap (λ (xs : List ℕ). xs ++ 1 ∷ []) c.put_repeated-end.ensures.written)
    ∙ append_assoc zeros (1 ∷ []) salt
