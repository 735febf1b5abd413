use Rattle.std.proofs.Common.{◌≡◌, ◌≤◌, ◌∙◌, ◌∷◌, ◌++◌, ℕ, List, length, ap, sym, arith}
use Rattle.std.proofs.lemmas.List.{take_all}
use Rattle.jc_rsa.specs.Bytes.{xor}
use Rattle.jc_rsa.specs.EmeOaep.{masked}
use Rattle.jc_rsa.specs.Mgf1.{mgf1}
use Rattle.jc_rsa.proofs.Xor.{length-xor}
use Rattle.jc_rsa.proofs.eme_oaep.put_masked.Goals as goal

pub returns : goal.returns
unfolding masked
returns c =
    let a = c.args.algorithm in
    let seed = c.args.seed.now in
    let block = c.mask.new.to in
    let masked_seed : c.mask-2.new.to ≡ xor seed (mgf1 a block (length seed)) =
    c.mask-2.ensures ∙ (λ j. xor (c.copy_from_slice.ensures.after j) (mgf1 a block (length (c.copy_from_slice.ensures.after j)))) in
    let seed_long : length c.mask-2.new.to ≡ length seed = ap length masked_seed ∙ length-xor seed (mgf1 a block (length seed)) in
    let all : length c.put.new.to ≤ c.put.result = omega (arith, seed_long) in
    sym (take_all c.put.result c.put.new.to all) ∙ c.put.ensures.written
    ∙ ap (λ (xs : List ℕ). xs ++ block) (c.put-end.ensures.written ∙ (λ j. c.put-start.ensures.written j ++ masked_seed j))
    ∙ (λ j. (0 ∷ xor seed (mgf1 a (c.mask.ensures j) (length seed))) ++ c.mask.ensures j)
