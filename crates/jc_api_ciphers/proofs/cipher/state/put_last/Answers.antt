use Rattle.std.proofs.Common.{◌≡◌, ◌∙◌, ◌≤◌, ℕ, List, replicate, subst, take, ap, arith}
use Rattle.std.proofs.lemmas.List.{take-replicate}
use Rattle.jc_memory.specs.Programs.{Executes}
use Rattle.jc_ciphers.specs.declared.kept.BlockAlgorithm.{BlockAlgorithm}
use Rattle.jc_ciphers.specs.declared.kept.BlockAlgorithm.TheVariants.{Aes, Des}
use Rattle.jc_world.specs.NativeCalls.{after_call}
use Rattle.jc_api.specs.Changing.{changing_call}
use Rattle.jc_api_ciphers.specs.Cipher.Block.{cipher_shorts}
use Rattle.jc_api_ciphers.specs.Outputs.{puts_output}
use Rattle.jc_api_ciphers.proofs.cipher.state.put_last.Goals as goal

few : (a : BlockAlgorithm) → cipher_shorts a ≤ 17
few Aes = omega arith
few Des = omega arith

-- the first of these zeros are as many zeros
pub returns : goal.returns
returns g c =
    let m = c.args.memory.now in
    let own = c.args.own.now in
    let a = own.conversion.algorithm in
    let zeros : take {A = ℕ} c.cipher_shorts.result (replicate 17 0) ≡ replicate (cipher_shorts a) 0 =
    ap (λ (n : ℕ). take {A = ℕ} n (replicate 17 0)) c.cipher_shorts.ensures ∙ take-replicate (cipher_shorts a) 17 0 (few a) in
    subst (λ (words : List ℕ). Executes (changing_call (puts_output own.state.array words c.args.bytes.now c.args.args.now c.args.linked.now m) c.args.linked.now m) m
    (after_call c.put_output.result c.put_output.new.memory)) zeros c.put_output.ensures
