use Rattle.std.proofs.Common.{◌≡◌, ◌∙◌, ◌≤◌, ℕ, Ok, replicate, subst, take, ap}
use Rattle.std.proofs.lemmas.List.{take-replicate}
use Rattle.jc_memory.specs.Programs.{Executes}
use Rattle.jc_world.specs.NativeCalls.{after_call}
use Rattle.jc_api.specs.Changing.{EngineAnswer, changes_and_puts, changing_call}
use Rattle.jc_api_ciphers.specs.Signature.Codes.{nothing_came, signature_shorts}
use Rattle.jc_api_ciphers.proofs.signature.state.put_and_forget.Goals as goal

pub returns : goal.returns
returns g c =
    let m = c.args.memory.now in
    let own = c.args.own.now in
    let few : signature_shorts own.algorithm ≤ 100 = subst (λ (n : ℕ). n ≤ 100) c.signature_shorts.ensures.shorts c.signature_shorts.ensures.few in
    let zeros : take c.signature_shorts.result (replicate 100 0) ≡ nothing_came own =
    ap (λ (n : ℕ). take n (replicate 100 0)) c.signature_shorts.ensures.shorts ∙ take-replicate (signature_shorts own.algorithm) 100 0 few in
    subst (λ (a : EngineAnswer). Executes (changing_call (Ok a) c.args.linked.now m) m
    (after_call c.change_state_and_put.result c.change_state_and_put.new.memory))
    (λ j. changes_and_puts own.state.array 0 (zeros j) c.args.to c.args.signature.now (c.signature_answer-answer.ensures j)) c.change_state_and_put.ensures
