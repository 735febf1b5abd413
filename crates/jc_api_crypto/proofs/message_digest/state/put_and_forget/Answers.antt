use Rattle.std.proofs.Common.{◌≡◌, ◌∙◌, ℕ, Ok, replicate, subst, take, ap}
use Rattle.std.proofs.lemmas.List.{take-replicate}
use Rattle.jc_memory.specs.Programs.{Executes}
use Rattle.jc_world.specs.NativeCalls.{after_call}
use Rattle.jc_api.specs.Changing.{EngineAnswer, changes_and_puts, changing_call}
use Rattle.jc_api_keys.specs.DigestStates.{digest_shorts}
use Rattle.jc_api_crypto.specs.MessageDigest.{nothing_came}
use Rattle.jc_api_crypto.proofs.FewShorts.{few_shorts}
use Rattle.jc_api_crypto.proofs.message_digest.state.put_and_forget.Goals as goal

pub returns : goal.returns
returns g c =
    let m = c.args.memory.now in
    let own = c.args.own.now in
    let zeros : take c.digest_shorts.result (replicate 100 0) ≡ nothing_came own =
    ap (λ (n : ℕ). take n (replicate 100 0)) c.digest_shorts.ensures ∙ take-replicate (digest_shorts own.algorithm) 100 0 (few_shorts own.algorithm) in
    subst (λ (a : EngineAnswer). Executes (changing_call (Ok a) c.args.linked.now m) m
    (after_call c.change_state_and_put.result c.change_state_and_put.new.memory))
    (λ j. changes_and_puts own.state.array 0 (zeros j) c.args.to c.args.digest.now (c.digest_answer-answer.ensures j)) c.change_state_and_put.ensures
