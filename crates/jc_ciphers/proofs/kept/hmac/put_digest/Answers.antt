use Rattle.std.proofs.Common.{◌≡◌, ◌∙◌, ◌≤◌, ℕ, List, length, replicate, take, ap, arith}
use Rattle.std.proofs.lemmas.List.{take-replicate}
use Rattle.jc_digests.specs.Kept.{digest_of_state, state_after, state_size}
use Rattle.jc_ciphers.proofs.kept.hmac.put_digest.Goals as goal

pub returns : goal.returns
returns c =
    let a = c.args.algorithm in
    let size = c.state_size.ensures.size in
    let zeros : take c.state_size.result (replicate 200 0) ≡ replicate (state_size a) 0 =
    take-replicate c.state_size.result 200 0 c.state_size.ensures.few ∙ ap (λ (n : ℕ). replicate n 0) size in
    c.put_digest_of.ensures
    ∙ ap (digest_of_state a) (c.update_state.ensures ∙ ap (λ (s : List ℕ). state_after a s c.args.message.now) zeros)
