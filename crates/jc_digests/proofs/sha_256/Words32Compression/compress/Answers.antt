use Rattle.std.proofs.Common.{◌≡◌, ◌∙◌, ◌+◌, ℕ, suc, List, slice_index, refl, ap, arith}
use Rattle.sha2.specs.Sha256.{add_state, compress, round, round_constants, rounds}
use Rattle.jc_digests.proofs.sha_256.Words32Compression.compress.Goals as goal

pub rounds-init : goal.rounds-init
unfolding rounds
rounds-init c = refl

pub rounds-preserved : goal.rounds-preserved
unfolding rounds
rounds-preserved c =
    let h = c.args.self.now.words in
    let words = c.schedule-words.result in
    let t = c.rounds.t in
    let next : suc t ≡ t + 1 = omega arith in
    c.round-v.ensures ∙ ap (λ (v : List ℕ). round v (slice_index round_constants t) (slice_index words t)) c.rounds.invariant ∙ ap (rounds h words) next

pub returns : goal.returns
unfolding compress
returns c =
    let h = c.args.self.now.words in
    let all : c.rounds.t ≡ 64 = omega arith in
    ap (add_state h) (c.rounds.invariant ∙ (λ j. rounds h (c.schedule-words.ensures j) (all j)))
