use Rattle.std.proofs.Common.{◌≡◌, ◌∙◌, ◌+◌, ℕ, suc, List, slice_index, ap, arith}
use Rattle.sha1.specs.Sha1.{round, round_constant, round_fn, rounds}
use Rattle.jc_digests.proofs.sha_1.rounds.Goals as goal

pub rounds-init : goal.rounds-init
rounds-init c = λ h is. is

pub rounds-preserved : goal.rounds-preserved
unfolding rounds
rounds-preserved c =
    let words = c.args.words.now in
    let v = c.rounds.v in
    let t = c.rounds.t in
    let next : suc t ≡ t + 1 = omega arith in
    λ h is.
    c.round-v.ensures
    ∙ (λ j. round v (c.round_fn.ensures j) (c.round_constant.ensures j) (slice_index words t))
    ∙ ap (λ (u : List ℕ). round u (round_fn t (slice_index u 1) (slice_index u 2) (slice_index u 3)) (round_constant t) (slice_index words t)) (c.rounds.invariant h is)
    ∙ ap (rounds h words) next

pub returns : goal.returns
returns c =
    let all : c.rounds.t ≡ c.args.to = omega arith in
    λ h is. c.rounds.invariant h is ∙ ap (rounds h c.args.words.now) all
