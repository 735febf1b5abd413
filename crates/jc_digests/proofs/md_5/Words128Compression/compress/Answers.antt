use Rattle.std.proofs.Common.{◌≡◌, ◌∙◌, ◌+◌, ℕ, suc, List, slice_index, refl, ap, arith}
use Rattle.md5.specs.Md5.{add_state, compress, round, rounds, step_constants, step_fn, step_shifts, word_place}
use Rattle.jc_digests.proofs.md_5.Words128Compression.compress.Goals as goal

pub steps-init : goal.steps-init
unfolding rounds
steps-init c = refl

pub steps-preserved : goal.steps-preserved
unfolding rounds
steps-preserved c =
    let h = c.args.self.now.words in
    let words = c.block_words-words.result in
    let v = c.steps.v in
    let t = c.steps.t in
    let next : suc t ≡ t + 1 = omega arith in
    c.round-v.ensures
    ∙ (λ j. round v (c.step_fn.ensures j) (slice_index step_constants t) (slice_index words (c.word_place.ensures.place j)) (slice_index step_shifts t))
    ∙ ap (λ (u : List ℕ). round u (step_fn t (slice_index u 1) (slice_index u 2) (slice_index u 3)) (slice_index step_constants t) (slice_index words (word_place t)) (slice_index step_shifts t)) c.steps.invariant
    ∙ ap (rounds h words) next

pub returns : goal.returns
unfolding compress
returns c =
    let h = c.args.self.now.words in
    let all : c.steps.t ≡ 64 = omega arith in
    ap (add_state h) (c.steps.invariant ∙ (λ j. rounds h (c.block_words-words.ensures j) (all j)))
