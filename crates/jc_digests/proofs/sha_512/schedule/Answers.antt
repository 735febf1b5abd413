use Rattle.std.proofs.Common.{◌≡◌, ◌∙◌, ◌+◌, ◌-◌, ◌∷◌, [], ◌++◌, ◌≤◌, ℕ, suc, length, take, length-take-le, refl, sym, ap, arith}
use Rattle.std.proofs.lemmas.List.{length-set, take_all, take_more_set}
use Rattle.sha2.specs.Sha512.{first_words, next_word, schedule}
use Rattle.jc_digests.proofs.sha_512.schedule.Goals as goal

pub first-init : goal.first-init
unfolding first_words
first-init c = (refl, refl)

pub first-preserved : goal.first-preserved
unfolding first_words
first-preserved c =
    let block = c.args.block.now in
    let i = c.first.i in
    let inv = c.first.invariant in
    let next : suc i ≡ i + 1 = omega arith in (
      take_more_set c.first.words i c.word_at.result (omega (arith, inv.1)) ∙ (λ j. inv.0 j ++ c.word_at.ensures j ∷ []) ∙ ap (first_words block) next,
      length-set c.first.words i c.word_at.result ∙ inv.1,
    )

pub next-init : goal.next-init
unfolding schedule
next-init c =
    let inv = c.first.invariant in
    let all : c.first.i ≡ 16 = omega arith in
    (ap (λ (n : ℕ). take n c.first.words) (sym all) ∙ inv.0 ∙ ap (first_words c.args.block.now) all, inv.1)

pub next-preserved : goal.next-preserved
unfolding schedule
next-preserved c =
    let block = c.args.block.now in
    let t = c.next.t in
    let words = c.next.words in
    let inv = c.next.invariant in
    let low : 16 ≤ t = omega arith in
    let size : length (take t words) ≡ t = length-take-le t words (omega (arith, inv.1)) in
    let long : length (take t words) ≡ t - 16 + 16 = omega (arith, size, low) in
    let more : suc (t - 16) ≡ t + 1 - 16 = omega (arith, low) in (
      take_more_set words t c.next_word.result (omega (arith, inv.1))
          ∙ (λ j. inv.0 j ++ (c.next_word.ensures ∙ (λ k. next_word (inv.0 k) (long k))) j ∷ [])
          ∙ ap (schedule block) more,
      length-set words t c.next_word.result ∙ inv.1,
    )

pub returns : goal.returns
returns c =
    let inv = c.next.invariant in
    let all : c.next.t ≡ 80 = omega arith in
    let rest : c.next.t - 16 ≡ 80 - 16 = omega (arith, all) in
    sym (take_all c.next.t c.next.words (omega (arith, inv.1, all))) ∙ inv.0 ∙ ap (schedule c.args.block.now) rest
