use Rattle.std.proofs.Common.{◌≡◌, ◌∙◌, ◌+◌, ◌*◌, ◌++◌, ℕ, suc, length, take, refl, sym, ap, arith}
use Rattle.std.specs.Int.{to_be_bytes, w16}
use Rattle.std.proofs.lemmas.List.{take_all}
use Rattle.jc_digests.specs.Pieces.{bytes_of_words}
use Rattle.jc_api_keys.proofs.shorts.put_bytes_of.Goals as goal

pub words-init : goal.words-init
unfolding bytes_of_words
words-init c = (refl, c.requires)

pub words-preserved : goal.words-preserved
unfolding bytes_of_words
words-preserved c =
    let i = c.words.i in
    let inv = c.words.invariant in
    let next : suc i ≡ i + 1 = omega arith in
    let long : length c.to_be_bytes.result ≡ 2 = ap length c.to_be_bytes.ensures in
    let end : 2 * (i + 1) ≡ 2 * i + length c.to_be_bytes.result = omega (arith, long) in (
      ap (λ (n : ℕ). take n c.put.new.bytes) end ∙ c.put.ensures ∙ (λ j. inv.0 j ++ c.to_be_bytes.ensures j)
          ∙ ap (bytes_of_words (to_be_bytes w16) c.args.words.now) next,
      c.put.auto.bytes ∙ inv.1,
    )

pub returns : goal.returns
returns c =
    let i = c.words.i in
    let inv = c.words.invariant in
    let all : i ≡ length c.args.words.now = omega arith in
    sym (take_all (2 * i) c.words.to (omega (arith, inv.1, all))) ∙ inv.0 ∙ ap (bytes_of_words (to_be_bytes w16) c.args.words.now) all
