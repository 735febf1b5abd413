use Rattle.std.proofs.Common.{◌≡◌, ◌∙◌, ◌+◌, ◌*◌, ◌<◌, ◌++◌, ◌∷◌, [], ℕ, suc, length, take, refl, sym, ap, arith}
use Rattle.std.proofs.Math.ListN.{set, length-set}
use Rattle.std.proofs.Math.Seq.{take-suc-set}
use Rattle.jc_api_keys.specs.Shorts.{first_shorts}
use Rattle.jc_api_keys.proofs.shorts.put_shorts_of.Goals as goal

pub words-init : goal.words-init
unfolding first_shorts
words-init c = (refl, c.requires)

pub words-preserved : goal.words-preserved
unfolding first_shorts
words-preserved c =
    let i = c.words.i in
    let to = c.words.to in
    let inv = c.words.invariant in
    let v = c.from.result * 256 + c.from-in-words.result in
    let less : i < length to = omega arith in
    let next : suc i ≡ i + 1 = omega arith in
    let kept : length (set to i v) ≡ length to = length-set to i v in (
      ap (λ (n : ℕ). take n (set to i v)) (sym next) ∙ take-suc-set to i v less
          ∙ (λ j. inv.0 j ++ (c.from.ensures j * 256 + c.from-in-words.ensures j) ∷ []) ∙ ap (first_shorts c.args.bytes.now) next,
      omega (arith, inv.1, kept),
    )
