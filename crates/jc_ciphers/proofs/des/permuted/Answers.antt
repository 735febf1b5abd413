use Rattle.std.proofs.Common.{◌≡◌, ◌<◌, ◌/◌, ◌∙◌, ℕ, bit_xor, refl, sym, ap, arith}
use Rattle.jc_ciphers.specs.DesNumbers.{number_of, source}
use Rattle.jc_ciphers.proofs.DesGatherings.{entry}
use Rattle.jc_ciphers.proofs.DesNumbers.{gathered_all, gathered_bit, gathered_more, gathered_none}
use Rattle.jc_ciphers.proofs.des.permuted.Goals as goal

pub nibbles-init : goal.nibbles-init
nibbles-init c = λ f p bits whole is. sym (gathered_none (λ j. source p j / 4) (λ j. f (source p j)) 64)

pub nibbles-preserved : goal.nibbles-preserved
nibbles-preserved c = λ f p bits whole is.
    let i = c.nibbles.i in
    let low : i < 16 = omega arith in
    (λ t. bit_xor (c.nibbles.invariant f p bits whole is t) (entry c.args.table.now p f i c.args.x _ bits is low whole refl t))
    ∙ gathered_more (λ j. source p j / 4) (λ j. f (source p j)) i 64 (λ j. bits (source p j))

pub returns : goal.returns
returns c = λ f p bits whole is places.
    let all : c.nibbles.i ≡ 16 = omega arith in
    c.nibbles.invariant f p bits whole is
    ∙ ap (λ (n : ℕ). number_of (gathered_bit (λ j. source p j / 4) (λ j. f (source p j)) n) 64) all
    ∙ gathered_all (λ j. source p j / 4) (λ j. f (source p j)) 16 64 (λ j low. let at = places j low in omega (arith, at))
