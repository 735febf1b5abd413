use Rattle.std.proofs.Common.{◌≡◌, ◌∙◌, ◌+◌, [], ◌∷◌, ◌++◌, ℕ, suc, bit_xor, length, slice_index, refl, sym, ap, arith}
use Rattle.std.proofs.lemmas.List.{length-set, take_all, take_more_set}
use Rattle.jc_ciphers.specs.Macs.{listed}
use Rattle.jc_ciphers.proofs.hmac.mark.Goals as goal

pub bytes-init : goal.bytes-init
unfolding listed
bytes-init c = (refl, c.requires)

pub bytes-preserved : goal.bytes-preserved
unfolding listed
bytes-preserved c =
    let i = c.bytes.i in
    let key = c.args.key.now in
    let f : ℕ → ℕ = λ k. bit_xor (slice_index key k) c.args.pad in
    let inv = c.bytes.invariant in
    let next : suc i ≡ i + 1 = omega arith in (
      take_more_set c.bytes.to i (f i) (omega (arith, inv.1)) ∙ (λ j. inv.0 j ++ f i ∷ []) ∙ ap (listed f) next,
      length-set c.bytes.to i (f i) ∙ inv.1,
    )

pub returns : goal.returns
returns c =
    let inv = c.bytes.invariant in
    let key = c.args.key.now in
    let all : c.bytes.i ≡ length key = omega arith in
    sym (take_all c.bytes.i c.bytes.to (omega (arith, inv.1, all))) ∙ inv.0 ∙ ap (listed (λ (k : ℕ). bit_xor (slice_index key k) c.args.pad)) all
