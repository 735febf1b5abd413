use Rattle.std.proofs.Common.{◌≡◌, ◌<◌, ◌∙◌, ◌+◌, ◌++◌, [], ◌∷◌, ℕ, List, bit_xor, length, slice_index, refl, sym, ap, arith}
use Rattle.std.proofs.lemmas.List.{length-set, drop-set-lt, take_all, take_more_set}
use Rattle.jc_rsa.specs.Bytes.{xor}
use Rattle.jc_rsa.proofs.Xor.{drop_next, same_at, xor_more}
use Rattle.jc_rsa.proofs.bytes.xor.Goals as goal

pub bytes-init : goal.bytes-init
unfolding xor
bytes-init c = (refl, refl, refl)

pub bytes-preserved : goal.bytes-preserved
bytes-preserved c =
    let to = c.bytes.to in
    let old = c.args.to.now in
    let mask = c.args.mask.now in
    let i = c.bytes.i in
    let inv = c.bytes.invariant in
    let v = bit_xor (slice_index to i) (slice_index mask i) in
    let within : i < length old = omega arith in
    let is = ap (λ (x : ℕ). bit_xor x (slice_index mask i)) (same_at to old i inv.1) in (
      length-set to i v ∙ inv.0,
      drop-set-lt (i + 1) to i v (omega arith) ∙ drop_next to old i inv.1,
      take_more_set to i v (omega (arith, inv.0)) ∙ (λ j. inv.2 j ++ is j ∷ []) ∙ sym (xor_more old mask i within),
    )

pub returns : goal.returns
returns c =
    let inv = c.bytes.invariant in
    let old = c.args.to.now in
    let all : c.bytes.i ≡ length c.args.mask.now = omega arith in
    sym (take_all c.bytes.i c.bytes.to (omega (arith, inv.0, all))) ∙ inv.2
    ∙ ap (λ (xs : List ℕ). xor xs c.args.mask.now) (take_all c.bytes.i old (omega (arith, all)))
