use Rattle.std.proofs.Common.{◌≡◌, ◌∙◌, ◌+◌, ◌++◌, [], ◌∷◌, ℕ, suc, bit_xor, length, slice_index, refl, sym, ap, arith}
use Rattle.std.proofs.lemmas.List.{length-set, drop-set-lt, take_all, take_more_set}
use Rattle.jc_ciphers.specs.Modes.{xor_first}
use Rattle.jc_ciphers.proofs.Front.{drop_more, same_at}
use Rattle.jc_ciphers.proofs.bytes.add.Goals as goal

pub bytes-init : goal.bytes-init
unfolding xor_first
bytes-init c = (refl, refl, refl)

pub bytes-preserved : goal.bytes-preserved
unfolding xor_first
bytes-preserved c =
    let to = c.bytes.to in
    let old = c.args.to.now in
    let block = c.args.block.now in
    let i = c.bytes.i in
    let inv = c.bytes.invariant in
    let v = bit_xor (slice_index to i) (slice_index block i) in
    let next : suc i ≡ i + 1 = omega arith in
    let is = ap (λ (x : ℕ). bit_xor x (slice_index block i)) (same_at to old i inv.1) in (
      length-set to i v ∙ inv.0,
      drop-set-lt (i + 1) to i v (omega arith) ∙ drop_more to old i inv.1,
      take_more_set to i v (omega (arith, inv.0)) ∙ (λ j. inv.2 j ++ is j ∷ []) ∙ ap (xor_first old block) next,
    )

pub returns : goal.returns
returns c =
    let inv = c.bytes.invariant in
    let all : c.bytes.i ≡ length c.args.block.now = omega arith in
    sym (take_all c.bytes.i c.bytes.to (omega (arith, inv.0))) ∙ inv.2 ∙ ap (xor_first c.args.to.now c.args.block.now) all
