use Rattle.std.proofs.Common.{◌≡◌, ◌<◌, ◌∙◌, ◌+◌, ◌%◌, ◌++◌, [], ◌∷◌, ℕ, length, map, slice_index, refl, sym, subst, ap, arith}
use Rattle.std.proofs.lemmas.List.{length-set, drop-set-lt, take_all, take_more_set}
use Rattle.jc_rsa.specs.EmePkcs1.{AreNonzero}
use Rattle.jc_rsa.proofs.Xor.{drop_next, same_at}
use Rattle.jc_public_keys.proofs.NonzeroBytes.{map_more, map_nonzero}
use Rattle.jc_public_keys.proofs.rsa_ciphers.without_zeros.Goals as goal

pub bytes-init : goal.bytes-init
bytes-init c = (refl, refl, refl)

pub bytes-preserved : goal.bytes-preserved
bytes-preserved c =
    let to = c.bytes.to in
    let old = c.args.to.now in
    let i = c.bytes.i in
    let inv = c.bytes.invariant in
    let v = slice_index to i % 255 + 1 in
    let within : i < length old = omega arith in
    let is = ap (λ (x : ℕ). x % 255 + 1) (same_at to old i inv.1) in (
      length-set to i v ∙ inv.0,
      drop-set-lt (i + 1) to i v (omega arith) ∙ drop_next to old i inv.1,
      take_more_set to i v (omega (arith, inv.0)) ∙ (λ j. inv.2 j ++ is j ∷ []) ∙ sym (map_more old i within),
    )

pub returns : goal.returns
returns c =
    let inv = c.bytes.invariant in
    let old = c.args.to.now in
    let all : c.bytes.i ≡ length old = omega (arith, inv.0) in
    let bytes = sym (take_all c.bytes.i c.bytes.to (omega (arith, inv.0, all))) ∙ inv.2
    ∙ ap (map (λ (b : ℕ). b % 255 + 1)) (take_all c.bytes.i old (omega (arith, all))) in
    record { bytes = bytes; nonzero = subst AreNonzero (sym bytes) (map_nonzero old) }
