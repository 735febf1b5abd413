use Rattle.std.proofs.Common.{◌≡◌, ◌∙◌, ◌+◌, ◌*◌, ◌++◌, ℕ, suc, take, ap, sym, arith, refl}
use Rattle.std.proofs.lemmas.List.{take_all}
use Rattle.jc_ciphers.specs.Des.{halves, schedule, select, shifted}
use Rattle.jc_ciphers.specs.DesTables.{key_choice_1, key_choice_2}
use Rattle.jc_ciphers.proofs.des_schedule.schedule.Goals as goal

pub keys-init : goal.keys-init
unfolding halves schedule
keys-init c = (c.select.ensures ∙ ap (select key_choice_1) c.bits_of.ensures, refl, refl)

pub keys-preserved : goal.keys-preserved
unfolding halves schedule
keys-preserved c =
    let key = c.args.key.now in
    let n = c.keys.n in
    let next : suc n ≡ n + 1 = omega arith in
    let turned = c.shifted-halves.ensures ∙ (λ j. shifted (c.keys.invariant.0 j) (c.shift.ensures j)) in
    let bytes : 48 * (n + 1) ≡ 48 * n + 48 = omega arith in
    let before = c.keys.invariant.1 in
    let word = c.select-in-keys.ensures ∙ ap (select key_choice_2) turned in (
      turned ∙ ap (halves key) next,
      ap (λ (k : ℕ). take k c.put_key.new.keys) bytes ∙ c.put_key.ensures ∙ (λ j. before j ++ word j) ∙ ap (schedule key) next,
      omega (arith, c.keys.invariant.2, c.put_key.auto.keys),
    )

pub returns : goal.returns
returns c =
    let all : c.keys.n ≡ 16 = omega arith in
    sym (take_all 768 c.keys.keys (omega (arith, c.keys.invariant.2))) ∙ rw all at c.keys.invariant.1
