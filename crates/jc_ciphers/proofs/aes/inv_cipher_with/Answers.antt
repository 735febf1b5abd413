use Rattle.std.proofs.Common.{◌≡◌, ◌∙◌, ◌-◌, ◌+◌, ℕ, List, suc, ap, arith}
use Rattle.jc_ciphers.specs.Aes.{add_round_key, inv_cipher_with, inv_mix_columns, inv_rounds, inv_shift_rows, inv_sub_bytes}
use Rattle.jc_ciphers.proofs.aes.inv_cipher_with.Goals as goal

pub round-init : goal.round-init
unfolding inv_rounds
round-init c = c.add_round_key-s.ensures

pub round-preserved : goal.round-preserved
unfolding inv_rounds
round-preserved c =
    let w = c.args.w.now in
    let count = c.args.count in
    let i = c.round.i in
    let next : suc i ≡ i + 1 = omega arith in
    c.inv_mix_columns-s.ensures
    ∙ ap inv_mix_columns (c.add_round_key.ensures ∙ ap (λ (s : List ℕ). add_round_key s w (count - (i + 1))) (c.inv_shift_and_sub.ensures ∙ ap (λ (s : List ℕ). inv_sub_bytes (inv_shift_rows s)) c.round.invariant))
    ∙ ap (inv_rounds w count c.args.block.now) next

pub returns : goal.returns
unfolding inv_cipher_with
returns c =
    let w = c.args.w.now in
    let all : c.round.i ≡ c.args.count - 1 = omega arith in
    c.add_round_key-2.ensures
    ∙ ap (λ (s : List ℕ). add_round_key s w 0) (c.inv_shift_and_sub-2.ensures
    ∙ ap (λ (s : List ℕ). inv_sub_bytes (inv_shift_rows s)) (c.round.invariant ∙ ap (inv_rounds w c.args.count c.args.block.now) all))
