use Rattle.std.proofs.Common.{◌≡◌, ◌∙◌, ◌-◌, ◌+◌, ℕ, List, suc, ap, arith}
use Rattle.jc_ciphers.specs.Aes.{add_round_key, cipher_with, mix_columns, rounds, shift_rows, sub_bytes}
use Rattle.jc_ciphers.proofs.aes.cipher_with.Goals as goal

pub round-init : goal.round-init
unfolding rounds
round-init c = c.add_round_key-s.ensures

pub round-preserved : goal.round-preserved
unfolding rounds
round-preserved c =
    let w = c.args.w.now in
    let i = c.round.i in
    let next : suc i ≡ i + 1 = omega arith in
    c.add_round_key-s-in-round.ensures
    ∙ ap (λ (s : List ℕ). add_round_key s w (i + 1)) (c.sub_shift_and_mix.ensures ∙ ap (λ (s : List ℕ). mix_columns (shift_rows (sub_bytes s))) c.round.invariant)
    ∙ ap (rounds w c.args.block.now) next

pub returns : goal.returns
unfolding cipher_with
returns c =
    let w = c.args.w.now in
    let all : c.round.i ≡ c.args.count - 1 = omega arith in
    c.add_round_key.ensures
    ∙ ap (λ (s : List ℕ). add_round_key s w c.args.count) (c.sub_and_shift.ensures
    ∙ ap (λ (s : List ℕ). shift_rows (sub_bytes s)) (c.round.invariant ∙ ap (rounds w c.args.block.now) all))
