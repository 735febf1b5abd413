-- A search through numbers in turn.
use Rattle.std.proofs.Common.{ℕ, suc, ◌+◌, ◌-◌, ◌≡◌, ◌<◌, Bool, false, sym, ◌∙◌, ap, arith, find, if◌then◌else◌, Some}
use Rattle.std.specs.List.{range_with_len}

-- where the first number has it not, the search goes on after it
pub find_next : (p : ℕ → Bool) (n e : ℕ) → n < e → p n ≡ false → find p (range_with_len (n + 1) (e - (n + 1))) ≡ find p (range_with_len n (e - n))
find_next p n e below hasn =
    let more : suc (e - (n + 1)) ≡ e - n = omega (arith, below) in
    let behind : find p (range_with_len (n + 1) (e - (n + 1))) ≡ find p (range_with_len n (suc (e - (n + 1)))) =
    sym (ap (λ b. if b then Some n else find p (range_with_len (n + 1) (e - (n + 1)))) hasn) in
    behind ∙ ap (λ k. find p (range_with_len n k)) more
