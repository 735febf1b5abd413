-- Powers of a number.
use Rattle.std.proofs.Common.{◌≡◌, ◌∙◌, ℕ, ◌*◌, ◌^◌, ap, arith}
use Rattle.std.proofs.Math.Nat.{pow-suc, pow-zero}

pub first_power : (n : ℕ) → n ^ 1 ≡ n
first_power n =
    let one : 1 * n ≡ n = omega arith in
    pow-suc n 0 ∙ ap (λ (m : ℕ). m * n) (pow-zero n) ∙ one

pub square : (n : ℕ) → n ^ 2 ≡ n * n
square n = pow-suc n 1 ∙ ap (λ (m : ℕ). m * n) (first_power n)

pub cube : (n : ℕ) → n ^ 3 ≡ n * n * n
cube n = pow-suc n 2 ∙ ap (λ (m : ℕ). m * n) (square n)
