-- Numbers that bytes are.
use Rattle.std.proofs.Common.{◌≡◌, ◌≤◌, ◌<◌, ◌+◌, ◌-◌, ◌^◌, ℕ, zero, suc, Bool, List, Some, None, length, ap, arith}
use Rattle.std.proofs.Common.{if◌then◌else◌}
use Rattle.std.proofs.lemmas.Bool.{le-ltb, lt-ltb}
use Rattle.jc_api_crypto.specs.InitializedMessageDigest.{count_in, first_number}

-- more bytes are no smaller number
no_smaller : (bytes : List ℕ) (n k m : ℕ) → m ≡ k + n → first_number bytes n ≤ first_number bytes m
unfolding first_number
no_smaller bytes n zero m is =
    let same : m ≡ n = omega (arith, is) in
    let alike = ap (first_number bytes) same in
    omega (arith, alike)
no_smaller bytes n (suc k) zero is = absurd (omega (arith, is))
no_smaller bytes n (suc k) (suc m) is = let less = no_smaller bytes n k m (omega (arith, is)) in omega (arith, less)

-- a number below 2^64 is counted, and no other
pub counted : (bytes : List ℕ) → first_number bytes (length bytes) < 2 ^ 64 → count_in bytes ≡ Some (first_number bytes (length bytes))
counted bytes less = ap (λ (b : Bool). if b then Some (first_number bytes (length bytes)) else None) (lt-ltb (first_number bytes (length bytes)) (2 ^ 64) less)

pub not_counted : (bytes : List ℕ) (n : ℕ) → n < length bytes → 2 ^ 56 ≤ first_number bytes n → count_in bytes ≡ None
unfolding first_number
not_counted bytes n less many =
    let next : 2 ^ 64 ≤ first_number bytes (suc n) = omega (arith, many) in
    let longer = no_smaller bytes (suc n) (length bytes - suc n) (length bytes) (omega (arith, less)) in
    ap (λ (b : Bool). if b then Some (first_number bytes (length bytes)) else None)
    (le-ltb (first_number bytes (length bytes)) (2 ^ 64) (omega (arith, next, longer)))
