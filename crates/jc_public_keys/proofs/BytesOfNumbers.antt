-- The bytes of a number are those that make it, and how many bits it has.
use Rattle.std.proofs.Common.{◌≡◌, ◌∙◌, ◌+◌, ◌-◌, ◌*◌, ◌/◌, ◌%◌, ◌^◌, ◌<◌, ◌≤◌, ℕ, zero, suc, List, [], ◌∷◌, length, take, drop, get_or, refl, sym, subst, ap, inl, inr, arith}
use Rattle.std.proofs.lemmas.Bool.{cases_lt}
use Rattle.std.proofs.lemmas.List.{get_or-drop, take_all}
use Rattle.std.proofs.lemmas.Nat.{div-mul-add, mod-mul-add}
use Rattle.std.proofs.Math.Nat.{pow-le-pow_right}
use Rattle.jc_numbers.specs.Numbers.{IsBitLength, number_of_bytes}
use Rattle.jc_numbers.proofs.NumbersOfBytes.{byte_first, byte_power, bytes_taken_lt}
use Rattle.jc_curves.specs.Curves.{octets}
use Rattle.jc_public_keys.specs.Rsa.{bytes_of_number}

-- they make a number below a power of 256
pub number_lt : (bytes : List ℕ) → ((k : ℕ) → get_or bytes k 0 < 256) → number_of_bytes bytes < 256 ^ length bytes
number_lt bytes small =
    let most : length bytes ≤ length bytes = omega arith in
    subst (λ (xs : List ℕ). number_of_bytes xs < 256 ^ length bytes) (take_all (length bytes) bytes most) (bytes_taken_lt bytes (length bytes) most small)

pub bytes_are : (bytes : List ℕ) → ((k : ℕ) → get_or bytes k 0 < 256) → bytes_of_number (length bytes) (number_of_bytes bytes) ≡ bytes
unfolding bytes_of_number
bytes_are [] small = refl
bytes_are (b ∷ bs) small =
    let p : ℕ = 256 ^ length bs in
    let y : ℕ = number_of_bytes bs in
    let rest : (k : ℕ) → get_or bs k 0 < 256 = λ k. small (suc k) in
    let below : y < p = number_lt bs rest in
    let first : b < 256 = small 0 in
    let byte : b % 256 ≡ b = omega (arith, first) in
    let head : number_of_bytes (b ∷ bs) / p % 256 ≡ b =
    ap (λ (x : ℕ). x / p % 256) (byte_first b bs) ∙ ap (λ (x : ℕ). x % 256) (div-mul-add b p y below) ∙ byte in
    let tail : bytes_of_number (length bs) (number_of_bytes (b ∷ bs) % p) ≡ bs =
    ap (λ (x : ℕ). bytes_of_number (length bs) (x % p)) (byte_first b bs) ∙ ap (bytes_of_number (length bs)) (mod-mul-add b p y below) ∙ bytes_are bs rest in
    (λ j. head j ∷ tail j)

-- bytes that make this number are its bytes
pub bytes_from : (bytes : List ℕ) (count x : ℕ) → ((k : ℕ) → get_or bytes k 0 < 256) → length bytes ≡ count → number_of_bytes bytes ≡ x
    → bytes ≡ bytes_of_number count x
bytes_from bytes count x small long is =
    sym (bytes_are bytes small) ∙ (λ j. bytes_of_number (long j) (is j))

-- bytes of parts
pub taken_bytes : (xs : List ℕ) (n : ℕ) → ((k : ℕ) → get_or xs k 0 < 256) → (k : ℕ) → get_or (take n xs) k 0 < 256
taken_bytes [] zero small k = omega arith
taken_bytes [] (suc n) small k = omega arith
taken_bytes (x ∷ xs) zero small k = omega arith
taken_bytes (x ∷ xs) (suc n) small zero = small 0
taken_bytes (x ∷ xs) (suc n) small (suc k) = taken_bytes xs n (λ j. small (suc j)) k

pub dropped_bytes : (xs : List ℕ) (n : ℕ) → ((k : ℕ) → get_or xs k 0 < 256) → (k : ℕ) → get_or (drop n xs) k 0 < 256
dropped_bytes xs n small k = subst (λ t. t < 256) (sym (get_or-drop n xs k 0)) (small (n + k))

-- ---- bits

-- powers of 2 in order
pow_order : (i j : ℕ) → 2 ^ i < 2 ^ j → i < j
pow_order i j lt = elim (cases_lt i j) [
  | inl less ↦ less
  | inr more ↦ (let le : 2 ^ j ≤ 2 ^ i = pow-le-pow_right (omega arith) more in absurd (omega (arith, lt, le)))
]

-- a number whose first byte is not 0 needs as many bytes as it has
pub octets_are : (bytes : List ℕ) (bits : ℕ) → ((k : ℕ) → get_or bytes k 0 < 256) → 0 < get_or bytes 0 0 → IsBitLength (number_of_bytes bytes) bits
    → octets bits ≡ length bytes
octets_are [] bits small some is = absurd (omega (arith, some))
octets_are (b ∷ bs) bits small some is =
    let n : ℕ = length bs in
    let most : number_of_bytes (b ∷ bs) < 2 ^ (8 * suc n) = subst (λ s. number_of_bytes (b ∷ bs) < s) (byte_power (suc n)) (number_lt (b ∷ bs) small) in
    let least : 2 ^ (8 * n) ≤ number_of_bytes (b ∷ bs) = from_first b (256 ^ n) (number_of_bytes bs) (2 ^ (8 * n)) _ some (byte_power n) (byte_first b bs) in
    let above : 8 * n < bits = pow_order (8 * n) bits (omega (arith, least, is.0)) in
    let within : bits - 1 < 8 * suc n = pow_order (bits - 1) (8 * suc n) (let le = is.1 (omega (arith, above)) in omega (arith, le, most)) in
    omega (arith, above, within)
  where
    from_first : (b p y q t : ℕ) → 0 < b → p ≡ q → t ≡ b * p + y → q ≤ t
    from_first b p y q t some same is = grind (arith, some, same, is)

-- a number needs no more bytes than it is given by
pub octets_few : (bytes : List ℕ) (bits : ℕ) → ((k : ℕ) → get_or bytes k 0 < 256) → IsBitLength (number_of_bytes bytes) bits → octets bits ≤ length bytes
octets_few bytes zero small is = omega arith
octets_few bytes (suc b) small is =
    let most : number_of_bytes bytes < 2 ^ (8 * length bytes) = subst (λ s. number_of_bytes bytes < s) (byte_power (length bytes)) (number_lt bytes small) in
    let one_less : suc b - 1 ≡ b = omega arith in
    let least : 2 ^ b ≤ number_of_bytes bytes = subst (λ n. 2 ^ n ≤ number_of_bytes bytes) one_less (is.1 (omega arith)) in
    let within : b < 8 * length bytes = pow_order b (8 * length bytes) (omega (arith, least, most)) in
    omega (arith, within)
