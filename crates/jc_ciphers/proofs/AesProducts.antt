-- Products with the constants of MixColumns and InvMixColumns, by doubling.
use Rattle.std.proofs.Common.{◌≡◌, ℕ, bit_xor, refl}
use Rattle.std.specs.Int.Bits.{xor_zero_r}
use Rattle.jc_ciphers.specs.AesField.{xtimes, times_power, times_low, times}

pub times-2 : (b : ℕ) → times b 2 ≡ xtimes b
unfolding times_power times_low times
times-2 b = refl

pub times-3 : (b : ℕ) → times b 3 ≡ bit_xor b (xtimes b)
unfolding times_power times_low times
times-3 b = refl

pub times-9 : (b : ℕ) → times b 9 ≡ bit_xor b (xtimes (xtimes (xtimes b)))
unfolding times_power times_low times
times-9 b = refl

pub times-11 : (b : ℕ) → times b 11 ≡ bit_xor (bit_xor b (xtimes b)) (xtimes (xtimes (xtimes b)))
unfolding times_power times_low times
times-11 b = refl

pub times-13 : (b : ℕ) → times b 13 ≡ bit_xor (bit_xor b (xtimes (xtimes b))) (xtimes (xtimes (xtimes b)))
unfolding times_power times_low times
times-13 b = refl

pub times-14 : (b : ℕ) → times b 14 ≡ bit_xor (bit_xor (xtimes b) (xtimes (xtimes b))) (xtimes (xtimes (xtimes b)))
unfolding times_power times_low times
times-14 b = refl

pub xor_zero : (a : ℕ) → bit_xor a 0 ≡ a
xor_zero a = xor_zero_r a
