-- The tables of the code against the standard's field: each is its function of all 256 bytes.
use Rattle.std.proofs.Common.{◌≡◌, ℕ, ◌-◌, ◌<◌, ◌≤◌, List, [], ◌∷◌, map, refl, ap, sym, ◌∙◌, slice_index, arith}
use Rattle.std.specs.List.{range_with_len}
use Rattle.std.proofs.lemmas.List.FromFn.{get_or-map-range_with_len}
use Rattle.jc_ciphers.specs.declared.aes_field.TheConstants.{S_BOX, INVERSE_S_BOX, DOUBLED_SUBSTITUTES, TRIPLED_SUBSTITUTES, MULTIPLES_9, MULTIPLES_11, MULTIPLES_13, MULTIPLES_14}
use Rattle.jc_ciphers.specs.declared.aes.TheConstants.{ROUND_CONSTANTS}
use Rattle.jc_ciphers.specs.AesField.{xtimes, times_power, times_low, times, squared, inverse, affine, inverse_affine, sub_byte, inv_sub_byte}

-- a table of 256 bytes at one of them
at_byte : (f : ℕ → ℕ) (table : List ℕ) → map f (range_with_len 0 256) ≡ table → (b : ℕ) → b < 256 → slice_index table b ≡ f b
at_byte f table all b below =
    ap (λ (xs : List ℕ). slice_index xs b) (sym all) ∙ get_or-map-range_with_len f 0 256 b b 0 below (omega arith)

-- the inverse of each byte
abbrev pub INVERSES : List ℕ
INVERSES =
    0x00 ∷ 0x01 ∷ 0x8d ∷ 0xf6 ∷ 0xcb ∷ 0x52 ∷ 0x7b ∷ 0xd1 ∷ 0xe8 ∷ 0x4f ∷ 0x29 ∷ 0xc0 ∷ 0xb0 ∷ 0xe1 ∷ 0xe5 ∷ 0xc7
    ∷ 0x74 ∷ 0xb4 ∷ 0xaa ∷ 0x4b ∷ 0x99 ∷ 0x2b ∷ 0x60 ∷ 0x5f ∷ 0x58 ∷ 0x3f ∷ 0xfd ∷ 0xcc ∷ 0xff ∷ 0x40 ∷ 0xee ∷ 0xb2
    ∷ 0x3a ∷ 0x6e ∷ 0x5a ∷ 0xf1 ∷ 0x55 ∷ 0x4d ∷ 0xa8 ∷ 0xc9 ∷ 0xc1 ∷ 0x0a ∷ 0x98 ∷ 0x15 ∷ 0x30 ∷ 0x44 ∷ 0xa2 ∷ 0xc2
    ∷ 0x2c ∷ 0x45 ∷ 0x92 ∷ 0x6c ∷ 0xf3 ∷ 0x39 ∷ 0x66 ∷ 0x42 ∷ 0xf2 ∷ 0x35 ∷ 0x20 ∷ 0x6f ∷ 0x77 ∷ 0xbb ∷ 0x59 ∷ 0x19
    ∷ 0x1d ∷ 0xfe ∷ 0x37 ∷ 0x67 ∷ 0x2d ∷ 0x31 ∷ 0xf5 ∷ 0x69 ∷ 0xa7 ∷ 0x64 ∷ 0xab ∷ 0x13 ∷ 0x54 ∷ 0x25 ∷ 0xe9 ∷ 0x09
    ∷ 0xed ∷ 0x5c ∷ 0x05 ∷ 0xca ∷ 0x4c ∷ 0x24 ∷ 0x87 ∷ 0xbf ∷ 0x18 ∷ 0x3e ∷ 0x22 ∷ 0xf0 ∷ 0x51 ∷ 0xec ∷ 0x61 ∷ 0x17
    ∷ 0x16 ∷ 0x5e ∷ 0xaf ∷ 0xd3 ∷ 0x49 ∷ 0xa6 ∷ 0x36 ∷ 0x43 ∷ 0xf4 ∷ 0x47 ∷ 0x91 ∷ 0xdf ∷ 0x33 ∷ 0x93 ∷ 0x21 ∷ 0x3b
    ∷ 0x79 ∷ 0xb7 ∷ 0x97 ∷ 0x85 ∷ 0x10 ∷ 0xb5 ∷ 0xba ∷ 0x3c ∷ 0xb6 ∷ 0x70 ∷ 0xd0 ∷ 0x06 ∷ 0xa1 ∷ 0xfa ∷ 0x81 ∷ 0x82
    ∷ 0x83 ∷ 0x7e ∷ 0x7f ∷ 0x80 ∷ 0x96 ∷ 0x73 ∷ 0xbe ∷ 0x56 ∷ 0x9b ∷ 0x9e ∷ 0x95 ∷ 0xd9 ∷ 0xf7 ∷ 0x02 ∷ 0xb9 ∷ 0xa4
    ∷ 0xde ∷ 0x6a ∷ 0x32 ∷ 0x6d ∷ 0xd8 ∷ 0x8a ∷ 0x84 ∷ 0x72 ∷ 0x2a ∷ 0x14 ∷ 0x9f ∷ 0x88 ∷ 0xf9 ∷ 0xdc ∷ 0x89 ∷ 0x9a
    ∷ 0xfb ∷ 0x7c ∷ 0x2e ∷ 0xc3 ∷ 0x8f ∷ 0xb8 ∷ 0x65 ∷ 0x48 ∷ 0x26 ∷ 0xc8 ∷ 0x12 ∷ 0x4a ∷ 0xce ∷ 0xe7 ∷ 0xd2 ∷ 0x62
    ∷ 0x0c ∷ 0xe0 ∷ 0x1f ∷ 0xef ∷ 0x11 ∷ 0x75 ∷ 0x78 ∷ 0x71 ∷ 0xa5 ∷ 0x8e ∷ 0x76 ∷ 0x3d ∷ 0xbd ∷ 0xbc ∷ 0x86 ∷ 0x57
    ∷ 0x0b ∷ 0x28 ∷ 0x2f ∷ 0xa3 ∷ 0xda ∷ 0xd4 ∷ 0xe4 ∷ 0x0f ∷ 0xa9 ∷ 0x27 ∷ 0x53 ∷ 0x04 ∷ 0x1b ∷ 0xfc ∷ 0xac ∷ 0xe6
    ∷ 0x7a ∷ 0x07 ∷ 0xae ∷ 0x63 ∷ 0xc5 ∷ 0xdb ∷ 0xe2 ∷ 0xea ∷ 0x94 ∷ 0x8b ∷ 0xc4 ∷ 0xd5 ∷ 0x9d ∷ 0xf8 ∷ 0x90 ∷ 0x6b
    ∷ 0xb1 ∷ 0x0d ∷ 0xd6 ∷ 0xeb ∷ 0xc6 ∷ 0x0e ∷ 0xcf ∷ 0xad ∷ 0x08 ∷ 0x4e ∷ 0xd7 ∷ 0xe3 ∷ 0x5d ∷ 0x50 ∷ 0x1e ∷ 0xb3
    ∷ 0x5b ∷ 0x23 ∷ 0x38 ∷ 0x34 ∷ 0x68 ∷ 0x46 ∷ 0x03 ∷ 0x8c ∷ 0xdd ∷ 0x9c ∷ 0x7d ∷ 0xa0 ∷ 0xcd ∷ 0x1a ∷ 0x41 ∷ 0x1c ∷ []

all-INVERSES : map inverse (range_with_len 0 256) ≡ INVERSES
unfolding xtimes times_power times_low times squared inverse
all-INVERSES = refl

slice_index-INVERSES : (b : ℕ) → b < 256 → slice_index INVERSES b ≡ inverse b
slice_index-INVERSES = at_byte inverse INVERSES all-INVERSES

affine-INVERSES : map affine INVERSES ≡ S_BOX
unfolding affine
affine-INVERSES = refl

all-S_BOX : map sub_byte (range_with_len 0 256) ≡ S_BOX
unfolding sub_byte
all-S_BOX = ap (map affine) all-INVERSES ∙ affine-INVERSES

pub slice_index-S_BOX : (b : ℕ) → b < 256 → slice_index S_BOX b ≡ sub_byte b
slice_index-S_BOX = at_byte sub_byte S_BOX all-S_BOX

inverse_affine-lt : (b : ℕ) → inverse_affine b < 256
unfolding inverse_affine
inverse_affine-lt b = omega arith

inverse_of_affine : ℕ → ℕ
inverse_of_affine b = slice_index INVERSES (inverse_affine b)

all-INVERSE_S_BOX : map inverse_of_affine (range_with_len 0 256) ≡ INVERSE_S_BOX
unfolding inverse_affine inverse_of_affine
all-INVERSE_S_BOX = refl

pub slice_index-INVERSE_S_BOX : (b : ℕ) → b < 256 → slice_index INVERSE_S_BOX b ≡ inv_sub_byte b
unfolding inv_sub_byte inverse_of_affine
slice_index-INVERSE_S_BOX b below =
    at_byte inverse_of_affine INVERSE_S_BOX all-INVERSE_S_BOX b below ∙ slice_index-INVERSES (inverse_affine b) (inverse_affine-lt b)

all-DOUBLED_SUBSTITUTES : map (λ (b : ℕ). times b 2) S_BOX ≡ DOUBLED_SUBSTITUTES
unfolding xtimes times_power times_low times
all-DOUBLED_SUBSTITUTES = refl

pub slice_index-DOUBLED_SUBSTITUTES : (b : ℕ) → b < 256 → slice_index DOUBLED_SUBSTITUTES b ≡ times (sub_byte b) 2
slice_index-DOUBLED_SUBSTITUTES = at_byte (λ (b : ℕ). times (sub_byte b) 2) DOUBLED_SUBSTITUTES (ap (map (λ (b : ℕ). times b 2)) all-S_BOX ∙ all-DOUBLED_SUBSTITUTES)

all-TRIPLED_SUBSTITUTES : map (λ (b : ℕ). times b 3) S_BOX ≡ TRIPLED_SUBSTITUTES
unfolding xtimes times_power times_low times
all-TRIPLED_SUBSTITUTES = refl

pub slice_index-TRIPLED_SUBSTITUTES : (b : ℕ) → b < 256 → slice_index TRIPLED_SUBSTITUTES b ≡ times (sub_byte b) 3
slice_index-TRIPLED_SUBSTITUTES = at_byte (λ (b : ℕ). times (sub_byte b) 3) TRIPLED_SUBSTITUTES (ap (map (λ (b : ℕ). times b 3)) all-S_BOX ∙ all-TRIPLED_SUBSTITUTES)

all-MULTIPLES_9 : map (λ (b : ℕ). times b 9) (range_with_len 0 256) ≡ MULTIPLES_9
unfolding xtimes times_power times_low times
all-MULTIPLES_9 = refl

pub slice_index-MULTIPLES_9 : (b : ℕ) → b < 256 → slice_index MULTIPLES_9 b ≡ times b 9
slice_index-MULTIPLES_9 = at_byte (λ (b : ℕ). times b 9) MULTIPLES_9 all-MULTIPLES_9

all-MULTIPLES_11 : map (λ (b : ℕ). times b 11) (range_with_len 0 256) ≡ MULTIPLES_11
unfolding xtimes times_power times_low times
all-MULTIPLES_11 = refl

pub slice_index-MULTIPLES_11 : (b : ℕ) → b < 256 → slice_index MULTIPLES_11 b ≡ times b 11
slice_index-MULTIPLES_11 = at_byte (λ (b : ℕ). times b 11) MULTIPLES_11 all-MULTIPLES_11

all-MULTIPLES_13 : map (λ (b : ℕ). times b 13) (range_with_len 0 256) ≡ MULTIPLES_13
unfolding xtimes times_power times_low times
all-MULTIPLES_13 = refl

pub slice_index-MULTIPLES_13 : (b : ℕ) → b < 256 → slice_index MULTIPLES_13 b ≡ times b 13
slice_index-MULTIPLES_13 = at_byte (λ (b : ℕ). times b 13) MULTIPLES_13 all-MULTIPLES_13

all-MULTIPLES_14 : map (λ (b : ℕ). times b 14) (range_with_len 0 256) ≡ MULTIPLES_14
unfolding xtimes times_power times_low times
all-MULTIPLES_14 = refl

pub slice_index-MULTIPLES_14 : (b : ℕ) → b < 256 → slice_index MULTIPLES_14 b ≡ times b 14
slice_index-MULTIPLES_14 = at_byte (λ (b : ℕ). times b 14) MULTIPLES_14 all-MULTIPLES_14

power : ℕ → ℕ
power k = times_power 1 (k - 1)

all_round_constants : map power (range_with_len 0 11) ≡ ROUND_CONSTANTS
unfolding power xtimes times_power
all_round_constants = refl

pub round_constants_at : (k : ℕ) → k ≤ 10 → slice_index ROUND_CONSTANTS k ≡ times_power 1 (k - 1)
unfolding power
round_constants_at k within =
    ap (λ (xs : List ℕ). slice_index xs k) (sym all_round_constants)
    ∙ get_or-map-range_with_len power 0 11 k k 0 (omega arith) (omega arith)
