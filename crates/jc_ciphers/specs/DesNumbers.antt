-- Lists of bits as numbers, which code computes with, and its tables.
use Rattle.std.specs.Prelude.{ℕ, zero, suc, ◌+◌, ◌*◌, ◌<◌, List, slice_index, ◌≡◌, ◌-◌, ◌/◌, ◌%◌, ◌^◌, map, nat_eq, if◌then◌else◌}
use Rattle.jc_ciphers.specs.Des.{bit, listed}
use Rattle.std.specs.List.{range_with_len}
use Rattle.jc_ciphers.specs.DesTables.{permutation, substitutions}

-- these are bits
abbrev pub AreBits : (ℕ → ℕ) → Type 0
AreBits f = (i : ℕ) → f i < 2

abbrev pub IsBits : List ℕ → Type 0
IsBits xs = (i : ℕ) → slice_index xs i < 2

-- the number whose n bits are f 0, …, f (n - 1), the highest first
unfoldable pub number_of : (ℕ → ℕ) → ℕ → ℕ
number_of f zero = 0
number_of f (suc n) = number_of f n * 2 + f n

-- a list's bits from bit 6 * i on, as numbers of six bits
abbrev pub six_of_bits : List ℕ → ℕ → ℕ
six_of_bits bits i =
    32 * bit bits (6 * i) + 16 * bit bits (6 * i + 1) + 8 * bit bits (6 * i + 2) + 4 * bit bits (6 * i + 3)
    + 2 * bit bits (6 * i + 4) + bit bits (6 * i + 5)

abbrev pub sixes : List ℕ → List ℕ
sixes bits = listed (six_of_bits bits) 128

-- ---- tables that gather the bits of a block group by group, as code has them, and what code keeps of a block

-- where bit j comes from under a table of numbers from 1
abbrev pub source : List ℕ → ℕ → ℕ
source table j = slice_index table j - 1

-- bit j of a permutation, of the four bits v at place n and of zeros elsewhere
abbrev pub nibble_bit : List ℕ → ℕ → ℕ → ℕ → ℕ
nibble_bit table n v j = if nat_eq (source table j / 4) n then v / 2 ^ (3 - source table j % 4) % 2 else 0

abbrev pub nibble_entry : List ℕ → ℕ → ℕ
nibble_entry table k = number_of (nibble_bit table (k / 16) (k % 16)) 64

-- what a permutation makes of each four bits at each of 16 places
unfoldable pub nibble_table : List ℕ → List ℕ
nibble_table table = map (nibble_entry table) (range_with_len 0 256)

-- what S-box n makes of the six bits of v
abbrev pub box : ℕ → ℕ → ℕ
box n v = slice_index substitutions (64 * n
    + (16 * (2 * (v / 2 ^ 5 % 2) + v / 2 ^ 0 % 2) + (8 * (v / 2 ^ 4 % 2) + 4 * (v / 2 ^ 3 % 2) + 2 * (v / 2 ^ 2 % 2) + v / 2 ^ 1 % 2)))

-- what P makes of S-box k / 64 at the six bits of k % 64, and of zeros from the others
unfoldable pub box_entry : ℕ → ℕ
box_entry k = number_of (nibble_bit permutation (k / 64) (box (k / 64) (k % 64))) 32

-- what the S-boxes and P make of each six bits at each of eight places
abbrev pub box_table : List ℕ
box_table = map box_entry (range_with_len 0 512)

-- 34 bits: the last of 32, all of them, and the first
abbrev pub wide_bit : (ℕ → ℕ) → ℕ → ℕ
wide_bit f i = f ((31 + i) % 32)

-- the halves of 64 bits as two numbers
pub record IsHalves (bits : List ℕ) (l r : ℕ) : Type 0 where
  pub left : l ≡ number_of (slice_index bits) 32
  pub right : r ≡ number_of (λ i. slice_index bits (32 + i)) 32
