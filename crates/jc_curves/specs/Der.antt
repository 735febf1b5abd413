-- Signatures in DER (X.690): a SEQUENCE of two INTEGERs that are not negative, with contents of at most 67 bytes.
use Rattle.std.specs.Prelude.{◌≡◌, ℕ, ◌<◌, ◌≤◌, ◌⊎◌, List, [], ◌∷◌, ◌++◌, length, slice_index}
use Rattle.jc_numbers.specs.Numbers.{number_of_bytes}

-- contents of an INTEGER (X.690, 8.3) of which the highest bit is 0, and that have as few bytes as can be
pub record IsMinimal (bytes : List ℕ) : Type 0 where
  pub not_negative : slice_index bytes 0 < 128
  pub shortest : 1 < length bytes → slice_index bytes 0 ≡ 0 → 128 ≤ slice_index bytes 1

-- an INTEGER with these contents
pub record IsIntegerOf (contents bytes : List ℕ) : Type 0 where
  pub some : 0 < length contents
  pub few : length contents ≤ 67
  pub minimal : IsMinimal contents
  pub is : bytes ≡ 0x02 ∷ length contents ∷ contents

-- the INTEGER of a number
pub record IsInteger (n : ℕ) (bytes : List ℕ) : Type 0 where
  pub contents : List ℕ
  pub integer : IsIntegerOf contents bytes
  pub number : number_of_bytes contents ≡ n

-- bytes are an INTEGER with these contents, and a rest
pub record BeginsWithInteger (contents rest bytes : List ℕ) : Type 0 where
  pub part : List ℕ
  pub integer : IsIntegerOf contents part
  pub is : bytes ≡ part ++ rest

-- the head of a SEQUENCE of this size: the size is one byte below 128, and stands after 81 where it is not
abbrev pub IsHead : ℕ → List ℕ → Type 0
IsHead size head = ((size < 128) × (head ≡ 0x30 ∷ size ∷ [])) ⊎ ((128 ≤ size) × (head ≡ 0x30 ∷ 0x81 ∷ size ∷ []))

-- a SEQUENCE with these contents
pub record IsSequence (contents bytes : List ℕ) : Type 0 where
  pub head : List ℕ
  pub is_head : IsHead (length contents) head
  pub is : bytes ≡ head ++ contents

-- bytes are the encoding of r and s
pub record IsSignatureEncoding (r s : ℕ) (bytes : List ℕ) : Type 0 where
  pub left : List ℕ
  pub right : List ℕ
  pub left_is : IsInteger r left
  pub right_is : IsInteger s right
  pub is : IsSequence (left ++ right) bytes
