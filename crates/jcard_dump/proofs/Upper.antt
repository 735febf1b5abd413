-- Hexadecimal text in upper case.
use Rattle.std.proofs.Common.{◌≡◌, ℕ, ◌/◌, ◌%◌, List, [], ◌∷◌, map, slice_index, get_or, refl, sym, ◌∙◌, ap}
use Rattle.std.specs.Char.{to_ascii_uppercase}
use Rattle.std.proofs.Math.ListN.{get_or-map}
use Rattle.hex.specs.Hex.{encode_lower, encode_upper, encode_with, lower_digits, upper_digits}

digit_upper : (k : ℕ) → to_ascii_uppercase (slice_index lower_digits k) ≡ slice_index upper_digits k
digit_upper k =
    let e : get_or (map to_ascii_uppercase lower_digits) k 0 ≡ to_ascii_uppercase (get_or lower_digits k 0) = get_or-map to_ascii_uppercase lower_digits k 0 in
    sym e

upper : (xs : List ℕ) → map to_ascii_uppercase (encode_with lower_digits xs) ≡ encode_with upper_digits xs
unfolding encode_with
upper [] = refl
upper (b ∷ rest) =
    ap (λ n. n ∷ to_ascii_uppercase (slice_index lower_digits (b % 16)) ∷ map to_ascii_uppercase (encode_with lower_digits rest)) (digit_upper (b / 16))
    ∙ ap (λ n. slice_index upper_digits (b / 16) ∷ n ∷ map to_ascii_uppercase (encode_with lower_digits rest)) (digit_upper (b % 16))
    ∙ ap (λ l. slice_index upper_digits (b / 16) ∷ slice_index upper_digits (b % 16) ∷ l) (upper rest)

-- the lower case text made upper case is the upper case text
pub upper_of_lower : (xs : List ℕ) → map to_ascii_uppercase (encode_lower xs) ≡ encode_upper xs
upper_of_lower xs = upper xs
