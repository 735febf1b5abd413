-- Hexadecimal text in upper case.
use Rattle.std.proofs.Common.{◌≡◌, ℕ, ◌/◌, ◌%◌, List, [], ◌∷◌, ◌++◌, append_assoc, drop, slice_index, refl, sym, take, ◌∙◌, ap}
use Rattle.std.proofs.lemmas.List.{take-append-drop}
use Rattle.hex.specs.Hex.{encode_upper, encode_with, upper_digits}
use Rattle.jcard_script.specs.Script.{text_of}

-- the text of two parts
upper_parts : (xs ys : List ℕ) → encode_upper (xs ++ ys) ≡ encode_upper xs ++ encode_upper ys
unfolding encode_with
upper_parts [] ys = refl
upper_parts (b ∷ rest) ys = ap (λ l. slice_index upper_digits (b / 16) ∷ slice_index upper_digits (b % 16) ∷ l) (upper_parts rest ys)

-- the line of bytes is that of those from the nth on, after the text of the first n
pub line_parts : (n : ℕ) (bytes : List ℕ) → text_of bytes ≡ encode_upper (take n bytes) ++ text_of (drop n bytes)
line_parts n bytes =
    ap (λ b. encode_upper b ++ 10 ∷ []) (sym (take-append-drop n bytes)) ∙ ap (λ t. t ++ 10 ∷ []) (upper_parts (take n bytes) (drop n bytes))
    ∙ append_assoc (encode_upper (take n bytes)) (encode_upper (drop n bytes)) (10 ∷ [])
