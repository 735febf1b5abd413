-- Numbers, references and bytes in lines.
use Rattle.std.specs.Prelude.{ℕ, zero, suc, ◌++◌, ◌∷◌, [], ◌/◌, ◌%◌, ◌==◌, List, codes, decimal, if◌then◌else◌}
use Rattle.std.specs.Fmt.{signed_decimal}
use Rattle.std.specs.Int.{w16, cast_signed}
use Rattle.hex.specs.Hex.{encode_upper}

-- a number between two texts
abbrev pub labelled_text : List ℕ → ℕ → List ℕ → List ℕ
labelled_text before n behind = before ++ decimal n ++ behind

-- the two bytes of a word in hexadecimal
abbrev pub word_text : ℕ → List ℕ
word_text word = encode_upper (word / 256 ∷ word % 256 ∷ [])

-- a reference: the address of an object, or null
abbrev pub reference_text : ℕ → List ℕ
reference_text word = if word == 0 then codes "null" else labelled_text (codes "@") word []

-- the short that a word holds, with its sign
abbrev pub short_text : ℕ → List ℕ
short_text word = signed_decimal (cast_signed w16 word)

-- this many texts, by their numbers from 0 on
unfoldable pub each_text : (ℕ → List ℕ) → ℕ → List ℕ
each_text one zero = []
each_text one (suc n) = each_text one n ++ one n
