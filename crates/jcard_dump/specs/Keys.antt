-- The lines of keys.
use Rattle.std.specs.Prelude.{ℕ, ◌==◌, ◌&&◌, ◌||◌, ◌++◌, nat_le, Bool, List, [], codes, decimal, slice_index, Option, Some, None, if◌then◌else◌}
use Rattle.jc_objects.specs.Keys.{key_at}
use Rattle.jc_objects.specs.declared.keys.KeyFacts.{KeyFacts}
use Rattle.jcard_dump.specs.Texts.{labelled_text, reference_text}

-- KeyBuilder's name of a type of keys of pairs, or its number
unfoldable pub pair_text : ℕ → List ℕ
pair_text n = if n == 4 then codes "RSA_PUBLIC"
    else (if n == 5 then codes "RSA_PRIVATE"
    else (if n == 6 then codes "RSA_CRT_PRIVATE"
    else (if n == 11 then codes "EC_FP_PUBLIC"
    else (if n == 12 then codes "EC_FP_PRIVATE"
    else (if n == 22 then codes "RSA_PRIVATE_TRANSIENT_RESET"
    else (if n == 23 then codes "RSA_PRIVATE_TRANSIENT_DESELECT"
    else (if n == 24 then codes "RSA_CRT_PRIVATE_TRANSIENT_RESET"
    else (if n == 25 then codes "RSA_CRT_PRIVATE_TRANSIENT_DESELECT"
    else (if n == 30 then codes "EC_FP_PRIVATE_TRANSIENT_RESET"
    else (if n == 31 then codes "EC_FP_PRIVATE_TRANSIENT_DESELECT" else decimal n))))))))))

-- KeyBuilder's name of a type of keys, or its number
abbrev pub type_text : ℕ → List ℕ
type_text n = if n == 1 then codes "DES_TRANSIENT_RESET"
    else (if n == 2 then codes "DES_TRANSIENT_DESELECT"
    else (if n == 3 then codes "DES"
    else (if n == 13 then codes "AES_TRANSIENT_RESET"
    else (if n == 14 then codes "AES_TRANSIENT_DESELECT"
    else (if n == 15 then codes "AES"
    else (if n == 19 then codes "HMAC_TRANSIENT_RESET"
    else (if n == 20 then codes "HMAC_TRANSIENT_DESELECT"
    else (if n == 21 then codes "HMAC" else pair_text n))))))))

-- the number of a type is that of keys of pairs
abbrev pub is_pair_type : ℕ → Bool
is_pair_type n = nat_le 4 n && nat_le n 6 || (nat_le 11 n && nat_le n 12 || (nat_le 22 n && nat_le n 25 || nat_le 30 n && nat_le n 31))

abbrev pub set_text : Bool → List ℕ
set_text is_set = if is_set then codes ", set" else codes ", not set"

-- how many bits a key has, and whether it is set; nothing where no array holds it
abbrev pub size_text : Option KeyFacts → List ℕ
size_text None = []
size_text (Some key) = labelled_text (codes ", ") key.size (codes " bits") ++ set_text key.is_set

-- how many bits a key of a type has, and whether it is set; nothing of a key of a pair
abbrev pub found_text : List ℕ → ℕ → ℕ → List ℕ
found_text w n array = if is_pair_type n then [] else size_text (key_at w array)

-- a key by its fields: its type, what is said of the key that its array holds, and the array
abbrev pub key_text : List ℕ → List ℕ → List ℕ
key_text w cells = codes ": type " ++ (type_text (slice_index cells 0) ++ (found_text w (slice_index cells 0) (slice_index cells 1)
    ++ (codes ", key " ++ reference_text (slice_index cells 1))))
