-- Bytes that stand in shorts, two in each, the first one high.
use Rattle.std.specs.Prelude.{ℕ, zero, suc, ◌+◌, ◌*◌, ◌/◌, List, [], ◌∷◌, ◌++◌, length, slice_index}
use Rattle.std.specs.Int.{to_be_bytes, w16}
use Rattle.jc_digests.specs.Pieces.{bytes_of_words}

-- the bytes of these shorts
abbrev pub bytes_of_shorts : List ℕ → List ℕ
bytes_of_shorts words = bytes_of_words (to_be_bytes w16) words (length words)

-- the first n shorts of these bytes
unfoldable pub first_shorts : List ℕ → ℕ → List ℕ
first_shorts bytes zero = []
first_shorts bytes (suc n) = first_shorts bytes n ++ (slice_index bytes (2 * n) * 256 + slice_index bytes (2 * n + 1)) ∷ []

-- all of them
abbrev pub shorts_of : List ℕ → List ℕ
shorts_of bytes = first_shorts bytes (length bytes / 2)
