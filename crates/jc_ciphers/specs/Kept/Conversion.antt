-- Messages through a mode of a block cipher and a padding, in pieces.
use Rattle.std.specs.Prelude.{ℕ, zero, suc, ◌+◌, ◌-◌, ◌*◌, ◌/◌, ◌%◌, ◌&&◌, List, ◌++◌, Bool, true, false, Option, Some, None, bytes_eq, length, take, drop, nat_eq, not, slice_index, if◌then◌else◌}
use Rattle.std.specs.Option.{option_and_then, option_map}
use Rattle.jc_ciphers.specs.declared.kept.conversion.Chaining.{Chaining}
use Rattle.jc_ciphers.specs.declared.kept.conversion.Chaining.TheVariants.{Cbc, Ecb}
use Rattle.jc_ciphers.specs.declared.kept.conversion.Conversion.{Conversion}
use Rattle.jc_ciphers.specs.declared.kept.conversion.Direction.{Direction}
use Rattle.jc_ciphers.specs.declared.kept.conversion.Direction.TheVariants.{Decrypt, Encrypt}
use Rattle.jc_ciphers.specs.declared.padding.Padding.{Padding}
use Rattle.jc_ciphers.specs.declared.padding.Padding.TheVariants.{NoPadding, Method1, Method2, Pkcs5}
use Rattle.jc_ciphers.specs.Kept.{block_size, chain_in, decrypted_under, encrypted_under, next_output, next_state, open_in, ready_blocks}
use Rattle.jc_ciphers.specs.Modes.{output, xor_first}
use Rattle.jc_ciphers.specs.Padding.{padding_of}

-- the next chaining block, of a chaining block and a block, and what is written of them, where e enciphers a block and d deciphers it
abbrev pub chained_by : Chaining → Direction → (List ℕ → List ℕ) → ℕ → List ℕ → List ℕ → List ℕ
chained_by Ecb Encrypt e size c b = c
chained_by Ecb Decrypt e size c b = c
chained_by Cbc Encrypt e size c b = e (xor_first c b size)
chained_by Cbc Decrypt e size c b = b

abbrev pub written_by : Chaining → Direction → (List ℕ → List ℕ) → (List ℕ → List ℕ) → ℕ → List ℕ → List ℕ → List ℕ
written_by Ecb Encrypt e d size c b = e b
written_by Ecb Decrypt e d size c b = d b
written_by Cbc Encrypt e d size c b = e (xor_first c b size)
written_by Cbc Decrypt e d size c b = xor_first (d b) c size

-- how many bytes a block of a conversion has
abbrev pub size_of : Conversion → ℕ
size_of v = block_size v.algorithm

-- the same two of a conversion under a key
abbrev pub chained_of : Conversion → List ℕ → List ℕ → List ℕ → List ℕ
chained_of v key c b = chained_by v.chaining v.direction (encrypted_under v.algorithm key) (size_of v) c b

abbrev pub written_of : Conversion → List ℕ → List ℕ → List ℕ → List ℕ
written_of v key c b = written_by v.chaining v.direction (encrypted_under v.algorithm key) (decrypted_under v.algorithm key) (size_of v) c b

-- deciphering holds back the last whole block where a padding may stand in it
abbrev pub holds_back : Direction → Padding → Bool
holds_back Encrypt _ = false
holds_back Decrypt NoPadding = false
holds_back Decrypt Method1 = true
holds_back Decrypt Method2 = true
holds_back Decrypt Pkcs5 = true

-- ---- a piece that another one may follow

-- how many bytes are handed out where n bytes are open or come
abbrev pub released : Conversion → ℕ → ℕ
released v n = ready_blocks (holds_back v.direction v.padding) (size_of v) n * size_of v

-- the state once a piece follows, and what is written then
abbrev pub conversion_after : Conversion → List ℕ → List ℕ → List ℕ → List ℕ → List ℕ
conversion_after v key vector state piece = next_state (chained_of v key) (size_of v) (holds_back v.direction v.padding) vector state piece

abbrev pub conversion_output : Conversion → List ℕ → List ℕ → List ℕ → List ℕ → List ℕ
conversion_output v key vector state piece =
    next_output (chained_of v key) (written_of v key) (size_of v) (holds_back v.direction v.padding) vector state piece

-- ---- the end of a message

-- how many bytes the last block has of n bytes, before which whole blocks came or none
abbrev pub last_size : ℕ → Bool → ℕ → ℕ
last_size size came n = if nat_eq (n % size) 0 then (if came then size else 0) else n % size

-- the bytes with the padding of the message that they end
abbrev pub padded : Padding → ℕ → Bool → List ℕ → List ℕ
padded padding size came m = m ++ padding_of padding size (last_size size came (length m))

-- the least place of a block from n on, of k places, from which on it is the padding
unfoldable pub unpadded_from : Padding → List ℕ → ℕ → ℕ → Option ℕ
unpadded_from p block n zero = None
unpadded_from p block n (suc k) = if bytes_eq (drop n block) (padding_of p (length block) n) then Some n else unpadded_from p block (suc n) k

-- how many bytes of a message's last block come before its padding: the fewest that fit
abbrev pub unpadded_size : Padding → List ℕ → Option ℕ
unpadded_size padding block = unpadded_from padding block 0 (suc (length block))

-- a message of whole blocks without its padding; nothing of an empty one, and of one that ends by no padding
abbrev pub unpadded : Padding → ℕ → List ℕ → Option (List ℕ)
unpadded padding size m =
    if nat_eq (length m) 0 then None
    else option_map (λ n. take (length m - size + n) m) (unpadded_size padding (drop (length m - size) m))

-- what a mode writes of a message of whole blocks; nothing of another one
abbrev pub whole_output : (List ℕ → List ℕ → List ℕ) → (List ℕ → List ℕ → List ℕ) → ℕ → List ℕ → List ℕ → Option (List ℕ)
whole_output chained written size first m =
    if nat_eq (length m % size) 0 then Some (output chained written size first m (length m / size)) else None

-- what is handed out at the end of a message, of which m are the bytes that follow the blocks that are converted; came: it has any bytes
abbrev pub ended_output : Bool → Padding → (List ℕ → List ℕ → List ℕ) → (List ℕ → List ℕ → List ℕ) → ℕ → Bool → List ℕ → List ℕ
    → Option (List ℕ)
ended_output holds padding chained written size came first m =
    if holds then option_and_then (unpadded padding size) (whole_output chained written size first m)
    else whole_output chained written size first (padded padding size came m)

-- the end of a message after a state, with its last piece: nothing where the message is no whole blocks or ends by no padding
unfoldable pub next_end : Bool → Padding → (List ℕ → List ℕ → List ℕ) → (List ℕ → List ℕ → List ℕ) → ℕ → List ℕ → List ℕ → List ℕ
    → Option (List ℕ)
next_end holds padding chained written size vector state piece =
    let m : List ℕ = open_in size state ++ piece in
    ended_output holds padding chained written size (not (nat_eq (slice_index state 0) 0 && nat_eq (length m) 0)) (chain_in size vector state) m

abbrev pub conversion_end : Conversion → List ℕ → List ℕ → List ℕ → List ℕ → Option (List ℕ)
conversion_end v key vector state piece =
    next_end (holds_back v.direction v.padding) v.padding (chained_of v key) (written_of v key) (size_of v) vector state piece

-- what a whole message becomes
abbrev pub converted : Conversion → List ℕ → List ℕ → List ℕ → Option (List ℕ)
converted v key vector m =
    ended_output (holds_back v.direction v.padding) v.padding (chained_of v key) (written_of v key) (size_of v) (not (nat_eq (length m) 0)) vector m
