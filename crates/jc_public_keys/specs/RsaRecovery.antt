-- Messages as they are encoded to be signed by RSA so that their first bytes can be recovered (ISO/IEC 9796-2, scheme 1, with the trailer BC), for a
-- modulus of n bytes.
use Rattle.std.specs.Str.{bytes_eq}
use Rattle.std.specs.Prelude.{ℕ, ◌+◌, nat_le, nat_lt, ◌&&◌, Bool, List, length, take}
use Rattle.jc_rsa.specs.Iso9796.{capacity, representative}
use Rattle.jc_rsa.specs.declared.iso_9796.Trailer.TheVariants.{Implicit}

-- the encoding of a message by its digest and all or at least n of its first bytes: those that can be recovered, and the digest
unfoldable pub recovery_encoding : List ℕ → List ℕ → ℕ → List ℕ
recovery_encoding first digest n =
    let most : ℕ = capacity (length digest) Implicit n in
    representative (nat_lt most (length first)) (take most first) digest Implicit n

-- bytes are that encoding
unfoldable pub is_recovery_encoding : List ℕ → List ℕ → List ℕ → Bool
is_recovery_encoding first digest em = nat_le (length digest + 2) (length em) && bytes_eq em (recovery_encoding first digest (length em))
