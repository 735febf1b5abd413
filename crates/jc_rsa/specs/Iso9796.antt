-- Digital signature scheme 1 of ISO/IEC 9796-2, of moduli of whole bytes.
use Rattle.std.specs.Prelude.{◌≡◌, ◌≤◌, ℕ, zero, suc, ◌+◌, ◌-◌, Bool, IsTrue, List, [], ◌∷◌, ◌++◌, length, replicate, if◌then◌else◌}
use Rattle.jc_rsa.specs.declared.iso_9796.Trailer.{Trailer}
use Rattle.jc_rsa.specs.declared.iso_9796.Trailer.TheVariants.{Implicit, Explicit}

-- the trailer: BC, or an identifier and CC
abbrev pub trailer_bytes : Trailer → List ℕ
trailer_bytes Implicit = 0xbc ∷ []
trailer_bytes (Explicit identifier) = identifier ∷ 0xcc ∷ []

-- the bits 01, the bit that says whether the message has more than is recoverable, and a zero
abbrev pub header : Bool → ℕ
header more = if more then 0x60 else 0x40

-- the header and the padding as n bytes: bits zero and a bit 1, where B stands for each 0000 and A for 0001
unfoldable pub heading : Bool → ℕ → List ℕ
heading more zero = []
heading more (suc zero) = (header more + 0x0a) ∷ []
heading more (suc (suc n)) = (header more + 0x0b) ∷ replicate n 0xbb ++ 0xba ∷ []

-- n bytes: the heading, the recoverable part of a message, its digest, and the trailer
unfoldable pub representative : Bool → List ℕ → List ℕ → Trailer → ℕ → List ℕ
representative more m digest trailer n =
    heading more (n - length m - length digest - length (trailer_bytes trailer)) ++ m ++ digest ++ trailer_bytes trailer

-- how many bytes of a message are recoverable
abbrev pub capacity : ℕ → Trailer → ℕ → ℕ
capacity digest_size trailer n = n - digest_size - length (trailer_bytes trailer) - 1

-- this is made of a recoverable part and a digest, of `size` bytes; where the message has more, all that fits is recoverable
pub record IsRepresentative (trailer : Trailer) (size : ℕ) (more : Bool) (m digest em : List ℕ) : Type 0 where
  pub whole : length digest ≡ size
  pub fits : length m + size + length (trailer_bytes trailer) + 1 ≤ length em
  pub full : IsTrue more → length m + size + length (trailer_bytes trailer) + 1 ≡ length em
  pub is : em ≡ representative more m digest trailer (length em)
