-- Paddings. The last block of a message has u bytes: none if the message is empty, else from 1 to a whole block.
use Rattle.std.specs.Prelude.{◌≡◌, ℕ, ◌+◌, ◌-◌, ◌%◌, List, [], ◌∷◌, length, drop, replicate, nat_eq, if◌then◌else◌}
use Rattle.jc_ciphers.specs.declared.padding.Padding.{Padding}
use Rattle.jc_ciphers.specs.declared.padding.Padding.TheVariants.{NoPadding, Method1, Method2, Pkcs5}

-- how many bytes of a block are left after the first u; after a full block, a whole one
abbrev pub space : ℕ → ℕ → ℕ
space size u = if nat_eq u size then size else size - u

-- what follows the message: nothing; zeros, none after a whole block (ISO 9797-1, method 1); a bit 1 and zeros (method 2); n bytes of
-- the value n (PKCS 5)
abbrev pub padding_of : Padding → ℕ → ℕ → List ℕ
padding_of NoPadding size u = []
padding_of Method1 size u = replicate (size - u) 0
padding_of Method2 size u = 0x80 ∷ replicate (space size u - 1) 0
padding_of Pkcs5 size u = replicate (space size u) (space size u)

-- with the padding after its last block, of u bytes, a message is whole blocks
abbrev pub IsWhole : Padding → ℕ → ℕ → Type 0
IsWhole padding size u = (u + length (padding_of padding size u)) % size ≡ 0

-- from byte n on a block is the padding of n bytes
abbrev pub EndsByPadding : Padding → List ℕ → ℕ → Type 0
EndsByPadding padding block n = drop n block ≡ padding_of padding (length block) n
