-- Codes by block ciphers whose state stands as bytes between two pieces of a message. The last block of what came stays open.
use Rattle.std.specs.Prelude.{◌≡◌, ℕ, ◌*◌, ◌/◌, Bool, true, List, [], ◌++◌, Option, Some, None, length, replicate, take, drop, nat_eq, if◌then◌else◌}
use Rattle.std.specs.Option.{option_map}
use Rattle.jc_ciphers.specs.Aes as Aes
use Rattle.jc_ciphers.specs.Des as Des
use Rattle.jc_ciphers.specs.TripleDes.{IsTripleLength, parts_of}
use Rattle.jc_ciphers.specs.declared.kept.BlockAlgorithm.{BlockAlgorithm}
use Rattle.jc_ciphers.specs.declared.kept.BlockAlgorithm.TheVariants as block
use Rattle.jc_ciphers.specs.declared.kept.macs.MacAlgorithm.{MacAlgorithm}
use Rattle.jc_ciphers.specs.declared.kept.macs.MacAlgorithm.TheVariants.{Cbc, Algorithm3, Cmac}
use Rattle.jc_ciphers.specs.declared.padding.Padding.{Padding}
use Rattle.jc_ciphers.specs.declared.padding.Padding.TheVariants.{NoPadding, Method1, Method2, Pkcs5}
use Rattle.jc_ciphers.specs.Kept.{IsKeyLength, block_size, chain_in, encrypted_under, next_state, open_in, ready_blocks, state_size}
use Rattle.jc_ciphers.specs.Macs.{cmac_end, finished_3}
use Rattle.jc_ciphers.specs.Modes.{chain_after, xor_first}
use Rattle.jc_ciphers.specs.Padding.{padding_of}

-- the block cipher of an algorithm
abbrev pub cipher_of : MacAlgorithm → BlockAlgorithm
cipher_of (Cbc a p) = a
cipher_of (Algorithm3 p) = block.Des
cipher_of Cmac = block.Aes

-- a key of algorithm 3 has two parts or three
abbrev pub IsMacKeyLength : MacAlgorithm → ℕ → Type 0
IsMacKeyLength (Cbc a p) n = IsKeyLength a n
IsMacKeyLength (Algorithm3 p) n = IsTripleLength n
IsMacKeyLength Cmac n = IsKeyLength block.Aes n

-- the key of the blocks: of algorithm 3 the first part alone
abbrev pub blocks_key : MacAlgorithm → List ℕ → List ℕ
blocks_key (Cbc a p) key = key
blocks_key (Algorithm3 p) key = take 8 key
blocks_key Cmac key = key

-- the next chaining block
abbrev pub cbc_chained : BlockAlgorithm → List ℕ → List ℕ → List ℕ → List ℕ
cbc_chained a key c b = encrypted_under a key (xor_first c b (block_size a))

-- the state once a piece follows, of the blocks under a cipher; and of an algorithm
abbrev pub blocks_after : BlockAlgorithm → List ℕ → List ℕ → List ℕ → List ℕ → List ℕ
blocks_after a key vector state piece = next_state (cbc_chained a key) (block_size a) true vector state piece

abbrev pub mac_state_after : MacAlgorithm → List ℕ → List ℕ → List ℕ → List ℕ → List ℕ
mac_state_after m key vector state piece = blocks_after (cipher_of m) (blocks_key m key) vector state piece

-- ---- the end of a message. Its last block is its last bytes, from none to a block.

-- whether a padding after its u bytes makes whole blocks, one at least
abbrev pub is_closed : Padding → ℕ → ℕ → Bool
is_closed NoPadding size u = nat_eq u size
is_closed Method1 size u = true
is_closed Method2 size u = true
is_closed Pkcs5 size u = true

abbrev pub padded : Padding → ℕ → List ℕ → List ℕ
padded p size rest = rest ++ padding_of p size (length rest)

-- the chaining block after its blocks
abbrev pub last_chain : Padding → BlockAlgorithm → List ℕ → List ℕ → List ℕ → List ℕ
last_chain p a key chain rest =
    chain_after (cbc_chained a key) (block_size a) chain (padded p (block_size a) rest) (length (padded p (block_size a) rest) / block_size a)

-- the end of algorithm 3: with a third part the last encryption is under it, else under the first
abbrev pub finished_by : List ℕ → List ℕ → List ℕ
finished_by key chain = finished_3 (Des.encrypted (parts_of key).third) (Des.decrypted (parts_of key).second) chain

-- the code, where a padding makes whole blocks
abbrev pub closed_mac : Padding → BlockAlgorithm → List ℕ → List ℕ → List ℕ → Option (List ℕ)
closed_mac p a key chain rest = if is_closed p (block_size a) (length rest) then Some (last_chain p a key chain rest) else None

abbrev pub mac_from : MacAlgorithm → List ℕ → List ℕ → List ℕ → Option (List ℕ)
mac_from (Cbc a p) key chain rest = closed_mac p a key chain rest
mac_from (Algorithm3 p) key chain rest = option_map (finished_by key) (closed_mac p block.Des (take 8 key) chain rest)
mac_from Cmac key chain rest = Some (cmac_end (Aes.encrypted key) 16 chain rest (length rest))

-- the code of a message that a state has taken in and that ends by a piece; none where no padding makes whole blocks of it
abbrev pub mac_of_state : MacAlgorithm → List ℕ → List ℕ → List ℕ → List ℕ → Option (List ℕ)
mac_of_state m key vector state piece =
    let size : ℕ = block_size (cipher_of m) in
    let after : List ℕ = mac_state_after m key vector state piece in
    mac_from m key (chain_in size vector after) (open_in size after)

-- ---- the code of a message in pieces

-- the last block of a message, from no byte to a whole block, and the chaining block before it
abbrev pub last_of : ℕ → List ℕ → List ℕ
last_of size m = drop (ready_blocks true size (length m) * size) m

abbrev pub chain_before : BlockAlgorithm → List ℕ → List ℕ → List ℕ → List ℕ
chain_before a key vector m = chain_after (cbc_chained a key) (block_size a) vector m (ready_blocks true (block_size a) (length m))

-- algorithm 1 of ISO 9797-1: the last chaining block of the padded message, where a padding makes whole blocks
abbrev pub mac_1 : Padding → BlockAlgorithm → List ℕ → List ℕ → List ℕ → Option (List ℕ)
mac_1 p a key vector m =
    let size : ℕ = block_size a in
    let whole : List ℕ = m ++ padding_of p size (length (last_of size m)) in
    if is_closed p size (length (last_of size m)) then Some (chain_after (cbc_chained a key) size vector whole (length whole / size)) else None

-- the code of a message
abbrev pub mac_of : MacAlgorithm → List ℕ → List ℕ → List ℕ → Option (List ℕ)
mac_of (Cbc a p) key vector m = mac_1 p a key vector m
mac_of (Algorithm3 p) key vector m = option_map (finished_by key) (mac_1 p block.Des (take 8 key) vector m)
mac_of Cmac key vector m = Some (cmac_end (Aes.encrypted key) 16 (chain_before block.Aes key vector m) (last_of 16 m) (length (last_of 16 m)))

-- a state holds a message: its chaining block is that before the last block, which is open
pub record HoldsBlocks (a : BlockAlgorithm) (key vector m state : List ℕ) : Type 0 where
  pub chain : chain_in (block_size a) vector state ≡ chain_before a key vector m
  pub rest : open_in (block_size a) state ≡ last_of (block_size a) m

-- of a message in any pieces the code is that of the whole: a state to which nothing came holds the empty message, once a piece follows it
-- holds the longer message, and the code of a state and a last piece is that of the message that they make
pub record MacsAreOfTheWhole (x : MacAlgorithm) (key vector : List ℕ) : Type 0 where
  pub nothing : HoldsBlocks (cipher_of x) (blocks_key x key) vector [] (replicate (state_size (cipher_of x)) 0)
  pub longer : (m piece state : List ℕ) → HoldsBlocks (cipher_of x) (blocks_key x key) vector m state
      → HoldsBlocks (cipher_of x) (blocks_key x key) vector (m ++ piece) (mac_state_after x key vector state piece)
  pub code : (m piece state : List ℕ) → HoldsBlocks (cipher_of x) (blocks_key x key) vector m state
      → mac_of_state x key vector state piece ≡ mac_of x key vector (m ++ piece)

abbrev pub MacsInPieces : Type 0
MacsInPieces = (x : MacAlgorithm) (key vector : List ℕ) → length vector ≡ block_size (cipher_of x) → MacsAreOfTheWhole x key vector
