-- The outputs of pieces and of the end are what becomes of the whole message, of each cipher and mode.
use Rattle.std.proofs.Common.{◌≡◌, ◌∙◌, ◌≤◌, ◌+◌, ◌*◌, ℕ, drop, take, Bool, true, false, List, [], ◌∷◌, ◌++◌, bit_xor, length, length-append, replicate, slice_index, nat_eq, if◌then◌else◌, refl, sym, ap, arith}
use Rattle.jc_ciphers.specs.Aes as Aes
use Rattle.jc_ciphers.specs.Des as Des
use Rattle.jc_ciphers.specs.TripleDes.{parts_of, triple_decrypted, triple_encrypted}
use Rattle.jc_ciphers.proofs.DesInverses.{IsBlock-decrypted, IsBlock-encrypted}
use Rattle.jc_ciphers.specs.declared.kept.BlockAlgorithm.{BlockAlgorithm}
use Rattle.jc_ciphers.specs.declared.kept.BlockAlgorithm.TheVariants as algorithm
use Rattle.jc_ciphers.specs.declared.kept.conversion.Chaining.{Chaining}
use Rattle.jc_ciphers.specs.declared.kept.conversion.Chaining.TheVariants.{Cbc, Ecb}
use Rattle.jc_ciphers.specs.declared.kept.conversion.Conversion.{Conversion}
use Rattle.jc_ciphers.specs.declared.kept.conversion.Direction.{Direction}
use Rattle.jc_ciphers.specs.declared.kept.conversion.Direction.TheVariants.{Decrypt, Encrypt}
use Rattle.jc_ciphers.specs.Kept.Conversion.{chained_by, chained_of, holds_back, size_of, written_by, written_of}
use Rattle.jc_ciphers.specs.Laws.{AreOfTheWhole, ConversionsAreOfTheWhole, HoldsMessage}
use Rattle.jc_ciphers.specs.Kept.{block_size, chain_in, decrypted_under, encrypted_under, open_in, ready_blocks, state_size}
use Rattle.jc_ciphers.specs.Modes.{chain_after, output, xor_first}
use Rattle.jc_ciphers.proofs.InPieces.{Holds, KeepsBlocks, longer_held}
use Rattle.jc_ciphers.proofs.EndsInPieces.{ended_held}
use Rattle.jc_ciphers.proofs.Ready.{ready_zero}
use Rattle.jc_ciphers.proofs.ModeInverses.{length-xor_first}
use Rattle.std.proofs.lemmas.List.{drop_all}

-- ---- ciphers make blocks of blocks

long-aes : (key b : List ℕ) → length (Aes.encrypted key b) ≡ 16
unfolding Aes.encrypted Aes.cipher_with
long-aes key b = refl

long-aes-back : (key b : List ℕ) → length (Aes.decrypted key b) ≡ 16
unfolding Aes.decrypted Aes.inv_cipher_with
long-aes-back key b = refl

long-des : (t : Bool) (key b : List ℕ) → length (if t then Des.encrypted key b else triple_encrypted (parts_of key) b) ≡ 8
unfolding triple_encrypted
long-des true key b = (IsBlock-encrypted key b).long
long-des false key b = (IsBlock-encrypted (parts_of key).third (Des.decrypted (parts_of key).second (Des.encrypted (parts_of key).first b))).long

long-des-back : (t : Bool) (key b : List ℕ) → length (if t then Des.decrypted key b else triple_decrypted (parts_of key) b) ≡ 8
unfolding triple_decrypted
long-des-back true key b = (IsBlock-decrypted key b).long
long-des-back false key b = (IsBlock-decrypted (parts_of key).first (Des.encrypted (parts_of key).second (Des.decrypted (parts_of key).third b))).long

pub length-encrypted_under : (a : BlockAlgorithm) (key b : List ℕ) → length (encrypted_under a key b) ≡ block_size a
length-encrypted_under algorithm.Aes key b = long-aes key b
length-encrypted_under algorithm.Des key b = long-des (nat_eq (length key) 8) key b

pub length-decrypted_under : (a : BlockAlgorithm) (key b : List ℕ) → length (decrypted_under a key b) ≡ block_size a
length-decrypted_under algorithm.Aes key b = long-aes-back key b
length-decrypted_under algorithm.Des key b = long-des-back (nat_eq (length key) 8) key b

some_bytes : (a : BlockAlgorithm) → 1 ≤ block_size a
some_bytes algorithm.Aes = omega arith
some_bytes algorithm.Des = omega arith

keeps : (n : Chaining) (w : Direction) (e : List ℕ → List ℕ) (size : ℕ) → ((b : List ℕ) → length (e b) ≡ size) → KeepsBlocks (chained_by n w e size) size
unfolding KeepsBlocks
keeps Ecb Encrypt e size long = λ c b chain block. chain
keeps Ecb Decrypt e size long = λ c b chain block. chain
keeps Cbc Encrypt e size long = λ c b chain block. long (xor_first c b size)
keeps Cbc Decrypt e size long = λ c b chain block. block

keeps_of : (v : Conversion) (key : List ℕ) → KeepsBlocks (chained_of v key) (size_of v)
keeps_of v key = keeps v.chaining v.direction (encrypted_under v.algorithm key) (size_of v) (length-encrypted_under v.algorithm key)

makes : (n : Chaining) (w : Direction) (e d : List ℕ → List ℕ) (size : ℕ) → ((b : List ℕ) → length (e b) ≡ size)
    → ((b : List ℕ) → length (d b) ≡ size) → KeepsBlocks (written_by n w e d size) size
unfolding KeepsBlocks
makes Ecb Encrypt e d size long back = λ c b chain block. long b
makes Ecb Decrypt e d size long back = λ c b chain block. back b
makes Cbc Encrypt e d size long back = λ c b chain block. long (xor_first c b size)
makes Cbc Decrypt e d size long back = λ c b chain block. length-xor_first (d b) c size

makes_of : (v : Conversion) (key : List ℕ) → KeepsBlocks (written_of v key) (size_of v)
makes_of v key =
    makes v.chaining v.direction (encrypted_under v.algorithm key) (decrypted_under v.algorithm key) (size_of v)
    (length-encrypted_under v.algorithm key) (length-decrypted_under v.algorithm key)

-- ---- the law

zero_first : (a : BlockAlgorithm) → slice_index (replicate (state_size a) 0) 0 ≡ 0
zero_first algorithm.Aes = refl
zero_first algorithm.Des = refl

zero_second : (a : BlockAlgorithm) → slice_index (replicate (state_size a) 0) 1 ≡ 0
zero_second algorithm.Aes = refl
zero_second algorithm.Des = refl

nothing_held : (v : Conversion) (key vector : List ℕ) → HoldsMessage v key vector [] (replicate (state_size v.algorithm) 0) []
unfolding chain_after output
nothing_held v key vector =
    let size : ℕ = size_of v in
    let state : List ℕ = replicate (state_size v.algorithm) 0 in
    let none = ready_zero (holds_back v.direction v.padding) size (some_bytes v.algorithm) in
    let kept : List ℕ = take size (drop 2 state) in
    record {
      came = ap (λ (n : ℕ). nat_eq n 0) (zero_first v.algorithm);
      chain = ap (λ (n : ℕ). if nat_eq n 0 then vector else kept) (zero_first v.algorithm)
          ∙ sym (ap (chain_after (chained_of v key) size vector []) none);
      rest = ap (λ (n : ℕ). take n (drop (2 + size) state)) (zero_second v.algorithm) ∙ sym (drop_all (ready_blocks (holds_back v.direction v.padding) size 0 * size) [] (omega arith));
      out = sym (ap (output (chained_of v key) (written_of v key) size vector []) none);
    }

of_general : (v : Conversion) (key vector m state w : List ℕ)
    → Holds (chained_of v key) (written_of v key) (size_of v) (holds_back v.direction v.padding) vector m state w → HoldsMessage v key vector m state w
of_general v key vector m state w held = record { came = held.came; chain = held.chain; rest = held.rest; out = held.out }

general_of : (v : Conversion) (key vector m state w : List ℕ)
    → HoldsMessage v key vector m state w → Holds (chained_of v key) (written_of v key) (size_of v) (holds_back v.direction v.padding) vector m state w
general_of v key vector m state w held = record { came = held.came; chain = held.chain; rest = held.rest; out = held.out }

pub of_the_whole : ConversionsAreOfTheWhole
of_the_whole v key vector wide = record {
  nothing = nothing_held v key vector;
  longer = λ m piece state w held.
      of_general v key vector (m ++ piece) _ _
      (longer_held (chained_of v key) (written_of v key) (size_of v) (holds_back v.direction v.padding) vector m piece state w (some_bytes v.algorithm)
      (keeps_of v key) wide (general_of v key vector m state w held));
  ended = λ m piece state w held.
      ended_held (chained_of v key) (written_of v key) (size_of v) (holds_back v.direction v.padding) v.padding vector m piece state w
      (some_bytes v.algorithm) (keeps_of v key) (makes_of v key) wide (general_of v key vector m state w held);
}
