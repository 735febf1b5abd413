-- What new keys of a pair are made of, and what they are in the data of their key objects.
use Rattle.std.specs.Int.{to_be_bytes, w16}
use Rattle.std.specs.Prelude.{ℕ, pos, List, ◌++◌, length, Option, Some, None, Result, Ok, Err}
use Rattle.sha2.specs.Sha256.{sha256}
use Rattle.jc_frames.specs.declared.outcome.FrameExit.{FrameExit}
use Rattle.jc_frames.specs.declared.outcome.FrameExit.TheVariants.{Throw}
use Rattle.jc_memory.specs.Cells.{word_at}
use Rattle.jc_memory.specs.State.{MemoryState}
use Rattle.jc_linker.specs.Values.{Packages}
use Rattle.jc_world.specs.Arrays.{bytes_in}
use Rattle.jc_api_keys.specs.Exceptions.{illegal_value}
use Rattle.jc_api_pairs.specs.KeyPair.Changes.{PairChange}
use Rattle.jc_api_pairs.specs.KeyPair.Keys.{times_cell}
use Rattle.jc_api_pairs.specs.declared.key_pair.keys.KeysOfPair.{KeysOfPair}

-- the seed of the next keys: SHA-256 of the platform table's random bytes, the pair, how many times its keys were made, and the data of its private key
abbrev pub seed_of : Packages → MemoryState → KeysOfPair → List ℕ
seed_of p m pair = sha256 (((p.platform.random ++ to_be_bytes w16 pair.own) ++ to_be_bytes w16 (word_at m pair.own times_cell))
    ++ bytes_in m pair.private.elements)

-- a part of a key in its data: how many bytes it has, and these
abbrev pub part_bytes : List ℕ → List ℕ
part_bytes bytes = to_be_bytes w16 (length bytes) ++ bytes

-- bytes for the data of the public key from a place on, and for the first of the private key's
pub record NewKeys : Type 0 where
  pub start : ℕ
  pub public : List ℕ
  pub private : List ℕ

abbrev pub sets_keys_of : KeysOfPair → NewKeys → PairChange
sets_keys_of pair new = record {
  public = record { array = pair.public.elements.array; start = pos new.start; bytes = new.public };
  private = record { array = pair.private.elements.array; start = pos 0; bytes = new.private };
}

-- what is set; where there are no keys it throws
abbrev pub change_if_made : KeysOfPair → Option NewKeys → Result PairChange FrameExit
change_if_made pair None = Err (Throw illegal_value)
change_if_made pair (Some new) = Ok (sets_keys_of pair new)
