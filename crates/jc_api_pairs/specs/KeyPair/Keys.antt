-- The keys of a pair.
use Rattle.std.specs.Prelude.{ℕ, List, Result, Ok}
use Rattle.jc_heap.specs.Heap.{facts}
use Rattle.jc_frames.specs.declared.cell.Cell.{Cell}
use Rattle.jc_frames.specs.declared.outcome.FrameExit.{FrameExit}
use Rattle.jc_firewall.specs.declared.access.Access.TheVariants.{InstanceField}
use Rattle.jc_memory.specs.Cells.{word_at}
use Rattle.jc_memory.specs.State.{MemoryState}
use Rattle.jc_platform.specs.declared.names.PlatformClass.TheVariants.{KeyPair}
use Rattle.jc_linker.specs.Values.{Packages}
use Rattle.jc_world.specs.Answers.{and_then}
use Rattle.jc_world.specs.Contexts.{firewall_check}
use Rattle.jc_world.specs.Objects.{some_or_fault}
use Rattle.jc_api.specs.Keeping.{IsPersistentInstance, persistent_called}
use Rattle.jc_api.specs.Pairing.{pair_cells}
use Rattle.jc_api_keys.specs.KeyObjects.Arguments.{key_at}
use Rattle.jc_api_pairs.specs.KeyPair.Kinds.{kind_of_keys}
use Rattle.jc_api_pairs.specs.declared.key_pair.keys.KeysOfPair.{KeysOfPair}

-- the cells of a pair: how many times its keys were made, modulo 2 ^ 16, and the references to them
abbrev pub times_cell : ℕ
times_cell = 0

abbrev pub public_cell : ℕ
public_cell = 1

abbrev pub private_cell : ℕ
private_cell = 2

-- ---- the receiver

-- a persistent instance with the cells of a pair
abbrev pub IsPair : MemoryState → ℕ → Type 0
IsPair m own = IsPersistentInstance m own pair_cells

-- the pair that is called, whose fields the code that runs may set
abbrev pub own_if : Packages → MemoryState → ℕ → Result ℕ FrameExit
own_if p m own = and_then (firewall_check InstanceField p m (facts m.heap.now own)) (λ u. Ok own)

unfoldable pub own_pair : List Cell → Packages → MemoryState → Result ℕ FrameExit
own_pair args p m = and_then (persistent_called KeyPair pair_cells args p m) (own_if p m)

-- ---- its keys

-- the keys that the cells of a pair name, each as an argument of its call. What is no pair is a code fault
abbrev pub keys_at : Packages → MemoryState → ℕ → ℕ → ℕ → Result KeysOfPair FrameExit
keys_at p m own r s = and_then (key_at p m r) (λ public. and_then (key_at p m s) (λ private. and_then (some_or_fault (kind_of_keys public private)) (λ kind.
    Ok (record { own = own; kind = kind; public = public; private = private }))))

-- the pair that is called, and its keys
unfoldable pub pair_called : List Cell → Packages → MemoryState → Result KeysOfPair FrameExit
pair_called args p m = and_then (own_pair args p m) (λ own. keys_at p m own (word_at m own public_cell) (word_at m own private_cell))
