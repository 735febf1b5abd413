-- What the checks of arguments give where a call does not go on: an exception, or a code fault.
use Rattle.std.specs.Prelude.{◌+◌, ℕ, List}
use Rattle.jc_memory.specs.State.{MemoryState}
use Rattle.jc_linker.specs.Values.{Packages}
use Rattle.jc_frames.specs.declared.cell.Cell.{Cell}
use Rattle.jc_world.specs.Arrays.{bytes_argument}
use Rattle.jc_world.specs.Objects.{reference_argument, some_or_fault, short_argument}
use Rattle.jc_api.specs.Arguments.{array_arguments, counted_of, argument_bytes}
use Rattle.jc_api.proofs.Exits.{FaultsOnly, plain_some, plain_then, plain_bytes, plain_elements}

module _ (args : List Cell) where
  reference_plain : (i : ℕ) → FaultsOnly (some_or_fault (reference_argument args i))
  reference_plain i = plain_some (reference_argument args i)

  short_plain : (i : ℕ) → FaultsOnly (some_or_fault (short_argument args i))
  short_plain i = plain_some (short_argument args i)

  pub plain_given : (i : ℕ) (m : MemoryState) → FaultsOnly (array_arguments i args m)
  plain_given i m =
      plain_then (some_or_fault (reference_argument args i)) _ (reference_plain i) (λ array.
      plain_then (some_or_fault (short_argument args (i + 1))) _ (short_plain (i + 1)) (λ start.
      plain_then (some_or_fault (short_argument args (i + 2))) _ (short_plain (i + 2)) (λ count.
      plain_then (bytes_argument m array) _ (plain_bytes m array) (λ header. tt))))

  pub plain_counted : (i : ℕ) (p : Packages) (m : MemoryState) → FaultsOnly (counted_of i args p m)
  plain_counted i p m =
      plain_then (array_arguments i args m) _ (plain_given i m) (λ given. plain_elements p m given.array given.header given.start given.count)

pub plain_argument : (given : _) (p : Packages) (m : MemoryState) → FaultsOnly (argument_bytes given p m)
plain_argument given p m = plain_elements p m given.array given.header given.start given.count
