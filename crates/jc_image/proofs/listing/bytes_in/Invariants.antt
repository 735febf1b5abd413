use Rattle.std.proofs.Common.{◌≡◌, length, map}
use Rattle.std.specs.List.{range_with_len}
use Rattle.jc_image.specs.Listing.{byte_in}
use Rattle.jc_image.proofs.listing.bytes_in.Given as goal

abbrev pub invariant-loop-i : goal.invariant-loop-i
invariant-loop-i g l = (l.bytes.items ≡ map (byte_in (g.S.WordStore.words l.store) l.at) (range_with_len 0 l.i)) × (length l.bytes.items ≡ l.i)
