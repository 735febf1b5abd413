use Rattle.std.proofs.Common.{◌≡◌, ◌*◌, length, take}
use Rattle.jc_api_keys.specs.Shorts.{first_shorts}
use Rattle.jc_api_keys.proofs.shorts.put_shorts_of.Given as goal

abbrev pub invariant-words : goal.invariant-words
invariant-words l = (take l.i l.to ≡ first_shorts l.bytes l.i) × (length l.bytes ≡ 2 * length l.to)
