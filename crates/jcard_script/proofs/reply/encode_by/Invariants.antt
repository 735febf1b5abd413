-- What is written, and the digits of the bytes that are left.
use Rattle.std.proofs.Common.{◌≡◌, ◌*◌, ◌++◌, take, drop}
use Rattle.hex.specs.Hex.{encode_with}
use Rattle.jcard_script.proofs.reply.encode_by.Given as goal

abbrev pub invariant-loop-i : goal.invariant-loop-i
invariant-loop-i l =
    take (2 * l.i) l.text ++ encode_with l.digits (drop l.i l.bytes) ≡ encode_with l.digits l.bytes
