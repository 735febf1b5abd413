use Rattle.std.proofs.Common.{◌≡◌, ◌<◌, ◌+◌, length, map, arith}
use Rattle.std.proofs.lemmas.List.{length-map}
use Rattle.std.proofs.Math.ListN.{get_or-map}
use Rattle.std.proofs.lemmas.List.Edits.{paste_more}
use Rattle.jc_transient.specs.Cell.{number_of}
use Rattle.jc_transient.proofs.area.write_bytes.Goals as goal

pub loop-k-preserved : goal.loop-k-preserved
loop-k-preserved c =
    let bytes = c.args.bytes.now in
    let within : c.args.place + c.loop-k.k < length c.args.cells.now = omega arith in
    let same : length (map number_of bytes) ≡ length bytes = simp length-map in
    let below : c.loop-k.k < length (map number_of bytes) = omega arith in
    let step = paste_more c.args.cells.now c.args.place (map number_of bytes) c.loop-k.k (number_of 0) within below in
    let byte = get_or-map number_of bytes c.loop-k.k 0 in
    cc (step, byte, c.loop-k.invariant, c.of_byte.ensures)
