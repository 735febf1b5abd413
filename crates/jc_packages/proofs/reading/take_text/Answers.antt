use Rattle.std.proofs.Common.{ap, arith, drop, length}
use Rattle.jc_heap.specs.Component.{record_of}
use Rattle.jc_heap.proofs.PackedBytes.{length-bytes_of_packed}
use Rattle.jc_packages.proofs.reading.take_text.Goals as goal

pub take_in-requires : goal.take_in-requires
take_in-requires g c = record {
  small = omega (
    arith,
    ap length c.in-Ok.ensures,
    length-bytes_of_packed c.in-Some.span.size (drop c.in-Some.span.at (record_of c.args.heap.now.now c.args.at)),
    c.size_of-size.type_inv,
    c.size_of-size.ensures,
  );
}
