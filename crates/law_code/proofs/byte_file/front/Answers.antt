use Rattle.std.proofs.Common.{arith, sym}
use Rattle.std.proofs.lemmas.List.{length-take-le, take_all}
use Rattle.jc_words.specs.File.{most_bytes}
use Rattle.law_code.proofs.byte_file.front.Goals as goal

pub slice_bounds-result-end : goal.slice_bounds-result-end
slice_bounds-result-end c = sym (length-take-le 131071 c.args.bytes.now (omega (arith, c.if-bytes-le-READ_LIMIT.false)))

pub returns-then-bytes-le-READ_LIMIT : goal.returns-then-bytes-le-READ_LIMIT
returns-then-bytes-le-READ_LIMIT c = sym (take_all most_bytes c.args.bytes.now c.if-bytes-le-READ_LIMIT.true)
