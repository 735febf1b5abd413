use Rattle.std.proofs.Common.{◌≡◌, length, arith}
use Rattle.std.proofs.lemmas.List.FromFn.{length-map-range_with_len}
use Rattle.jc_memory.specs.Cells.{byte_at}
use Rattle.jc_world.specs.Arrays.{bytes_in}
use Rattle.jc_api_framework.proofs.AidCalls.Lengths.{longer_disagree}
use Rattle.jc_api_framework.proofs.aid.agrees_with.Goals as goal

pub returns-then-count-aid : goal.returns-then-count-aid
returns-then-count-aid g c =
    let long : length (bytes_in c.args.memory.now c.args.e) ≡ c.args.e.count = length-map-range_with_len
    (byte_at c.args.memory.now c.args.e.array) c.args.e.start c.args.e.count in
    longer_disagree c.args.extent c.args.aid.now (bytes_in c.args.memory.now c.args.e) (let more = c.if-count-aid.true in omega (arith, long, more))
