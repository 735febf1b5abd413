use Rattle.std.proofs.Common.{◌+◌, ◌<◌, ◌≤◌, ◌∙◌, ap, get_or, length, refl, arith}
use Rattle.std.proofs.lemmas.Result.{err_from_is_err_and}
use Rattle.jc_heap.specs.Heap.{cells}
use Rattle.jc_heap.specs.declared.object.Kind.TheVariants.{ByteArray}
use Rattle.jc_memory.proofs.NonAtomicWrites.{goes_further, goes_down, all_set, kind_left, length_left}
use Rattle.jc_memory.proofs.memory.Memory.write_bytes_nonatomic.Goals as goal

pub loop-k-preserved : goal.loop-k-preserved
loop-k-preserved g c =
    let so = c.loop-k.invariant in
    let r = c.args.array in
    let i = c.args.i in
    let k = c.loop-k.k in
    let vs = c.args.bytes.now in
    let s = c.loop-k.self in
    let new = c.write_byte_nonatomic.new.self in
    let made = c.in_ok-write_byte_nonatomic.ensures.1 in
    record {
      goes_on = goes_further r i k (get_or vs k 0) vs c.args.self.now s refl c.loop-k-test.true so.goes_on new made;
      up = ap (λ m. m.heap.down) made ∙ so.up;
      cells = length_left r r (i + k) (get_or vs k 0) (length (cells c.args.self.now.heap.now r)) s new made so.cells;
      kind = kind_left r r (i + k) (get_or vs k 0) ByteArray s new made so.kind;
    }

pub returns-in_err-write_byte_nonatomic : goal.returns-in_err-write_byte_nonatomic
returns-in_err-write_byte_nonatomic g c =
    let p = err_from_is_err_and c.from_residual.result c.from_residual.ensures.1 in
    rw p.1 (goes_down c.args.array c.args.i c.loop-k.k (get_or c.args.bytes.now c.loop-k.k 0) c.args.bytes.now c.args.self.now c.loop-k.self refl c.loop-k-test.true
    c.loop-k.invariant.goes_on c.write_byte_nonatomic.new.self c.in_err-write_byte_nonatomic.ensures)

pub returns : goal.returns
returns g c = all_set c.args.array c.args.i c.loop-k.k c.args.bytes.now c.args.self.now c.loop-k.self (omega arith) c.loop-k.invariant.goes_on
