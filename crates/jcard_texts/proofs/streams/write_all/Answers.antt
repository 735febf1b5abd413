use Rattle.std.proofs.Common.{rules, arith, length-drop}
use Rattle.jcard_texts.proofs.Items.{slice_rest}
use Rattle.jcard_texts.proofs.Known.{one_piece}
use Rattle.jcard_texts.proofs.streams.write_all.Goals as goal

pub loop-done-preserved : goal.loop-done-preserved
loop-done-preserved g c =
    let rest = rw (slice_rest c.args.bytes.now c.loop-done.done) at c.in_ok-done.ensures.bytes in
    let near = rw (slice_rest c.args.bytes.now c.loop-done.done, length-drop c.loop-done.done c.args.bytes.now) at c.in_ok-done.ensures.within in
    record {
      inside = omega (arith, near);
      written = one_piece c.loop-done.done c.in_ok-done.field-0 c.args.bytes.now _ _ _ c.loop-done.invariant.written rest;
      failures = search rules;
    }
