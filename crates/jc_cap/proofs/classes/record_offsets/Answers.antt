use Rattle.std.proofs.Common.{◌-◌, ◌∙◌, length, arith, ap, sym, refl}
use Rattle.std.proofs.lemmas.Result.{err_from_is_err_and}
use Rattle.jc_cap.specs.ClassReading.{is_earlier, record_at, classes_of, record_offsets_or_none}
use Rattle.jc_cap.proofs.RecordWalk.{walk_init, walk_next, walk_fails, walk_is_full, walk_done, start_fails, start_long, no_longer, some_bytes, no_bytes}
use Rattle.jc_cap.proofs.classes.record_offsets.Goals as goal

pub returns-in_err-rest : goal.returns-in_err-rest
returns-in_err-rest c =
    let p = err_from_is_err_and c.from_residual.result c.from_residual.ensures.1 in
    rw (p.1, p.2) (start_fails c.args.format c.args.info.now c.in_err-rest.field-0.0 c.in_err-rest.ensures)

pub loop-rest-init : goal.loop-rest-init
loop-rest-init c = record {
  within = omega (arith, ap length c.new-before.ensures);
  inside = start_long c.args.format c.args.info.now c.in_ok-rest.rest.now c.in_ok-rest.ensures;
  going = walk_init c.args.format c.args.info.now c.in_ok-rest.rest.now c.new-before.result.items c.new-before.ensures c.in_ok-rest.ensures;
}

pub returns-then-len-eq256 : goal.returns-then-len-eq256
returns-then-len-eq256 c = walk_is_full (length c.loop-rest.before.items) (length c.args.info.now) c.loop-rest.before.items c.loop-rest.rest.now
    (record_offsets_or_none (classes_of c.args.format c.args.info.now)) (sym c.len.ensures.value ∙ c.if-len-eq256.true)
    (some_bytes _ c.loop-rest-test.ensures) c.loop-rest.invariant.going

pub returns-in_err-next : goal.returns-in_err-next
returns-in_err-next c =
    let p = err_from_is_err_and c.from_residual-in_err-next.result c.from_residual-in_err-next.ensures.1 in
    let h = ap (λ b. record_at (is_earlier b) c.loop-rest.rest.now) (sym c.as_slice.ensures.value) ∙ c.in_err-next.ensures in
    rw (p.1, p.2) (walk_fails (length c.loop-rest.before.items) (length c.args.info.now) c.loop-rest.before.items c.loop-rest.rest.now c.in_err-next.field-0.0
    (record_offsets_or_none (classes_of c.args.format c.args.info.now)) (omega (
      arith,
      c.loop-rest.invariant.within,
      c.if-len-eq256.false,
      c.len.ensures.value,
    )) (some_bytes _ c.loop-rest-test.ensures) h c.loop-rest.invariant.going)

pub loop-rest-preserved : goal.loop-rest-preserved
loop-rest-preserved c =
    let h = ap (λ b. record_at (is_earlier b) c.loop-rest.rest.now) (sym c.as_slice.ensures.value) ∙ c.in_ok-next.ensures in
    record {
      within = omega (arith, c.push.ensures.len, c.loop-rest.invariant.within, c.if-len-eq256.false, c.len.ensures.value);
      inside = omega (
        arith,
        c.loop-rest.invariant.inside,
        no_longer (is_earlier c.loop-rest.before.items) c.loop-rest.rest.now c.in_ok-next.next.now
            c.in_ok-next.field-0-0 h,
      );
      going = walk_next (length c.args.info.now) (length c.args.info.now - length c.loop-rest.rest.now) c.loop-rest.before.items c.push.new.self.items
          c.loop-rest.rest.now c.in_ok-next.next.now c.in_ok-next.field-0-0 (record_offsets_or_none (classes_of c.args.format c.args.info.now))
          c.push.ensures.items (omega (arith, c.loop-rest.invariant.within, c.if-len-eq256.false, c.len.ensures.value))
          (some_bytes _ c.loop-rest-test.ensures) refl h c.loop-rest.invariant.going;
    }

pub returns : goal.returns
returns c = walk_done _ (length c.args.info.now) c.loop-rest.before.items c.loop-rest.rest.now
    (record_offsets_or_none (classes_of c.args.format c.args.info.now)) (no_bytes _ c.loop-rest-test.ensures) c.loop-rest.invariant.going
