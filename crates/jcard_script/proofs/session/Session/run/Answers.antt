use Rattle.std.proofs.Common.{Err, rules, arith, ◌≡◌, ◌<◌, ◌≤◌, true, false, ◌++◌, take, length, length-take, length-append, sym, subst}
use Rattle.std.proofs.lemmas.List.{take_all}
use Rattle.std.proofs.lemmas.Result.{err_from_is_err_and}
use Rattle.jcard_script.specs.Script.{AreCarriedOut, ended_lines, bound}
use Rattle.jcard_script.specs.HeldCard.{state_of_held}
use Rattle.jcard_script.specs.Session.{LinesEnd}
use Rattle.jcard_texts.proofs.Known.{consumes_then_keeps, consumes_then_none, consumes_then_consumes, appends_then_appends, within_bound}
use Rattle.jcard_script.proofs.Parts.{ended_few}
use Rattle.jcard_script.proofs.ScriptEnds.{ends_at_end, ends_before}
use Rattle.jcard_script.proofs.session.Session.run.Goals as goal

pub returns-in_default-clause-script : goal.returns-in_default-clause-script
returns-in_default-clause-script g c =
    let s = c.loop-count.invariant.stands in
    let fits : length s.0 ≤ 16777216 = omega (arith, s.5) in
    let all = take_all 16777216 s.0 fits in (
      s.0,
      s.1,
      false,
      consumes_then_keeps _ _ _ s.0 s.2 c.in_default.ensures.bytes,
      s.3,
      tt,
      (fits, subst (λ l. AreCarriedOut (ended_lines l) (state_of_held c.args.self.now.held) (state_of_held c.loop-count.self.held) s.1) (sym all) s.4.2),
    )

pub finish-requires-clause-number : goal.finish-requires-clause-number
finish-requires-clause-number g c =
    let s = c.loop-count.invariant.stands in
    omega (arith, s.4.1, s.5, ended_few s.0)

pub returns-then-count-eq0-clause-script : goal.returns-then-count-eq0-clause-script
returns-then-count-eq0-clause-script g c =
    let s = c.loop-count.invariant.stands in
    let bytes = c.in-Ok.ensures.bytes in
    let went = c.finish.ensures.goes s.0 s.1 (state_of_held c.args.self.now.held) s.4 in
    let at_end = bytes.1 c.if-count-eq0.true (search rules) in (
      s.0,
      s.1 ++ went.0,
      true,
      consumes_then_none _ _ _ s.0 c.read.new.buffer c.in-Ok.count c.if-count-eq0.true s.2 bytes.0,
      appends_then_appends _ _ _ s.1 went.0 s.3 went.1,
      (at_end, omega (arith, s.5)),
      ends_at_end c.finish.result s.0 (s.1 ++ went.0) _ _ went.2,
    )

pub feed-requires-clause-number : goal.feed-requires-clause-number
feed-requires-clause-number g c =
    let s = c.loop-count.invariant.stands in
    omega (arith, s.4.1, s.5, ended_few s.0, length-take c.loop-count.left c.read.new.buffer)

pub returns-in_err-feed-clause-script : goal.returns-in_err-feed-clause-script
returns-in_err-feed-clause-script g c =
    let s = c.loop-count.invariant.stands in
    let p = err_from_is_err_and c.from_residual.result c.from_residual.ensures.1 in
    let went = c.in_err-feed.ensures.goes s.0 s.1 (state_of_held c.args.self.now.held) s.4 in
    let piece = take c.in-Ok.count c.read.new.buffer in
    let inside = within_bound 16777216 s.0 c.read.new.buffer c.loop-count.left c.in-Ok.count s.5 (omega arith) in
    let lines = subst (λ l. LinesEnd (Err c.in_err-feed.field-0.0) (ended_lines l) (state_of_held c.args.self.now.held) (state_of_held c.feed.new.self.held)
    (s.1 ++ went.0)) (sym inside) went.3 in
    rw (p.1, p.2) (
      s.0 ++ piece,
      s.1 ++ went.0,
      false,
      consumes_then_consumes _ _ _ s.0 piece s.2 c.in-Ok.ensures.bytes.0,
      appends_then_appends _ _ _ s.1 went.0 s.3 went.1,
      tt,
      ends_before c.in_err-feed.field-0.0 (s.0 ++ piece) (s.1 ++ went.0) _ _ lines,
    )

pub returns-then-count-left-clause-script : goal.returns-then-count-left-clause-script
returns-then-count-left-clause-script g c =
    let s = c.loop-count.invariant.stands in
    let went = c.in_ok-feed.ensures.goes s.0 s.1 (state_of_held c.args.self.now.held) s.4 in
    let piece = take c.in-Ok.count c.read.new.buffer in
    let inside = within_bound 16777216 s.0 c.read.new.buffer c.loop-count.left c.in-Ok.count s.5 (omega arith) in
    let count : length piece ≡ c.in-Ok.count = omega (arith, length-take c.in-Ok.count c.read.new.buffer, c.in-Ok.ensures.within) in
    let long : bound < length (s.0 ++ piece) = omega (arith, s.5, count, length-append s.0 piece) in
    let lines = subst (λ l. AreCarriedOut (ended_lines l) (state_of_held c.args.self.now.held) (state_of_held c.feed.new.self.held) (s.1 ++ went.0))
    (sym inside) went.2.2 in (
      s.0 ++ piece,
      s.1 ++ went.0,
      false,
      consumes_then_consumes _ _ _ s.0 piece s.2 c.in-Ok.ensures.bytes.0,
      appends_then_appends _ _ _ s.1 went.0 s.3 went.1,
      tt,
      (long, lines),
    )

pub feed-requires-in-loop-count-clause-number : goal.feed-requires-in-loop-count-clause-number
feed-requires-in-loop-count-clause-number g c =
    let s = c.loop-count.invariant.stands in
    omega (arith, s.4.1, s.5, ended_few s.0, length-take c.in-Ok.count c.read.new.buffer)

pub returns-in_err-feed-2-clause-script : goal.returns-in_err-feed-2-clause-script
returns-in_err-feed-2-clause-script g c =
    let s = c.loop-count.invariant.stands in
    let p = err_from_is_err_and c.from_residual-in_err-feed-2.result c.from_residual-in_err-feed-2.ensures.1 in
    let went = c.in_err-feed-2.ensures.goes s.0 s.1 (state_of_held c.args.self.now.held) s.4 in
    let piece = take c.in-Ok.count c.read.new.buffer in
    let fits : length (s.0 ++ piece) ≤ 16777216 = omega (arith, s.5, length-append s.0 piece, length-take c.in-Ok.count c.read.new.buffer) in
    let inside = take_all 16777216 (s.0 ++ piece) fits in
    let lines = subst (λ l. LinesEnd (Err c.in_err-feed-2.field-0.0) (ended_lines l) (state_of_held c.args.self.now.held)
    (state_of_held c.feed-in-loop-count.new.self.held) (s.1 ++ went.0)) (sym inside) went.3 in
    rw (p.1, p.2) (
      s.0 ++ piece,
      s.1 ++ went.0,
      false,
      consumes_then_consumes _ _ _ s.0 piece s.2 c.in-Ok.ensures.bytes.0,
      appends_then_appends _ _ _ s.1 went.0 s.3 went.1,
      tt,
      ends_before c.in_err-feed-2.field-0.0 (s.0 ++ piece) (s.1 ++ went.0) _ _ lines,
    )

pub loop-count-preserved : goal.loop-count-preserved
loop-count-preserved g c =
    let s = c.loop-count.invariant.stands in
    let went = c.in_ok-feed-2.ensures.goes s.0 s.1 (state_of_held c.args.self.now.held) s.4 in
    let piece = take c.in-Ok.count c.read.new.buffer in
    record {
      reads = search rules;
      held = search rules;
      writes = search rules;
      stands = (
        s.0 ++ piece,
        s.1 ++ went.0,
        consumes_then_consumes _ _ _ s.0 piece s.2 c.in-Ok.ensures.bytes.0,
        appends_then_appends _ _ _ s.1 went.0 s.3 went.1,
        went.2,
        omega (arith, s.5, length-append s.0 piece, length-take c.in-Ok.count c.read.new.buffer, c.in-Ok.ensures.within),
      );
    }
