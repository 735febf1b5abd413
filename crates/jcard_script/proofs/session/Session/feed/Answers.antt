use Rattle.std.proofs.Common.{arith, rules, ◌≡◌, ◌+◌, ◌∙◌, ◌++◌, [], ◌∷◌, take, drop, length, refl, sym, ap, subst, append-nil, append_assoc, length-drop}
use Rattle.jcard_script.specs.Script.{ended_lines, AreCarriedOut}
use Rattle.jcard_script.specs.HeldCard.{state_of_held}
use Rattle.jcard_script.specs.Session.{StandsAt, IsKeptOf, unfinished_line}
use Rattle.std.proofs.lemmas.Result.{err_from_is_err_and}
use Rattle.jcard_texts.proofs.Items.{slice_rest}
use Rattle.jcard_texts.proofs.Known.{appends_same, appends_then_appends}
use Rattle.jcard_script.proofs.Parts.{unbroken_before, unbroken_whole, more_unbroken}
use Rattle.jcard_script.proofs.ScriptEnds.{fault_inside, piece_whole}
use Rattle.jcard_script.proofs.session.Session.feed.Goals as goal

pub end_line-requires-clause-unbroken : goal.end_line-requires-clause-unbroken
end_line-requires-clause-unbroken g c = unbroken_before c.loop-end.rest.now c.in-Some.end c.in-Some.ensures.0.before

pub loop-end-init : goal.loop-end-init
loop-end-init g c = record {
  number = omega arith;
  held = c.requires.held;
  failures = refl;
  goes = (
    [],
    refl,
    λ script text first h. (
      [],
      appends_same _,
      subst (λ l. StandsAt c.args.self.now first l (text ++ [])) (sym (append-nil script))
          (subst (λ t. StandsAt c.args.self.now first script t) (sym (append-nil text)) h),
    ),
  );
}

pub returns-in_err-end_line-clause-goes : goal.returns-in_err-end_line-clause-goes
returns-in_err-end_line-clause-goes g c =
    let p = err_from_is_err_and c.from_residual.result c.from_residual.ensures.1 in
    let rest = c.loop-end.rest.now in
    let at = c.in-Some.end in
    let inv = c.loop-end.invariant.goes in
    rw (p.1, p.2) (λ script text first h.
    let now = inv.2 script text first h in
    let next = c.in_err-end_line.ensures.goes (script ++ inv.0) (text ++ now.0) first now.2 in
    let whole = piece_whole script inv.0 rest c.args.piece.now at inv.1 c.in-Some.ensures.0.high c.in-Some.ensures.1 in (
      now.0 ++ next.0,
      appends_then_appends _ _ _ now.0 next.0 now.1 next.1,
      tt,
      fault_inside c.in_err-end_line.field-0.0 script text c.args.piece.now now.0 next.0 _ (drop (at + 1) rest) first _ whole next.3,
    ))

pub returns-clause-goes : goal.returns-clause-goes
returns-clause-goes g c = λ script text first h.
    let inv = c.loop-end.invariant.goes in
    let now = inv.2 script text first h in
    let rest = c.loop-end.rest.now in
    let done = script ++ inv.0 in
    let same : done ++ rest ≡ script ++ c.args.piece.now = append_assoc script inv.0 rest ∙ ap (λ l. script ++ l) (sym inv.1) in
    let more = more_unbroken done rest (unbroken_whole rest c.in_default.ensures) in
    let lines : ended_lines (script ++ c.args.piece.now) ≡ ended_lines done = ap ended_lines (sym same) ∙ more.0 in
    let line : unfinished_line (script ++ c.args.piece.now) ≡ unfinished_line done ++ rest = ap unfinished_line (sym same) ∙ more.1 in
    let kept = subst (IsKeptOf c.push_all.new.self) (sym line) (c.push_all.ensures (unfinished_line done) now.2.0) in
    let carried = subst (λ all. AreCarriedOut all first (state_of_held c.loop-end.self.held) (text ++ now.0)) (sym lines) now.2.2 in
    (now.0, now.1, (kept, now.2.1 ∙ sym (ap length lines), carried), carried)

pub loop-end-preserved : goal.loop-end-preserved
loop-end-preserved g c =
    let rest = c.loop-end.rest.now in
    let at = c.in-Some.end in
    let inv = c.loop-end.invariant.goes in
    let left = slice_rest rest (at + 1) in
    let split = piece_whole [] inv.0 rest c.args.piece.now at inv.1 c.in-Some.ensures.0.high c.in-Some.ensures.1 in
    record {
      number = omega (arith, c.loop-end.invariant.number, c.in_ok-end_line.ensures.number, c.in-Some.ensures.0.high, ap length left, length-drop (at + 1) rest);
      held = search rules;
      failures = search rules;
      goes = (
        (inv.0 ++ take at rest) ++ 10 ∷ [],
        sym split ∙ ap (λ l. ((inv.0 ++ take at rest) ++ 10 ∷ []) ++ l) (sym left),
        λ script text first h.
            let now = inv.2 script text first h in
            let next = c.in_ok-end_line.ensures.goes (script ++ inv.0) (text ++ now.0) first now.2 in
            let same = ap (λ l. l ++ 10 ∷ []) (append_assoc script inv.0 (take at rest))
            ∙ append_assoc script (inv.0 ++ take at rest) (10 ∷ []) in (
              now.0 ++ next.0,
              appends_then_appends _ _ _ now.0 next.0 now.1 next.1,
              subst (λ l. StandsAt c.end_line.new.self first l (text ++ (now.0 ++ next.0))) same
                  (subst (λ t. StandsAt c.end_line.new.self first (((script ++ inv.0) ++ take at rest) ++ 10 ∷ []) t) (append_assoc text now.0 next.0) next.2),
            ),
      );
    }
