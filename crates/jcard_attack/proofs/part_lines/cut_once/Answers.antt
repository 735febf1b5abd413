use Rattle.std.proofs.Common.{◌∙◌, ◌+◌, ◌∷◌, ◌++◌, ap, sym, take}
use Rattle.jcard_outcomes.proofs.Splits.{cut_here, has_all, has_next, take_rest}
use Rattle.jcard_attack.proofs.part_lines.cut_once.Goals as goal

pub returns-then-byte-separator : goal.returns-then-byte-separator
returns-then-byte-separator c = (
  cut_here c.args.separator c.args.text.now c.loop-place.place c.loop-place-test.true c.if-byte-separator.true
      ∙ ap (λ l. take c.loop-place.place c.args.text.now ++ c.args.separator ∷ l) (sym (take_rest (c.loop-place.place + 1) c.args.text.now)),
  c.loop-place.invariant,
)

pub loop-place-preserved : goal.loop-place-preserved
loop-place-preserved c = has_next c.args.separator c.args.text.now c.loop-place.place c.loop-place-test.true c.if-byte-separator.false c.loop-place.invariant

pub returns : goal.returns
returns c = has_all c.args.separator c.args.text.now c.loop-place.place c.loop-place-test.false c.loop-place.invariant
