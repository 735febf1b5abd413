use Rattle.std.proofs.Common.{◌∙◌, sym}
use Rattle.jcard_sweeps.proofs.CommandTexts.{text_end, text_kept, text_passed}
use Rattle.jcard_sweeps.proofs.script_lines.command_text.Goals as goal
use Rattle.jcard_sweeps.proofs.script_lines.command_text.Goals.{then-not-is_blank+in_ok-push, else-not-is_blank}

pub loop-byte-preserved : goal.loop-byte-preserved
loop-byte-preserved c = elim c.if-not-is_blank.branch [
  | then-not-is_blank+in_ok-push w ↦ rw w.text-is (text_kept c.args.line.now c.loop-byte.text.items w.push.new.self.items c.loop-byte.byte-index c.loop-byte-test.true
      (sym c.is_blank.ensures ∙ w.if-not-is_blank.true) w.in_ok-push.ensures.items ∙ c.loop-byte.invariant)
  | else-not-is_blank w ↦ rw w.text-is (text_passed c.args.line.now c.loop-byte.text.items c.loop-byte.byte-index c.loop-byte-test.true
      (sym c.is_blank.ensures ∙ w.if-not-is_blank.false) ∙ c.loop-byte.invariant)
]

pub returns : goal.returns
returns c = sym (text_end c.args.line.now c.loop-byte.text.items c.loop-byte.byte-index c.loop-byte-test.false) ∙ c.loop-byte.invariant
