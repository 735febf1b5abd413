use Rattle.std.proofs.Common.{◌∙◌, ◌++◌, ap, sym}
use Rattle.jcard_texts.proofs.QuotedTexts.{escaped_left_out, next_byte, next_outside}
use Rattle.jcard_texts.proofs.escapes.push_next.Goals as goal

pub returns-then-left_out-gt0 : goal.returns-then-left_out-gt0
returns-then-left_out-gt0 c = ap (λ l. c.args.text.now.items ++ l) (sym (escaped_left_out c.args.left_out c.args.bytes.now c.if-left_out-gt0.true))

pub returns-then-begins_outside : goal.returns-then-begins_outside
returns-then-begins_outside c = next_outside c.args.left_out c.args.bytes.now c.args.text.now.items c.extend_from_slice.new.self.items c.if-left_out-gt0.false
    c.requires (sym c.begins_outside.ensures ∙ c.if-begins_outside.true) c.in_ok-extend_from_slice.ensures.items

pub returns : goal.returns
returns c = next_byte c.args.left_out c.args.bytes.now c.args.text.now.items c.push_byte.new.text.items c.if-left_out-gt0.false c.requires
    (sym c.begins_outside.ensures ∙ c.if-begins_outside.false) c.in_ok-push_byte.ensures
