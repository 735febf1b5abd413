use Rattle.std.proofs.Common.{◌∙◌, sym}
use Rattle.std.proofs.lemmas.Bool.{ne_eqb}
use Rattle.jcard_script.proofs.LineSteps.{digit_step, other_step, pushed_full, pushed_room, space_step}
use Rattle.jcard_script.proofs.line.Content.push_digit.Goals as goal

pub returns-then-is_digit : goal.returns-then-is_digit
returns-then-is_digit c = λ line h plain.
    let old = c.args.self.now.digits.items in
    let new = c.try_push.new.self.items in
    let step = digit_step old new line c.args.self.now.is_odd c.args.byte h
    (ne_eqb c.args.byte 32 c.if-byte-eq32.false) (sym c.is_digit.ensures ∙ c.if-is_digit.true)
    (λ room. pushed_room c.try_push.result old new 131090 c.args.byte c.try_push.ensures.variant c.try_push.ensures.ok room)
    (λ full. pushed_full c.try_push.result old new 131090 _ c.try_push.ensures.variant c.try_push.ensures.err (λ e. cc e) full) in
    (plain, step)

pub returns-then-byte-eq32 : goal.returns-then-byte-eq32
returns-then-byte-eq32 c = λ line h plain. (plain, space_step c.args.self.now.digits.items line c.args.self.now.is_odd c.args.byte h c.if-byte-eq32.true)

pub returns-else-is_digit : goal.returns-else-is_digit
returns-else-is_digit c = λ line h plain. (plain, other_step line c.args.byte c.if-byte-eq32.false (sym c.is_digit.ensures ∙ c.if-is_digit.false))
