use Rattle.std.proofs.Common.{◌+◌, ◌≤◌, length, take, drop, sym, ◌∙◌, ap, arith}
use Rattle.jcard_script.specs.Word.{next_number, number_so_far}
use Rattle.jcard_script.proofs.LineSteps.{take_step, pushed_room, pushed_full}
use Rattle.jcard_script.proofs.Words.{number_push, drop_long}
use Rattle.jcard_script.proofs.word.Word.push.Goals as goal

pub returns : goal.returns
returns c = λ line w.
    let old = c.args.self.now.head.items in
    let new = c.try_push.new.self.items in
    let fit : 6 ≤ length (take 39 line) + 1 = omega (arith, c.if-count-lt-STOP.false, c.len-count.ensures.value, ap length w.0) in (
      take_step 39 old new line c.args.byte w.0
          (λ room. pushed_room c.try_push.result old new 39 c.args.byte c.try_push.ensures.variant c.try_push.ensures.ok room)
          (λ full. pushed_full c.try_push.result old new 39 _ c.try_push.ensures.variant c.try_push.ensures.err (λ e. cc e) full),
      c.with_digit-self.ensures ∙ ap (λ n. next_number n c.args.byte) w.1 ∙ sym (ap number_so_far (drop_long line c.args.byte fit)
          ∙ number_push (drop 5 line) c.args.byte),
    )
