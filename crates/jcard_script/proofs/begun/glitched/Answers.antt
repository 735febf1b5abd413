use Rattle.std.proofs.Common.{◌≡◌, ◌∙◌, ap, rules, None}
use Rattle.jc_memory.proofs.ProgramLemmas.{down_did}
use Rattle.jc_card.specs.Answers.{exchange}
use Rattle.jc_card.specs.Card.{CardState}
use Rattle.jcard_script.proofs.begun.glitched.Goals as goal

pub invariant_of-result : goal.invariant_of-result
invariant_of-result g c =
    let planned : CardState = c.plan_fault.new.self in
    let up = ap (λ (x : CardState). x.memory.heap.down) c.plan_fault.ensures ∙ c.requires in
    let closed : c.plan_fault-2.new.self.load ≡ None = search rules in (
      ap (λ (x : CardState). x.memory.heap.down) c.plan_fault-2.ensures
          ∙ (down_did (exchange c.args.command.now planned) planned.memory c.exchange.new.self.memory _ c.in-Ok.ensures.executes ∙ up),
      closed,
    )
