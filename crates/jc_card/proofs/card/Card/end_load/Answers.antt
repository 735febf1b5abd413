use Rattle.std.proofs.Common.{ap, subst, ◌∙◌}
use Rattle.jc_memory.specs.Programs.{Executes}
use Rattle.jc_packages.specs.LoadEnd.{end_of_load}
use Rattle.jc_card.specs.Card.{CardState}
use Rattle.jc_card.specs.Loading.{end_load}
use Rattle.jc_card.specs.Answers.{after_exchange}
use Rattle.jc_card.proofs.Loaded.{ends_outside, ends_so}
use Rattle.jc_card.proofs.card.Card.end_load.Goals as goal

pub invariant_of-self : goal.invariant_of-self
invariant_of-self g c =
    ends_outside c.self.inside.linked _ c.self.inside.memory _ c.self.inside.load _ c.end_load_of-ended.result
    (c.self.invariant (ap (λ (v : CardState). v.memory.heap.down) c.self.view_is ∙ c.requires.up)) c.end_load_of-ended.ensures

pub returns : goal.returns
returns g c =
    subst (λ (v : CardState). Executes (end_load v) v.memory (after_exchange c.response_of_end.result
    (record {
      memory = c.end_load_of-ended.new.memory;
      packages = c.end_load_of-ended.new.packages;
      load = c.end_load_of-ended.new.load;
      budget = c.self.inside.budget;
    }))) c.self.view_is
    (ends_so c.self.inside.budget (end_of_load c.self.inside.linked c.self.inside.memory c.self.inside.load) c.self.inside.memory _ c.end_load_of-ended.result _ _
    c.response_of_end.result c.response_of_end.ensures c.end_load_of-ended.ensures)
