use Rattle.std.proofs.Common.{length, sym, ap, ◌∙◌}
use Rattle.jc_memory.proofs.Running.{area_words_at}
use Rattle.jc_memory.proofs.Usable.{within_area}
use Rattle.jc_memory.proofs.memory.Memory.words.Goals as goal

pub returns-in-Some : goal.returns-in-Some
returns-in-Some g c =
    c.area_words.ensures
    ∙ area_words_at c.args.self.now c.args.object c.args.i (length c.args.out.now) c.facts-facts.result.place c.self.inside.ram c.in-Some.event
    (ap (λ s. s.ram) c.self.view_is) (ap (λ f. f.place) c.facts-facts.ensures.is) (sym (ap (λ f. f.event) c.facts-facts.ensures.is) ∙ c.in-Some.is)

pub area_words-requires-clause-within : goal.area_words-requires-clause-within
area_words-requires-clause-within g c = within_area c.args.self.now c.self.inside.ram c.args.object c.args.i (length c.args.out.now) c.facts-facts.result c.in-Some.event
    (ap (λ s. s.ram) c.self.view_is) c.facts-facts.ensures c.in-Some.is c.requires.cells
