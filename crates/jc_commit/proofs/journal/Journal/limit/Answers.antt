use Rattle.std.proofs.Common.{sym, ap, ◌∙◌}
use Rattle.jc_words.specs.Image.{heap_end}
use Rattle.jc_commit.specs.State.{State}
use Rattle.jc_commit.proofs.InPlace.{limit_is}
use Rattle.jc_commit.proofs.journal.Journal.limit.Goals as goal

pub returns : goal.returns
returns g c =
    c.heap_end.ensures ∙ (λ i. heap_end (c.size.ensures i) ((c.self.invariant.stands i).capacity))
    ∙ sym (limit_is c.args.self.now (g.S.WordStore.words c.self.inside.store) (ap (λ (s : State). s.plain) c.self.view_is))
