use Rattle.std.proofs.Common.{sym, ap, ◌∙◌}
use Rattle.jc_words.specs.declared.log.Log.{Log}
use Rattle.jc_commit.specs.State.{State}
use Rattle.jc_commit.proofs.InPlace.{capacity_is}
use Rattle.jc_commit.proofs.journal.Journal.capacity.Goals as goal

pub returns-clause-exact : goal.returns-clause-exact
returns-clause-exact g c =
    ap (λ (l : Log). l.capacity) c.self.invariant.stands
    ∙ sym (capacity_is c.args.self.now (g.S.WordStore.words c.self.inside.store) c.self.invariant.good (ap (λ (s : State). s.recovered) c.self.view_is))
