use Rattle.std.proofs.Common.{◌∙◌}
use Rattle.jc_commit.proofs.Indexes.{found_named}
use Rattle.jc_commit.proofs.index.is_named.Goals as goal

pub returns : goal.returns
returns g c = c.is_ok.ensures.value ∙ found_named c.args.log (g.S.WordStore.words c.args.store.now) c.args.numbers.now c.args.n c.args.address c.find.result
    c.requires.index c.find.ensures
