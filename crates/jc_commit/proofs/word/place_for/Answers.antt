use Rattle.jc_commit.proofs.Indexes.{taken_named, not_taken_named}
use Rattle.jc_commit.proofs.Views.{above_all}
use Rattle.jc_commit.proofs.word.place_for.Goals as goal

pub returns-in-Ok : goal.returns-in-Ok
returns-in-Ok g c =
    taken_named c.args.log (g.S.WordStore.words c.args.store.now) c.args.numbers.now c.args.n c.args.born c.args.address c.in-Ok.field-0 c.requires.index
    c.in-Ok.ensures

pub returns-in-Err : goal.returns-in-Err
returns-in-Err g c = (
  not_taken_named c.args.log (g.S.WordStore.words c.args.store.now) c.args.numbers.now c.args.n c.args.born c.args.address c.in-Err.place c.requires.index
      c.in-Err.ensures (above_all c.args.born c.args.address c.if-address-born.false),
  c.in-Err.ensures,
)
