use Rattle.jcard_script.proofs.GoesOn.{left_by}
use Rattle.jcard_script.proofs.begun.store_after.Goals as goal

pub returns : goal.returns
returns g c = record {
  leaves = left_by c.exchange.result c.args.card c.exchange.new.self c.args.command.now c.exchange.new.response c.into_store.result c.exchange.ensures.executes c.into_store.ensures;
  good = c.into_store.ensures.good;
}
