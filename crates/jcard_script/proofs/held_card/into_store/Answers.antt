use Rattle.jc_card.specs.State.{power_of}
use Rattle.jcard_script.proofs.PowerUps.{store_held}
use Rattle.jcard_script.proofs.held_card.into_store.Goals as goal

pub returns : goal.returns
returns g c = store_held (power_of c.args.held) c.into_store.result c.into_store.ensures
