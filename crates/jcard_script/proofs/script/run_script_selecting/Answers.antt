use Rattle.std.proofs.Common.{[], refl, inl, false}
use Rattle.jcard_script.specs.HeldCard.{state_of_held}
use Rattle.jcard_texts.proofs.Known.{appends_same, consumes_same}
use Rattle.jcard_script.proofs.PowerUps.{failed_store}
use Rattle.jcard_script.proofs.script.run_script_selecting.Goals as goal

pub returns-in-Err-clause-script : goal.returns-in-Err-clause-script
returns-in-Err-clause-script g c =
    let fails = rw c.in-Err.is at c.start-session.ensures.fault in
    let store = failed_store c.args.budget (state_of_held c.start-session.result.0.held) c.args.fuse fails.0 c.into_store.result c.in-Err.fault fails.1 fails.2
    c.into_store.ensures.store in
    ([], [], false, consumes_same _, appends_same _, tt, inl ((store, refl, refl), refl))
