use Rattle.jcard_script.proofs.ScriptEnds.{ends_within}
use Rattle.jcard_script.proofs.script.run_script_explained.Goals as goal

pub returns-clause-script : goal.returns-clause-script
returns-clause-script g c =
    let d = c.run_script_selecting-store.ensures.script in
    let r = c.run_script_selecting-store.result in
    (d.0, d.1, d.2, d.3, d.4, d.5, ends_within c.args.budget r.1 c.args.fuse r.0 d.2 d.0 d.1 r.2 d.6)
