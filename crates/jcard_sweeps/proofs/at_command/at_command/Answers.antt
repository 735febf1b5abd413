use Rattle.std.proofs.Common.{◌≡◌, ◌∙◌, ap, subst}
use Rattle.jc_words.specs.Store.{FuseStoreValue}
use Rattle.jcard_script.specs.Begun.{HasBegun}
use Rattle.jcard_sweeps.specs.Runs.{store_of}
use Rattle.jcard_sweeps.proofs.WholeRuns.{under_fuse}
use Rattle.jcard_sweeps.proofs.at_command.at_command.Goals as goal

pub returns : goal.returns
returns c =
    let fresh : c.new-store.result ≡ store_of c.args.words.now =
    c.new-store.ensures ∙ ap under_fuse c.of.ensures ∙ ap store_of c.in-Ok.ensures.items in
    let begun = subst (λ (f : FuseStoreValue). HasBegun c.args.instructions f c.args.before.now c.in_ok-begun.begun) fresh c.in_ok-begun.ensures in
    (begun, c.in_ok-command.ensures)
