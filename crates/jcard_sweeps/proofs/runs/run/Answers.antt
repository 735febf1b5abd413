use Rattle.std.proofs.Common.{rules, ◌≡◌, ◌∙◌, ap, sym, subst, Err}
use Rattle.jc_words.specs.Store.{FuseStoreValue}
use Rattle.jcard_script.specs.Script.{EndsWithin}
use Rattle.jcard_sweeps.specs.Runs.{store_of}
use Rattle.jcard_sweeps.proofs.WholeRuns.{under_fuse}
use Rattle.jcard_sweeps.proofs.runs.run.Goals as goal

pub returns : goal.returns
returns c =
    let d = c.run_script_explained-store.ensures.script in
    let after = c.run_script_explained-store.result.0 in
    let is : c.run_script_explained-store.result.1 ≡ Err c.in-Err.fault = search rules in
    let fresh : c.new-store.result ≡ store_of c.args.words.items = c.new-store.ensures ∙ ap under_fuse c.of.ensures in
    let ends = subst (λ e. EndsWithin c.args.budget e c.new-store.result after d.2 d.0 d.1) is d.6 in
    let over = subst (λ (s : FuseStoreValue). EndsWithin c.args.budget (Err c.in-Err.fault) s after d.2 d.0 d.1) fresh ends in
    let read = sym c.in_ok-reader.ensures.input ∙ d.3 in
    record { ran = (d.0, c.run_script_explained-store.new.reader.input.now, d.1, d.2, after, read, over); short = tt }
