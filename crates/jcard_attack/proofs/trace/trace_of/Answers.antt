use Rattle.std.proofs.Common.{rules, ◌≡◌, ◌∙◌, ap, sym, subst, Err}
use Rattle.jc_words.specs.Store.{FuseStoreValue}
use Rattle.jcard_script.specs.Script.{EndsWithin}
use Rattle.jcard_sweeps.specs.Runs.{store_of}
use Rattle.jcard_sweeps.proofs.WholeRuns.{under_fuse}
use Rattle.jcard_attack.proofs.trace.trace_of.Goals as goal

pub returns : goal.returns
returns c =
    let d = c.run_script_explained-store.ensures.script in
    let r = c.run_script_explained-store.result in
    let is : r.1 ≡ Err c.in-Err.fault = search rules in
    let fresh : c.new-store.result ≡ store_of c.args.words.now = c.new-store.ensures ∙ ap under_fuse c.of.ensures ∙ ap store_of c.in_ok-copy.ensures.items in
    let ends = subst (λ e. EndsWithin c.args.instructions e c.new-store.result r.0 d.2 d.0 d.1) is d.6 in
    let over = subst (λ (s : FuseStoreValue). EndsWithin c.args.instructions (Err c.in-Err.fault) s r.0 d.2 d.0 d.1) fresh ends in
    let read = sym c.in_ok-reader.ensures.input ∙ d.3 in
    (d.0, c.run_script_explained-store.new.reader.input.now, d.1, d.2, r.0, read, over)
