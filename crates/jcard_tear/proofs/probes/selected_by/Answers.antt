use Rattle.std.proofs.Common.{rules, ◌≡◌, ◌∙◌, ◌++◌, ap, sym, subst, Some, Ok, Err}
use Rattle.jc_words.specs.Store.{FuseStoreValue}
use Rattle.jcard_script.specs.Script.{EndsSelecting, EndsWithin}
use Rattle.jcard_script.proofs.ScriptEnds.{ends_within}
use Rattle.jcard_sweeps.specs.Runs.{store_of}
use Rattle.jcard_sweeps.proofs.WholeRuns.{selected_whole, under_fuse}
use Rattle.jcard_tear.proofs.probes.selected_by.Goals as goal

pub returns-in-Ok : goal.returns-in-Ok
returns-in-Ok c =
    let d = c.run_script_selecting-store.ensures.script in
    let r = c.run_script_selecting-store.result in
    let is : r.1 ≡ Ok tt = search rules in
    let fresh : c.new-store.result ≡ store_of c.args.words.now = c.new-store.ensures ∙ ap under_fuse c.of.ensures ∙ ap store_of c.in_ok-copy.ensures.items in
    let ends = subst (λ e. EndsSelecting c.args.budget e c.new-store.result r.0 d.2 d.0 d.1 r.2) is d.6 in
    let over = subst (λ (s : FuseStoreValue). EndsSelecting c.args.budget (Ok tt) s r.0 d.2 d.0 d.1 r.2) fresh ends in
    let read : c.args.script.now ≡ d.0 ++ c.run_script_selecting-store.new.reader.input.now = sym c.in_ok-reader.ensures.input ∙ d.3 in (
      d.1,
      r.0,
      selected_whole c.args.budget c.args.script.now (Some c.run_script_selecting-store.new.reader.input.now) d.2 d.0 d.1 (store_of c.args.words.now) r.0 r.2
          read d.5 over,
    )

pub returns : goal.returns
returns c =
    let d = c.run_script_selecting-store.ensures.script in
    let r = c.run_script_selecting-store.result in
    let is : r.1 ≡ Err c.in-Err.fault = search rules in
    let fresh : c.new-store.result ≡ store_of c.args.words.now = c.new-store.ensures ∙ ap under_fuse c.of.ensures ∙ ap store_of c.in_ok-copy.ensures.items in
    let within = ends_within c.args.budget r.1 c.new-store.result r.0 d.2 d.0 d.1 r.2 d.6 in
    let ends = subst (λ e. EndsWithin c.args.budget e c.new-store.result r.0 d.2 d.0 d.1) is within in
    let over = subst (λ (s : FuseStoreValue). EndsWithin c.args.budget (Err c.in-Err.fault) s r.0 d.2 d.0 d.1) fresh ends in
    let read = sym c.in_ok-reader.ensures.input ∙ d.3 in
    (d.0, c.run_script_selecting-store.new.reader.input.now, d.1, d.2, r.0, read, over)
