use Rattle.std.proofs.Common.{◌≡◌, length, false, sym, ◌∙◌, subst, rules}
use Rattle.std.specs.Prelude.{is_err}
use Rattle.std.proofs.lemmas.List.{with_items_is}
use Rattle.jc_words.specs.WordRuns.{with_run}
use Rattle.jc_words.specs.HeldWrites.{IsInStep}
use Rattle.jc_words.proofs.HeldWrites.{Within, holds_none, run_step}
use Rattle.jc_words.proofs.file.FileStoreWordStore.write_run.Goals as goal

pub returns-clause-in_step : goal.returns-clause-in_step
returns-clause-in_step g c = λ is.
    let bytes = g.F.WordFile.bytes in
    let old = c.args.self.now in
    let next = c.put_run.new.self in
    let run = c.args.run.now in
    let within = subst (λ s. Within s.held s.words) c.self.view_is c.self.invariant.1 in
    let good : is_err c.put_run.result ≡ false = search rules in
    let none = holds_none c.put_run.result old.held next.held good c.put_run.ensures.held in
    let step = run_step old.held old.words c.args.i run c.put_run.result (bytes old.file) (bytes next.file) good within c.requires.there
    c.put_run.ensures.file is in
    let written : c.set_words.new.words ≡ with_run c.self-2.inside.words.items c.args.i run = search rules in
    let room = c.self-2.inside.words in
    let long : length c.set_words.new.words ≡ room.len = search rules in
    subst (λ w. IsInStep (bytes c.self-2.inside.file) w c.self-2.inside.held) (sym (with_items_is room c.set_words.new.words long ∙ written))
    (subst (λ f. IsInStep (bytes f.file) (with_run f.words c.args.i run) f.held) (sym c.self-2.view_is)
    (subst (λ f. IsInStep (bytes f.file) (with_run f.words c.args.i run) f.held) (sym c.put_run.ensures.same)
    (subst (λ h. IsInStep (bytes next.file) (with_run old.words c.args.i run) h) (sym none) step)))
