use Rattle.std.proofs.Common.{◌≡◌, ◌∙◌, [], ◌∷◌, Ok, Err, ap, refl, subst, sym, inl, inr}
use Rattle.std.proofs.lemmas.Result.{err_from_is_err_and}
use Rattle.std.specs.Prelude.{codes}
use Rattle.jc_words.specs.Count.{failures_after}
use Rattle.jcard_texts.proofs.Known.{appends_same}
use Rattle.jcard_files.specs.FileDeeds.{ReadsText, fresh_store}
use Rattle.jcard_files.specs.Images.{IsUnopened}
use Rattle.jcard_commands.specs.ScriptRun.{IsCarriedOut}
use Rattle.jcard_files.proofs.Stores.{fresh_under_fuse}
use Rattle.jcard_commands.proofs.Trials.{not_tried}
use Rattle.jcard_files.proofs.Effects.{unfailed, unopened_unwritten}
use Rattle.jcard_files.proofs.ImageEnds.{in_memory_unwritten}
use Rattle.jcard_commands.proofs.trial.try_on.Goals as goal

pub returns-in_err-file : goal.returns-in_err-file
returns-in_err-file g c =
    let p = err_from_is_err_and c.from_residual.result c.from_residual.ensures.1 in
    let refused = subst (IsUnopened c.args.asked.script.now) (sym p.2) c.in_err-file.ensures.refused in
    let read = subst (λ fault. g.D.Disk.does c.args.disk.now (ReadsText c.args.asked.script.now (Err fault) ∷ []) c.open_text.new.self) (sym p.2) c.in_err-file.ensures.does in (
      ([], ReadsText c.args.asked.script.now (Err p.0) ∷ [], appends_same _, inl (p.0, p.1, refused, refl, refl), read),
      rw p.1 (unfailed _ p.0 (unopened_unwritten c.args.asked.script.now p.0 refused)),
    )

pub returns-in_err-store : goal.returns-in_err-store
returns-in_err-store g c =
    let known = g.D.Text.Read.remaining c.in_ok-file.file in
    let p = err_from_is_err_and c.from_residual-in_err-store.result c.from_residual-in_err-store.ensures.1 in (
      (
        [],
        ReadsText c.args.asked.script.now (Ok known) ∷ [],
        appends_same _,
        rw p.1 (not_tried c.args.asked.budget c.args.asked.script.now c.args.card.extent.count c.args.card.extent.room c.args.card.table.now p.0 known
            (rw p.2 c.in_err-store.ensures)),
        c.in_ok-file.ensures.does,
      ),
      rw p.1 (unfailed _ p.0 (in_memory_unwritten c.args.card.extent.count c.args.card.extent.room c.args.card.table.now p.0 (rw p.2 c.in_err-store.ensures))),
    )

pub returns : goal.returns
returns g c =
    let script = c.args.asked.script.now in
    let words = c.in_ok-store.store.words in
    let unread = g.D.Text.Read.remaining in
    let known = unread c.in_ok-file.file in
    let after = c.run_script_explained-carried.result.0 in
    let carried = c.run_script_explained-carried.result.1 in
    let ended = c.outcome_of.result in
    let left = unread c.run_script_explained-carried.new.reader.inner in
    let made = c.in_ok-store.ensures in
    let fresh : c.new.result ≡ fresh_store words = c.new.ensures ∙ fresh_under_fuse words _ _ _ refl made.1 refl in
    let done = c.run_script_explained-carried.ensures.script in
    let over = subst (λ f. IsCarriedOut c.args.asked.budget (codes "memory") script (unread f) left c.new.result after ended done.1) c.new-reader.ensures.inner
    (done.0, done.2, carried, done.3, done.5, done.6, c.outcome_of.ensures.outcome) in
    let run = subst (λ s. IsCarriedOut c.args.asked.budget (codes "memory") script known left s after ended done.1) fresh over in (
      (
        done.1,
        ReadsText script (Ok known) ∷ [],
        done.4,
        inr (known, left, refl, inr (inr (words, after, made.0, run))),
        c.in_ok-file.ensures.does,
      ),
      c.run_script_explained-carried.ensures.writes ∙ ap (failures_after (g.W.TextOut.failures c.args.out.now)) (sym c.outcome_of.ensures.unwritten),
    )
