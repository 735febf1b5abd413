use Rattle.std.proofs.Common.{◌++◌, ◌∙◌, List, ℕ, ap, inl, inr, refl, subst}
use Rattle.std.specs.Io.KnownBytes.{Appends}
use Rattle.std.proofs.lemmas.Result.{err_from_is_err_and}
use Rattle.jc_words.specs.Count.{failures_after}
use Rattle.jcard_files.specs.Fault.{is_unwritten}
use Rattle.jcard_texts.proofs.Known.{appends_then_appends}
use Rattle.jcard_dump.specs.Inventory.{dump_text}
use Rattle.jcard_dump.proofs.dump.tell_objects.Goals as goal

pub tell_listing-requires : goal.tell_listing-requires
tell_listing-requires g c = c.in_ok-dump_store.ensures.0.2.0.size

pub returns : goal.returns
returns g c =
    let w = g.S.WordStore.words c.args.store.now in
    let first = c.in_ok-dump_store.ensures.0 in
    let second = c.tell_listing.ensures.0 in
    let text : List ℕ = (dump_text w).text in
    let wrote = subst (λ (t : List ℕ). Appends (g.W.TextOut.contents c.args.out.now) (g.W.TextOut.contents c.dump_store.new.out) t) first.2.2 first.1 in (
      (
        text ++ second.0,
        appends_then_appends _ _ _ text second.0 wrote second.1,
        inr (second.0, (first.2.0, first.2.1, refl), second.2, refl),
      ),
      c.tell_listing.ensures.1 ∙ ap (λ n. failures_after n (is_unwritten c.tell_listing.result)) c.in_ok-dump_store.ensures.1,
    )

pub returns-in_err-dump_store : goal.returns-in_err-dump_store
returns-in_err-dump_store g c =
    let p = err_from_is_err_and c.from_residual.result c.from_residual.ensures.1 in
    let told = c.in_err-dump_store.ensures.0 in
    rw (p.1, p.2) ((told.0, told.1, inl (c.in_err-dump_store.field-0.0, refl, told.2)), c.in_err-dump_store.ensures.1)
