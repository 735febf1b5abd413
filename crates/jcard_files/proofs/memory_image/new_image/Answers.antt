use Rattle.std.proofs.Common.{◌≡◌, ◌∙◌, ◌≤◌, ap, sym, subst, length}
use Rattle.std.specs.Prelude.{replicate}
use Rattle.std.proofs.lemmas.List.{length-replicate}
use Rattle.jc_words.specs.Layout.{least_size}
use Rattle.jcard_files.proofs.NewImages.{laid_is_new}
use Rattle.jcard_files.proofs.memory_image.new_image.Goals as goal

pub laid_in-requires-clause-enough : goal.laid_in-requires-clause-enough
laid_in-requires-clause-enough c =
    let size : length c.in-Ok.store.words ≡ c.args.extent.count = ap (λ m. length m.words) c.in-Ok.ensures ∙ length-replicate c.args.extent.count 0 in
    subst (λ k. least_size ≤ k) (sym size) c.args.extent.enough

pub laid_in-requires-clause-zeros : goal.laid_in-requires-clause-zeros
laid_in-requires-clause-zeros c =
    let size : length c.in-Ok.store.words ≡ c.args.extent.count = ap (λ m. length m.words) c.in-Ok.ensures ∙ length-replicate c.args.extent.count 0 in
    ap (λ m. m.words) c.in-Ok.ensures ∙ ap (λ k. replicate k 0) (sym size)

pub returns-in-Ok : goal.returns-in-Ok
returns-in-Ok c =
    let size : length c.in-Ok.store.words ≡ c.args.extent.count = ap (λ m. length m.words) c.in-Ok.ensures ∙ length-replicate c.args.extent.count 0 in
    laid_is_new (length c.in-Ok.store.words) c.args.extent.count c.args.extent.room c.args.table.now c.laid_in.result size c.laid_in.ensures
