use Rattle.std.proofs.Common.{◌≡◌, ◌∙◌, ◌++◌, List, ℕ, ap}
use Rattle.std.specs.Prelude.{codes, slice_index}
use Rattle.std.proofs.lemmas.Result.{on_ok_weaker}
use Rattle.jcard_dump.specs.Image.{cells_in}
use Rattle.jcard_dump.specs.Texts.{labelled_text, reference_text}
use Rattle.jcard_dump.proofs.Chains.{push_behind}
use Rattle.jcard_dump.proofs.objects.push_engine.Goals as goal

pub returns : goal.returns
returns g c =
    let cells : List ℕ = cells_in c.args.image.now.words c.args.object in
    let old : List ℕ = c.args.text.now.items in
    let one : List ℕ = c.push_labelled.new.text.items in
    let new : List ℕ = c.push_reference.new.text.items in
    let a : List ℕ = labelled_text (codes ": algorithm ") (slice_index cells 0) (codes ", holds nothing, state ") in
    let b : List ℕ = reference_text (slice_index cells 1) in
    on_ok_weaker c.push_reference.result (λ (last : new ≡ one ++ reference_text c.cell-2.result).
    push_behind old one new a b
    (c.in_ok-push_labelled.ensures ∙ ap (λ (v : ℕ). old ++ labelled_text (codes ": algorithm ") v (codes ", holds nothing, state ")) c.cell.ensures)
    (last ∙ ap (λ (v : ℕ). one ++ reference_text v) c.cell-2.ensures)) c.push_reference.ensures
