use Rattle.std.proofs.Common.{◌≡◌, ◌∙◌, ◌++◌, List, ℕ, ap}
use Rattle.std.specs.Prelude.{codes, slice_index}
use Rattle.std.proofs.lemmas.Result.{on_ok_weaker}
use Rattle.jcard_dump.specs.Image.{cells_in}
use Rattle.jcard_dump.specs.Texts.{labelled_text, reference_text}
use Rattle.jcard_dump.proofs.Chains.{push_behind}
use Rattle.jcard_dump.proofs.objects.push_keyed_engine.Goals as goal

pub returns : goal.returns
returns g c =
    let cells : List ℕ = cells_in c.args.image.now.words c.args.object in
    let old : List ℕ = c.args.text.now.items in
    let one : List ℕ = c.push_labelled.new.text.items in
    let two : List ℕ = c.push_reference.new.text.items in
    let three : List ℕ = c.push_labelled-2.new.text.items in
    let new : List ℕ = c.push_reference-2.new.text.items in
    let a : List ℕ = labelled_text (codes ": algorithm ") (slice_index cells 0) (codes ", key ") in
    let b : List ℕ = reference_text (slice_index cells 2) in
    let d : List ℕ = labelled_text (codes ", mode ") (slice_index cells 3) (codes ", holds nothing, state ") in
    let e : List ℕ = reference_text (slice_index cells 1) in
    on_ok_weaker c.push_reference-2.result (λ (last : new ≡ three ++ reference_text c.cell-2.result).
    push_behind old one new a (b ++ (d ++ e))
    (c.in_ok-push_labelled.ensures ∙ ap (λ (v : ℕ). old ++ labelled_text (codes ": algorithm ") v (codes ", key ")) c.cell-algorithm.ensures)
    (push_behind one two new b (d ++ e)
    (c.in_ok-push_reference.ensures ∙ ap (λ (v : ℕ). one ++ reference_text v) c.cell.ensures)
    (push_behind two three new d e
    (c.in_ok-push_labelled-2.ensures ∙ ap (λ (v : ℕ). two ++ labelled_text (codes ", mode ") v (codes ", holds nothing, state ")) c.cell-mode.ensures)
    (last ∙ ap (λ (v : ℕ). three ++ reference_text v) c.cell-2.ensures)))) c.push_reference-2.ensures
