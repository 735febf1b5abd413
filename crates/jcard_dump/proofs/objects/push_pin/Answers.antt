use Rattle.std.proofs.Common.{◌≡◌, ◌∙◌, ◌++◌, [], List, ℕ, ap}
use Rattle.std.specs.Prelude.{codes, slice_index}
use Rattle.std.proofs.lemmas.Result.{on_ok_weaker}
use Rattle.jcard_dump.specs.Image.{cells_in}
use Rattle.jcard_dump.specs.Texts.{labelled_text, reference_text}
use Rattle.jcard_dump.proofs.Chains.{push_behind}
use Rattle.jcard_dump.proofs.objects.push_pin.Goals as goal

pub returns : goal.returns
returns g c =
    let cells : List ℕ = cells_in c.args.image.now.words c.args.object in
    let old : List ℕ = c.args.text.now.items in
    let one : List ℕ = c.push_labelled.new.text.items in
    let two : List ℕ = c.push_labelled-2.new.text.items in
    let three : List ℕ = c.push_labelled-3.new.text.items in
    let four : List ℕ = c.push_labelled-4.new.text.items in
    let new : List ℕ = c.push_reference.new.text.items in
    let a : List ℕ = labelled_text (codes ": tries ") (slice_index cells 2) (codes " of ") in
    let b : List ℕ = labelled_text [] (slice_index cells 0) (codes ", length ") in
    let d : List ℕ = labelled_text [] (slice_index cells 3) (codes " of ") in
    let e : List ℕ = labelled_text [] (slice_index cells 1) (codes ", value ") in
    let h : List ℕ = reference_text (slice_index cells 4) in
    on_ok_weaker c.push_reference.result (λ (last : new ≡ four ++ reference_text c.cell-5.result).
    push_behind old one new a (b ++ (d ++ (e ++ h)))
    (c.in_ok-push_labelled.ensures ∙ ap (λ (v : ℕ). old ++ labelled_text (codes ": tries ") v (codes " of ")) c.cell.ensures)
    (push_behind one two new b (d ++ (e ++ h))
    (c.in_ok-push_labelled-2.ensures ∙ ap (λ (v : ℕ). one ++ labelled_text [] v (codes ", length ")) c.cell-2.ensures)
    (push_behind two three new d (e ++ h)
    (c.in_ok-push_labelled-3.ensures ∙ ap (λ (v : ℕ). two ++ labelled_text [] v (codes " of ")) c.cell-3.ensures)
    (push_behind three four new e h
    (c.in_ok-push_labelled-4.ensures ∙ ap (λ (v : ℕ). three ++ labelled_text [] v (codes ", value ")) c.cell-4.ensures)
    (last ∙ ap (λ (v : ℕ). four ++ reference_text v) c.cell-5.ensures))))) c.push_reference.ensures
