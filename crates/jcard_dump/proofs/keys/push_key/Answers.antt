use Rattle.std.proofs.Common.{◌≡◌, ◌∙◌, ◌++◌, List, ℕ, ap, ap₂}
use Rattle.std.specs.Prelude.{codes, slice_index}
use Rattle.std.proofs.lemmas.Result.{on_ok_weaker}
use Rattle.jcard_dump.specs.Image.{cells_in}
use Rattle.jcard_dump.specs.Keys.{found_text, type_text}
use Rattle.jcard_dump.specs.Texts.{reference_text}
use Rattle.jcard_dump.proofs.Chains.{push_behind}
use Rattle.jcard_dump.proofs.keys.push_key.Goals as goal

pub returns : goal.returns
returns g c =
    let w : List ℕ = c.args.image.now.words in
    let cells : List ℕ = cells_in c.args.image.now.words c.args.object in
    let old : List ℕ = c.args.text.now.items in
    let one : List ℕ = c.extend_from_slice.new.self.items in
    let two : List ℕ = c.push_type.new.text.items in
    let three : List ℕ = c.push_found.new.text.items in
    let four : List ℕ = c.extend_from_slice-2.new.self.items in
    let new : List ℕ = c.push_reference.new.text.items in
    let a : List ℕ = codes ": type " in
    let b : List ℕ = type_text (slice_index cells 0) in
    let d : List ℕ = found_text w (slice_index cells 0) (slice_index cells 1) in
    let e : List ℕ = codes ", key " in
    let h : List ℕ = reference_text (slice_index cells 1) in
    on_ok_weaker c.push_reference.result (λ (last : new ≡ four ++ reference_text c.cell-array.result).
    push_behind old one new a (b ++ (d ++ (e ++ h))) c.in_ok-extend_from_slice.ensures.items
    (push_behind one two new b (d ++ (e ++ h)) (c.in_ok-push_type.ensures ∙ ap (λ (v : ℕ). one ++ type_text v) c.cell-number.ensures)
    (push_behind two three new d (e ++ h) (c.in_ok-push_found.ensures
    ∙ ap₂ (λ (n a : ℕ). two ++ found_text w n a) c.cell-number.ensures c.cell-array.ensures)
    (push_behind three four new e h c.in_ok-extend_from_slice-2.ensures.items
    (last ∙ ap (λ (v : ℕ). four ++ reference_text v) c.cell-array.ensures))))) c.push_reference.ensures
