use Rattle.std.proofs.Common.{◌≡◌, ◌∙◌, ◌+◌, ◌-◌, ◌++◌, List, ℕ, ap, arith}
use Rattle.std.specs.Prelude.{codes, slice_index}
use Rattle.jc_words.specs.Layout.{registry_start}
use Rattle.jc_heap.specs.RegistryLayout.{entry_instance, entry_start}
use Rattle.jcard_dump.specs.Texts.{labelled_text, reference_text}
use Rattle.jcard_dump.proofs.Chains.{push_behind}
use Rattle.jcard_dump.proofs.applets.push_applet.Goals as goal

pub returns : goal.returns
returns g c =
    let w : List ℕ = g.S.WordStore.words c.args.store.now in
    let n : ℕ = c.args.before + 1 in
    let at : ℕ = registry_start + entry_start (n - 1) in
    let old : List ℕ = c.args.text.now.items in
    let one : List ℕ = c.push_labelled.new.text.items in
    let two : List ℕ = c.push_reference.new.text.items in
    let three : List ℕ = c.extend_from_slice.new.self.items in
    let four : List ℕ = c.push_reference-2.new.text.items in
    let new : List ℕ = c.extend_from_slice-2.new.self.items in
    let a : List ℕ = labelled_text (codes "applet ") n (codes ": AID object ") in
    let b : List ℕ = reference_text (slice_index w at) in
    let d : List ℕ = codes ", instance " in
    let e : List ℕ = reference_text (slice_index w (at + entry_instance)) in
    let first : c.read.result ≡ slice_index w at = c.read.ensures ∙ ap (slice_index w) (omega (arith, c.entry_start-at.ensures)) in
    let second : c.read-2.result ≡ slice_index w (at + entry_instance) = c.read-2.ensures ∙ ap (slice_index w) (omega (arith, c.entry_start-at.ensures)) in
    push_behind old one new a (b ++ (d ++ (e ++ codes "\n"))) c.in_ok-push_labelled.ensures
    (push_behind one two new b (d ++ (e ++ codes "\n")) (c.in_ok-push_reference.ensures ∙ ap (λ (v : ℕ). one ++ reference_text v) first)
    (push_behind two three new d (e ++ codes "\n") c.in_ok-extend_from_slice.ensures.items
    (push_behind three four new e (codes "\n") (c.in_ok-push_reference-2.ensures ∙ ap (λ (v : ℕ). three ++ reference_text v) second)
    c.in_ok-extend_from_slice-2.ensures.items)))
