use Rattle.std.proofs.Common.{◌≡◌, ◌++◌, [], List, ℕ}
use Rattle.std.specs.Prelude.{codes}
use Rattle.std.proofs.lemmas.Result.{on_ok_weaker}
use Rattle.jcard_dump.specs.Texts.{labelled_text}
use Rattle.jcard_dump.proofs.Chains.{push_behind}
use Rattle.jcard_dump.proofs.packages.push_head.Goals as goal

pub returns : goal.returns
returns c =
    let old : List ℕ = c.args.text.now.items in
    let one : List ℕ = c.push_labelled.new.text.items in
    let two : List ℕ = c.push_labelled-2.new.text.items in
    let new : List ℕ = c.push_labelled-3.new.text.items in
    let a : List ℕ = labelled_text (codes "package ") c.args.number (codes ": ") in
    let b : List ℕ = labelled_text (codes "@") c.args.found.at (codes ", ") in
    let d : List ℕ = labelled_text [] c.args.found.size (codes " words, components") in
    on_ok_weaker c.push_labelled-3.result (λ (e : new ≡ two ++ d). push_behind old one new a (b ++ d) c.in_ok-push_labelled.ensures
    (push_behind one two new b d c.in_ok-push_labelled-2.ensures e)) c.push_labelled-3.ensures
