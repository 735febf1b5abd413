use Rattle.std.proofs.Common.{◌≡◌, ◌++◌, [], List, ℕ}
use Rattle.std.specs.Prelude.{codes}
use Rattle.std.proofs.lemmas.Result.{on_ok_weaker}
use Rattle.jc_objects.specs.ClassTexts.{kind_text}
use Rattle.jcard_dump.specs.Objects.{owner_text}
use Rattle.jcard_dump.specs.Texts.{labelled_text}
use Rattle.jcard_dump.proofs.Chains.{push_behind}
use Rattle.jcard_dump.proofs.objects.push_header.Goals as goal

pub returns : goal.returns
returns g c =
    let w : List ℕ = c.args.image.now.words in
    let f = c.args.object.facts in
    let old : List ℕ = c.args.text.now.items in
    let one : List ℕ = c.push_labelled.new.text.items in
    let two : List ℕ = c.push_kind.new.text.items in
    let three : List ℕ = c.extend_from_slice.new.self.items in
    let four : List ℕ = c.push_owner.new.text.items in
    let new : List ℕ = c.push_labelled-2.new.text.items in
    let a : List ℕ = labelled_text (codes "@") c.args.object.at (codes " ") in
    let b : List ℕ = kind_text c.args.image.now.legend.platform w f.kind f.class in
    let d : List ℕ = codes " of " in
    let e : List ℕ = owner_text w f.owner in
    let h : List ℕ = labelled_text (codes ", length ") f.length [] in
    on_ok_weaker c.push_labelled-2.result (λ (last : new ≡ four ++ h). push_behind old one new a (b ++ (d ++ (e ++ h))) c.in_ok-push_labelled.ensures
    (push_behind one two new b (d ++ (e ++ h)) c.in_ok-push_kind.ensures
    (push_behind two three new d (e ++ h) c.in_ok-extend_from_slice.ensures.items
    (push_behind three four new e h (rw (c.owner.ensures, c.store.ensures.words) at c.in_ok-push_owner.ensures) last)))) c.push_labelled-2.ensures
