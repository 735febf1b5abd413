use Rattle.std.proofs.Common.{◌∙◌, ◌++◌, ◌∷◌, ℕ, List, [], ap, codes, sym, append-nil, append_assoc, subst}
use Rattle.std.specs.String.{string_bytes}
use Rattle.std.proofs.lemmas.List.{take_all}
use Rattle.jcard_test.specs.TextLines.{AreCopies, IsCopy, IsReplaced}
use Rattle.jcard_test.specs.declared.numbered_line.Numbered.{Numbered}
use Rattle.jcard_test.proofs.Numbering.{copies_next, copies_none}
use Rattle.jcard_test.proofs.lines.add_for.Goals as goal

pub loop-line-init : goal.loop-line-init
loop-line-init c = ([], copies_none c.args.name.now c.args.k, sym (append-nil c.args.lines.now.items))

pub loop-line-preserved : goal.loop-line-preserved
loop-line-preserved c =
    let name = c.args.name.now in
    let i = c.loop-line.line-index in
    let line = c.line-item.result in
    let so_far = c.loop-line.invariant in
    let told = c.in_ok-copy.ensures in
    let copy = c.in_ok-copy.copy in
    let mark = c.as_str.ensures.value ∙ c.in_ok-mark.ensures.ok in
    let digits = c.as_str-in-loop-line.ensures.value ∙ c.in_ok-decimal.ensures.ok in
    let named = subst (λ (d : List ℕ). IsReplaced (codes "{" ++ name ++ codes "}") d (string_bytes line.text) told.1) digits
    (subst (λ (m : List ℕ). IsReplaced m c.as_str-in-loop-line.result.now (string_bytes line.text) told.1) mark told.2) in
    let copied = subst (λ (h : List ℕ). IsReplaced (codes "{h}") h told.1 (string_bytes copy.text)) c.as_str-in-loop-line-2.ensures.value told.3 in
    let one : IsCopy name c.args.k line copy = (told.0, string_bytes c.in_ok-hexadecimal.hexadecimal, told.1, c.in_ok-hexadecimal.ensures, named, copied) in (
      so_far.0 ++ copy ∷ [],
      copies_next name c.args.k c.args.body.now i line so_far.0 copy c.loop-line-test.true so_far.1
          (subst (λ (l : Numbered). IsCopy name c.args.k l copy) c.line-item.is one),
      c.in_ok-push.ensures.items ∙ ap (λ (ls : List Numbered). ls ++ copy ∷ []) so_far.2 ∙ append_assoc c.args.lines.now.items so_far.0 (copy ∷ []),
    )

pub returns : goal.returns
returns c =
    let all = c.loop-line.invariant in (
      all.0,
      subst (λ (b : List Numbered). AreCopies c.args.name.now c.args.k b all.0) (take_all c.loop-line.line-index c.args.body.now c.loop-line-test.false) all.1,
      all.2,
    )
