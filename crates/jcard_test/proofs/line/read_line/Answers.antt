use Rattle.std.proofs.Common.{◌≡◌, ◌≢◌, ◌∙◌, ◌==◌, ℕ, List, [], true, false, ap, sym, length, lit<, slice_index}
use Rattle.std.proofs.lemmas.Str.Pattern.{starts_char}
use Rattle.jcard_test.specs.Lines.{HasText}
use Rattle.jcard_test.proofs.LineMeanings.{says_directive, says_row}
use Rattle.jcard_test.proofs.line.read_line.Goals as goal

pub returns-in-Some : goal.returns-in-Some
returns-in-Some c =
    let starts = starts_char 35 c.args.line.now c.starts_with.result c.starts_with.ensures.cases (lit< tt) (lit< tt) in
    let plain : slice_index c.args.line.now 0 ≢ 35 = λ e. let bad : true ≡ false = sym (starts.1 e) ∙ c.if-starts_with.false in cc in
    let has : HasText c.args.line.now c.trim_end-text.result.now = (
      plain,
      c.before-2.result.now,
      c.before-2.ensures.0,
      c.before-2.ensures.1,
      c.trim_end-text.ensures.trim,
    ) in
    says_directive c.args.line.now c.trim_end-text.result.now c.in-Some.directive has (rw c.in-Some.is at c.read_directive.ensures)

pub returns-in-None : goal.returns-in-None
returns-in-None c =
    let starts = starts_char 35 c.args.line.now c.starts_with.result c.starts_with.ensures.cases (lit< tt) (lit< tt) in
    let plain : slice_index c.args.line.now 0 ≢ 35 = λ e. let bad : true ≡ false = sym (starts.1 e) ∙ c.if-starts_with.false in cc in
    let has : HasText c.args.line.now c.trim_end-text.result.now = (
      plain,
      c.before-2.result.now,
      c.before-2.ensures.0,
      c.before-2.ensures.1,
      c.trim_end-text.ensures.trim,
    ) in
    let some : c.trim_end-text.result.now ≢ [] = λ e. let bad : true ≡ false = sym (c.is_empty.ensures ∙ ap (λ (t : List ℕ). length t == 0) e)
    ∙ c.if-is_empty.false in cc in
    says_row c.args.line.now c.trim_end-text.result.now c.read_row.result has some c.in-None.ensures c.read_row.ensures
