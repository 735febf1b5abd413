use Rattle.std.proofs.Common.{◌≡◌, ◌∙◌, ◌++◌, ap₂, List, ℕ}
use Rattle.jcard_dump.specs.Pairs.{end_lines, pair_text}
use Rattle.jcard_dump.proofs.ImageDifferences.{text_then}
use Rattle.jcard_dump.proofs.pairs.push_pair.Goals as goal

pub returns : goal.returns
returns c =
    let old : List ℕ = c.args.text.now.items in
    let mid : List ℕ = c.push_both.new.text.items in
    let new : List ℕ = c.push_end.new.text.items in
    let one = c.args.one.now in
    let other = c.args.other.now in
    let pair : List ℕ = pair_text one.text.items other.text.items in
    let pushed : mid ≡ old ++ pair = c.in_ok-push_both.ensures ∙ ap₂ (λ (a b : List ℕ). old ++ pair_text a b) c.deref.ensures.value c.deref-2.ensures.value in
    text_then c.push_end.result old mid new pair (end_lines one.readable other.readable) pushed c.push_end.ensures
