use Rattle.std.proofs.Common.{◌≡◌, ◌-◌, [], ap, length, sym, subst, take}
use Rattle.std.specs.Prelude.{if◌then◌else◌, slice_index}
use Rattle.std.proofs.lemmas.Bool.{ne_eqb}
use Rattle.std.specs.Str.Lines.{strip_carriage_return}
use Rattle.jcard_script.specs.Line.{AsksFor}
use Rattle.jcard_script.specs.Script.{form_of, plain_form_of}
use Rattle.jcard_script.proofs.Digits.{if_some}
use Rattle.jcard_script.proofs.word.word_asked.Goals as goal

pub returns : goal.returns
returns c =
    let line = c.args.line.now in
    let kept : strip_carriage_return line ≡ line = ap (λ t. if t then take (length line - 1) line else line)
    (ne_eqb (slice_index line (length line - 1)) 13 c.if-line-eq13.false) in
    if_some (form_of line ≡ plain_form_of line) c.asked.result (λ asked. AsksFor asked line) (λ asked. AsksFor asked (strip_carriage_return line))
    (c.asked.ensures line (c.push_all.ensures [] c.empty-word.ensures)) (λ asked is. subst (AsksFor asked) (sym kept) is)
