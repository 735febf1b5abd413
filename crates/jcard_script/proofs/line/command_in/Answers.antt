use Rattle.std.proofs.Common.{◌∙◌, ◌<◌, arith, length, sym}
use Rattle.std.proofs.lemmas.Bool.{eqb-false}
use Rattle.jcard_script.proofs.Digits.{spelt}
use Rattle.jcard_script.proofs.line.command_in.Goals as goal

pub returns : goal.returns
returns c = record {
  command = λ spells.
      let some : 0 < length c.args.line.now = omega (arith, eqb-false (length c.args.line.now) 0 (sym c.is_empty.ensures ∙ c.if-is_empty.false)) in
      let s = spelt c.args.line.now c.decode.new.room.items (c.decode.ensures spells) some c.if-line-gt-DIGITS.false in
      (c.decode.new.room.items, s.0, s.1);
}
