use Rattle.std.proofs.Common.{arith, drop, length-take, take}
use Rattle.std.proofs.lemmas.Result.{err_from_is_err_and}
use Rattle.hex.specs.Hex.{encode_upper}
use Rattle.jcard_script.specs.Script.{text_of}
use Rattle.jcard_texts.proofs.Items.{slice_rest}
use Rattle.jcard_texts.proofs.Known.{both_written, cut_first}
use Rattle.jcard_script.proofs.Upper.{line_parts}
use Rattle.jcard_script.proofs.reply.+write_line.Goals as goal

pub slice_bounds-write_digits-end : goal.slice_bounds-write_digits-end
slice_bounds-write_digits-end g k c = omega (arith, length-take 258 c.args.bytes.now, c.if-bytes-le-AT_ONCE.false)

pub write_digits-requires : goal.write_digits-requires
write_digits-requires g k c = omega (arith, length-take 258 c.args.bytes.now)

pub returns-in_err-write_digits-clause-text : goal.returns-in_err-write_digits-clause-text
returns-in_err-write_digits-clause-text g k c =
    let p = err_from_is_err_and c.from_residual.result c.from_residual.ensures.1 in
    rw (p.1, line_parts 258 c.args.bytes.now) (cut_first _ _ (encode_upper (take 258 c.args.bytes.now)) (text_of (drop 258 c.args.bytes.now))
    c.in_err-write_digits.ensures.text)

pub returns-clause-text : goal.returns-clause-text
returns-clause-text g k c =
    let rest = rw (slice_rest c.args.bytes.now 258) at c.write_line.ensures.text in
    rw (line_parts 258 c.args.bytes.now) (both_written c.write_line.result _ _ _ (encode_upper (take 258 c.args.bytes.now)) (text_of (drop 258 c.args.bytes.now))
    c.in_ok-write_digits.ensures.text rest)
