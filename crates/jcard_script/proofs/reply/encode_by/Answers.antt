use Rattle.std.proofs.Common.{ℕ, arith, slice_index, refl, ap}
use Rattle.std.proofs.lemmas.Nat.{and_mask}
use Rattle.hex.proofs.Pairs.{encode_step, encode_done}
use Rattle.jcard_script.proofs.reply.encode_by.Goals as goal

pub loop-i-preserved : goal.loop-i-preserved
loop-i-preserved c =
    let byte : ℕ = slice_index c.args.bytes.now c.loop-i.i in
    encode_step c.args.digits.now c.args.bytes.now c.loop-i.text c.loop-i.i _ _ (omega arith) (omega arith) refl
    (ap (λ (k : ℕ). slice_index c.args.digits.now k) (and_mask byte 4)) c.loop-i.invariant

pub returns : goal.returns
returns c = encode_done _ _ _ c.loop-i.i (omega arith) (omega arith) c.loop-i.invariant
