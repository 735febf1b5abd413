use Rattle.std.proofs.Common.{◌≡◌, ◌∙◌, ◌+◌, ◌-◌, ◌++◌, ℕ, List, length, length-drop, length-take-le, take, drop, subst, sym, ap, arith}
use Rattle.jc_ciphers.specs.Modes.{IsUnderWay}
use Rattle.jc_ciphers.proofs.Pieces.{joined, part_put}
use Rattle.jc_ciphers.proofs.conversion.convert.Goals as goal

pub parts-preserved : goal.parts-preserved
parts-preserved g c =
    let f = g.S.Step.chained c.args.step.now in
    let w = g.S.Step.written c.args.step.now in
    let size = g.S.Step.size in
    let done = c.parts.done in
    let count = c.min-count.result in
    let piece = c.args.piece.now in
    let inv = c.parts.invariant in
    let room = c.make_room-progress in
    let used = room.result.used in
    let least = c.min-count.ensures in
    let bytes = room.ensures.bytes in
    let before = inv.bytes in
    let long : length room.new.block ≡ size = room.auto.block ∙ inv.block in
    let all : done + count - done ≡ count = omega arith in
    let part : List ℕ = take (done + count - done) (drop done piece) in
    let part_long : length part ≡ count =
    length-take-le (done + count - done) (drop done piece) (omega (arith, least, length-drop done piece, all)) ∙ all in
    record {
      done = omega (arith, least);
      used = omega (arith, least, long, room.ensures.used);
      filled = λ some. omega (arith, least, long, room.ensures.used, c.parts-test.true);
      chain = room.auto.chain ∙ inv.chain;
      block = c.put.auto.to ∙ long;
      bytes = omega (arith, bytes, before);
      converted = λ first m out was.
          let P : List ℕ → Type 0 = λ xs. IsUnderWay f w size first xs room.new.chain c.put.new.to (used + count) (out ++ take room.result.written room.new.to) in
          subst P (joined m piece done count (done + count - done) all)
          (part_put f w size first (m ++ take done piece) room.new.chain room.new.block c.put.new.to part used (used + count)
          (out ++ take room.result.written room.new.to)
          (room.ensures.converted first (m ++ take done piece) out (inv.converted first m out was))
          (ap (λ (n : ℕ). used + n) (sym part_long)) c.put.ensures);
    }
