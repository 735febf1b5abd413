use Rattle.std.proofs.Common.{◌<◌, ◌+◌, [], ◌∷◌, length, slice_set, refl, arith}
use Rattle.std.proofs.lemmas.List.{take_more_set}
use Rattle.jc_ciphers.proofs.Pieces.{part_put}
use Rattle.jc_ciphers.proofs.kept.macs.take_byte.Goals as goal

pub returns-clause-under : goal.returns-clause-under
returns-clause-under g c = λ first m out was.
    let room = c.make_room-at in
    let at = room.result in
    let byte = c.args.byte in
    let block = room.new.block in
    let under = room.ensures.under first m out was in
    let within : at < length block = omega (arith, room.ensures.room, room.auto.block, c.requires.block) in (
      under.0,
      part_put (g.S.Step.chained c.args.step.now) (g.S.Step.written c.args.step.now) g.S.Step.size first m room.new.chain block
          (slice_set block at byte) (byte ∷ []) at (at + 1) under.0 under.1 refl (take_more_set block at byte within),
    )
