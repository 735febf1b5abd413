use Rattle.std.proofs.Common.{arith}
use Rattle.jc_cap.specs.ClassReading.{classes_of, records_or_none}
use Rattle.jc_cap.proofs.RecordWalk.{answers, as_long}
use Rattle.jc_cap.proofs.classes.Classes.offset.Goals as goal

pub offset_at-requires : goal.offset_at-requires
offset_at-requires c = omega (
  arith,
  c.requires,
  as_long c.as_slice.result.now c.self.inside.offsets.items
      (records_or_none (classes_of c.self.inside.format c.self.inside.info.now)) c.args.self.now c.self.invariant.1 c.self.view_is c.as_slice.ensures.value,
)

pub returns : goal.returns
returns c = (answers c.self.inside.format c.self.inside.info.now c.as_slice.result.now c.self.inside.offsets.items
    (records_or_none (classes_of c.self.inside.format c.self.inside.info.now)) c.args.self.now c.args.number c.offset_at.result c.self.invariant.0
    c.self.invariant.1 c.self.view_is c.requires c.as_slice.ensures.value c.offset_at.ensures).offset
