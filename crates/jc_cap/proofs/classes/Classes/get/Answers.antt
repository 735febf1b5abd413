use Rattle.std.proofs.Common.{◌∙◌, arith, ap, sym, drop, Some}
use Rattle.jc_cap.specs.ClassReading.{classes_of, records_or_none, record_at, any_class}
use Rattle.jc_cap.proofs.RecordWalk.{answers, as_long, not_both, same_contents}
use Rattle.jc_cap.proofs.Earlier.{looks_back_to}
use Rattle.jc_cap.proofs.classes.Classes.get.Goals as goal

pub offset_at-at-requires : goal.offset_at-at-requires
offset_at-at-requires c = omega (
  arith,
  c.requires,
  as_long c.as_slice.result.now c.self.inside.offsets.items
      (records_or_none (classes_of c.self.inside.format c.self.inside.info.now)) c.args.self.now c.self.invariant.1 c.self.view_is c.as_slice.ensures.value,
)

pub split_at-requires : goal.split_at-requires
split_at-requires c = (answers c.self.inside.format c.self.inside.info.now c.as_slice.result.now c.self.inside.offsets.items
    (records_or_none (classes_of c.self.inside.format c.self.inside.info.now)) c.args.self.now c.args.number c.offset_at-at.result c.self.invariant.0
    c.self.invariant.1 c.self.view_is c.requires c.as_slice.ensures.value c.offset_at-at.ensures).within

pub unreachable-requires : goal.unreachable-requires
unreachable-requires c =
    let found = answers c.self.inside.format c.self.inside.info.now c.as_slice.result.now c.self.inside.offsets.items
    (records_or_none (classes_of c.self.inside.format c.self.inside.info.now)) c.args.self.now c.args.number c.offset_at-at.result c.self.invariant.0
    c.self.invariant.1 c.self.view_is c.requires c.as_slice.ensures.value c.offset_at-at.ensures in
    not_both (found.contents, found.rest) c.in-Err.field-0 (record_at any_class (drop c.offset_at-at.result c.self.inside.info.now)) found.reads
    (ap (record_at any_class) (sym c.split_at.ensures.back) ∙ c.in-Err.ensures)

pub returns-clause-found : goal.returns-clause-found
returns-clause-found c =
    let found = answers c.self.inside.format c.self.inside.info.now c.as_slice.result.now c.self.inside.offsets.items
    (records_or_none (classes_of c.self.inside.format c.self.inside.info.now)) c.args.self.now c.args.number c.offset_at-at.result c.self.invariant.0
    c.self.invariant.1 c.self.view_is c.requires c.as_slice.ensures.value c.offset_at-at.ensures in
    found.is ∙ ap Some (same_contents found.contents c.in-Ok.record found.rest c.in-Ok.field-0-1.now
    (record_at any_class (drop c.offset_at-at.result c.self.inside.info.now)) found.reads
    (ap (record_at any_class) (sym c.split_at.ensures.back) ∙ c.in-Ok.ensures))

pub returns-clause-earlier : goal.returns-clause-earlier
returns-clause-earlier c =
    let found = answers c.self.inside.format c.self.inside.info.now c.as_slice.result.now c.self.inside.offsets.items
    (records_or_none (classes_of c.self.inside.format c.self.inside.info.now)) c.args.self.now c.args.number c.offset_at-at.result c.self.invariant.0
    c.self.invariant.1 c.self.view_is c.requires c.as_slice.ensures.value c.offset_at-at.ensures in
    let there = found.is ∙ ap Some (same_contents found.contents c.in-Ok.record found.rest c.in-Ok.field-0-1.now
    (record_at any_class (drop c.offset_at-at.result c.self.inside.info.now)) found.reads
    (ap (record_at any_class) (sym c.split_at.ensures.back) ∙ c.in-Ok.ensures)) in
    looks_back_to c.self.inside.format c.self.inside.info.now (records_or_none (classes_of c.self.inside.format c.self.inside.info.now)) c.args.self.now
    c.args.number c.in-Ok.record c.self.invariant.0 c.self.view_is there
