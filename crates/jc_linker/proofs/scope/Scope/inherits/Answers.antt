use Rattle.std.proofs.Common.{◌≡◌, ◌∙◌, ◌++◌, ◌+◌, ◌*◌, ◌≤◌, [], ◌∷◌, sym, arith, length}
use Rattle.jc_linker.proofs.Behind.{inherits_end, inherits_next, inherits_none}
use Rattle.jc_linker.proofs.scope.Scope.inherits.Goals as goal

pub returns-then-not-there : goal.returns-then-not-there
returns-then-not-there c = sym (c.loop-place.invariant ∙ inherits_none c.args.self.now c.args.number c.args.superclass c.args.base c.args.offsets.now
    c.loop-place.place c.offset_at.result c.offset_at.ensures (cc))

pub loop-place-preserved : goal.loop-place-preserved
loop-place-preserved c = c.loop-place.invariant ∙ inherits_next c.args.self.now c.args.number c.args.superclass c.args.base c.args.offsets.now
    c.loop-place.place c.offset_at.result c.offset_at.ensures (cc)

pub returns : goal.returns
returns c =
    let end : length c.args.offsets.now ≤ c.loop-place.place = omega arith in
    sym (c.loop-place.invariant ∙ inherits_end c.args.self.now c.args.number c.args.superclass
    (c.args.base + c.loop-place.place) c.args.offsets.now c.loop-place.place end)
