use Rattle.std.proofs.Common.{◌≡◌, ◌∙◌, ◌++◌, ◌+◌, ◌*◌, ◌≤◌, [], ◌∷◌, sym, arith, length}
use Rattle.jc_linker.proofs.Behind.{whole_end, whole_next, whole_none}
use Rattle.jc_linker.proofs.scope.Scope.are_complete.Goals as goal

pub returns-then-not-whole : goal.returns-then-not-whole
returns-then-not-whole c = sym (c.loop-place.invariant ∙ whole_none c.args.self.now c.args.number
    (256 * c.args.number) c.args.classes.now c.loop-place.place c.class_at.result.now c.class_at.ensures (cc))

pub loop-place-preserved : goal.loop-place-preserved
loop-place-preserved c = c.loop-place.invariant ∙ whole_next c.args.self.now c.args.number
    (256 * c.args.number) c.args.classes.now c.loop-place.place c.class_at.result.now c.class_at.ensures (cc)

pub returns : goal.returns
returns c =
    let end : length c.args.classes.now ≤ c.loop-place.place = omega arith in
    sym (c.loop-place.invariant ∙ whole_end c.args.self.now c.args.number (256 * c.args.number + c.loop-place.place) c.args.classes.now c.loop-place.place end)
