use Rattle.std.proofs.Common.{◌≡◌, ◌∙◌, ◌++◌, ◌+◌, ◌*◌, ◌≤◌, [], ◌∷◌, ap, arith, length, length-append, map}
use Rattle.jc_linker.proofs.Walks.{taken_map}
use Rattle.std.proofs.lemmas.List.{take_all}
use Rattle.jc_cap.specs.ClassValues.{offsets_of}
use Rattle.jc_linker.specs.Outlines.{outline_of}
use Rattle.jc_linker.proofs.Walks.{offsets-length}
use Rattle.jc_linker.proofs.copies.outlines.Goals as goal

pub loop-number-preserved : goal.loop-number-preserved
loop-number-preserved c =
    let items : c.push.new.self.items ≡ c.loop-number.copy.items ++ c.outline.result ∷ [] = c.in_ok-push.ensures.items in
    let lengths : length c.push.new.self.items ≡ c.loop-number.number + 1 = ap length items ∙ length-append c.loop-number.copy.items (c.outline.result ∷ [])
    ∙ ap (λ n. n + 1) c.loop-number.invariant.1 in (
      cc (
        taken_map outline_of (offsets_of c.args.classes.now) c.loop-number.number c.offset.result c.offset.ensures,
        items,
        c.outline.ensures,
        c.loop-number.invariant.0,
      ),
      lengths,
    )

pub returns-clause-copy : goal.returns-clause-copy
returns-clause-copy c =
    let end : length (offsets_of c.args.classes.now) ≤ c.loop-number.number = omega (arith, offsets-length c.args.classes.now) in
    c.loop-number.invariant.0 ∙ ap (map outline_of) (take_all c.loop-number.number (offsets_of c.args.classes.now) end)
