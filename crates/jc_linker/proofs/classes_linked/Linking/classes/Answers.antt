use Rattle.std.proofs.Common.{◌≡◌, ◌∙◌, ◌++◌, ◌+◌, ◌*◌, ◌≤◌, [], ◌∷◌, ap, sym, arith, length, length-append}
use Rattle.jc_linker.proofs.Walks.{placed_at}
use Rattle.jc_linker.proofs.Behind.{behind_end, behind_next}
use Rattle.jc_linker.proofs.classes_linked.Linking.classes.Goals as goal

pub loop-number-preserved : goal.loop-number-preserved
loop-number-preserved c =
    let items : c.push.new.self.items ≡ c.loop-number.done.items ++ c.in_ok-class.class ∷ [] = c.in_ok-push.ensures.items in
    let lengths : length c.push.new.self.items ≡ c.loop-number.number + 1 = ap length items ∙ length-append c.loop-number.done.items (c.in_ok-class.class ∷ [])
    ∙ ap (λ n. n + 1) c.loop-number.invariant.1 in
    let at = placed_at c.args.classes.now c.loop-number.number c.offset.result c.get-told.result c.offset.ensures c.get-told.ensures.found in
    let step = behind_next c.args.self.now.loaded.now c.args.self.now.names.now c.args.self.now.number c.loop-number.done.items c.args.classes.now
    c.loop-number.number c.offset.result c.get-told.result at in
    (cc (step, items, c.in_ok-class.ensures, c.deref.ensures.value, c.loop-number.invariant.0), lengths)

pub returns-clause-linked : goal.returns-clause-linked
returns-clause-linked c =
    let end : length c.args.classes.now ≤ c.loop-number.number = omega arith in
    sym (behind_end c.args.self.now.loaded.now c.args.self.now.names.now c.args.self.now.number c.loop-number.done.items c.args.classes.now c.loop-number.number
    end) ∙ c.loop-number.invariant.0
