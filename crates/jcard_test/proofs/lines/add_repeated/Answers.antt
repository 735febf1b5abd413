use Rattle.std.proofs.Common.{arith, ◌≡◌, ◌∙◌, ◌+◌, ◌-◌, ◌++◌, List, [], suc, ap, refl, sym, subst, append-nil, append_assoc}
use Rattle.jcard_test.specs.TextLines.{AreRepeated}
use Rattle.jcard_test.specs.declared.numbered_line.Numbered.{Numbered}
use Rattle.jcard_test.proofs.Numbering.{repeated_more, repeated_none}
use Rattle.jcard_test.proofs.lines.add_repeated.Goals as goal

pub loop-place-init : goal.loop-place-init
loop-place-init c = ([], repeated_none c.args.name.now c.args.first c.args.body.now, sym (append-nil c.args.lines.now.items))

pub loop-place-preserved : goal.loop-place-preserved
loop-place-preserved c =
    let so_far = c.loop-place.invariant in
    let one = c.in_ok-add_for.ensures in
    let next : suc c.loop-place.place ≡ c.loop-place.place + 1 = omega arith in (
      so_far.0 ++ one.0,
      subst (λ n. AreRepeated c.args.name.now c.args.first n c.args.body.now (so_far.0 ++ one.0)) next (repeated_more c.args.name.now c.args.first c.loop-place.place (c.args.first + c.loop-place.place) c.args.body.now so_far.0 one.0 so_far.1 refl one.1),
      one.2 ∙ ap (λ (ls : List Numbered). ls ++ one.0) so_far.2 ∙ append_assoc c.args.lines.now.items so_far.0 one.0,
    )

pub returns : goal.returns
returns c =
    let all = c.loop-place.invariant in
    let count : c.loop-place.place ≡ c.args.last + 1 - c.args.first =
    omega (arith, c.loop-place-test.false, c.loop-place.auto.place-end, c.saturating_sub-count.ensures, c.from.ensures, c.from-2.ensures) in
    (all.0, subst (λ n. AreRepeated c.args.name.now c.args.first n c.args.body.now all.0) count all.1, all.2)
