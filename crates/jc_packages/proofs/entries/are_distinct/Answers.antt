use Rattle.std.proofs.Common.{◌≡◌, ◌<◌, ap, sym, ◌∙◌, arith, rules}
use Rattle.std.proofs.lemmas.Bool.{false≢true}
use Rattle.jc_packages.proofs.Aids.{is_anothers, is_own, one_more, own_too, seen}
use Rattle.jc_packages.proofs.entries.are_distinct.Goals as goal

pub returns-then-stands_among : goal.returns-then-stands_among
returns-then-stands_among g c =
    let h = c.args.marked.now.now in
    let found = seen h c.loop-b.b (λ aid. aid.items) c.loop-b.before.items c.aid_of_entry-own.result.items c.stands_among.result c.loop-b.invariant.0
    c.aid_of_entry-own.ensures (search rules) in
    let many : c.applets-b-end.result ≡ h.counts.1 = c.applets-b-end.ensures ∙ ap (λ x. x.now.counts.1) c.heap.ensures in
    let one : c.loop-b.b < h.counts.1 = omega (arith, c.loop-b-test.true, many) in
    (λ e. absurd (false≢true e), λ all. absurd (is_anothers h c.loop-b.b (sym found ∙ c.if-stands_among.true) (all c.loop-b.b one)))

pub loop-b-preserved : goal.loop-b-preserved
loop-b-preserved g c =
    let h = c.args.marked.now.now in
    let found = seen h c.loop-b.b (λ aid. aid.items) c.loop-b.before.items c.aid_of_entry-own.result.items c.stands_among.result c.loop-b.invariant.0
    c.aid_of_entry-own.ensures (search rules) in (
      rw c.push.ensures.items (one_more h c.loop-b.b (λ aid. aid.items) c.loop-b.before.items c.aid_of_entry-own.result c.loop-b.invariant.0
          c.aid_of_entry-own.ensures),
      grind arith,
      own_too h c.loop-b.b c.loop-b.invariant.2 (is_own h c.loop-b.b (sym found ∙ c.if-stands_among.false)),
    )
