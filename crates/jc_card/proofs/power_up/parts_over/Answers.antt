use Rattle.std.proofs.Common.{Ok, ap, refl, subst, sym}
use Rattle.jc_heap.proofs.RawWords.{text_is}
use Rattle.jc_packages.specs.Objects.{MarksObjects}
use Rattle.jc_platform.specs.Table.{Reads}
use Rattle.jc_card.proofs.power_up.parts_over.Goals as goal

pub link_packages-requires-clause-reads : goal.link_packages-requires-clause-reads
link_packages-requires-clause-reads g c =
    let w = c.args.image.plain in
    let now = ap (λ v. v.now) c.in_ok-heap.ensures.heap in
    subst (λ h. Reads h.text (Ok c.args.table.now)) (sym now)
    (subst (λ l. Reads l (Ok c.args.table.now)) (sym (text_is w (c.in_ok-heap.ensures.exact.0 refl).0)) c.requires.table.1)

pub link_packages-requires-clause-marked : goal.link_packages-requires-clause-marked
link_packages-requires-clause-marked g c =
    subst (λ h. MarksObjects c.whole_heap.new.marks h) (sym (ap (λ v. v.now) c.in_ok-heap.ensures.heap)) c.in_ok-heap.ensures.marked
