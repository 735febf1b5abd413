use Rattle.std.proofs.Common.{◌∙◌, ap, subst, sym}
use Rattle.jc_packages.specs.Known.{AreKnown, KnownState}
use Rattle.jc_packages.proofs.KnownPackages.{packages_known}
use Rattle.jc_packages.proofs.known.KnownPackages.has_records_of.Goals as goal

pub returns-clause-packages : goal.returns-clause-packages
returns-clause-packages g c = λ e.
    let known : KnownState = c.args.self.now in
    let are : AreKnown known = subst AreKnown c.self.view_is c.self.invariant in
    let same = rw c.as_slice.ensures.value at (c.are_records_from.ensures e) in
    packages_known known.tokens c.args.heap.now.now known.records known.packages
    (sym (ap (λ (k : KnownState). k.records) c.self.view_is) ∙ same) are.linked
