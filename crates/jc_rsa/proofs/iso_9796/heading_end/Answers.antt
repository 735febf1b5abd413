use Rattle.std.proofs.Common.{◌≤◌, ◌-◌, inl, inr, arith}
use Rattle.jc_rsa.specs.Bytes.{IsOther}
use Rattle.jc_rsa.proofs.Blocks.{one_first}
use Rattle.jc_rsa.proofs.Headings.{heading_ends, long_heading, short_heading}
use Rattle.jc_rsa.proofs.iso_9796.heading_end.Goals as goal
use Rattle.jc_rsa.proofs.iso_9796.heading_end.Goals.{then-encoding-eq74-via-then-encoding-eq74, then-encoding-eq74-via-else-encoding-eq74+then-encoding-eq106}

pub returns-then-encoding-eq74-clause-heading : goal.returns-then-encoding-eq74-clause-heading
returns-then-encoding-eq74-clause-heading c = λ more n rest some is.
    let em = c.args.encoding.now in
    elim c.then-encoding-eq74.branch [
      | then-encoding-eq74-via-then-encoding-eq74 w ↦ short_heading more n rest em some is (inl w.if-encoding-eq74.true)
      | then-encoding-eq74-via-else-encoding-eq74+then-encoding-eq106 w ↦ short_heading more n rest em some is (inr w.if-encoding-eq106.true)
    ]

pub returns-in-Some-clause-heading : goal.returns-in-Some-clause-heading
returns-in-Some-clause-heading c = λ more n rest some is.
    let em = c.args.encoding.now in
    let many : 2 ≤ n = long_heading more n rest em some is c.if-encoding-eq74.false c.if-encoding-eq106.false in
    let at = one_first (IsOther 0xbb) 1 em c.in-Some.last (n - 1) c.in-Some.ensures (heading_ends more n rest em many is) in
    omega (arith, at, many)

pub returns-in-None-clause-heading : goal.returns-in-None-clause-heading
returns-in-None-clause-heading c = λ more n rest some is.
    let em = c.args.encoding.now in
    let many : 2 ≤ n = long_heading more n rest em some is c.if-encoding-eq74.false c.if-encoding-eq106.false in
    let end = heading_ends more n rest em many is in
    absurd (c.in-None.ensures (n - 1) end.low end.within end.here)
