use Rattle.std.proofs.Common.{◌≡◌, ◌≢◌, ◌≤◌, List, ℕ, ap, arith, length, refl, rules, subst, sym}
use Rattle.std.specs.Borrow.{Bor}
use Rattle.std.proofs.lemmas.List.{length-map}
use Rattle.jcard_sweeps.proofs.RunFaults.{passed_on}
use Rattle.jcard_attack.specs.PartLines.{AreNoLines, ends_read}
use Rattle.jcard_attack.proofs.PartReads.{reads_begun, reads_broken, reads_next, reads_stop}
use Rattle.jcard_attack.proofs.join.read.Goals as goal

pub loop-line-init : goal.loop-line-init
loop-line-init c = reads_begun c.args.text.now c.args.text.now (record { faults = c.new.result; ends = c.new-2.result }) refl (rw c.new.ensures.items refl)
    (rw c.new-2.ensures.items refl)

pub returns-in_err-push_read : goal.returns-in_err-push_read
returns-in_err-push_read c = passed_on _ _ c.from_residual.result c.from_residual.ensures.1
    (λ fault e. subst (AreNoLines c.args.text.now) (sym e) (reads_stop c.args.text.now c.loop-line.rest.now c.in-Some.line.now c.in-Some.more.now
    c.loop-line.lines _ c.loop-line.invariant c.in-Some.ensures.0 c.in-Some.ensures.1 c.in_err-push_read.ensures))

pub loop-line-preserved : goal.loop-line-preserved
loop-line-preserved c = reads_next c.args.text.now c.loop-line.rest.now c.in-Some.line.now c.in-Some.more.now c.loop-line.lines c.push_read.new.lines
    c.loop-line.invariant c.in-Some.ensures.0 c.in-Some.ensures.1 c.in_ok-push_read.ensures

pub returns : goal.returns
returns c =
    let full : length c.loop-line.rest.now ≢ 0 = search rules in
    let few : c.len.result ≤ length (ends_read c.loop-line.lines) =
    omega (arith, c.len.ensures, c.loop-line.lines.ends.ok.0, length-map c.loop-line.lines.ends.items (λ (t : Bor (List ℕ)). t.now)) in
    reads_broken c.args.text.now c.loop-line.rest.now c.loop-line.lines c.len.result c.loop-line.invariant (λ e. full (ap length e)) c.in_default.ensures few
