use Rattle.std.proofs.Common.{refl}
use Rattle.jc_heap.specs.Elements.{elements_of}
use Rattle.jc_heap.specs.Moves.{SetCells}
use Rattle.jc_heap.proofs.Calls.{ok_not_err}
use Rattle.jc_heap.proofs.Changing.{up_is}
use Rattle.jc_heap.proofs.Written.{written_sound, written_done, written_refused, refused_sound}
use Rattle.jc_heap.proofs.RunsSet.{run_is_written}
use Rattle.jc_heap.proofs.heap.Heap.set_run.Goals as goal

pub change_run-requires-clause-places : goal.change_run-requires-clause-places
change_run-requires-clause-places g c =
    let j = c.self.inside.journal in
    let v = c.args.self.now in
    let n = c.self.inside.size in
    let w = run_is_written j v n c.args.object c.args.i (elements_of c.args.values) c.run_for-run.result
    c.self.view_is c.self.invariant c.requires.up c.requires.cells c.requires.values c.run_for-run.ensures in
    w.each

pub change_run-requires-clause-distinct : goal.change_run-requires-clause-distinct
change_run-requires-clause-distinct g c =
    let j = c.self.inside.journal in
    let v = c.args.self.now in
    let n = c.self.inside.size in
    let w = run_is_written j v n c.args.object c.args.i (elements_of c.args.values) c.run_for-run.result
    c.self.view_is c.self.invariant c.requires.up c.requires.cells c.requires.values c.run_for-run.ensures in
    w.distinct

pub invariant_of-self-2 : goal.invariant_of-self-2
invariant_of-self-2 g c =
    let j = c.self.inside.journal in
    let v = c.args.self.now in
    let n = c.self.inside.size in
    let w = run_is_written j v n c.args.object c.args.i (elements_of c.args.values) c.run_for-run.result
    c.self.view_is c.self.invariant c.requires.up c.requires.cells c.requires.values c.run_for-run.ensures in
    written_sound j v n c.run_for-run.result _ _ c.self.view_is w c.change_run.new.journal (up_is j v n c.self.view_is c.requires.up) c.self.invariant
    c.in_ok-change_run.ensures.ok

pub invariant_of-self : goal.invariant_of-self
invariant_of-self g c =
    let j = c.self.inside.journal in
    let n = c.self.inside.size in
    refused_sound j c.change_run.new.journal n c.in_err-change_run.field-0.0 c.self.invariant c.in_err-change_run.ensures.kept
    c.in_err-change_run.ensures.stopped

pub returns : goal.returns
returns g c =
    let j = c.self.inside.journal in
    let v = c.args.self.now in
    let n = c.self.inside.size in
    let w = run_is_written j v n c.args.object c.args.i (elements_of c.args.values) c.run_for-run.result
    c.self.view_is c.self.invariant c.requires.up c.requires.cells c.requires.values c.run_for-run.ensures in
    written_done j v n c.run_for-run.result _ _ c.self.view_is w c.change_run.new.journal (SetCells c.args.object c.args.i (elements_of c.args.values))
    c.self.invariant.back (λ none. ok_not_err _ _ (c.in_ok-change_run.ensures.full.1 none)) c.in_ok-change_run.ensures.ok refl

pub returns-in_err-change_run : goal.returns-in_err-change_run
returns-in_err-change_run g c =
    let j = c.self.inside.journal in
    let v = c.args.self.now in
    let n = c.self.inside.size in
    let w = run_is_written j v n c.args.object c.args.i (elements_of c.args.values) c.run_for-run.result
    c.self.view_is c.self.invariant c.requires.up c.requires.cells c.requires.values c.run_for-run.ensures in
    written_refused j v n c.run_for-run.result _ _ c.self.view_is w c.from_residual.result (SetCells c.args.object c.args.i (elements_of c.args.values))
    c.change_run.new.journal c.in_err-change_run.field-0.0 c.self.invariant.back c.from_residual.ensures.1 c.in_err-change_run.ensures.full
    c.in_err-change_run.ensures.kept c.in_err-change_run.ensures.stopped refl
