use Rattle.std.proofs.Common.{ℕ, List, [], ◌++◌, refl, subst}
use Rattle.std.specs.Borrow.{Bor}
use Rattle.std.proofs.lemmas.List.{take_all}
use Rattle.std.proofs.lemmas.Result.{err_from_is_err_and}
use Rattle.jcard_test.specs.Sources.{names_of}
use Rattle.jcard_test.specs.Tests.{AreFilesRead, AreNoFileLines}
use Rattle.jcard_test.proofs.RowTests.{any_at, files_next, files_none, noted_more, nothing_noted}
use Rattle.jcard_test.proofs.files_read.named_files.Goals as goal

pub loop-name-init : goal.loop-name-init
loop-name-init g c = ([], g.met.D.Disk.none c.args.disk.now, nothing_noted c.args.sources.now.items, rw c.new-files.ensures.items files_none)

pub loop-name-preserved : goal.loop-name-preserved
loop-name-preserved g c =
    let none : Bor (List ℕ) = record { ref_ptr = (0, 0); now = [] } in
    let so_far = c.loop-name.invariant in
    let next = c.in_ok-add_named_file.ensures in (
      so_far.0 ++ next.0,
      g.met.D.Disk.then _ _ _ so_far.0 next.0 so_far.1 next.1,
      noted_more _ _ _ so_far.0 next.0 so_far.2 next.2,
      files_next c.args.names.now c.loop-name.name-index none c.loop-name.files.items _ so_far.0 next.3.0 next.0
          c.loop-name-test.true so_far.3 next.3.1 next.3.2,
    )

pub returns-in_err-add_named_file : goal.returns-in_err-add_named_file
returns-in_err-add_named_file g c =
    let none : Bor (List ℕ) = record { ref_ptr = (0, 0); now = [] } in
    let so_far = c.loop-name.invariant in
    let last = c.in_err-add_named_file.ensures in
    let fault = c.in_err-add_named_file.field-0.0 in
    let p = err_from_is_err_and c.from_residual.result c.from_residual.ensures.1 in
    rw (p.1, p.2) (
      so_far.0 ++ last.0,
      g.met.D.Disk.then _ _ _ so_far.0 last.0 so_far.1 last.1,
      noted_more _ _ _ so_far.0 last.0 so_far.2 last.2,
      (so_far.0, last.0, refl, any_at (λ name. AreNoFileLines name fault last.0) c.args.names.now c.loop-name.name-index none c.loop-name-test.true last.3),
    )

pub returns : goal.returns
returns g c =
    let all = c.loop-name.invariant in (
      all.0,
      all.1,
      all.2,
      subst (λ names. AreFilesRead (names_of names) c.loop-name.files.items all.0)
          (take_all c.loop-name.name-index c.args.names.now c.loop-name-test.false) all.3,
    )
