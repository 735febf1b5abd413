use Rattle.std.proofs.Common.{◌++◌, ◌+◌, ◌≤◌, arith, refl, length, length-append, subst, sym, ap, ℕ, List}
use Rattle.jc_heap.specs.Heap.{HeapView, heap_of, cells}
use Rattle.jc_heap.specs.Place.{run_changes}
use Rattle.jc_heap.specs.Moves.{SetPlaces}
use Rattle.jc_heap.proofs.Calls.{ok_not_err}
use Rattle.jc_heap.proofs.Changing.{up_is}
use Rattle.jc_heap.proofs.Written.{written_sound, written_done, written_refused, refused_sound}
use Rattle.jc_heap.proofs.RunsSet.{run_short}
use Rattle.jc_heap.proofs.TwoRuns.{two_runs_are_written}
use Rattle.jc_heap.proofs.heap.Heap.set_two_runs.Goals as goal

pub write_all-requires-clause-places : goal.write_all-requires-clause-places
write_all-requires-clause-places g c =
    let j = c.self.inside.journal in
    let v = c.args.self.now in
    let n = c.self.inside.size in
    let w = two_runs_are_written j v n c.args.first.object c.args.first.start c.args.first.bytes.now c.args.second.object c.args.second.start
    c.args.second.bytes.now c.args.places.now (c.byte_run_for-run.result ++ (c.byte_run_for-next.result ++ c.words_of_places.result))
    c.self.view_is c.self.invariant c.requires.up c.requires.two_objects
    c.requires.first_cells (λ k lt _. c.byte_run_for-run.ensures.bytes k lt) c.requires.second_cells (λ k lt _. c.byte_run_for-next.ensures.bytes k lt)
    c.requires.there c.requires.plain c.requires.apart
    (λ t. c.byte_run_for-run.ensures.words t ++ (c.byte_run_for-next.ensures.words t ++ c.words_of_places.ensures.exact t)) in
    w.each

pub write_all-requires-clause-distinct : goal.write_all-requires-clause-distinct
write_all-requires-clause-distinct g c =
    let j = c.self.inside.journal in
    let v = c.args.self.now in
    let n = c.self.inside.size in
    let w = two_runs_are_written j v n c.args.first.object c.args.first.start c.args.first.bytes.now c.args.second.object c.args.second.start
    c.args.second.bytes.now c.args.places.now (c.byte_run_for-run.result ++ (c.byte_run_for-next.result ++ c.words_of_places.result))
    c.self.view_is c.self.invariant c.requires.up c.requires.two_objects
    c.requires.first_cells (λ k lt _. c.byte_run_for-run.ensures.bytes k lt) c.requires.second_cells (λ k lt _. c.byte_run_for-next.ensures.bytes k lt)
    c.requires.there c.requires.plain c.requires.apart
    (λ t. c.byte_run_for-run.ensures.words t ++ (c.byte_run_for-next.ensures.words t ++ c.words_of_places.ensures.exact t)) in
    w.distinct

pub invariant_of-self-2 : goal.invariant_of-self-2
invariant_of-self-2 g c =
    let j = c.self.inside.journal in
    let v = c.args.self.now in
    let n = c.self.inside.size in
    let w = two_runs_are_written j v n c.args.first.object c.args.first.start c.args.first.bytes.now c.args.second.object c.args.second.start
    c.args.second.bytes.now c.args.places.now (c.byte_run_for-run.result ++ (c.byte_run_for-next.result ++ c.words_of_places.result))
    c.self.view_is c.self.invariant c.requires.up c.requires.two_objects
    c.requires.first_cells (λ k lt _. c.byte_run_for-run.ensures.bytes k lt) c.requires.second_cells (λ k lt _. c.byte_run_for-next.ensures.bytes k lt)
    c.requires.there c.requires.plain c.requires.apart
    (λ t. c.byte_run_for-run.ensures.words t ++ (c.byte_run_for-next.ensures.words t ++ c.words_of_places.ensures.exact t)) in
    written_sound j v n (c.byte_run_for-run.result ++ (c.byte_run_for-next.result ++ c.words_of_places.result)) _ _ c.self.view_is w c.write_all.new.self
    (up_is j v n c.self.view_is c.requires.up) c.self.invariant c.in_ok-write_all.ensures.ok

pub invariant_of-self : goal.invariant_of-self
invariant_of-self g c =
    let j = c.self.inside.journal in
    let n = c.self.inside.size in
    refused_sound j c.write_all.new.self n c.in_err-write_all.field-0.0 c.self.invariant c.in_err-write_all.ensures.kept c.in_err-write_all.ensures.stopped

pub returns : goal.returns
returns g c =
    let j = c.self.inside.journal in
    let v = c.args.self.now in
    let n = c.self.inside.size in
    let w = two_runs_are_written j v n c.args.first.object c.args.first.start c.args.first.bytes.now c.args.second.object c.args.second.start
    c.args.second.bytes.now c.args.places.now (c.byte_run_for-run.result ++ (c.byte_run_for-next.result ++ c.words_of_places.result))
    c.self.view_is c.self.invariant c.requires.up c.requires.two_objects
    c.requires.first_cells (λ k lt _. c.byte_run_for-run.ensures.bytes k lt) c.requires.second_cells (λ k lt _. c.byte_run_for-next.ensures.bytes k lt)
    c.requires.there c.requires.plain c.requires.apart
    (λ t. c.byte_run_for-run.ensures.words t ++ (c.byte_run_for-next.ensures.words t ++ c.words_of_places.ensures.exact t)) in
    written_done j v n (c.byte_run_for-run.result ++ (c.byte_run_for-next.result ++ c.words_of_places.result)) _ _ c.self.view_is w c.write_all.new.self
    (SetPlaces (run_changes c.args.first ++ (run_changes c.args.second ++ c.args.places.now)))
    c.self.invariant.back (λ none. ok_not_err _ _ (c.in_ok-write_all.ensures.full.1 none)) c.in_ok-write_all.ensures.ok refl

pub returns-in_err-write_all : goal.returns-in_err-write_all
returns-in_err-write_all g c =
    let j = c.self.inside.journal in
    let v = c.args.self.now in
    let n = c.self.inside.size in
    let w = two_runs_are_written j v n c.args.first.object c.args.first.start c.args.first.bytes.now c.args.second.object c.args.second.start
    c.args.second.bytes.now c.args.places.now (c.byte_run_for-run.result ++ (c.byte_run_for-next.result ++ c.words_of_places.result))
    c.self.view_is c.self.invariant c.requires.up c.requires.two_objects
    c.requires.first_cells (λ k lt _. c.byte_run_for-run.ensures.bytes k lt) c.requires.second_cells (λ k lt _. c.byte_run_for-next.ensures.bytes k lt)
    c.requires.there c.requires.plain c.requires.apart
    (λ t. c.byte_run_for-run.ensures.words t ++ (c.byte_run_for-next.ensures.words t ++ c.words_of_places.ensures.exact t)) in
    written_refused j v n (c.byte_run_for-run.result ++ (c.byte_run_for-next.result ++ c.words_of_places.result)) _ _ c.self.view_is w c.from_residual.result
    (SetPlaces (run_changes c.args.first ++ (run_changes c.args.second ++ c.args.places.now)))
    c.write_all.new.self c.in_err-write_all.field-0.0 c.self.invariant.back c.from_residual.ensures.1 c.in_err-write_all.ensures.full
    c.in_err-write_all.ensures.kept c.in_err-write_all.ensures.stopped refl

pub invariant_of-after : goal.invariant_of-after
invariant_of-after g c =
    let up = up_is c.self.inside.journal c.args.self.now c.self.inside.size c.self.view_is c.requires.up in
    let there : c.args.second.start + length c.args.second.bytes.now ≤ length (cells (heap_of c.self.inside.journal.plain) c.args.second.object) =
    subst (λ (u : HeapView). c.args.second.start + length c.args.second.bytes.now ≤ length (cells u.now c.args.second.object)) (sym c.self.view_is)
    c.requires.second_cells in
    omega (
      arith,
      run_short c.self.inside.journal.plain c.args.second.object c.args.second.start c.args.second.bytes.now there,
      ap (λ (l : List (ℕ × ℕ)). length l) c.byte_run_for-next.ensures.words,
      c.self.invariant.size_now up,
      c.self.invariant.small,
      c.words_of_places.ensures.few,
    )

pub invariant_of-both : goal.invariant_of-both
invariant_of-both g c =
    let up = up_is c.self.inside.journal c.args.self.now c.self.inside.size c.self.view_is c.requires.up in
    let there : c.args.first.start + length c.args.first.bytes.now ≤ length (cells (heap_of c.self.inside.journal.plain) c.args.first.object) =
    subst (λ (u : HeapView). c.args.first.start + length c.args.first.bytes.now ≤ length (cells u.now c.args.first.object)) (sym c.self.view_is)
    c.requires.first_cells in
    let next : c.args.second.start + length c.args.second.bytes.now ≤ length (cells (heap_of c.self.inside.journal.plain) c.args.second.object) =
    subst (λ (u : HeapView). c.args.second.start + length c.args.second.bytes.now ≤ length (cells u.now c.args.second.object)) (sym c.self.view_is)
    c.requires.second_cells in
    omega (
      arith,
      run_short c.self.inside.journal.plain c.args.first.object c.args.first.start c.args.first.bytes.now there,
      ap (λ (l : List (ℕ × ℕ)). length l) c.byte_run_for-run.ensures.words,
      c.self.invariant.size_now up,
      c.self.invariant.small,
      run_short c.self.inside.journal.plain c.args.second.object c.args.second.start c.args.second.bytes.now next,
      ap (λ (l : List (ℕ × ℕ)). length l) c.byte_run_for-next.ensures.words,
      length-append c.byte_run_for-next.result c.words_of_places.result,
      c.words_of_places.ensures.few,
    )
