use Rattle.std.proofs.Common.{◌≤◌, ◌+◌, arith, ◌++◌, length, subst, sym, ap, refl, ℕ, List}
use Rattle.jc_heap.specs.Heap.{HeapView, heap_of, cells}
use Rattle.jc_heap.specs.Place.{cell_changes}
use Rattle.jc_heap.specs.Elements.{elements_of}
use Rattle.jc_heap.specs.Moves.{SetPlaces}
use Rattle.jc_heap.proofs.Calls.{ok_not_err}
use Rattle.jc_heap.proofs.Changing.{up_is}
use Rattle.jc_heap.proofs.Written.{written_sound, written_done, written_refused, refused_sound}
use Rattle.jc_heap.proofs.RunsSet.{run_short}
use Rattle.jc_heap.proofs.RunPlaces.{both_are_written}
use Rattle.jc_heap.proofs.heap.Heap.set_run_and_places.Goals as goal

pub write_all-requires-clause-places : goal.write_all-requires-clause-places
write_all-requires-clause-places g c =
    let j = c.self.inside.journal in
    let v = c.args.self.now in
    let n = c.self.inside.size in
    let w = both_are_written j v n c.args.object c.args.i (elements_of c.args.values) c.args.places.now (c.run_for-run.result ++ c.words_of_places.result)
    c.self.view_is c.self.invariant c.requires.up c.requires.cells c.requires.values c.requires.there c.requires.plain c.requires.apart
    (λ t. c.run_for-run.ensures t ++ c.words_of_places.ensures.exact t) in
    w.each

pub write_all-requires-clause-distinct : goal.write_all-requires-clause-distinct
write_all-requires-clause-distinct g c =
    let j = c.self.inside.journal in
    let v = c.args.self.now in
    let n = c.self.inside.size in
    let w = both_are_written j v n c.args.object c.args.i (elements_of c.args.values) c.args.places.now (c.run_for-run.result ++ c.words_of_places.result)
    c.self.view_is c.self.invariant c.requires.up c.requires.cells c.requires.values c.requires.there c.requires.plain c.requires.apart
    (λ t. c.run_for-run.ensures t ++ c.words_of_places.ensures.exact t) in
    w.distinct

pub invariant_of-self-2 : goal.invariant_of-self-2
invariant_of-self-2 g c =
    let j = c.self.inside.journal in
    let v = c.args.self.now in
    let n = c.self.inside.size in
    let w = both_are_written j v n c.args.object c.args.i (elements_of c.args.values) c.args.places.now (c.run_for-run.result ++ c.words_of_places.result)
    c.self.view_is c.self.invariant c.requires.up c.requires.cells c.requires.values c.requires.there c.requires.plain c.requires.apart
    (λ t. c.run_for-run.ensures t ++ c.words_of_places.ensures.exact t) in
    written_sound j v n (c.run_for-run.result ++ c.words_of_places.result) _ _ c.self.view_is w c.write_all.new.self (up_is j v n c.self.view_is c.requires.up) c.self.invariant
    c.in_ok-write_all.ensures.ok

pub invariant_of-self : goal.invariant_of-self
invariant_of-self g c =
    let j = c.self.inside.journal in
    let n = c.self.inside.size in
    refused_sound j c.write_all.new.self n c.in_err-write_all.field-0.0 c.self.invariant c.in_err-write_all.ensures.kept c.in_err-write_all.ensures.stopped

pub returns : goal.returns
returns g c =
    let j = c.self.inside.journal in
    let v = c.args.self.now in
    let n = c.self.inside.size in
    let w = both_are_written j v n c.args.object c.args.i (elements_of c.args.values) c.args.places.now (c.run_for-run.result ++ c.words_of_places.result)
    c.self.view_is c.self.invariant c.requires.up c.requires.cells c.requires.values c.requires.there c.requires.plain c.requires.apart
    (λ t. c.run_for-run.ensures t ++ c.words_of_places.ensures.exact t) in
    written_done j v n (c.run_for-run.result ++ c.words_of_places.result) _ _ c.self.view_is w c.write_all.new.self (SetPlaces (cell_changes c.args.object c.args.i (elements_of
    c.args.values) ++ c.args.places.now))
    c.self.invariant.back (λ none. ok_not_err _ _ (c.in_ok-write_all.ensures.full.1 none)) c.in_ok-write_all.ensures.ok refl

pub returns-in_err-write_all : goal.returns-in_err-write_all
returns-in_err-write_all g c =
    let j = c.self.inside.journal in
    let v = c.args.self.now in
    let n = c.self.inside.size in
    let w = both_are_written j v n c.args.object c.args.i (elements_of c.args.values) c.args.places.now (c.run_for-run.result ++ c.words_of_places.result)
    c.self.view_is c.self.invariant c.requires.up c.requires.cells c.requires.values c.requires.there c.requires.plain c.requires.apart
    (λ t. c.run_for-run.ensures t ++ c.words_of_places.ensures.exact t) in
    written_refused j v n (c.run_for-run.result ++ c.words_of_places.result) _ _ c.self.view_is w c.from_residual.result (SetPlaces (cell_changes c.args.object c.args.i (elements_of
    c.args.values) ++ c.args.places.now)) c.write_all.new.self
    c.in_err-write_all.field-0.0 c.self.invariant.back c.from_residual.ensures.1 c.in_err-write_all.ensures.full c.in_err-write_all.ensures.kept
    c.in_err-write_all.ensures.stopped refl

pub invariant_of-both : goal.invariant_of-both
invariant_of-both g c =
    let up = up_is c.self.inside.journal c.args.self.now c.self.inside.size c.self.view_is c.requires.up in
    let there : c.args.i + length (elements_of c.args.values) ≤ length (cells (heap_of c.self.inside.journal.plain) c.args.object) =
    subst (λ (u : HeapView). c.args.i + length (elements_of c.args.values) ≤ length (cells u.now c.args.object)) (sym c.self.view_is) c.requires.cells in
    omega (
      arith,
      run_short c.self.inside.journal.plain c.args.object c.args.i (elements_of c.args.values) there,
      ap (λ (l : List (ℕ × ℕ)). length l) c.run_for-run.ensures,
      c.self.invariant.size_now up,
      c.self.invariant.small,
      c.words_of_places.ensures.few,
    )
