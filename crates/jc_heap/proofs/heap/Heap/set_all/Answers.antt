use Rattle.std.proofs.Common.{refl}
use Rattle.jc_heap.specs.Moves.{SetPlaces}
use Rattle.jc_heap.proofs.Calls.{ok_not_err}
use Rattle.jc_heap.proofs.Changing.{up_is}
use Rattle.jc_heap.proofs.Written.{written_sound, written_done, written_refused, refused_sound}
use Rattle.jc_heap.proofs.Several.{several_are_written}
use Rattle.jc_heap.proofs.heap.Heap.set_all.Goals as goal

pub write_all-requires-clause-places : goal.write_all-requires-clause-places
write_all-requires-clause-places g c =
    let j = c.self.inside.journal in
    let v = c.args.self.now in
    let n = c.self.inside.size in
    let w = several_are_written j v n c.args.changes.now c.words_of_places-words.result
    c.self.view_is c.self.invariant c.requires.up c.requires.there c.requires.plain c.requires.apart c.words_of_places-words.ensures.exact in
    w.each

pub write_all-requires-clause-distinct : goal.write_all-requires-clause-distinct
write_all-requires-clause-distinct g c =
    let j = c.self.inside.journal in
    let v = c.args.self.now in
    let n = c.self.inside.size in
    let w = several_are_written j v n c.args.changes.now c.words_of_places-words.result
    c.self.view_is c.self.invariant c.requires.up c.requires.there c.requires.plain c.requires.apart c.words_of_places-words.ensures.exact in
    w.distinct

pub invariant_of-self-2 : goal.invariant_of-self-2
invariant_of-self-2 g c =
    let j = c.self.inside.journal in
    let v = c.args.self.now in
    let n = c.self.inside.size in
    let w = several_are_written j v n c.args.changes.now c.words_of_places-words.result
    c.self.view_is c.self.invariant c.requires.up c.requires.there c.requires.plain c.requires.apart c.words_of_places-words.ensures.exact in
    written_sound j v n c.words_of_places-words.result _ _ c.self.view_is w c.write_all.new.self (up_is j v n c.self.view_is c.requires.up)
    c.self.invariant c.in_ok-write_all.ensures.ok

pub invariant_of-self : goal.invariant_of-self
invariant_of-self g c =
    let j = c.self.inside.journal in
    let n = c.self.inside.size in
    refused_sound j c.write_all.new.self n c.in_err-write_all.field-0.0 c.self.invariant c.in_err-write_all.ensures.kept c.in_err-write_all.ensures.stopped

pub returns : goal.returns
returns g c =
    let j = c.self.inside.journal in
    let v = c.args.self.now in
    let n = c.self.inside.size in
    let w = several_are_written j v n c.args.changes.now c.words_of_places-words.result
    c.self.view_is c.self.invariant c.requires.up c.requires.there c.requires.plain c.requires.apart c.words_of_places-words.ensures.exact in
    written_done j v n c.words_of_places-words.result _ _ c.self.view_is w c.write_all.new.self (SetPlaces c.args.changes.now)
    c.self.invariant.back (λ none. ok_not_err _ _ (c.in_ok-write_all.ensures.full.1 none)) c.in_ok-write_all.ensures.ok refl

pub returns-in_err-write_all : goal.returns-in_err-write_all
returns-in_err-write_all g c =
    let j = c.self.inside.journal in
    let v = c.args.self.now in
    let n = c.self.inside.size in
    let w = several_are_written j v n c.args.changes.now c.words_of_places-words.result
    c.self.view_is c.self.invariant c.requires.up c.requires.there c.requires.plain c.requires.apart c.words_of_places-words.ensures.exact in
    written_refused j v n c.words_of_places-words.result _ _ c.self.view_is w c.from_residual.result (SetPlaces c.args.changes.now) c.write_all.new.self
    c.in_err-write_all.field-0.0 c.self.invariant.back c.from_residual.ensures.1 c.in_err-write_all.ensures.full c.in_err-write_all.ensures.kept
    c.in_err-write_all.ensures.stopped refl
