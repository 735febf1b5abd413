use Rattle.std.proofs.Common.{ℕ, List, [], ◌∷◌, length, refl, sym, ap, ◌∙◌, arith}
use Rattle.std.proofs.lemmas.Bool.{false≢true}
use Rattle.std.proofs.lemmas.List.{length-set}
use Rattle.jc_words.specs.Image.{log_of}
use Rattle.jc_commit.specs.Image.{plain_of, count_of}
use Rattle.jc_commit.specs.State.{State}
use Rattle.jc_commit.proofs.Words.{log-set}
use Rattle.jc_commit.proofs.Steps.{plain-set_place, count-set_place}
use Rattle.jc_commit.proofs.Entries.{place_one}
use Rattle.jc_commit.proofs.Changing.{shut_of, changed_outside, torn, stays_same, sound_in_place, writes_for_outside}
use Rattle.jc_commit.proofs.Writes.{one_write, no_more}
use Rattle.jc_commit.proofs.OneWord.{one_of, room_alone}
use Rattle.jc_commit.proofs.Refusals.{anyway}
use Rattle.jc_commit.proofs.journal.Journal.write_alone.Goals as goal

pub write-requires : goal.write-requires
write-requires g c =
    let s = c.args.self.now in
    let one = one_of {n = 1} {change = (c.args.address, c.args.value)} s ((c.args.address, c.args.value) ∷ []) c.self.invariant
    (ap (λ (s : State). s.plain) c.self.view_is) (place_one (length s.plain) c.args.address c.args.value c.requires.place) refl refl refl in
    one.below

pub returns-in_err-write-clause-stopped : goal.returns-in_err-write-clause-stopped
returns-in_err-write-clause-stopped g c =
    let f = c.in_err-write.ensures in
    anyway c.from_residual.result _ (torn {d = g.S.WordStore.down} {p = g.S.WordStore.passed} {r = g.S.WordStore.refusals} (no_more f.down f.passed f.refusals)
    (stays_same c.self.invariant.good f.kept) c.self.view_is (omega (arith, writes_for_outside c.args.self.now (c.args.address ∷ []) c.requires.outside)))

pub returns-in_err-write-clause-room : goal.returns-in_err-write-clause-room
returns-in_err-write-clause-room g c = room_alone c.self.invariant c.self.view_is c.args.address c.requires.outside

pub invariant_of-self-2 : goal.invariant_of-self-2
invariant_of-self-2 g c =
    let s = c.args.self.now in
    let v = c.self.view_is in
    let e = c.in_ok-write.ensures in
    let one = one_of {n = 1} {change = (c.args.address, c.args.value)} s ((c.args.address, c.args.value) ∷ []) c.self.invariant
    (ap (λ (s : State). s.plain) v) (place_one (length s.plain) c.args.address c.args.value c.requires.place) refl refl refl in
    sound_in_place _ _ c.self.invariant one.place (λ inside. absurd (false≢true (sym (ap (λ (s : State). s.in_transaction) v ∙ c.requires.outside) ∙ inside))) e.was_up
    e.written

pub returns-clause-ok : goal.returns-clause-ok
returns-clause-ok g c =
    let s = c.args.self.now in
    let v = c.self.view_is in
    let w = g.S.WordStore.words c.self.inside.store in
    let changes = (c.args.address, c.args.value) ∷ [] in
    let sound = c.self.invariant in
    let e = c.in_ok-write.ensures in
    let shut = shut_of sound v c.requires.up c.requires.outside in
    let one = one_of {n = 1} {change = (c.args.address, c.args.value)} s changes c.self.invariant
    (ap (λ (s : State). s.plain) v) (place_one (length s.plain) c.args.address c.args.value c.requires.place) refl refl refl in
    changed_outside {d = g.S.WordStore.down} {p = g.S.WordStore.passed} {r = g.S.WordStore.refusals} _ changes (one_write e.was_up e.down e.passed e.refusals) v shut c.requires.outside
    (ap (λ (x : List ℕ). length x) e.written ∙ length-set w _ _) (ap log_of e.written ∙ log-set w _ _ one.place)
    (ap plain_of e.written ∙ plain-set_place w _ _ sound.good one.place ∙ one.written)
    (ap count_of e.written ∙ count-set_place w _ _ one.place ∙ shut.none) refl

pub returns-clause-room : goal.returns-clause-room
returns-clause-room g c = room_alone c.self.invariant c.self.view_is c.args.address c.requires.outside
