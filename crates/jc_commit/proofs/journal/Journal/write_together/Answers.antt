use Rattle.std.specs.Prelude.{Bool, ◌<◌, ◌≤◌}
use Rattle.std.proofs.Common.{◌≡◌, ◌+◌, ℕ, List, length, false, refl, sym, ap, subst, ◌∙◌, arith, get_or-set_same}
use Rattle.std.proofs.lemmas.Bool.{false≢true}
use Rattle.std.proofs.lemmas.List.{length-set}
use Rattle.jc_words.specs.Layout.{count_address}
use Rattle.jc_words.specs.Image.{log_of}
use Rattle.jc_words.specs.Refusals.{Refusals}
use Rattle.jc_words.specs.declared.log.Log.{Log}
use Rattle.jc_commit.specs.Image.{plain_of, touched_of, count_of, limit_of, capacity_of, IsGoodLog}
use Rattle.jc_commit.specs.Entries.{addresses_of, ArePlaces}
use Rattle.jc_commit.specs.EntryIndex.{needing}
use Rattle.jc_commit.specs.State.{State, IsSound, keeping}
use Rattle.jc_commit.specs.Keep.{writes_for, writes_inside, writes_outside}
use Rattle.jc_commit.proofs.Words.{heap_end_within}
use Rattle.jc_commit.proofs.Steps.{plain-set_count, log-set_count, IsGoodLog-set_zero}
use Rattle.jc_commit.proofs.InPlace.{limit_is, capacity_is, places_in}
use Rattle.jc_commit.proofs.Views.{length-addresses, touched_none}
use Rattle.jc_commit.proofs.Changing.{Shut, state_of, shut_of, changed_outside, torn, stays_same, sound_kept, needing_each, writes_own, writes_for_outside}
use Rattle.jc_commit.proofs.Indexes.{index_none}
use Rattle.jc_commit.proofs.Refusals.{anyway}
use Rattle.jc_commit.proofs.Writes.{one_write, no_more, more_writes, refused_later, stays_more}
use Rattle.jc_commit.proofs.journal.Journal.write_together.Goals as goal

-- what a journal outside a transaction says of several words
record Together (s : State) (l : Log) (w : List ℕ) (changes : List (ℕ × ℕ)) : Type 0 where
  shut : Shut w s
  places : ArePlaces (limit_of w) changes
  room : count_of w + length (needing (touched_of w) 65535 changes) ≤ l.capacity
  writes : writes_outside (length changes) ≡ writes_inside (length changes) (length (needing (touched_of w) 65535 changes)) + 1
  total : writes_for (keeping s) (addresses_of changes) ≡ writes_inside (length changes) (length (needing (touched_of w) 65535 changes)) + 1

together_of : {w numbers : List ℕ} {d t : Bool} {l : Log} {born p : ℕ} {r : Refusals} {s : State} (changes : List (ℕ × ℕ)) → IsSound w d t l born numbers
    → state_of w t d p r ≡ s → s.down ≡ false → s.in_transaction ≡ false → ArePlaces (length s.plain) changes → 1 < length changes
    → length changes ≤ capacity_of s.recovered → Together s l w changes
together_of {w = w} {l = l} {s = s} changes sound v up outside in_plain several fits =
    let shut : Shut w s = shut_of sound v up outside in
    let places : ArePlaces (limit_of w) changes = places_in s.plain w changes (limit_is s w (ap (λ (s : State). s.plain) v)) in_plain in
    let all : needing (touched_of w) 65535 changes ≡ changes = ap (λ (t : List ℕ). needing t 65535 changes) (touched_none w shut.none)
    ∙ needing_each 65535 changes (λ k within. let below = (places k within).below in omega (arith, below, heap_end_within (length w) (capacity_of w), sound.small)) in
    let long : length (needing (touched_of w) 65535 changes) ≡ length changes = ap (λ (cs : List (ℕ × ℕ)). length cs) all in
    let own : l.capacity ≡ capacity_of s.recovered = ap (λ (m : Log). m.capacity) sound.stands ∙ sym (capacity_is s w sound.good (ap (λ (s : State). s.recovered) v)) in
    let writes = writes_own (length changes) (length (needing (touched_of w) 65535 changes)) long several in
    record {
      shut = shut;
      places = places;
      room = omega (arith, long, shut.none, own, fits);
      writes = writes;
      total = writes_for_outside s (addresses_of changes) outside ∙ ap writes_outside (length-addresses changes) ∙ writes;
    }

pub keep_and_write-requires : goal.keep_and_write-requires
keep_and_write-requires g c =
    let w = g.S.WordStore.words c.self.inside.store in
    let sound = c.self.invariant in
    let i = together_of (g.C.WordChanges.changes c.args.changes.now) sound c.self.view_is c.requires.up c.requires.outside c.requires.places c.requires.several
    c.requires.room in
    record {
      stands = record { good = sound.good; stands = sound.stands; within = sound.within; small = sound.small };
      index = index_none c.self.inside.log w _ _ i.shut.none refl;
      births = λ a high below. absurd (omega (arith, high, below, heap_end_within (length w) (capacity_of w), sound.small));
      places = i.places;
      room = i.room;
    }

pub returns-in_err-keep_and_write-clause-stopped : goal.returns-in_err-keep_and_write-clause-stopped
returns-in_err-keep_and_write-clause-stopped g c =
    let i = together_of (g.C.WordChanges.changes c.args.changes.now) c.self.invariant c.self.view_is c.requires.up c.requires.outside c.requires.places
    c.requires.several c.requires.room in
    anyway c.from_residual.result _ (torn c.in_err-keep_and_write.ensures.wrote c.keep_and_write.ensures.stays c.self.view_is (omega (arith, i.total)))

pub returns-in_err-write-clause-stopped : goal.returns-in_err-write-clause-stopped
returns-in_err-write-clause-stopped g c =
    let i = together_of (g.C.WordChanges.changes c.args.changes.now) c.self.invariant c.self.view_is c.requires.up c.requires.outside c.requires.places
    c.requires.several c.requires.room in
    let stays = c.keep_and_write.ensures.stays in
    let f = c.in_err-write.ensures in
    anyway c.from_residual-in_err-write.result _ (torn {n = writes_for (keeping c.args.self.now) (addresses_of (g.C.WordChanges.changes c.args.changes.now))}
    (refused_later c.in_ok-keep_and_write.ensures.wrote (no_more f.down f.passed f.refusals) (omega (arith, i.total)))
    (stays_more stays (stays_same stays.good f.kept)) c.self.view_is (omega arith))

pub returns-clause-ok : goal.returns-clause-ok
returns-clause-ok g c =
    let u = g.S.WordStore.words c.keep_and_write.new.store in
    let changes = g.C.WordChanges.changes c.args.changes.now in
    let i = together_of changes c.self.invariant c.self.view_is c.requires.up c.requires.outside c.requires.places c.requires.several c.requires.room in
    let stays = c.keep_and_write.ensures.stays in
    let size = stays.good.size.enough in
    let e = c.in_ok-keep_and_write.ensures in
    let f = c.in_ok-write.ensures in
    changed_outside _ changes (more_writes e.wrote (one_write f.was_up f.down f.passed f.refusals) refl) c.self.view_is i.shut c.requires.outside
    (ap (λ (x : List ℕ). length x) f.written ∙ length-set u count_address 0 ∙ stays.size) (ap log_of f.written ∙ log-set_count u 0 ∙ stays.log)
    (ap plain_of f.written ∙ plain-set_count u 0 ∙ e.changed.plain)
    (ap count_of f.written ∙ get_or-set_same u count_address 0 0 (omega (arith, size))) i.writes

-- what holds of every journal, once no entry counts
pub invariant_of-self-2 : goal.invariant_of-self-2
invariant_of-self-2 g c =
    let u = g.S.WordStore.words c.keep_and_write.new.store in
    let stays = c.keep_and_write.ensures.stays in
    let size = stays.good.size.enough in
    let f = c.in_ok-write.ensures in
    sound_kept c.self.invariant (subst IsGoodLog (sym f.written) (IsGoodLog-set_zero u stays.good))
    (ap (λ (x : List ℕ). length x) f.written ∙ length-set u count_address 0 ∙ stays.size) (ap log_of f.written ∙ log-set_count u 0 ∙ stays.log)
    (λ out up. ap count_of f.written ∙ get_or-set_same u count_address 0 0 (omega (arith, size)))
    (λ inside up. absurd (false≢true (sym (ap (λ (s : State). s.in_transaction) c.self.view_is ∙ c.requires.outside) ∙ inside)))
