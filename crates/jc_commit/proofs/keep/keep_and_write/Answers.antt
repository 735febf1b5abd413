use Rattle.std.proofs.Common.{◌≤◌, ℕ, List, length, refl, sym, ap, subst, ◌∙◌, arith}
use Rattle.jc_words.specs.Layout.{count_address, log_start}
use Rattle.jc_words.specs.declared.log.Log.{Log}
use Rattle.jc_commit.specs.Image.{touched_of, with_words}
use Rattle.jc_commit.specs.Entries.{ArePlaces, AreBeside}
use Rattle.jc_commit.specs.EntryIndex.{needing, IsIndexOf}
use Rattle.jc_commit.specs.Writing.{KeepsTransaction}
use Rattle.jc_commit.proofs.Words.{bounds_of}
use Rattle.jc_commit.proofs.Steps.{limit-same}
use Rattle.jc_commit.proofs.Entries.{places_beside}
use Rattle.jc_commit.proofs.Counted.{touched_counted, touched_same}
use Rattle.jc_commit.proofs.EntryKeeping.{counting, needing_names, stays_put, stays_counted, most_kept, all_go_back, free_kept}
use Rattle.jc_commit.proofs.Writes.{more_writes, refused_later, refused_early, at_err, stays_more}
use Rattle.jc_commit.proofs.keep.keep_and_write.Goals as goal

pub put_needing-requires : goal.put_needing-requires
put_needing-requires g c =
    let w = g.S.WordStore.words c.args.store.now in
    let changes = g.C.WordChanges.changes c.args.changes.now in
    let has = c.requires.stands in
    let long = needing_names c.args.log w c.read-first.result c.args.born changes has.stands c.read-first.ensures in record {
      stands = record {
        size = has.within;
        small = omega (arith, has.within, has.small);
        few = omega (arith, c.read-first.ensures, c.requires.room);
        index = subst (λ (n : ℕ). IsIndexOf c.args.log w n c.args.numbers.now) (sym c.read-first.ensures) c.requires.index;
      };
      places = subst (λ (m : Log). AreBeside m (length w) changes) (sym has.stands) (places_beside w changes has.good c.requires.places);
      room = omega (arith, long, c.read-first.ensures, c.requires.room);
    }

pub count_entries-requires-clause-count : goal.count_entries-requires-clause-count
count_entries-requires-clause-count g c =
    let low : log_start ≤ c.args.log.start = subst (λ (m : Log). log_start ≤ m.start) (sym c.requires.stands.stands) (bounds_of _ c.requires.stands.good).low in
    c.read-first.ensures ∙ sym (c.put_needing.ensures.same.1 count_address (λ h. absurd (omega (arith, low, h))))

pub returns-in_err-behind-clause-stays : goal.returns-in_err-behind-clause-stays
returns-in_err-behind-clause-stays g c =
    stays_put c.requires.stands c.read-first.ensures c.put_needing.ensures.same

pub returns-in_err-behind-clause-wrote : goal.returns-in_err-behind-clause-wrote
returns-in_err-behind-clause-wrote g c =
    let w = g.S.WordStore.words c.args.store.now in
    let changes = g.C.WordChanges.changes c.args.changes.now in
    let long = needing_names c.args.log w c.read-first.result c.args.born changes c.requires.stands.stands c.read-first.ensures in
    let most = most_kept (length changes) (length (needing (touched_of w) c.args.born changes)) in
    at_err c.from_residual.result c.from_residual.ensures.0 (refused_early c.in_err-behind.ensures.wrote (omega (arith, long, most)))

pub returns-in_err-count_entries-clause-stays : goal.returns-in_err-count_entries-clause-stays
returns-in_err-count_entries-clause-stays g c =
    subst (λ (u : List ℕ). KeepsTransaction (g.S.WordStore.words c.args.store.now) u) (sym c.in_err-count_entries.ensures.kept)
    (stays_put c.requires.stands c.read-first.ensures c.put_needing.ensures.same)

pub returns-in_err-count_entries-clause-wrote : goal.returns-in_err-count_entries-clause-wrote
returns-in_err-count_entries-clause-wrote g c =
    let now = counting _ (g.C.WordChanges.changes c.args.changes.now) c.requires.stands c.requires.places c.requires.room c.read-first.ensures
    c.in_ok-behind.ensures.put refl in
    let sum = now.writes (length (g.C.WordChanges.changes c.args.changes.now)) in
    at_err c.from_residual-in_err-count_entries.result c.from_residual-in_err-count_entries.ensures.0
    (refused_later c.in_ok-behind.ensures.wrote c.in_err-count_entries.ensures.wrote (omega (arith, sum)))

pub write_through-requires : goal.write_through-requires
write_through-requires g c =
    let w = g.S.WordStore.words c.args.store.now in
    let changes = g.C.WordChanges.changes c.args.changes.now in
    let now = counting _ changes c.requires.stands c.requires.places c.requires.room c.read-first.ensures c.in_ok-behind.ensures.put
    c.in_ok-count_entries.ensures.words in
    record {
      good = now.done.good;
      places = subst (λ (n : ℕ). ArePlaces n changes) (sym (limit-same _ _ now.done.size now.done.log)) c.requires.places;
      kept = all_go_back w (g.S.WordStore.words c.count_entries.new.store) c.args.born changes now.done.entries;
      births = free_kept (stays_counted now.done) c.requires.births;
    }

pub returns-in_err-write_through-clause-stays : goal.returns-in_err-write_through-clause-stays
returns-in_err-write_through-clause-stays g c =
    let now = counting _ (g.C.WordChanges.changes c.args.changes.now) c.requires.stands c.requires.places c.requires.room c.read-first.ensures
    c.in_ok-behind.ensures.put c.in_ok-count_entries.ensures.words in
    stays_more (stays_counted now.done) c.write_through.ensures.stays

pub returns-in_err-write_through-clause-wrote : goal.returns-in_err-write_through-clause-wrote
returns-in_err-write_through-clause-wrote g c =
    let now = counting _ (g.C.WordChanges.changes c.args.changes.now) c.requires.stands c.requires.places c.requires.room c.read-first.ensures
    c.in_ok-behind.ensures.put c.in_ok-count_entries.ensures.words in
    let sum = now.writes (length (g.C.WordChanges.changes c.args.changes.now)) in
    at_err c.from_residual-in_err-write_through.result c.from_residual-in_err-write_through.ensures.0
    (refused_later (more_writes c.in_ok-behind.ensures.wrote c.in_ok-count_entries.ensures.wrote refl) c.in_err-write_through.ensures.wrote (omega (arith, sum)))

pub returns : goal.returns
returns g c =
    let w = g.S.WordStore.words c.args.store.now in
    let u = g.S.WordStore.words c.count_entries.new.store in
    let changes = g.C.WordChanges.changes c.args.changes.now in
    let now = counting u changes c.requires.stands c.requires.places c.requires.room c.read-first.ensures c.in_ok-behind.ensures.put
    c.in_ok-count_entries.ensures.words in
    let grown = touched_same u _ c.write_through.ensures.entries ∙ touched_counted w u _ now.done.entries in
    record {
      stays = stays_more (stays_counted now.done) c.write_through.ensures.stays;
      changed = record {
        count = now.count _ grown;
        plain = c.in_ok-write_through.ensures.plain ∙ ap (λ (p : List ℕ). with_words p changes) now.done.plain;
        touched = grown;
      };
      wrote = more_writes (more_writes c.in_ok-behind.ensures.wrote c.in_ok-count_entries.ensures.wrote refl) c.in_ok-write_through.ensures.wrote
          (now.writes (length changes));
    }
