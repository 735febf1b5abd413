use Rattle.std.proofs.Common.{◌≡◌, ℕ, ◌+◌, List, length, slice_index, sym, ap, subst, ◌∙◌, arith}
use Rattle.jc_commit.specs.Image.{count_of, limit_of, plain_of, recovered_of, IsGoodLog}
use Rattle.jc_words.specs.Layout.{version_address}
use Rattle.jc_commit.specs.Migration.{migration, migrated}
use Rattle.jc_commit.proofs.Migrations.{migrates, version-migrated}
use Rattle.jc_commit.proofs.Steps.{limit-same}
use Rattle.jc_commit.proofs.Openings.{migration_after, stops_first, stops_later, still_first, still_later, most_writes}
use Rattle.jc_commit.specs.State.{undo_writes}
use Rattle.jc_commit.proofs.Refusals.{anyway}
use Rattle.jc_commit.proofs.Writes.{more_writes, refused_later, at_err}
use Rattle.jc_commit.proofs.undo.recover.Goals as goal

pub migrate-requires : goal.migrate-requires
migrate-requires g c = let big = c.replay.ensures.stays.good.size.enough in omega (arith, big)

pub returns-clause-good : goal.returns-clause-good
returns-clause-good g c = subst IsGoodLog (sym c.in_ok-migrate.ensures.words) (migrates _ 3 c.replay.ensures.stays.good).good

pub returns-clause-size : goal.returns-clause-size
returns-clause-size g c =
    ap (λ (v : List ℕ). length v) c.in_ok-migrate.ensures.words ∙ (migrates _ 3 c.replay.ensures.stays.good).size ∙ c.replay.ensures.stays.size

pub returns-clause-recovered : goal.returns-clause-recovered
returns-clause-recovered g c =
    let u = g.S.WordStore.words c.replay.new.store in
    let e = c.in_ok-migrate.ensures in
    let after = migrates u 3 c.replay.ensures.stays.good in record {
      current = ap (λ (v : List ℕ). slice_index v version_address) e.words ∙ version-migrated u c.replay.ensures.stays.good;
      plain = ap plain_of e.words ∙ after.plain ∙ ap (migrated 3) c.in_ok-replay.ensures.plain;
      recovered = ap recovered_of e.words ∙ after.recovered ∙ ap (migrated 3) c.replay.ensures.stays.recovered;
      count = ap count_of e.words ∙ after.count ∙ c.in_ok-replay.ensures.count;
    }

pub returns-clause-wrote : goal.returns-clause-wrote
returns-clause-wrote g c =
    let same = migration_after (g.S.WordStore.words c.args.store.now) (g.S.WordStore.words c.replay.new.store) c.requires.stands.good c.replay.ensures.stays.good
    c.replay.ensures.stays.recovered in
    more_writes c.in_ok-replay.ensures.wrote c.in_ok-migrate.ensures.wrote
    (ap (λ (ws : List (ℕ × ℕ)). undo_writes (count_of (g.S.WordStore.words c.args.store.now)) + length ws) (sym same))

pub returns-in_err-migrate-clause-wrote : goal.returns-in_err-migrate-clause-wrote
returns-in_err-migrate-clause-wrote g c =
    let long : length (migration (g.S.WordStore.words c.replay.new.store)) ≡ length (migration (g.S.WordStore.words c.args.store.now)) =
    ap (λ (ws : List (ℕ × ℕ)). length ws) (migration_after (g.S.WordStore.words c.args.store.now) (g.S.WordStore.words c.replay.new.store) c.requires.stands.good
    c.replay.ensures.stays.good c.replay.ensures.stays.recovered) in
    at_err c.from_residual-in_err-migrate.result c.from_residual-in_err-migrate.ensures.0
    (refused_later c.in_ok-replay.ensures.wrote c.in_err-migrate.ensures.wrote (omega (arith, long)))

pub returns-clause-limit : goal.returns-clause-limit
returns-clause-limit g c =
    let stays = c.replay.ensures.stays in
    ap limit_of c.in_ok-migrate.ensures.words ∙ (migrates _ 3 stays.good).limit ∙ limit-same _ _ stays.size stays.log

pub returns-in_err-replay-clause-limit : goal.returns-in_err-replay-clause-limit
returns-in_err-replay-clause-limit g c =
    limit-same _ _ c.replay.ensures.stays.size c.replay.ensures.stays.log

pub returns-in_err-replay-clause-still : goal.returns-in_err-replay-clause-still
returns-in_err-replay-clause-still g c =
    anyway c.from_residual.result _ (still_first (g.S.WordStore.words c.args.store.now) _ c.replay.ensures.stays.good c.replay.ensures.stays.size c.replay.ensures.stays.recovered)

pub returns-in_err-replay-clause-part : goal.returns-in_err-replay-clause-part
returns-in_err-replay-clause-part g c =
    anyway c.from_residual.result _ (stops_first (g.S.WordStore.words c.args.store.now) _ _ _ c.replay.ensures.part)

pub returns-in_err-migrate-clause-good : goal.returns-in_err-migrate-clause-good
returns-in_err-migrate-clause-good g c =
    let part = c.in_err-migrate.ensures.part in
    subst IsGoodLog (sym part.2) (migrates _ part.0 c.replay.ensures.stays.good).good

pub returns-in_err-migrate-clause-size : goal.returns-in_err-migrate-clause-size
returns-in_err-migrate-clause-size g c =
    let part = c.in_err-migrate.ensures.part in
    ap (λ (v : List ℕ). length v) part.2 ∙ (migrates _ part.0 c.replay.ensures.stays.good).size ∙ c.replay.ensures.stays.size

pub returns-in_err-migrate-clause-limit : goal.returns-in_err-migrate-clause-limit
returns-in_err-migrate-clause-limit g c =
    let part = c.in_err-migrate.ensures.part in
    let stays = c.replay.ensures.stays in
    ap limit_of part.2 ∙ (migrates _ part.0 stays.good).limit ∙ limit-same _ _ stays.size stays.log

pub returns-in_err-migrate-clause-still : goal.returns-in_err-migrate-clause-still
returns-in_err-migrate-clause-still g c =
    let u = g.S.WordStore.words c.replay.new.store in
    let part = c.in_err-migrate.ensures.part in
    let few = most_writes u in
    anyway c.from_residual-in_err-migrate.result _ (still_later (g.S.WordStore.words c.args.store.now) u _ part.0 c.replay.ensures.stays.good c.replay.ensures.stays.size
    c.replay.ensures.stays.recovered (omega (arith, part.1, few)) part.2)

pub returns-in_err-migrate-clause-part : goal.returns-in_err-migrate-clause-part
returns-in_err-migrate-clause-part g c =
    let w = g.S.WordStore.words c.args.store.now in
    let u = g.S.WordStore.words c.replay.new.store in
    let part = c.in_err-migrate.ensures.part in
    let same = migration_after w u c.requires.stands.good c.replay.ensures.stays.good c.replay.ensures.stays.recovered in
    let long : length (migration u) ≡ length (migration w) = ap (λ (ws : List (ℕ × ℕ)). length ws) same in
    anyway c.from_residual-in_err-migrate.result _ (stops_later w u _ (g.S.WordStore.passed c.args.store.now) (g.S.WordStore.passed c.replay.new.store) _
    c.in_ok-replay.ensures.whole same c.in_ok-replay.ensures.wrote.passed part.0 (omega (arith, part.1, long)) part.2 part.3)
