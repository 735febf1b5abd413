use Rattle.std.specs.Prelude.{◌==◌, Bool}
use Rattle.std.proofs.Common.{◌≡◌, ◌<◌, true, ℕ, List, length, set, take, slice_index, sym, ap, ◌∙◌, arith, eq-eqb}
use Rattle.jc_words.specs.Count.{saturating_count}
use Rattle.jc_words.specs.Layout.{version_address, journal_address, log_start, first_version}
use Rattle.jc_commit.specs.Image.{with_words}
use Rattle.jc_commit.specs.Migration.{migration, IsPartOfMigration}
use Rattle.jc_commit.proofs.Refusals.{anyway}
use Rattle.jc_commit.proofs.Migrations.{steps}
use Rattle.jc_commit.proofs.migration.migrate.Goals as goal

part_of : (w v : List ℕ) (p q n : ℕ) → slice_index w version_address ≡ first_version → n < 3 → v ≡ with_words w (take n (steps true)) → q ≡ saturating_count p n
    → IsPartOfMigration w v p q
part_of w v p q n first few words passed =
    let is : (slice_index w version_address == first_version) ≡ true = eq-eqb (slice_index w version_address) first_version first in
    let three : length (migration w) ≡ 3 = ap (λ (b : Bool). length (steps b)) is in
    (n, omega (arith, few, three), words ∙ sym (ap (λ (b : Bool). with_words w (take n (steps b))) is), passed)

pub returns-in_err-write-clause-part : goal.returns-in_err-write-clause-part
returns-in_err-write-clause-part g c =
    let e = c.in_err-write.ensures in
    anyway c.from_residual.result _
    (part_of (g.S.WordStore.words c.args.store.now) _ (g.S.WordStore.passed c.args.store.now) _ 0 (omega (arith, c.read.ensures, c.if-read-ne-FIRST_VERSION.false))
    (omega arith) e.kept (omega (arith, e.passed)))

pub returns-in_err-write-2-clause-part : goal.returns-in_err-write-2-clause-part
returns-in_err-write-2-clause-part g c =
    let d = c.in_ok-write.ensures in
    let e = c.in_err-write-2.ensures in
    anyway c.from_residual-in_err-write-2.result _
    (part_of (g.S.WordStore.words c.args.store.now) _ (g.S.WordStore.passed c.args.store.now) _ 1 (omega (arith, c.read.ensures, c.if-read-ne-FIRST_VERSION.false))
    (omega arith) (e.kept ∙ d.written) (omega (arith, e.passed, d.passed)))

pub returns-in_err-write-3-clause-part : goal.returns-in_err-write-3-clause-part
returns-in_err-write-3-clause-part g c =
    let b = c.in_ok-write.ensures in
    let d = c.in_ok-write-2.ensures in
    let e = c.in_err-write-3.ensures in
    anyway c.from_residual-in_err-write-3.result _
    (part_of (g.S.WordStore.words c.args.store.now) _ (g.S.WordStore.passed c.args.store.now) _ 2 (omega (arith, c.read.ensures, c.if-read-ne-FIRST_VERSION.false))
    (omega arith) (e.kept ∙ d.written ∙ ap (λ (u : List ℕ). set u journal_address log_start) b.written) (omega (arith, e.passed, d.passed, b.passed)))
