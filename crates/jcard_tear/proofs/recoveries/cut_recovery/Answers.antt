use Rattle.std.proofs.Common.{◌≡◌, ◌∙◌, ap, ap₂, subst}
use Rattle.jc_words.specs.Store.{FuseStoreValue, with_fuse_armed}
use Rattle.jc_commit.specs.Image.{IsGoodLog}
use Rattle.jc_commit.specs.Journal.{OpeningFails}
use Rattle.jc_commit.specs.declared.refusal.OpenRefusal.TheVariants.{StoreDown}
use Rattle.jcard_sweeps.specs.Runs.{store_of}
use Rattle.jcard_tear.proofs.Fuses.{torn_at}
use Rattle.jcard_sweeps.proofs.RunFaults.{memory_logged, refused_on}
use Rattle.jcard_sweeps.proofs.WholeRuns.{under_fuse}
use Rattle.jcard_tear.proofs.recoveries.cut_recovery.Goals as goal

pub returns-in-Err-StoreDown-default-clause-torn : goal.returns-in-Err-StoreDown-default-clause-torn
returns-in-Err-StoreDown-default-clause-torn c =
    let found = c.in-Err-StoreDown-default in
    let fails : OpeningFails (λ (s : FuseStoreValue). s.words) (λ s. s.down) (λ s. s.passed) (λ s. s.refusals) c.arm.new.self StoreDown found.store
    = subst (λ f. OpeningFails (λ (s : FuseStoreValue). s.words) (λ s. s.down) (λ s. s.passed) (λ s. s.refusals) c.arm.new.self f found.store)
    found.field-0-0-is found.ensures in
    let fresh : c.new-store.result ≡ store_of c.args.words.now =
    c.new-store.ensures ∙ ap under_fuse c.of.ensures ∙ ap store_of c.in_ok-copy.ensures.items in
    let armed : c.arm.new.self ≡ with_fuse_armed c.args.number (store_of c.args.words.now) = c.arm.ensures ∙ ap₂ with_fuse_armed c.from.ensures fresh in
    c.words_of.ensures.words
    ∙ torn_at c.args.words.now c.arm.new.self found.store c.args.number armed c.ranges.number.fits c.requires.version
    fails.part fails.was_up c.words_of.ensures.refuses_none

pub returns-in-Err-StoreDown-default-clause-good : goal.returns-in-Err-StoreDown-default-clause-good
returns-in-Err-StoreDown-default-clause-good c =
    let found = c.in-Err-StoreDown-default in
    let fails : OpeningFails (λ (s : FuseStoreValue). s.words) (λ s. s.down) (λ s. s.passed) (λ s. s.refusals) c.arm.new.self StoreDown found.store
    = subst (λ f. OpeningFails (λ (s : FuseStoreValue). s.words) (λ s. s.down) (λ s. s.passed) (λ s. s.refusals) c.arm.new.self f found.store)
    found.field-0-0-is found.ensures in
    let fresh : c.new-store.result ≡ store_of c.args.words.now =
    c.new-store.ensures ∙ ap under_fuse c.of.ensures ∙ ap store_of c.in_ok-copy.ensures.items in
    let armed : c.arm.new.self ≡ with_fuse_armed c.args.number (store_of c.args.words.now) = c.arm.ensures ∙ ap₂ with_fuse_armed c.from.ensures fresh in
    subst (λ (s : FuseStoreValue). IsGoodLog s.words) armed fails.good

pub returns-in_err-copy-clause-fault : goal.returns-in_err-copy-clause-fault
returns-in_err-copy-clause-fault c = refused_on _ c.from_residual.result c.from_residual.ensures.1 memory_logged
