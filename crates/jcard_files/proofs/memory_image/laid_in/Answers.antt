use Rattle.std.proofs.Common.{◌∙◌, Ok, Err, ap, false, length, subst, sym}
use Rattle.std.specs.Prelude.{codes}
use Rattle.std.proofs.lemmas.Bool.{false≢true}
use Rattle.jc_words.specs.Refusals.{no_refusals}
use Rattle.jc_words.specs.Store.{MemStoreValue}
use Rattle.jc_card.specs.Formatting.{Formats}
use Rattle.jcard_files.specs.NewImage.{IsNewImageOf}
use Rattle.jcard_files.proofs.NewImages.{laid_new, not_in_memory}
use Rattle.jcard_files.proofs.memory_image.laid_in.Goals as goal

pub returns-in-Ok : goal.returns-in-Ok
returns-in-Ok c =
    let came : Formats (λ (m : MemStoreValue). m.words) (λ m. false) (λ m. m.passed) (λ m. no_refusals) c.args.store c.args.room c.args.table.now
    c.format-store.result.0 (Ok tt)
    = subst (λ r. Formats (λ (m : MemStoreValue). m.words) (λ m. false) (λ m. m.passed) (λ m. no_refusals) c.args.store c.args.room c.args.table.now
    c.format-store.result.0 r) c.in-Ok.is c.format-store.ensures in
    let words = ap (λ (m : MemStoreValue). m.words) c.of.ensures ∙ c.into_words.ensures in (
      subst (IsNewImageOf (length c.args.store.words) c.args.room c.args.table.now) (sym words)
          (laid_new (λ (m : MemStoreValue). m.words) (λ m. false) (λ m. m.passed) (λ m. no_refusals) c.args.store c.format-store.result.0 c.args.room
          c.args.table.now came),
      ap (λ (m : MemStoreValue). m.passed) c.of.ensures,
    )

pub returns-in-Err : goal.returns-in-Err
returns-in-Err c =
    let came : Formats (λ (m : MemStoreValue). m.words) (λ m. false) (λ m. m.passed) (λ m. no_refusals) c.args.store c.args.room c.args.table.now
    c.format-store.result.0 (Err c.in-Err.cause)
    = subst (λ r. Formats (λ (m : MemStoreValue). m.words) (λ m. false) (λ m. m.passed) (λ m. no_refusals) c.args.store c.args.room c.args.table.now
    c.format-store.result.0 r) c.in-Err.is c.format-store.ensures in
    not_in_memory (λ (m : MemStoreValue). m.words) (λ m. false) (λ m. m.passed) (λ m. no_refusals) c.args.store c.format-store.result.0 c.args.room c.args.table.now
    (codes "memory") c.in-Err.cause c.format_fault.result came c.requires.table c.requires.enough c.requires.journal c.requires.cells false≢true c.format_fault.ensures
