use Rattle.std.proofs.Common.{◌≡◌, ◌∙◌, List, ℕ, ap, subst}
use Rattle.std.specs.Prelude.{IfSome}
use Rattle.jc_words.specs.Store.{MemStoreValue}
use Rattle.jc_commit.specs.Image.{recovered_of}
use Rattle.jc_commit.specs.Migration.{migrated}
use Rattle.jc_commit.specs.State.{State}
use Rattle.jc_heap.specs.Heap.{heap_of}
use Rattle.jc_heap.specs.Image.{text_words}
use Rattle.jc_packages.specs.Known.{package_records}
use Rattle.jcard_tear.proofs.answers.known_of.Goals as goal

pub returns-in-Ok-open-clause-text : goal.returns-in-Ok-open-clause-text
returns-in-Ok-open-clause-text c =
    let plain = ap (λ (s : State). s.plain) c.in-Ok-open.ensures.recovered ∙ ap (λ (m : MemStoreValue). migrated 3 (recovered_of m.words)) c.of.ensures
    ∙ ap (λ (w : List ℕ). migrated 3 (recovered_of w)) c.in-Ok.ensures.items in
    subst (λ (w : List ℕ). IfSome c.read.result (λ known. known.text ≡ text_words w)) plain c.read.ensures.text

pub returns-in-Ok-open-clause-records : goal.returns-in-Ok-open-clause-records
returns-in-Ok-open-clause-records c =
    let plain = ap (λ (s : State). s.plain) c.in-Ok-open.ensures.recovered ∙ ap (λ (m : MemStoreValue). migrated 3 (recovered_of m.words)) c.of.ensures
    ∙ ap (λ (w : List ℕ). migrated 3 (recovered_of w)) c.in-Ok.ensures.items in
    subst (λ (w : List ℕ). IfSome c.read.result (λ known. known.records ≡ package_records (heap_of w))) plain c.read.ensures.records
