use Rattle.std.proofs.Common.{ap, sym}
use Rattle.jc_words.specs.Store.{StoreValue}
use Rattle.jcard_sweeps.proofs.runs.words_of.Goals as goal

pub returns-clause-refuses_none : goal.returns-clause-refuses_none
returns-clause-refuses_none c = sym (ap (λ (v : StoreValue). v.refused) c.into_store-below.ensures)
