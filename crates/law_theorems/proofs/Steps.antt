-- What is left of a card where a write was refused, in the store of a script.
use Rattle.std.proofs.Common.{◌≡◌, ℕ, false, sym, ◌∙◌, subst}
use Rattle.jc_words.specs.Refusals.{refused_once}
use Rattle.jc_words.specs.Store.{FuseStoreValue}
use Rattle.jc_commit.specs.Image.{recovered_of}
use Rattle.jc_heap.specs.Heap.{HeapState, HeapView}
use Rattle.jc_heap.specs.Moves.{IsTorn}
use Rattle.jc_card.specs.State.Power.{durable_state_in_store}
use Rattle.jc_card.specs.Session.Serving.{IsKeptOf}
use Rattle.jc_card.proofs.Laid.{if_laid}
use Rattle.jcard_script.specs.ScriptStates.{IsStoreOf}
use Rattle.law_theorems.specs.ScriptLaws.{state_of}

-- what is left where a write was refused, in a store of such a heap
pub cut_kept : (May : ℕ → HeapState → Type 0) (old new : HeapView) (store : FuseStoreValue) → old.down ≡ false → IsTorn May old new → IsStoreOf new store
    → IsKeptOf May old (durable_state_in_store (state_of store))
cut_kept May old new store up cut of = (
  subst (May store.passed) (sym of.durable) (subst (λ n. May n new.durable) (sym of.passed) cut.left),
  of.down ∙ cut.down,
  of.refusals ∙ cut.refusals ∙ (λ i. refused_once (up i) (sym of.passed i) old.refusals),
  of.size ∙ cut.size,
  if_laid (recovered_of store.words) of.laid,
)
