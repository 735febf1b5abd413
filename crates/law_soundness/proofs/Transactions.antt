-- Transactions of JCSystem: one that begins or ends, which that of an installation never does.
use Rattle.std.proofs.Common.{◌≡◌, ℕ, ◌+◌, false, inl, None, refl, sym, ◌∙◌, ap, if◌then◌else◌}
use Rattle.std.proofs.lemmas.Bool.{both_ways, cond-false, false_from_ne_true}
use Rattle.std.specs.Prelude.{nat_lt}
use Rattle.jc_heap.specs.Moves.{Begin, Commit, Abort}
use Rattle.jc_heap.specs.WholeHeap.{IsReference}
use Rattle.jc_memory.specs.declared.registers.Depth.{Depth}
use Rattle.jc_memory.specs.declared.registers.Depth.TheVariants.{Outside, Inside}
use Rattle.jc_memory.specs.State.{MemoryState, HeapMove, apply_effect}
use Rattle.jc_linker.specs.Values.{Packages}
use Rattle.jc_api_framework.specs.Applet.Register.{open_installation}
use Rattle.jc_api_framework.specs.System.Transactions.{set_level}
use Rattle.jc_api_framework.proofs.Passing.{EndsSo}
use Rattle.law_soundness.specs.MemoryLaws.State.{IsSoundMemory, IsSteady, is_open}
use Rattle.law_soundness.specs.MachineLaws.Calls.{IsCallResult, IsReadyAgain, IsSteadyAgain}
use Rattle.law_soundness.specs.LivingReferences.{KeepsReferencesBelow}
use Rattle.law_soundness.proofs.Memories.{choose}
use Rattle.law_soundness.proofs.Transients.{left}
use Rattle.law_soundness.proofs.StillCalls.{exits_left, same_owners}
use Rattle.law_soundness.proofs.EffectsWithoutCells.{not_opened}

module _ (p : Packages) (m : MemoryState) (sound : IsSoundMemory p m) (steady : IsSteady m) where
  -- a memory that is left so after an abort
  abbrev IsAbortedTo : MemoryState → Type 0
  IsAbortedTo n = IsSteadyAgain m n × KeepsReferencesBelow m.heap.now n.heap.now

  -- with nothing taken back
  not_nulled : KeepsReferencesBelow m.heap.now m.heap.now
  not_nulled r refers = choose (IsReference m.heap.now) (nat_lt r m.heap.now.top) r 0 (λ low. refers) (λ high. inl refl)

  -- the level alone is set
  level_set : (depth : Depth) → IsReadyAgain m (apply_effect (set_level m depth) m)
  level_set depth = record {
    again = record { steady = record { counts = steady.counts; begun = steady.begun }; owners = same_owners m _ refl refl; active = refl };
    references = λ r refers. refers;
  }

  -- a transaction begins
  abbrev begun_now : MemoryState
  begun_now = apply_effect (set_level m Inside) (apply_effect (HeapMove Begin) m)

  begun_again : IsReadyAgain m begun_now
  begun_again = record {
    again = record {
      steady = record { counts = refl; begun = λ on. refl };
      owners = same_owners m begun_now refl (ap (λ c. if is_open m.registers.installation then c.1 + 1 else m.heap.now.counts.1) steady.counts);
      active = refl;
    };
    references = λ r refers. refers;
  }

  -- one ends, outside an installation
  module _ (closed : is_open m.registers.installation ≡ false) where
    same_most : (x y z : ℕ) → z ≡ y → (if is_open m.registers.installation then x else z)
        ≡ (if is_open m.registers.installation then m.heap.durable.counts.1 + 1 else y)
    same_most x y z same = cond-false (is_open m.registers.installation) x z closed ∙ same
        ∙ sym (cond-false (is_open m.registers.installation) (m.heap.durable.counts.1 + 1) y closed)

    abbrev committed_now : MemoryState
    committed_now = apply_effect (set_level m Outside) (apply_effect (HeapMove Commit) m)

    committed_again : IsReadyAgain m committed_now
    committed_again = record {
      again = record {
        steady = record { counts = refl; begun = λ on. absurd (both_ways (is_open m.registers.installation) closed on) };
        owners = same_owners m committed_now refl (same_most _ m.heap.now.counts.1 _ refl);
        active = refl;
      };
      references = λ r refers. refers;
    }

    abbrev aborted_now : MemoryState
    aborted_now = apply_effect (set_level m Outside) (apply_effect (HeapMove Abort) m)

    aborted_again : IsAbortedTo aborted_now
    aborted_again = (
      record {
        steady = record { counts = refl; begun = λ on. absurd (both_ways (is_open m.registers.installation) closed on) };
        owners = same_owners m aborted_now (sym sound.packages) (same_most _ m.heap.now.counts.1 _ (ap (λ c. c.1) (sym steady.counts)));
        active = refl;
      },
      λ r refers. left m.heap sound.whole m.ram sound.transients r (nat_lt r m.heap.durable.top) refl refers,
    )

  -- so it is of a call that begins or ends one
  pub transactions_left : EndsSo (IsCallResult m) m
  transactions_left = record {
    exits = exits_left m steady;
    faults = λ v. tt;
    levels = level_set;
    begins = begun_again;
    commits = λ none. committed_again (closed_of none);
    aborts = λ none. aborted_again (closed_of none);
    stays = λ none. ((level_set Outside).again, not_nulled);
  }
    where
      closed_of : open_installation m.registers.installation ≡ None → is_open m.registers.installation ≡ false
      closed_of none = false_from_ne_true (is_open m.registers.installation) (not_opened m.registers.installation none)
