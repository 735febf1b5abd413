-- After a transaction's effects the durable heap is the one found, but for tries and elements of arrays of bytes.
use Rattle.std.proofs.Common.{[], ◌≡◌, ℕ, ◌+◌, ◌<◌, ◌≤◌, List, ◌∷◌, ◌++◌, length, true, false, None, inl, inr, refl, sym, ◌∙◌, subst, ap, arith}
use Rattle.std.specs.Prelude.{slice_index}
use Rattle.std.proofs.lemmas.Bool.{and_parts, cases_lt}
use Rattle.jc_heap.specs.declared.place.Place.TheVariants.{Cell}
use Rattle.jc_heap.specs.Heap.{cells, facts, goes_back, heap_item_at}
use Rattle.jc_heap.specs.Object.{cells_of}
use Rattle.jc_heap.specs.Place.{place_at}
use Rattle.jc_heap.proofs.Laws.{object_named}
use Rattle.jc_heap.specs.Moves.{Begin, IsInside}
use Rattle.jc_memory.specs.State.{MemoryState, Effect, HeapMove, apply_effect, apply_effects, moves_of}
use Rattle.jc_memory.specs.Reading.{AllEffectsDue}
use Rattle.jc_memory.proofs.ProgramLemmas.{due_before}
use Rattle.jc_platform.specs.Tokens.{Tokens}
use Rattle.jc_card.specs.Answers.{exchange}
use Rattle.jc_card.specs.Card.{CardState}
use Rattle.law_code.specs.Orderly.{KeepsTransactionOrder}
use Rattle.law_code.proofs.Same.{differ}
use Rattle.law_code.proofs.AtomicEffects.{saved_within, due_begun}
use Rattle.law_soundness.specs.MemoryLaws.State.{IsSoundMemory}
use Rattle.law_soundness.specs.MachineLaws.Commands.{IsServed}
use Rattle.law_theorems.specs.Cards.{IsOwnCard}
use Rattle.law_theorems.proofs.Rest.{IsEmpty, empty_effect}
use Rattle.law_theorems.proofs.Sessions.{linked_known}
use Rattle.law_theorems.specs.Outcomes.{ComesWithin, memory_at}
use Rattle.law_theorems.specs.Tries.{IsAsFound, PlaceStays, is_persistent_bytes}
use Rattle.jc_packages.specs.Objects.{is_bytes, is_object_address}
use Rattle.law_soundness.proofs.Effects.{event_none}
use Rattle.law_soundness.proofs.Values.{none_of}
use Rattle.law_theorems.proofs.EffectWords.{cell_below}
use Rattle.law_theorems.proofs.RestoredCells.{beyond_stays, headers_behind, place_stays}
use Rattle.law_theorems.proofs.Orders.{commands_orderly}
use Rattle.law_theorems.proofs.Others.{others}
use Rattle.law_theorems.proofs.Pins.{as_it_was}
use Rattle.law_theorems.proofs.Prefixes.{behind_both, due_after, due_all}
use Rattle.law_theorems.proofs.ServedEffects.{AddsPackage, IsFine, commands_fine}
use Rattle.jc_heap.specs.Heap.{HeapView}
use Rattle.jc_card.specs.State.Power.{Up}
use Rattle.law_theorems.specs.Outcomes.{ComesTo}
use Rattle.law_theorems.specs.Tries.{tries_in}
use Rattle.law_theorems.proofs.CardsAtRest.{comes_rests}
use Rattle.law_theorems.proofs.OwnerPins.{pin_in, pin_stands}
use Rattle.law_theorems.proofs.KeptTries.{IsLaidOutAt, away_at_begin, laid_behind, pin_item, tries_stay}

module _ (t : Tokens) (card : CardState) (own : IsOwnCard t card) (bytes : List ℕ) (earlier during : List Effect) where
  abbrev all : List Effect
  all = earlier ++ (HeapMove Begin ∷ during)

  abbrev found : MemoryState
  found = memory_at card earlier

  abbrev begun : MemoryState
  begun = apply_effect (HeapMove Begin) found

  module _ (due : AllEffectsDue (IsServed card.packages) all card.memory) (orders : AllEffectsDue KeepsTransactionOrder all card.memory)
      (clean : IsEmpty card.memory)
      (inside : IsInside (moves_of during)) where
    orderly : AllEffectsDue KeepsTransactionOrder during begun
    orderly = (due_after KeepsTransactionOrder earlier (HeapMove Begin ∷ during) card.memory orders).1

    served : AllEffectsDue (IsServed card.packages) (HeapMove Begin ∷ during) found
    served = due_after (IsServed card.packages) earlier (HeapMove Begin ∷ during) card.memory due

    laid : IsLaidOutAt card.packages found
    laid = laid_behind card.packages earlier card.memory (due_before (IsServed card.packages) earlier (HeapMove Begin ∷ during) card.memory due)
        (own.ready.sound, own.layout)

    sound : IsSoundMemory card.packages found
    sound = laid.0

    laid_begun : IsLaidOutAt card.packages begun
    laid_begun = laid_behind card.packages (HeapMove Begin ∷ []) found (served.0, tt) laid

    untouched : found.heap.touched ≡ []
    untouched = due_all (IsServed card.packages) IsEmpty (λ e m d c. empty_effect e m c) earlier card.memory
        (due_before (IsServed card.packages) earlier (HeapMove Begin ∷ during) card.memory due) clean served.0

    -- as the transaction begins, no cell's word goes back
    cell_away : (r i : ℕ) → is_object_address found.heap.now r ≡ true → (facts found.heap.now r).event ≡ None → i + 1 ≤ (facts found.heap.now r).length
        → goes_back begun.heap (place_at begun.heap.now (Cell r i)) ≡ false
    cell_away r i there persistent within = away_at_begin found (place_at found.heap.now (Cell r i))
        (cell_below found.heap.now laid.1.now.apart r i (object_named found.heap.now r there) (persistent, within)) untouched

    -- of an array of bytes
    array_stays : (r : ℕ) → is_persistent_bytes found.heap.now r ≡ true → (i : ℕ) → i < length (cells found.heap.now r)
        → PlaceStays r i during begun (slice_index (cells found.heap.now r) i) (slice_index (cells (apply_effects during begun).heap.durable r) i)
    array_stays r is i there =
        let parts = and_parts (is_object_address found.heap.now r) _ is in
        let kinds = and_parts (is_bytes (facts found.heap.now r).kind) _ parts.1 in
        elim (cases_lt i (facts found.heap.now r).length) [
          | inl within ↦ place_stays card.packages r i during begun served.1 laid_begun.0 refl inside there
              (cell_away r i parts.0 (none_of (facts found.heap.now r).event kinds.1) (omega (arith, within)))
          | inr beyond ↦
              let stays = beyond_stays card.packages r i during begun (slice_index (cells found.heap.now r) i) served.1 laid_begun.0 refl inside there (kinds.0, beyond) in
              subst (λ x. PlaceStays r i during begun (slice_index (cells found.heap.now r) i) x) (sym stays.1) stays.0
        ]

    as_found : IsAsFound card.packages during begun found.heap.now (apply_effects during begun).heap.durable
    as_found =
        let saved = saved_within during begun orderly refl inside in
        let same = differ during begun begun.heap.durable (apply_effects during begun).heap.durable saved in
        record {
          rest = same.rest;
          stands = same.stands;
          others = λ r pin bytes. others card.packages r during begun served.1 laid_begun.0 refl inside pin bytes;
          arrays = λ r is. (headers_behind card.packages r during begun served.1 laid_begun.0 refl inside, array_stays r is);
          pins = λ r is.
              let known = linked_known card.packages own.linked in
              let pin = pin_in card.packages known found sound r is in
              let stands = pin_stands card.packages known found sound r is in
              let long = stands.long in
              let there = ap (λ t. length (cells_of t)) pin.item in
              let cells = pin.cells in
              let left = (apply_effects during begun).heap.durable in (
                tries_in left r,
                tries_stay card.packages known r during begun (tries_in found.heap.now r) (tries_in left r) served.1 laid_begun refl inside is
                    (cell_away r 2 stands.there (event_none (facts found.heap.now r) stands.kept) (omega (arith, long)))
                    (place_stays card.packages r 2 during begun served.1 laid_begun.0 refl inside (omega (arith, there, cells))
                    (cell_away r 2 stands.there (event_none (facts found.heap.now r) stands.kept) (omega (arith, long)))),
                sym (as_it_was (heap_item_at left r))
                    ∙ pin_item card.packages known r during begun (tries_in left r) served.1 laid_begun.0 refl inside is,
              );
        }

module _ (t : Tokens) (card : CardState) (own : IsOwnCard t card) (bytes : List ℕ) (earlier during : List Effect) where
  abbrev effects : List Effect
  effects = earlier ++ (HeapMove Begin ∷ during)

  abbrev opened : MemoryState
  opened = apply_effect (HeapMove Begin) (memory_at card earlier)

  module _ (within : ComesWithin t card bytes effects) (inside : IsInside (moves_of during)) where
    c : ComesTo t (Up card)
    c = within.comes

    orders : AllEffectsDue KeepsTransactionOrder effects card.memory
    orders = commands_orderly t card own bytes effects within.are within.begins

    by : IsFine card.packages (exchange bytes card) card.memory
        → IsAsFound card.packages during opened (memory_at card earlier).heap.now (apply_effects during opened).heap.durable
    by (inl due) = as_found t card own bytes earlier during
        (due_begun (IsServed card.packages) (exchange bytes card) card.memory effects due within.begins) orders
        (λ shut. ap (λ (v : HeapView). v.touched) (comes_rests t (Up card) c)) inside
    by (inr adds) = absurd (due_after AddsPackage earlier (HeapMove Begin ∷ during) card.memory
        (due_begun AddsPackage (exchange bytes card) card.memory effects adds within.begins)).0

    -- after the beginning of a transaction of a command, and effects within it, the durable heap is the one found, but for tries and elements of
    -- arrays of bytes
    pub is_found : IsAsFound card.packages during opened (memory_at card earlier).heap.now (memory_at card effects).heap.durable
    is_found = subst (λ (m : MemoryState). IsAsFound card.packages during opened (memory_at card earlier).heap.now m.heap.durable)
        (sym (behind_both earlier (HeapMove Begin ∷ during) card.memory)) (by (commands_fine t card own bytes within.are))
