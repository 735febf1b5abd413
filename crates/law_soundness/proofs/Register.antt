-- Applet: an instance is registered, and the transaction of its installation ends.
use Rattle.std.proofs.Common.{◌≡◌, ℕ, ◌+◌, true, List, refl, sym, ◌∙◌, ap, arith}
use Rattle.std.proofs.lemmas.Bool.{cond-true}
use Rattle.jc_heap.specs.declared.object.Kind.TheVariants.{Instance}
use Rattle.jc_heap.specs.declared.place.AppletEntry.{AppletEntry}
use Rattle.jc_heap.specs.Heap.{HeapState, add_object}
use Rattle.jc_heap.specs.Moves.{Commit, SetCells, SetPlaces, new_move}
use Rattle.jc_heap.specs.Object.{Object, new_object, object_size}
use Rattle.jc_heap.specs.Place.{applet_changes}
use Rattle.jc_memory.specs.declared.registers.Installation.TheVariants.{Registered}
use Rattle.jc_transient.specs.declared.owner.PackageNumber.{PackageNumber}
use Rattle.jc_memory.specs.State.{MemoryState, HeapMove, SetRegisters, apply_effect}
use Rattle.jc_linker.specs.Values.{Packages}
use Rattle.jc_platform.specs.declared.names.PlatformClass.TheVariants.{Aid}
use Rattle.jc_platform.specs.NamePlaces.{class_word}
use Rattle.jc_api_framework.specs.Aid.Cells.{cells_of_aid}
use Rattle.jc_api_framework.specs.Applet.Register.{with_installation}
use Rattle.jc_heap.proofs.Keeping.{reference-add}
use Rattle.law_soundness.specs.LivingReferences.{KeepsReferences}
use Rattle.law_soundness.specs.MemoryLaws.State.{IsSoundMemory, IsSteady, is_open, most_owner}
use Rattle.law_soundness.proofs.Frames.{object_frames, places_headers, run_frames, run_headers}
use Rattle.law_soundness.proofs.References.{headers_keep}
use Rattle.law_soundness.specs.MachineLaws.Calls.{IsReadyAgain}
use Rattle.law_soundness.proofs.StillCalls.{same_owners}

module _ (p : Packages) (m : MemoryState) (sound : IsSoundMemory p m) (steady : IsSteady m) where
  module _ (aid : List ℕ) (instance : ℕ) (k : PackageNumber) (r : ℕ) where
    -- the AID object of the applet, with its cells
    abbrev aid_new : Object
    aid_new = new_object Instance (class_word p.platform Aid) 0 9

    abbrev with_object : HeapState
    with_object = add_object m.heap.now aid_new (object_size Instance 9)

    abbrev after_cells : MemoryState
    after_cells = apply_effect (HeapMove (SetCells r 0 (cells_of_aid aid)))
        (apply_effect (HeapMove (new_move Instance (class_word p.platform Aid) 0 9)) m)

    abbrev entry : AppletEntry
    entry = record { aid = r; «package» = k.0; instance = instance }

    abbrev after_entry : MemoryState
    after_entry = apply_effect (HeapMove (SetPlaces (applet_changes after_cells.heap.now entry))) after_cells

    abbrev after_registering : MemoryState
    after_registering = apply_effect (SetRegisters (with_installation after_entry (Registered k))) (apply_effect (HeapMove Commit) after_entry)

    counts_after_cells : after_cells.heap.now.counts ≡ m.heap.now.counts
    counts_after_cells = (run_frames (cells_of_aid aid) with_object r 0).counts ∙ (object_frames m.heap.now aid_new (object_size Instance 9)).counts

    packages_after_cells : after_cells.heap.now.packages ≡ m.heap.now.packages
    packages_after_cells = (run_frames (cells_of_aid aid) with_object r 0).packages ∙ (object_frames m.heap.now aid_new (object_size Instance 9)).packages

    -- there is one applet more, who might own objects before
    one_more : is_open m.registers.installation ≡ true → after_registering.heap.now.counts.1 ≡ most_owner m
    one_more on =
        ap (λ c. c.1 + 1) (counts_after_cells ∙ steady.counts) ∙ sym (cond-true (is_open m.registers.installation)
        (m.heap.durable.counts.1 + 1) m.heap.now.counts.1 on)

    references_stay : KeepsReferences m.heap.now after_entry.heap.now
    references_stay q refers = headers_keep after_cells.heap.now after_entry.heap.now
        (places_headers (applet_changes after_cells.heap.now entry) after_cells.heap.now) q
        (headers_keep with_object after_cells.heap.now (run_headers (cells_of_aid aid) with_object r 0) q
        (reference-add m.heap.now aid_new (object_size Instance 9) (sound.whole.now.end m.heap.now.top (omega arith)) q refers))

    pub registered_again : is_open m.registers.installation ≡ true → IsReadyAgain m after_registering
    registered_again on = record {
      again = record {
        steady = record { counts = refl; begun = λ e. absurd cc };
        owners = same_owners m after_registering packages_after_cells (one_more on);
        active = refl;
      };
      references = references_stay;
    }
