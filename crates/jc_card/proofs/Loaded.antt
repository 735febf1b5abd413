-- What the end of a load leaves.
use Rattle.std.proofs.Common.{◌≡◌, ℕ, ◌∙◌, refl, ap, Bool, true, false, List, Option, Some, None, inl, inr, if◌then◌else◌, length, nat_le, sym, subst}
use Rattle.std.proofs.lemmas.Bool.{true≢false}
use Rattle.std.specs.Prelude.{Result, Ok, Err, is_none}
use Rattle.jc_words.specs.declared.store.StoreDown.{StoreDown}
use Rattle.jc_heap.specs.declared.refusal.HeapRefusal.{HeapRefusal}
use Rattle.jc_heap.specs.declared.object.Kind.{Kind}
use Rattle.jc_heap.specs.Moves.{AddPackage, refusal_of_package}
use Rattle.jc_heap.specs.Completions.{Done, Completed}
use Rattle.jc_linker.specs.Values.{Packages}
use Rattle.jc_memory.specs.State.{MemoryState, HeapMove}
use Rattle.jc_memory.specs.Programs.{Program, Finish, Perform, Choose, Completes, Executes, bind, unless_refused}
use Rattle.jc_memory.proofs.ProgramLemmas.{bind_did, bind_cut}
use Rattle.jc_cap.specs.declared.texts.LoadedComponents.{LoadedComponents}
use Rattle.jc_interp.specs.declared.attacks.Budget.{Budget}
use Rattle.jc_packages.specs.PendingPackages.{PendingPackageValue, linked_components}
use Rattle.jc_packages.specs.RecordContents.{arrays_of, image_of, parts_of, statics_of}
use Rattle.jc_packages.specs.declared.load_refusal.LoadRefusal.{LoadRefusal}
use Rattle.jc_packages.specs.declared.load.OpenLoad.{OpenLoad}
use Rattle.jc_packages.specs.Load.{CommandResult}
use Rattle.jc_packages.specs.LoadEnd.{LoadResult, after_end, assembly_result, after_addition, after_preparation, end_of_load}
use Rattle.jc_card.specs.Loading.{answer_of_left, response_of_end}
use Rattle.jc_card.specs.Answers.{after_exchange}

-- no transaction began or ended, and the store is as it was
abbrev pub Rests : MemoryState → MemoryState → Type 0
Rests s new = (new.heap.begun ≡ s.heap.begun) × (new.heap.down ≡ s.heap.down)

same : (s new : MemoryState) → new ≡ s → Rests s new
same s new e = (ap (λ m. m.heap.begun) e, ap (λ m. m.heap.down) e)

choose : (b : Bool) (x y : Program LoadResult) (s new : MemoryState) (left : LoadResult) → (Completes x s left new → Rests s new)
    → (Completes y s left new → Rests s new) → Completes (if b then x else y) s left new → Rests s new
choose true x y s new left fx fy d = fx d
choose false x y s new left fx fy d = fy d

add : (reason : Option HeapRefusal) (cs : List (ℕ × List ℕ)) (xs : List (Kind × List ℕ)) (image : List ℕ) (p : Packages) (q : PendingPackageValue)
    (s new : MemoryState) (left : LoadResult) →
    Completes (bind (unless_refused reason (Choose (λ r. Perform (HeapMove (AddPackage cs xs image)) (Finish (Done r))))) s
    (λ answer after. after_addition p q answer)) s left new → Rests s new
add None cs xs image p q s new left d = (ap (λ m. m.heap.begun) d.2.1, ap (λ m. m.heap.down) d.2.1)
add (Some reason) cs xs image p q s new left d = same s new d.1

prepared_rests : (p : Packages) (s new : MemoryState) (left : LoadResult) (r : Result PendingPackageValue LoadRefusal)
    → Completes (after_preparation p s r) s left new → Rests s new
prepared_rests p s new left (Err refusal) d = same s new d.1
prepared_rests p s new left (Ok q) d =
    choose (nat_le 32 (length s.heap.now.packages)) _ _ s new left (λ e. same s new e.1)
    (add (refusal_of_package s.heap (parts_of q.texts) (arrays_of (statics_of q.texts)) (image_of (statics_of q.texts))) (parts_of q.texts)
    (arrays_of (statics_of q.texts)) (image_of (statics_of q.texts)) p q s new left) d

comes_rests : (p : Packages) (s new : MemoryState) (left : LoadResult) (texts : LoadedComponents) → Completes (assembly_result p s texts) s left new
    → Rests s new
unfolding assembly_result
comes_rests p s new left texts (inl d) = prepared_rests p s new left (linked_components p texts) d
comes_rests p s new left texts (inr d) = same s new d.1

ended_rests : (p : Packages) (s new : MemoryState) (left : LoadResult) (load : Option OpenLoad) → Completes (end_of_load p s load) s left new → Rests s new
ended_rests p s new left None d = same s new d.1
ended_rests p s new left (Some load) d = choose (is_none load.coming) (assembly_result p s load.texts) _ s new left (comes_rests p s new left load.texts)
    (λ e. same s new e.1) d

-- the end of a load leaves no transaction open, unless the store has refused a write
pub ends_outside : (p q : Packages) (s new : MemoryState) (load kept : Option OpenLoad) (r : Result CommandResult StoreDown) → s.heap.begun ≡ false
    → Executes (end_of_load p s load) s (after_end r q kept new) → new.heap.down ≡ false → new.heap.begun ≡ false
ends_outside p q s new load kept (Ok ended) rests made up = (ended_rests p s new _ load made).0 ∙ rests
ends_outside p q s new load kept (Err down) rests cut up = absurd (true≢false (sym cut.down ∙ up))

-- the response to the end of a load
pub ends_so : (budget : Budget) (d : Program LoadResult) (s new : MemoryState) (r : Result CommandResult StoreDown) (q : Packages) (kept : Option OpenLoad)
    (said : Result (List ℕ) StoreDown) → said ≡ response_of_end r → Executes d s (after_end r q kept new) →
    Executes (bind d s (λ left v. Finish (answer_of_left budget left))) s (after_exchange said (record { memory = new; packages = q; load = kept; budget = budget }))
ends_so budget d s new r q kept said is made =
    subst (λ x. Executes (bind d s (λ left v. Finish (answer_of_left budget left))) s (after_exchange x (record { memory = new; packages = q; load = kept; budget = budget }))) (sym is)
    (by_end r made)
  where
    done : (left : LoadResult) → Completes d s left new → Executes (bind d s (λ l v. Finish (answer_of_left budget l))) s (Completed (answer_of_left budget left) new)
    done left did = bind_did (λ l v. Finish (answer_of_left budget l)) d s new new left (answer_of_left budget left) did (refl, refl)

    by_end : (r : Result CommandResult StoreDown) → Executes d s (after_end r q kept new)
        → Executes (bind d s (λ left v. Finish (answer_of_left budget left))) s (after_exchange (response_of_end r)
        (record { memory = new; packages = q; load = kept; budget = budget }))
    by_end (Ok ended) m = done (record { ended = ended; packages = q; load = kept }) m
    by_end (Err down) m = bind_cut (λ left v. Finish (answer_of_left budget left)) d s new m
