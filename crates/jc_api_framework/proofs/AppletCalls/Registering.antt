-- Applet: an applet of the package that is being installed is registered, with an AID object that is made for it, for whatever is to hold
-- of each effect, and of what follows.
use Rattle.std.specs.Prelude.{is_some, nat_lt}
use Rattle.std.proofs.Common.{◌≡◌, ◌<◌, ◌∙◌, ℕ, true, false, List, Some, sym, ap, Bool, Ok, Err, if◌then◌else◌, refl, None, Option, Result}
use Rattle.std.proofs.lemmas.Bool.{true≢false, ltb-true}
use Rattle.std.proofs.lemmas.Option.{none-some, same_Some}
use Rattle.jc_words.specs.Layout.{most_applets}
use Rattle.jc_heap.specs.Moves.{new_move, SetCells, SetPlaces, Commit}
use Rattle.jc_heap.specs.Place.{applet_changes}
use Rattle.jc_heap.specs.declared.object.Kind.TheVariants.{Instance}
use Rattle.jc_heap.specs.declared.place.AppletEntry.{AppletEntry}
use Rattle.jc_memory.specs.Cells.{header_at}
use Rattle.jc_memory.specs.State.{MemoryState, HeapMove, apply_effect, Effect, SetRegisters, IsNew}
use Rattle.jc_memory.specs.declared.registers.Installation.{Installation}
use Rattle.jc_memory.specs.declared.registers.Installation.TheVariants.{Idle, Open, Registered}
use Rattle.jc_transient.specs.declared.owner.PackageNumber.{PackageNumber}
use Rattle.jc_environment.specs.Registry.{applet_with_aid}
use Rattle.jc_platform.specs.NamePlaces.{class_word}
use Rattle.jc_platform.specs.declared.names.PlatformClass.TheVariants.{Aid}
use Rattle.jc_linker.specs.Values.{Packages}
use Rattle.jc_frames.specs.Reasons.{buffer_full, no_resource, illegal_aid, in_progress}
use Rattle.jc_frames.specs.declared.outcome.FrameExit.{FrameExit}
use Rattle.jc_frames.specs.declared.outcome.FrameExit.TheVariants.{Throw}
use Rattle.jc_world.specs.Contexts.{installed_package}
use Rattle.jc_world.specs.declared.native_result.NativeResult.{NativeResult}
use Rattle.jc_world.specs.declared.native_result.NativeResult.TheVariants.{ReturnVoid}
use Rattle.jc_api.proofs.Due.{DueThen, then_ok}
use Rattle.jc_api.proofs.Exits.{IsPlainExit}
use Rattle.jc_api.proofs.Reaching.{err_not_ok, same_Ok}
use Rattle.jc_api_framework.specs.Aid.Cells.{cells_of_aid}
use Rattle.jc_api_framework.specs.Applet.Register.{is_owned, next_number, open_installation, installation_in_transaction, may_be_added, unless_full}
use Rattle.jc_api_framework.specs.Applet.Register.{is_inside, registration_package_in, registration_package, with_installation, aid_object_creation}
use Rattle.jc_api_framework.specs.Applet.Register.{registry_entry, registration}
use Rattle.jc_api_framework.proofs.AppletCalls.Checks.{plain_registration}

-- an applet may be registered in this package: it is the one that is being installed, no applet has the AID, there is a place, and the
-- instance is its own
pub record MayRegister (m : MemoryState) (aid : List ℕ) (instance : ℕ) (k : PackageNumber) : Type 0 where
  pub begun : m.heap.begun ≡ true
  pub opened_by : open_installation m.registers.installation ≡ Some k
  pub none : is_some (applet_with_aid m aid) ≡ false
  pub few : m.heap.now.counts.1 < most_applets
  pub owned : is_owned (next_number m) (header_at m instance) ≡ true

pub home_of : (i : Installation) (k : PackageNumber) → open_installation i ≡ Some k → k.0 ≡ installed_package i
home_of Idle k e = absurd (none-some k e)
home_of (Open p entry) k e = ap (λ x. x.0) (sym (same_Some p k e))
home_of (Registered p) k e = absurd (none-some k e)

full_in : (k : PackageNumber) (space room : Bool) (j : PackageNumber)
    → (if space then (if room then Err (Throw buffer_full) else Ok j) else Err (Throw no_resource)) ≡ Ok k → j ≡ k
full_in k true true j e = absurd (err_not_ok e)
full_in k true false j e = same_Ok j k e
full_in k false room j e = absurd (err_not_ok e)

module _ (m : MemoryState) (aid : List ℕ) (instance : ℕ) (k : PackageNumber) where
  added_by : (has room owned : Bool) → (if has then false else (if room then owned else false)) ≡ true → (has ≡ false) × ((room ≡ true) × (owned ≡ true))
  added_by true room owned e = absurd (true≢false (sym e))
  added_by false true owned e = (refl, (refl, e))
  added_by false false owned e = absurd (true≢false (sym e))

  begun_by : (b : Bool) (j : PackageNumber) → (if b then open_installation m.registers.installation else None) ≡ Some j
      → (b ≡ true) × (open_installation m.registers.installation ≡ Some j)
  begun_by true j e = (refl, e)
  begun_by false j e = absurd (none-some j e)

  added_in : (added inside : Bool) → may_be_added m aid instance ≡ added → (j : PackageNumber) → installation_in_transaction m ≡ Some j →
      (if added then (if inside then Err (Throw in_progress) else unless_full m j) else Err (Throw illegal_aid)) ≡ Ok k → MayRegister m aid instance k
  added_in true true is j home e = absurd (err_not_ok e)
  added_in true false is j home e =
      let same : j ≡ k = full_in k _ _ j e in
      let begun = begun_by m.heap.begun j home in
      let added = added_by (is_some (applet_with_aid m aid)) (nat_lt m.heap.now.counts.1 most_applets) (is_owned (next_number m) (header_at m instance)) is in
      record {
        begun = begun.0;
        opened_by = begun.1 ∙ ap Some same;
        none = added.0;
        few = ltb-true m.heap.now.counts.1 most_applets (added.1).0;
        owned = (added.1).1;
      }
  added_in false inside is j home e = absurd (err_not_ok e)

  registrable_by : (o : Option PackageNumber) → installation_in_transaction m ≡ o → registration_package_in m aid instance o ≡ Ok k
      → MayRegister m aid instance k
  registrable_by None is e = absurd (err_not_ok e)
  registrable_by (Some j) is e = added_in (may_be_added m aid instance) (is_inside m.registers.depth) refl j is e

  registrable_is : registration_package m aid instance ≡ Ok k → MayRegister m aid instance k
  unfolding registration_package
  registrable_is e = registrable_by (installation_in_transaction m) refl e

-- the memory with the AID object, as its cells are set, and as the applet has its entry in the registry
abbrev pub with_aid_object : Packages → MemoryState → MemoryState
with_aid_object p m = apply_effect (HeapMove (new_move Instance (class_word p.platform Aid) 0 9)) m

abbrev pub with_aid : Packages → MemoryState → List ℕ → ℕ → MemoryState
with_aid p m aid r = apply_effect (HeapMove (SetCells r 0 (cells_of_aid aid))) (with_aid_object p m)

abbrev pub entry_of : ℕ → PackageNumber → ℕ → AppletEntry
entry_of instance k r = record { aid = r; «package» = k.0; instance = instance }

abbrev pub with_entry : Packages → MemoryState → List ℕ → ℕ → PackageNumber → ℕ → MemoryState
with_entry p m aid instance k r = apply_effect (HeapMove (SetPlaces (applet_changes (with_aid p m aid r).heap.now (entry_of instance k r)))) (with_aid p m aid r)

-- the effects that register an applet are due, one after the other, and so is what follows
pub record Registering (P : Effect → MemoryState → Type 0) (R : Result NativeResult FrameExit → MemoryState → Type 0) (p : Packages) (m : MemoryState)
    (aid : List ℕ) (instance : ℕ) (k : PackageNumber) (r : ℕ) : Type 0 where
  pub makes : P (HeapMove (new_move Instance (class_word p.platform Aid) 0 9)) m
  pub sets : P (HeapMove (SetCells r 0 (cells_of_aid aid))) (with_aid_object p m)
  pub enters : P (HeapMove (SetPlaces (applet_changes (with_aid p m aid r).heap.now (entry_of instance k r)))) (with_aid p m aid r)
  pub commits : P (HeapMove Commit) (with_entry p m aid instance k r)
  pub turns : P (SetRegisters (with_installation (with_entry p m aid instance k r) (Registered k)))
      (apply_effect (HeapMove Commit) (with_entry p m aid instance k r))
  pub follows : R (Ok ReturnVoid) (apply_effect (SetRegisters (with_installation (with_entry p m aid instance k r) (Registered k)))
      (apply_effect (HeapMove Commit) (with_entry p m aid instance k r)))

module _ (P : Effect → MemoryState → Type 0) (R : Result NativeResult FrameExit → MemoryState → Type 0) (p : Packages) (m : MemoryState)
    (exits : (e : FrameExit) → IsPlainExit e → R (Err e) m) where
  pub registered_then : (aid : List ℕ) (instance : ℕ) → ((k : PackageNumber) → MayRegister m aid instance k → (r : ℕ) → IsNew m.heap.now r
      → Registering P R p m aid instance k r) → DueThen P R (registration aid instance p m) m
  unfolding registration aid_object_creation registry_entry
  registered_then aid instance each = then_ok P R m exits (registration_package m aid instance) _ (plain_registration m aid instance) (λ k fine. λ r new.
      let so = each k (registrable_is m aid instance k fine) r new in
      (so.makes, (so.sets, (so.enters, (so.commits, (so.turns, so.follows))))))
