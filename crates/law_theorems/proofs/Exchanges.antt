-- What is so of all that a card may do for a command.
use Rattle.std.proofs.Common.{◌≡◌, Bool, true, false, List, [], ◌∷◌, Option, Some, None, refl, if◌then◌else◌}
use Rattle.std.specs.Prelude.{ℕ, ◌==◌, length, nat_le, is_none, Result, Ok, Err}
use Rattle.jc_words.specs.Layout.{most_packages}
use Rattle.jc_heap.specs.declared.object.Kind.{Kind}
use Rattle.jc_heap.specs.declared.refusal.HeapRefusal.{HeapRefusal}
use Rattle.jc_heap.specs.Completions.{Attempt, Done, Refused}
use Rattle.jc_heap.specs.Moves.{AddPackage, refusal_of_package}
use Rattle.jc_memory.specs.Changes.{package_addition}
use Rattle.jc_memory.specs.Programs.{Program, Finish, Either, bind, unless_refused}
use Rattle.jc_memory.specs.Reading.{AllDue}
use Rattle.jc_memory.specs.State.{MemoryState, Effect, HeapMove}
use Rattle.jc_memory.proofs.ProgramLemmas.{due_bind, each_always}
use Rattle.jc_linker.specs.Values.{Packages}
use Rattle.jc_packages.specs.PendingPackages.{PendingPackageValue, linked_components}
use Rattle.jc_packages.specs.RecordContents.{arrays_of, image_of, parts_of, statics_of}
use Rattle.jc_packages.specs.declared.load_refusal.LoadRefusal.{LoadRefusal}
use Rattle.jc_packages.specs.declared.load.OpenLoad.{OpenLoad}
use Rattle.jc_packages.specs.LoadEnd.{package_entry, assembly_result, after_addition, after_preparation, end_of_load}
use Rattle.jc_packages.specs.Load.{CommandResult, component_append, component_begin, component_end}
use Rattle.jc_card.specs.Answers.{manager_command, exchange, exchange_of_apdu, is_dispatched, run_code}
use Rattle.jc_card.specs.Command.{Apdu, apdu_of}
use Rattle.jc_card.specs.Card.{CardState}
use Rattle.jc_card.specs.Dispatching.{create_applet, dispatch, takes_extended}
use Rattle.jc_memory.specs.Commands.{has_extended_length}
use Rattle.jc_api.proofs.Due.{due_if}
use Rattle.jc_card.specs.Loading.{LoadResponse, append_component, component_append_without_memory, end_load, on_load}

-- ---- the end of a load adds a package at most

module _ (P : Effect → MemoryState → Type 0) where
  pub then_due : {A B : Type 0} (more : A → MemoryState → Program B) (d : Program A) (s : MemoryState) → AllDue P d s
      → ((a : A) (v : MemoryState) → AllDue P (more a v) v) → AllDue P (bind d s more) s
  then_due more d s due rest = due_bind P more d s due (each_always (λ a v. AllDue P (more a v) v) rest d s)

module _ (P : Effect → MemoryState → Type 0) (m : MemoryState)
    (adds : (components : List (ℕ × List ℕ)) (arrays : List (Kind × List ℕ)) (image : List ℕ) → P (HeapMove (AddPackage components arrays image)) m) where
  if_added : (p : Packages) (q : PendingPackageValue) (answer : Attempt ℕ) (n : MemoryState) → AllDue P (after_addition p q answer) n
  if_added p q (Done r) n = tt
  if_added p q (Refused reason) n = tt

  unless_due : {A : Type 0} (reason : Option HeapRefusal) (d : Program (Attempt A)) → AllDue P d m → AllDue P (unless_refused reason d) m
  unless_due None d first = first
  unless_due (Some reason) d first = tt

  added : (p : Packages) (q : PendingPackageValue) → AllDue P (package_entry p q m) m
  added p q =
      let parts = parts_of q.texts in
      let arrays = arrays_of (statics_of q.texts) in
      let image = image_of (statics_of q.texts) in
      due_if P m (nat_le most_packages (length m.heap.now.packages)) _ _ (λ full. tt) (λ some.
      then_due P _ (package_addition m parts arrays image) m
      (unless_due (refusal_of_package m.heap parts arrays image) _ (λ r new. (adds parts arrays image, tt))) (λ answer v. if_added p q answer v))

  if_prepared : (p : Packages) (q : Result PendingPackageValue LoadRefusal) → AllDue P (after_preparation p m q) m
  if_prepared p (Err refusal) = tt
  if_prepared p (Ok q) = added p q

  ended : (p : Packages) (load : Option OpenLoad) → AllDue P (end_of_load p m load) m
  unfolding assembly_result
  ended p None = tt
  ended p (Some load) = due_if P m (is_none load.coming) _ _ (λ none. (if_prepared p (linked_components p load.texts), tt)) (λ some. tt)

pub load_ended : (P : Effect → MemoryState → Type 0) (card : CardState)
    → ((components : List (ℕ × List ℕ)) (arrays : List (Kind × List ℕ)) (image : List ℕ) → P (HeapMove (AddPackage components arrays image)) card.memory)
    → AllDue P (end_load card) card.memory
load_ended P card adds = then_due P _ (end_of_load card.packages card.memory card.load) card.memory
    (ended P card.memory adds card.packages card.load) (λ left v. tt)

-- ---- commands

module _ (D : Program LoadResponse → Type 0) (card : CardState) (one : (a : LoadResponse) → D (Finish a))
    (two : (a b : LoadResponse) → D (Either (Finish a) (Finish b))) (ends : D (end_load card))
    (runs : (limit locals : ℕ) (code : List ℕ) → D (run_code limit locals code card)) (creates : (bytes : List ℕ) → D (create_applet bytes card)) where
  so_if : (b : Bool) (x y : Program LoadResponse) → D x → D y → D (if b then x else y)
  so_if true x y first second = first
  so_if false x y first second = second

  on_load_so : (change : OpenLoad → CommandResult × OpenLoad) (load : Option OpenLoad) → D (on_load card change load)
  on_load_so change None = one _
  on_load_so change (Some load) = one _

  either_so : (change other : OpenLoad → CommandResult × OpenLoad) (load : Option OpenLoad)
      → D (Either (on_load card change load) (on_load card other load))
  either_so change other None = two _ _
  either_so change other (Some load) = two _ _

  appended : (bytes : List ℕ) → D (append_component bytes card)
  appended [] = one _
  appended (b ∷ more) = either_so (component_append (b ∷ more)) (component_append_without_memory (b ∷ more)) card.load

  managed : (c : Apdu) → D (manager_command c card)
  unfolding manager_command
  managed c =
      so_if (c.instruction == 0x10) _ _ (runs c.p1 c.p2 c.content) (so_if (c.instruction == 0xB0) _ _ (one _)
      (so_if (c.instruction == 0xB2) _ _ (on_load_so (component_begin c.p1) card.load) (so_if (c.instruction == 0xB4) _ _ (appended c.content)
      (so_if (c.instruction == 0xBC) _ _ (on_load_so component_end card.load) (so_if (c.instruction == 0xBA) _ _ ends
      (so_if (c.instruction == 0xB8) _ _ (creates c.content) (one _)))))))

  module _ (bytes : List ℕ) (dispatches : (c : Apdu) → apdu_of bytes ≡ Some c → D (dispatch bytes c card)) where
    of_apdu : (c : Option Apdu) → apdu_of bytes ≡ c → D (exchange_of_apdu bytes c card)
    of_apdu None is = one _
    of_apdu (Some c) is = so_if (has_extended_length bytes) _ _ (so_if (takes_extended c card.packages card.memory) _ _ (dispatches c is) (one _))
        (so_if (is_dispatched card c) _ _ (dispatches c is) (so_if (c.class == 0x80) _ _ (managed c) (one _)))

    pub exchanged : D (exchange bytes card)
    unfolding exchange
    exchanged = of_apdu (apdu_of bytes) refl
