-- Form 5: what a call does that makes its receiver name two objects is due where such objects may be made, and the receiver may name them. And
-- form 6: what a call answers that returns a reference which its receiver has.
use Rattle.std.proofs.Common.{◌≡◌, ◌+◌, ℕ, Bool, true, false, List, Option, Some, None, Result, Ok, Err, refl, subst, if◌then◌else◌}
use Rattle.std.proofs.lemmas.Bool.{false≢true}
use Rattle.std.specs.Prelude.{is_none}
use Rattle.jc_heap.specs.Heap.{facts}
use Rattle.jc_memory.specs.Cells.{cells_effect, cells_refusal, word_at}
use Rattle.jc_memory.specs.Making.{creation_refusal}
use Rattle.jc_memory.specs.Programs.{Program, Finish, Perform, Choose, Either, bind}
use Rattle.jc_memory.specs.Reading.{AllDue, AllResults}
use Rattle.jc_memory.specs.State.{MemoryState, Effect, apply_effect}
use Rattle.jc_platform.specs.NamePlaces.{class_word}
use Rattle.jc_platform.specs.declared.names.PlatformClass.{PlatformClass}
use Rattle.jc_linker.specs.Values.{Packages}
use Rattle.jc_frames.specs.declared.cell.Cell.{Cell}
use Rattle.jc_frames.specs.declared.outcome.FrameExit.{FrameExit}
use Rattle.jc_frames.specs.declared.outcome.FrameExit.TheVariants.{End}
use Rattle.jc_frames.specs.declared.outcome.Outcome.TheVariants.{Fault}
use Rattle.jc_world.specs.Answers.{and_then}
use Rattle.jc_world.specs.Instances.{IsInstanceWith}
use Rattle.jc_world.specs.NativeCalls.{NativeProgram}
use Rattle.jc_world.specs.Objects.{is_instance_of, reference_argument, some_or_fault}
use Rattle.jc_world.specs.declared.native_result.NativeResult.{NativeResult}
use Rattle.jc_api.specs.Exits.{plainly}
use Rattle.jc_api.specs.Factory.{HasState, engine_creation, has_space_for_both, is_in_table, keeps_no_cells, state_array}
use Rattle.jc_api.specs.Initializing.{instance_called}
use Rattle.jc_api.specs.Keeping.{if_persistent, keeping_call, persistent_called}
use Rattle.jc_api.specs.Pairing.{HasStateIfNew, named_in, named_object, names_both, names_second, pair_cells, pair_words, pairing_call, then_named}
use Rattle.jc_api.specs.declared.pairing.NamedObject.{NamedObject}
use Rattle.jc_api.specs.declared.pairing.NamedObject.TheVariants.{Argument, New}
use Rattle.jc_api.specs.declared.pairing.NewPair.{NewPair}
use Rattle.jc_api.proofs.Due.{DueThen, IsPlainAnswer, IsPlainCall, called_ok, called_unless, due_then, then_if, then_ok, then_unless}
use Rattle.jc_api.proofs.Exits.{FaultsOnly, plain_if, plain_some, plain_then}
use Rattle.jc_api.proofs.InitializingCalls.{called_is, plain_called}
use Rattle.jc_api.proofs.Plain.{plainly_faults}
use Rattle.jc_api.proofs.Reaching.{err_not_ok, or_found, same_Ok}
use Rattle.jc_api.proofs.Stretches.{both_ok}

-- ---- what is to be shown

-- the receiver of a call: the first argument, an instance of this class with as many cells
pub record IsReceiverOf (class : PlatformClass) (cells : ℕ) (args : List Cell) (p : Packages) (m : MemoryState) (own : ℕ) : Type 0 where
  pub called : reference_argument args 0 ≡ Some own
  pub there : IsInstanceWith m own cells
  pub instance : is_instance_of p (facts m.heap.now own) (class_word p.platform class) ≡ true

-- of an object that is to be named this is so of the reference to it, in the memory that is left; and if it is made, each effect is due
abbrev pub NamesSo : (Effect → MemoryState → Type 0) → (ℕ → MemoryState → Type 0) → List Cell → Packages → NamedObject → MemoryState → Type 0
NamesSo P K args p (Argument i) m = (r : ℕ) → reference_argument args i ≡ Some r → K r m
NamesSo P K args p (New e) m = HasState e.class → is_in_table e.class p ≡ true → has_space_for_both e m ≡ true → creation_refusal m (state_array e m) ≡ None
    → AllDue P (engine_creation e p m) m × AllResults (engine_creation e p m) m (λ answer v. (r : ℕ) → and_then answer named_in ≡ Ok r → K r v)

-- its cells may be set to name two
abbrev pub NamesBoth : (Effect → MemoryState → Type 0) → List Cell → Packages → NewPair → ℕ → ℕ → MemoryState → Type 0
NamesBoth P args p a first second m =
    (own : ℕ) → IsReceiverOf a.class pair_cells args p m own → P (cells_effect m own 0 (pair_words a.number first second)) m

-- so it is of a call that makes its receiver name two objects
abbrev pub PairsSo : (Effect → MemoryState → Type 0) → List Cell → Packages → NewPair → MemoryState → Type 0
PairsSo P args p a m = NamesSo P (λ first v. NamesSo P (λ second w. NamesBoth P args p a first second w) args p a.second v) args p a.first m

-- ---- persistent receivers

kept_if : (b : Bool) (r own : ℕ) → (if b then Ok r else Err (End Fault)) ≡ Ok own → (b ≡ true) × (r ≡ own)
kept_if true r own e = (refl, same_Ok r own e)
kept_if false r own e = absurd (err_not_ok e)

none_is : {A : Type 0} (o : Option A) → is_none o ≡ true → o ≡ None
none_is None e = refl
none_is (Some a) e = absurd (false≢true e)

module _ (class : PlatformClass) (cells : ℕ) (args : List Cell) (p : Packages) (m : MemoryState) where
  pub plain_persistent : FaultsOnly (persistent_called class cells args p m)
  unfolding persistent_called
  plain_persistent = plain_then (instance_called class cells args p m) _ (plain_called class cells args p m)
      (λ own. plain_if (is_none (facts m.heap.now own).event) _ _ tt tt)

  pub persistent_is : (own : ℕ) → persistent_called class cells args p m ≡ Ok own
      → IsReceiverOf class cells args p m own × ((facts m.heap.now own).event ≡ None)
  unfolding persistent_called
  persistent_is own e =
      let first = both_ok (instance_called class cells args p m) (if_persistent m) own e in
      let is = called_is class cells args p m first.0 first.1 in
      let kept = kept_if (is_none (facts m.heap.now first.0).event) first.0 own first.2 in
      subst (λ r. IsReceiverOf class cells args p m r × ((facts m.heap.now r).event ≡ None)) kept.1
      (record { called = is.0; there = is.1.0; instance = is.1.1 }, none_is (facts m.heap.now first.0).event kept.0)

-- ---- the calls

-- first something else, of whose answer the rest is so
pub then_after : {A B : Type 0} (P : Effect → MemoryState → Type 0) (R : B → MemoryState → Type 0) (more : A → MemoryState → Program B) (d : Program A)
    (m : MemoryState) → DueThen P (λ a v. DueThen P R (more a v) v) d m → DueThen P R (bind d m more) m
then_after P R more (Finish a) m so = so
then_after P R more (Perform e rest) m so = (so.0, then_after P R more rest (apply_effect e m) so.1)
then_after P R more (Choose choose) m so = λ r new. then_after P R more (choose r) m (so r new)
then_after P R more (Either x y) m so = (then_after P R more x m so.0, then_after P R more y m so.1)

module _ (P : Effect → MemoryState → Type 0) (L : MemoryState → ℕ → Type 0) (args : List Cell) (p : Packages) where
  received : (class : PlatformClass) (cells : ℕ) (m : MemoryState) (own : ℕ) → instance_called class cells args p m ≡ Ok own
      → IsReceiverOf class cells args p m own
  received class cells m own e = let is = called_is class cells args p m own e in record { called = is.0; there = is.1.0; instance = is.1.1 }

  -- what follows of a reference
  module _ (rest : ℕ → MemoryState → NativeProgram) where
    abbrev Follows : Result NativeResult FrameExit → MemoryState → Type 0
    Follows answer v = IsPlainCall P L (then_named answer (λ r. rest r v)) v

    named_due : (object : NamedObject) (m : MemoryState) → HasStateIfNew object → NamesSo P (λ r v. IsPlainCall P L (rest r v) v) args p object m
        → DueThen P Follows (named_object object args p m) m
    named_due (Argument i) m has so = then_ok P Follows m (λ e plain. plain) (some_or_fault (reference_argument args i)) _ (plain_some (reference_argument args i))
        (λ r is. so r (or_found (reference_argument args i) r is))
    named_due (New e) m has so =
        then_if P Follows m (λ x plain. plain) (is_in_table e.class p) _ _ (λ there.
        then_if P Follows m (λ x plain. plain) (has_space_for_both e m) _ _ (λ space.
        then_if P Follows m (λ x plain. plain) (keeps_no_cells e m) _ _ (λ cells.
        then_unless P Follows m (λ x plain. plain) (creation_refusal m (state_array e m)) _ (λ room.
        let s = so has there space room in
        due_then P Follows (engine_creation e p m) m s.0 (λ array new r other. s.1 array new r other r refl)))
        (λ full. tt)) (λ full. tt)) (λ lacks. tt)

  both_due : (a : NewPair) (first second : ℕ) (m : MemoryState) → NamesBoth P args p a first second m → IsPlainCall P L (names_both a first second args p m) m
  both_due a first second m so = called_ok P L m (instance_called a.class pair_cells args p m) _ (plain_called a.class pair_cells args p m) (λ own is.
      called_unless P L m (cells_refusal m own 0 (pair_words a.number first second)) _ (λ room. (so own (received a.class pair_cells m own is), tt)))

  -- so of whatever is so of an object
  names_more : (object : NamedObject) (K J : ℕ → MemoryState → Type 0) → ((r : ℕ) (v : MemoryState) → K r v → J r v) → (m : MemoryState)
      → NamesSo P K args p object m → NamesSo P J args p object m
  names_more (Argument i) K J more m so = λ r is. more r m (so r is)
  names_more (New e) K J more m so = λ has there space room.
      let s = so has there space room in (s.0, λ array new r other q is. more q _ (s.1 array new r other q is))

  second_due : (a : NewPair) (first : ℕ) (m : MemoryState) → HasStateIfNew a.second
      → NamesSo P (λ second w. NamesBoth P args p a first second w) args p a.second m → IsPlainCall P L (names_second a first args p m) m
  second_due a first m has so = then_after P (IsPlainAnswer L) _ (named_object a.second args p m) m
      (named_due (λ second w. names_both a first second args p w) a.second m has
      (names_more a.second _ _ (λ second w both. both_due a first second w both) m so))

  -- each effect of a call that makes its receiver name two objects is due, and it answers plainly
  pub pairing_due : (m : MemoryState) (answer : Result NewPair FrameExit)
      → ((a : NewPair) → plainly answer ≡ Ok a → HasStateIfNew a.first × HasStateIfNew a.second × PairsSo P args p a m)
      → IsPlainCall P L (pairing_call answer args p m) m
  pairing_due m answer so = called_ok P L m (plainly answer) _ (plainly_faults answer) (λ a fine.
      let s = so a fine in
      called_ok P L m (instance_called a.class pair_cells args p m) _ (plain_called a.class pair_cells args p m) (λ own is.
      then_after P (IsPlainAnswer L) _ (named_object a.first args p m) m
      (named_due (λ first v. names_second a first args p v) a.first m s.0
      (names_more a.first _ _ (λ first v second. second_due a first v s.1 second) m s.2))))

  -- a call that returns a reference which its receiver has answers plainly, where it is so of this reference
  pub keeping_due : (m : MemoryState) (class : PlatformClass) (i : ℕ)
      → ((own : ℕ) → IsReceiverOf class (i + 1) args p m own → (facts m.heap.now own).event ≡ None → L m (word_at m own i))
      → IsPlainCall P L (keeping_call class i args p m) m
  keeping_due m class i so = called_ok P L m (persistent_called class (i + 1) args p m) _ (plain_persistent class (i + 1) args p m)
      (λ own fine. let is = persistent_is class (i + 1) args p m own fine in so own is.0 is.1)
