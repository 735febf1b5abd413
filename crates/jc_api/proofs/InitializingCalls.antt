-- Form 4: whatever values a call gives to cells of its receiver, what it does is due where cells of such an object may be set, and after them
-- the cells of a transient array.
use Rattle.std.proofs.Common.{◌≡◌, ◌+◌, ℕ, Bool, true, false, List, length, Some, Result, Ok, Err, refl, subst, if◌then◌else◌}
use Rattle.std.proofs.lemmas.Option.{same_Some}
use Rattle.std.specs.Prelude.{nat_le, pos}
use Rattle.jc_heap.specs.Heap.{facts}
use Rattle.jc_heap.specs.declared.object.Facts.{Facts}
use Rattle.jc_heap.specs.declared.object.Kind.{Kind}
use Rattle.jc_heap.specs.declared.object.Kind.TheVariants.{Instance}
use Rattle.jc_memory.specs.Cells.{cells_refusal}
use Rattle.jc_memory.specs.State.{MemoryState, Effect}
use Rattle.jc_platform.specs.NamePlaces.{class_word}
use Rattle.jc_platform.specs.Signatures.{sets_receiver}
use Rattle.jc_platform.specs.declared.names.PlatformClass.{PlatformClass}
use Rattle.jc_platform.specs.declared.names.PlatformMethod.{PlatformMethod}
use Rattle.jc_linker.specs.Values.{Packages}
use Rattle.jc_frames.specs.declared.cell.Cell.{Cell}
use Rattle.jc_frames.specs.declared.outcome.FrameExit.{FrameExit}
use Rattle.jc_frames.specs.declared.outcome.FrameExit.TheVariants.{End}
use Rattle.jc_frames.specs.declared.outcome.Outcome.TheVariants.{Fault}
use Rattle.jc_world.specs.Answers.{and_then}
use Rattle.jc_world.specs.Instances.{instance_at, with_cells, IsInstanceWith}
use Rattle.jc_world.specs.Objects.{is_instance_of, object_at, reference_argument, some_or_fault}
use Rattle.jc_api.specs.Changing.{state_at}
use Rattle.jc_api.specs.Exits.{plainly}
use Rattle.jc_api.specs.Initializing.{FieldsAnswer, FitsFields, initializing_call, instance_called, own_of_class, words_given}
use Rattle.jc_api.proofs.Due.{IsPlainCall, called_ok, called_unless}
use Rattle.jc_api.proofs.Exits.{FaultsOnly, plain_if, plain_instance, plain_some, plain_then}
use Rattle.jc_api.proofs.Passing.{CallPasses}
use Rattle.jc_api.proofs.Plain.{plainly_faults, plainly_ok}
use Rattle.jc_api.proofs.Reaching.{err_not_ok, object_is, or_found, same_Ok}
use Rattle.jc_api.proofs.States.{plain_state, state_is}
use Rattle.jc_api.proofs.Stretches.{both_ok, instance_is}

-- ---- the receiver

-- a check of an instance's header gives it
header_same : (n : ℕ) (kind : Kind) (f g : Facts) → with_cells n kind f ≡ Ok g → f ≡ g
header_same n Instance f g e = by (nat_le n f.length) e
  where
    by : (b : Bool) → (if b then Ok f else Err (End Fault)) ≡ Ok g → f ≡ g
    by true is = same_Ok f g is
    by false is = absurd (err_not_ok is)
header_same n _ f g e = absurd (err_not_ok e)

header_of : (m : MemoryState) (r n : ℕ) (f : Facts) → instance_at m r n ≡ Ok f → f ≡ facts m.heap.now r
unfolding instance_at
header_of m r n f e =
    let b = both_ok (object_at m r) (λ g. with_cells n g.kind g) f e in
    subst (λ g. g ≡ facts m.heap.now r) (header_same n (b.0).kind b.0 f b.2) (object_is m r b.0 b.1).1

own_is : (b : Bool) (r own : ℕ) → (if b then Ok r else Err (End Fault)) ≡ Ok own → (b ≡ true) × (r ≡ own)
own_is true r own e = (refl, same_Ok r own e)
own_is false r own e = absurd (err_not_ok e)

module _ (class : PlatformClass) (cells : ℕ) (args : List Cell) (p : Packages) (m : MemoryState) where
  pub plain_called : FaultsOnly (instance_called class cells args p m)
  unfolding instance_called
  plain_called = plain_then (some_or_fault (reference_argument args 0)) _ (plain_some (reference_argument args 0)) (λ own.
      plain_then (instance_at m own cells) _ (plain_instance m own cells)
      (λ f. plain_if (is_instance_of p f (class_word p.platform class)) _ _ tt tt))

  -- it is the first argument, and an instance of the class
  pub called_is : (own : ℕ) → instance_called class cells args p m ≡ Ok own → (reference_argument args 0 ≡ Some own) × (IsInstanceWith m own cells
      × (is_instance_of p (facts m.heap.now own) (class_word p.platform class) ≡ true))
  unfolding instance_called
  called_is own e =
      let first = both_ok (some_or_fault (reference_argument args 0)) (λ r. and_then (instance_at m r cells) (own_of_class class p r)) own e in
      let second = both_ok (instance_at m first.0 cells) (own_of_class class p first.0) own first.2 in
      let is = own_is (is_instance_of p second.0 (class_word p.platform class)) first.0 own second.2 in
      subst (λ r. (reference_argument args 0 ≡ Some r) × (IsInstanceWith m r cells
      × (is_instance_of p (facts m.heap.now r) (class_word p.platform class) ≡ true))) is.1 (
        or_found (reference_argument args 0) first.0 first.1,
        (
          instance_is m first.0 cells second.0 second.1,
          subst (λ (f : Facts). is_instance_of p f (class_word p.platform class) ≡ true) (header_of m first.0 cells second.0 second.1) is.0,
        ),
      )

-- ---- the call

module _ (P : Effect → MemoryState → Type 0) (L : MemoryState → ℕ → Type 0) (method : PlatformMethod) (args : List Cell) (p : Packages) (m : MemoryState)
    (pass : CallPasses P method args p m) where
  -- each effect of such a call is due, and it answers plainly
  pub initializing_due : sets_receiver method ≡ true → (answer : Result FieldsAnswer FrameExit) → ((a : FieldsAnswer) → answer ≡ Ok a → FitsFields a)
      → IsPlainCall P L (initializing_call answer args p m) m
  initializing_due sets answer fits = called_ok P L m (plainly answer) _ (plainly_faults answer) (λ a fine.
      called_ok P L m (instance_called a.class (a.start + length a.values) args p m) _ (plain_called a.class (a.start + length a.values) args p m)
      (λ own receiver.
      called_ok P L m (state_at p m a.state.array a.state.start (length a.state.words)) _
      (plain_state p m a.state.array a.state.start (length a.state.words))
      (λ s there.
      called_unless P L m (cells_refusal m own a.start (words_given args a.values)) _ (λ room.
      let state = state_is p m a.state.array a.state.start (length a.state.words) s there in
      let is = called_is a.class (a.start + length a.values) args p m own receiver in
      let due = pass.initial a own (record { sets = sets; called = is.0; there = is.1.0; class = is.1.1; fits = fits a (plainly_ok answer a fine) })
      a.state.array (pos (length a.state.words)) s a.state.words state.event state.stretch state.transient
      (same_Some (length a.state.words) s.count state.stretch.counted) in
      (due.0, (due.1, tt))))))
