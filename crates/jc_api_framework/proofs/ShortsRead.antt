-- Arguments that were read one by one are of the kinds in a row: arrays of shorts, and an array, its offset and a length.
use Rattle.std.proofs.Common.{◌≡◌, ◌∙◌, ℕ, Bool, true, false, List, [], ◌∷◌, Option, Some, None, Result, Ok, Err, refl, sym, ap, if◌then◌else◌}
use Rattle.std.proofs.lemmas.Option.{none-some, same_Some}
use Rattle.std.specs.Prelude.{◌==◌, ◌||◌, slice_get}
use Rattle.std.specs.Option.{option_and_then}
use Rattle.jc_heap.specs.declared.object.Facts.{Facts}
use Rattle.jc_heap.specs.declared.object.Kind.{Kind}
use Rattle.jc_heap.specs.declared.object.Kind.TheVariants as kinds
use Rattle.jc_memory.specs.Cells.{header_at}
use Rattle.jc_memory.specs.State.{MemoryState}
use Rattle.jc_platform.specs.declared.kinds.ParameterKind.{ParameterKind}
use Rattle.jc_platform.specs.declared.kinds.ParameterKind.TheVariants.{Bytes, Shorts}
use Rattle.jc_linker.specs.Values.{Packages}
use Rattle.jc_frames.specs.Cell.{as_reference}
use Rattle.jc_frames.specs.declared.cell.Cell.{Cell}
use Rattle.jc_frames.specs.declared.cell.Cell.TheVariants.{Short, Reference, ReturnAddress}
use Rattle.jc_frames.specs.declared.outcome.FrameExit.{FrameExit}
use Rattle.jc_frames.specs.declared.outcome.FrameExit.TheVariants.{End}
use Rattle.jc_frames.specs.declared.outcome.Outcome.TheVariants.{Fault}
use Rattle.jc_world.specs.Answers.{and_then}
use Rattle.jc_world.specs.Objects.{reference_argument, short_argument}
use Rattle.jc_api.specs.Arguments.{array_arguments, if_shorts, if_shorts_there, shorts_argument}
use Rattle.jc_api.specs.Kinds.{have_kinds, is_number, is_object_of, is_of_kind, is_present_and, is_shorts}
use Rattle.jc_api.proofs.Reaching.{err_not_ok}
use Rattle.jc_api_framework.proofs.KindsRead.{IsAt, bytes_at, have_all, number_at, past_bytes, past_some}

faulty_shorts : {B : Type 0} (kind : Kind) (f : Facts) (x : Result (Option Facts) FrameExit) (go : Option Facts → Result B FrameExit) → if_shorts kind f ≡ x
    → ((h : Option Facts) → x ≡ Ok h → go h ≡ Err (End Fault)) → and_then x go ≡ Err (End Fault)
faulty_shorts kinds.Instance f x go is each = ap (λ y. and_then y go) (sym is)
faulty_shorts kinds.BooleanArray f x go is each = ap (λ y. and_then y go) (sym is)
faulty_shorts kinds.ByteArray f x go is each = ap (λ y. and_then y go) (sym is)
faulty_shorts kinds.ShortArray f x go is each = ap (λ y. and_then y go) (sym is) ∙ each (Some f) (sym is)
faulty_shorts kinds.ReferenceArray f x go is each = ap (λ y. and_then y go) (sym is)

faulty_shorts_there : {B : Type 0} (o : Option Facts) (go : Option Facts → Result B FrameExit)
    → ((h : Option Facts) → if_shorts_there o ≡ Ok h → go h ≡ Err (End Fault)) → and_then (if_shorts_there o) go ≡ Err (End Fault)
faulty_shorts_there None go each = refl
faulty_shorts_there (Some f) go each = faulty_shorts f.kind f (if_shorts f.kind f) go refl each

faulty_shorts_null : {B : Type 0} (null : Bool) (o : Option Facts) (go : Option Facts → Result B FrameExit)
    → ((h : Option Facts) → (if null then Ok None else if_shorts_there o) ≡ Ok h → go h ≡ Err (End Fault))
    → and_then (if null then Ok None else if_shorts_there o) go ≡ Err (End Fault)
faulty_shorts_null true o go each = each None refl
faulty_shorts_null false o go each = faulty_shorts_there o go each

pub past_shorts : {B : Type 0} (m : MemoryState) (r : ℕ) (go : Option Facts → Result B FrameExit)
    → ((h : Option Facts) → shorts_argument m r ≡ Ok h → go h ≡ Err (End Fault)) → and_then (shorts_argument m r) go ≡ Err (End Fault)
unfolding shorts_argument
past_shorts m r go each = faulty_shorts_null (r == 0) (header_at m r) go each

module _ (p : Packages) (m : MemoryState) where
  shorts_of : (kind : Kind) (f : Facts) (h : Option Facts) → if_shorts kind f ≡ Ok h → kind ≡ kinds.ShortArray
  shorts_of kinds.Instance f h e = absurd (err_not_ok e)
  shorts_of kinds.BooleanArray f h e = absurd (err_not_ok e)
  shorts_of kinds.ByteArray f h e = absurd (err_not_ok e)
  shorts_of kinds.ShortArray f h e = refl
  shorts_of kinds.ReferenceArray f h e = absurd (err_not_ok e)

  present_shorts : (o : Option Facts) (h : Option Facts) → if_shorts_there o ≡ Ok h → is_present_and o (is_object_of Shorts p) ≡ true
  present_shorts None h e = absurd (err_not_ok e)
  present_shorts (Some f) h e = ap is_shorts (shorts_of f.kind f h e)

  refers_shorts : (r : ℕ) (null : Bool) (h : Option Facts) → (if null then Ok None else if_shorts_there (header_at m r)) ≡ Ok h
      → (null || is_present_and (header_at m r) (is_object_of Shorts p)) ≡ true
  refers_shorts r true h e = refl
  refers_shorts r false h e = present_shorts (header_at m r) h e

  refers_to_shorts : (r : ℕ) (h : Option Facts) → shorts_argument m r ≡ Ok h → is_of_kind Shorts p m (Reference r) ≡ true
  unfolding shorts_argument
  refers_to_shorts r h e = refers_shorts r (r == 0) h e

  pub reference_at : (o : Option Cell) (r : ℕ) → option_and_then as_reference o ≡ Some r → o ≡ Some (Reference r)
  reference_at None r is = absurd (none-some r is)
  reference_at (Some (Short x)) r is = absurd (none-some r is)
  reference_at (Some (Reference x)) r is = ap (λ y. Some (Reference y)) (same_Some x r is)
  reference_at (Some (ReturnAddress x)) r is = absurd (none-some r is)

  pub shorts_at : (args : List Cell) (i : ℕ) (r : ℕ) (h : Option Facts) → reference_argument args i ≡ Some r → shorts_argument m r ≡ Ok h → IsAt p m args i Shorts
  shorts_at args i r h is there = (Reference r, reference_at (slice_get args i) r is, refers_to_shorts r h there)

-- arguments that are not of these kinds, of which an array, its offset and a length are the first, are refused
pub given_faults : (args : List Cell) (p : Packages) (m : MemoryState) (k l : ParameterKind) → is_number k ≡ true → is_number l ≡ true
    → have_kinds (Bytes ∷ k ∷ l ∷ []) p m args ≡ false → array_arguments 0 args m ≡ Err (End Fault)
given_faults args p m k l first second off =
    past_some (reference_argument args 0) _ (λ a is_a. past_some (short_argument args 1) _ (λ b is_b. past_some (short_argument args 2) _ (λ c is_c.
    past_bytes m a _ (λ h t. absurd (no_kinds (have_all p m (Bytes ∷ k ∷ l ∷ []) args
    (bytes_at p m args 0 a h is_a t, (number_at p m args 1 k first b is_b, (number_at p m args 2 l second c is_c, tt)))) off)))))
  where
    no_kinds : have_kinds (Bytes ∷ k ∷ l ∷ []) p m args ≡ true → have_kinds (Bytes ∷ k ∷ l ∷ []) p m args ≡ false → ⊥
    no_kinds on off = cc
