-- The calls of Util read their arguments by the kinds in their rows.
use Rattle.std.proofs.Common.{◌≡◌, ℕ, true, false, List, [], ◌∷◌, Option, Some, Result, Ok, Err, refl}
use Rattle.std.specs.Prelude.{ℤ}
use Rattle.jc_heap.specs.declared.object.Facts.{Facts}
use Rattle.jc_memory.specs.State.{MemoryState}
use Rattle.jc_platform.specs.declared.kinds.ParameterKind.{ParameterKind}
use Rattle.jc_platform.specs.declared.kinds.ParameterKind.TheVariants.{Byte, Short, Bytes}
use Rattle.jc_platform.specs.declared.names.UtilitiesMethod.TheVariants as utilities
use Rattle.jc_platform.specs.Names.{utilities_rows}
use Rattle.jc_platform.specs.Signatures.{parameters_of}
use Rattle.jc_linker.specs.Values.{Packages}
use Rattle.jc_frames.specs.declared.cell.Cell.{Cell}
use Rattle.jc_frames.specs.declared.outcome.FrameExit.{FrameExit}
use Rattle.jc_frames.specs.declared.outcome.FrameExit.TheVariants.{End}
use Rattle.jc_frames.specs.declared.outcome.Outcome.TheVariants.{Fault}
use Rattle.jc_world.specs.Answers.{and_then}
use Rattle.jc_world.specs.Arrays.{bytes_argument}
use Rattle.jc_world.specs.Objects.{reference_argument, short_argument, some_or_fault}
use Rattle.jc_api.specs.Arguments.{array_arguments, counted_of, elements_at, pair_arguments, pair_of, two_of}
use Rattle.jc_api.specs.Kinds.{have_kinds}
use Rattle.jc_api_framework.proofs.KindsRead.{bytes_at, have_all, number_at, past_bytes, past_some, past_then}
use Rattle.jc_api_framework.specs.Util.{AreReadByKinds, named_pair, util_array_compare, util_array_copy, util_array_copy_non_atomic, util_array_fill}
use Rattle.jc_api_framework.specs.Util.{util_array_fill_non_atomic, util_answer, util_get_short, util_make_short, util_set_short}

-- the kinds of a method of two arrays, and of one that fills an array
abbrev two_arrays : List ParameterKind
two_arrays = Bytes ∷ Short ∷ Bytes ∷ Short ∷ Short ∷ []

abbrev filling : List ParameterKind
filling = Bytes ∷ Short ∷ Short ∷ Byte ∷ []

module _ (args : List Cell) (p : Packages) (m : MemoryState) where
  no_kinds : (ks : List ParameterKind) → have_kinds ks p m args ≡ true → have_kinds ks p m args ≡ false → ⊥
  no_kinds ks on off = cc

module _ {B : Type 0} (args : List Cell) (p : Packages) (m : MemoryState) where
  past_pair : have_kinds two_arrays p m args ≡ false → (go : _ → Result B FrameExit)
      → and_then (pair_arguments args) (λ n. and_then (pair_of p m n) go) ≡ Err (End Fault)
  past_pair off go =
      past_then (some_or_fault (reference_argument args 0)) _ _ (past_some (reference_argument args 0) _ (λ a is_a.
      past_then (some_or_fault (short_argument args 1)) _ _ (past_some (short_argument args 1) _ (λ b is_b.
      past_then (some_or_fault (reference_argument args 2)) _ _ (past_some (reference_argument args 2) _ (λ c is_c.
      past_then (some_or_fault (short_argument args 3)) _ _ (past_some (short_argument args 3) _ (λ d is_d.
      past_then (some_or_fault (short_argument args 4)) _ _ (past_some (short_argument args 4) _ (λ e is_e.
      past_then (bytes_argument m a) _ _ (past_bytes m a _ (λ from f.
      past_then (bytes_argument m c) _ _ (past_bytes m c _ (λ to t. absurd (no_kinds args p m two_arrays (have_all p m two_arrays args (
        bytes_at p m args 0 a from is_a f,
        (
          number_at p m args 1 Short refl b is_b,
          (
            bytes_at p m args 2 c to is_c t,
            (number_at p m args 3 Short refl d is_d, (number_at p m args 4 Short refl e is_e, tt)),
          ),
        ),
      )) off)))))))))))))))

  past_counted : (value : ℤ) → short_argument args 3 ≡ Some value → have_kinds filling p m args ≡ false → (go : _ → Result B FrameExit)
      → and_then (counted_of 0 args p m) go ≡ Err (End Fault)
  past_counted value is_value off go =
      past_then (array_arguments 0 args m) _ _ (past_then (some_or_fault (reference_argument args 0)) _ _ (past_some (reference_argument args 0) _ (λ a is_a.
      past_then (some_or_fault (short_argument args 1)) _ _ (past_some (short_argument args 1) _ (λ b is_b.
      past_then (some_or_fault (short_argument args 2)) _ _ (past_some (short_argument args 2) _ (λ c is_c.
      past_then (bytes_argument m a) _ _ (past_bytes m a _ (λ h t. absurd (no_kinds args p m filling (have_all p m filling args (
        bytes_at p m args 0 a h is_a t,
        (
          number_at p m args 1 Short refl b is_b,
          (
            number_at p m args 2 Short refl c is_c,
            (number_at p m args 3 Byte refl value is_value, tt),
          ),
        ),
      )) off))))))))))

  past_two : (ks : List ParameterKind) → ((a : ℕ) (b : ℤ) (h : Option Facts) → reference_argument args 0 ≡ Some a → short_argument args 1 ≡ Some b
      → bytes_argument m a ≡ Ok h → have_kinds ks p m args ≡ true) → have_kinds ks p m args ≡ false → (go : _ → Result B FrameExit)
      → and_then (two_of args p m) go ≡ Err (End Fault)
  unfolding elements_at
  past_two ks have off go =
      past_then (some_or_fault (reference_argument args 0)) _ _ (past_some (reference_argument args 0) _ (λ a is_a.
      past_then (some_or_fault (short_argument args 1)) _ _ (past_some (short_argument args 1) _ (λ b is_b.
      past_then (bytes_argument m a) _ _ (past_bytes m a _ (λ h t. absurd (no_kinds args p m ks (have a b h is_a is_b t) off)))))))

module _ (args : List Cell) (p : Packages) (m : MemoryState) where
  abbrev set_kinds : List ParameterKind
  set_kinds = Bytes ∷ Short ∷ Short ∷ []

  short_set : have_kinds set_kinds p m args ≡ false → util_set_short args p m ≡ Err (End Fault)
  unfolding util_set_short
  short_set off = past_some (short_argument args 2) _ (λ v is_v. past_two args p m set_kinds (λ a b h is_a is_b t. have_all p m set_kinds args
      (bytes_at p m args 0 a h is_a t, (number_at p m args 1 Short refl b is_b, (number_at p m args 2 Short refl v is_v, tt)))) off _)

  abbrev get_kinds : List ParameterKind
  get_kinds = Bytes ∷ Short ∷ []

  short_got : have_kinds get_kinds p m args ≡ false → util_get_short args p m ≡ Err (End Fault)
  unfolding util_get_short
  short_got off = past_two args p m get_kinds (λ a b h is_a is_b t. have_all p m get_kinds args
      (bytes_at p m args 0 a h is_a t, (number_at p m args 1 Short refl b is_b, tt))) off _

  abbrev make_kinds : List ParameterKind
  make_kinds = Byte ∷ Byte ∷ []

  short_made : have_kinds make_kinds p m args ≡ false → util_make_short args ≡ Err (End Fault)
  unfolding util_make_short
  short_made off = past_some (short_argument args 0) _ (λ a is_a. past_some (short_argument args 1) _ (λ b is_b.
      absurd (no_kinds args p m make_kinds (have_all p m make_kinds args (number_at p m args 0 Byte refl a is_a, (number_at p m args 1 Byte refl b is_b, tt))) off)))

pub by_kinds : AreReadByKinds
unfolding util_answer named_pair parameters_of utilities_rows util_array_compare util_array_copy util_array_copy_non_atomic util_array_fill util_array_fill_non_atomic
by_kinds utilities.UtilArrayCompare args p m off = past_then (pair_arguments args) _ _ (past_pair args p m off _)
by_kinds utilities.UtilArrayCopy args p m off = past_then (pair_arguments args) _ _ (past_pair args p m off _)
by_kinds utilities.UtilArrayCopyNonAtomic args p m off = past_then (pair_arguments args) _ _ (past_pair args p m off _)
by_kinds utilities.UtilArrayFill args p m off = past_some (short_argument args 3) _ (λ v is. past_counted args p m v is off _)
by_kinds utilities.UtilArrayFillNonAtomic args p m off = past_some (short_argument args 3) _ (λ v is. past_counted args p m v is off _)
by_kinds utilities.UtilGetShort args p m off = short_got args p m off
by_kinds utilities.UtilMakeShort args p m off = short_made args p m off
by_kinds utilities.UtilSetShort args p m off = short_set args p m off
