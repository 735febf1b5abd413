-- The calls of exceptions take arguments of other kinds than those in their rows for a code fault.
use Rattle.std.proofs.Common.{◌≡◌, true, false, List, [], ◌∷◌, Some, refl, sym}
use Rattle.std.proofs.lemmas.Bool.{false≢true}
use Rattle.std.specs.Prelude.{ℕ, ℤ}
use Rattle.jc_memory.specs.State.{MemoryState}
use Rattle.jc_platform.specs.Names.{exceptions_rows}
use Rattle.jc_platform.specs.Signatures.{argument_cells, parameters_of, receiver_of}
use Rattle.jc_platform.specs.declared.kinds.ParameterKind.TheVariants.{Short}
use Rattle.jc_platform.specs.declared.names.ExceptionsMethod.{ExceptionsMethod}
use Rattle.jc_platform.specs.declared.names.ExceptionsMethod.TheVariants as exceptions
use Rattle.jc_platform.specs.declared.names.PlatformClass.{PlatformClass}
use Rattle.jc_platform.specs.declared.names.PlatformMethod.TheVariants as rooms
use Rattle.jc_linker.specs.Values.{Packages}
use Rattle.jc_frames.specs.declared.cell.Cell.{Cell}
use Rattle.jc_frames.specs.declared.cell.Cell.TheVariants as cell
use Rattle.jc_world.specs.NativeCalls.{code_fault}
use Rattle.jc_world.specs.Objects.{short_argument}
use Rattle.jc_api.specs.Kinds.{have_kinds}
use Rattle.jc_api_framework.specs.ArgumentReading.{AreFaultsByKinds}
use Rattle.jc_api_framework.proofs.KindsRead.{have_all, number_at}
use Rattle.jc_api_framework.proofs.ReadByRow.{faulty_some}
use Rattle.jc_api_framework.specs.Exceptions.{exception_call, exception_set_reason, exception_throw_it}

module _ (args : List Cell) (p : Packages) (m : MemoryState) (off : have_kinds (Short ∷ []) p m args ≡ false) where
  no_number : (v : ℤ) → short_argument args 0 ≡ Some v → ⊥
  no_number v is =
      let on : have_kinds (Short ∷ []) p m args ≡ true = have_all p m (Short ∷ []) args (number_at p m args 0 Short refl v is, tt) in cc

  throws : (class : PlatformClass) → exception_throw_it class args ≡ code_fault
  unfolding exception_throw_it
  throws class = faulty_some (short_argument args 0) _ (λ v is. absurd (no_number v is))

  sets : (own : ℕ) → exception_set_reason (cell.Reference own ∷ args) m ≡ code_fault
  unfolding exception_set_reason
  sets own = faulty_some (short_argument args 0) _ (λ v is. absurd (no_number v is))

pub exceptions_by_kinds : (method : ExceptionsMethod) → AreFaultsByKinds (rooms.Exceptions method) (λ args p m. exception_call method args m)
unfolding exception_call argument_cells parameters_of receiver_of exceptions_rows
exceptions_by_kinds exceptions.CardExceptionGetReason own args p m off = absurd (false≢true (sym off))
exceptions_by_kinds exceptions.UserExceptionInitWithoutReason own args p m off = absurd (false≢true (sym off))
exceptions_by_kinds exceptions.CardRuntimeExceptionGetReason own args p m off = absurd (false≢true (sym off))
exceptions_by_kinds method own args p m off = search (throws args p m off, sets args p m off own)
