-- The methods of the platform have few parameters.
use Rattle.std.proofs.Common.{◌≡◌, ◌<◌, ◌==◌, ℕ, suc, Bool, true, false, List, [], ◌∷◌, Option, Some, None, if◌then◌else◌, length, take, refl, arith}
use Rattle.std.proofs.lemmas.Bool.{eqb-true, false≢true, le-leb, ltb-true}
use Rattle.std.specs.Prelude.{nat_le, nat_lt, reverse}
use Rattle.jc_frames.specs.declared.cell.Cell.{Cell}
use Rattle.jc_linker.specs.Values.{Packages}
use Rattle.jc_memory.specs.State.{MemoryState}
use Rattle.jc_platform.specs.declared.kinds.ParameterKind.{ParameterKind}
use Rattle.jc_platform.specs.declared.names.PlatformMethod.{PlatformMethod}
use Rattle.jc_platform.specs.Signatures.{parameters_of}
use Rattle.jc_platform.proofs.EveryRow.{every_method}
use Rattle.jc_platform.proofs.Facts.{few_parameters}
use Rattle.jc_api.specs.Kinds.{is_present_and}
use Rattle.jc_instructions.specs.Parameters.{kinds_fit}

pub few : (method : PlatformMethod) → length (parameters_of method) < 255
unfolding parameters_of
few method = ltb-true _ _ (every_method (λ e. nat_lt (length e.parameters) 255) few_parameters method)

-- no cells are asked of a method without parameters
present : (b : Bool) (args : List Cell) → b ≡ true → is_present_and (if b then Some args else None) (λ _. true) ≡ true
present true args e = refl
present false args e = absurd (false≢true e)

pub none_fit : (kinds : List ParameterKind) (p : Packages) (m : MemoryState) (stack : List Cell) → (length kinds == 0) ≡ true → kinds_fit kinds p m stack ≡ true
none_fit [] p m stack e = present (nat_le 0 (length stack)) (reverse (take 0 stack)) (le-leb 0 (length stack) (omega arith))
none_fit (k ∷ kinds) p m stack e = let long : suc (length kinds) ≡ 0 = eqb-true (suc (length kinds)) 0 e in absurd (omega (arith, long))
