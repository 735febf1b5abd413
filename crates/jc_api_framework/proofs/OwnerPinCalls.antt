-- OwnerPIN: what its calls may do.
pub mod Each
pub mod Checks
pub mod Settling
use Rattle.std.proofs.Common.{ℕ, List, refl}
use Rattle.jc_memory.specs.State.{MemoryState, Effect}
use Rattle.jc_platform.specs.Names.{pins_rows}
use Rattle.jc_platform.specs.Signatures.{sets_receiver}
use Rattle.jc_platform.specs.declared.names.PinsMethod.{PinsMethod}
use Rattle.jc_platform.specs.declared.names.PinsMethod.TheVariants as pins
use Rattle.jc_platform.specs.declared.names.PlatformMethod.TheVariants as rooms
use Rattle.jc_linker.specs.Values.{Packages}
use Rattle.jc_frames.specs.declared.cell.Cell.{Cell}
use Rattle.jc_api.proofs.Due.{IsPlainCall}
use Rattle.jc_api.proofs.Passing.{Turns}
use Rattle.jc_api_framework.specs.OwnerPin.{pin_call}
use Rattle.jc_api_framework.proofs.OwnerPinCalls.Each.{tries_due, validated_due, constructed_due, pin_checked_due, was_reset_due, was_unblocked_due}
use Rattle.jc_api_framework.proofs.OwnerPinCalls.Each.{flag_set_due, value_set_due}
use Rattle.jc_api_framework.proofs.Passing.{MethodPasses}

module _ (P : Effect → MemoryState → Type 0) (L : MemoryState → ℕ → Type 0) (Q : MemoryState → Type 0) (turns : Turns P Q) (args : List Cell) (p : Packages)
    (m : MemoryState) (so : Q m) where
  pub pins_due : (method : PinsMethod) → MethodPasses P (rooms.Pins method) args p m → IsPlainCall P L (pin_call method args p m) m
  unfolding pin_call sets_receiver pins_rows
  pins_due pins.OwnerPinInit pass = constructed_due P L Q turns (rooms.Pins pins.OwnerPinInit) args p m so pass refl refl
  pins_due pins.OwnerPinCheck pass = pin_checked_due P L Q turns (rooms.Pins pins.OwnerPinCheck) args p m so pass refl refl
  pins_due pins.OwnerPinGetTriesRemaining pass = tries_due P L args p m
  pins_due pins.OwnerPinIsValidated pass = validated_due P L args p m
  pins_due pins.OwnerPinReset pass = was_reset_due P L Q turns (rooms.Pins pins.OwnerPinReset) args p m so pass refl refl
  pins_due pins.OwnerPinResetAndUnblock pass = was_unblocked_due P L Q turns (rooms.Pins pins.OwnerPinResetAndUnblock) args p m so pass refl refl
  pins_due pins.OwnerPinUpdate pass = value_set_due P L Q turns (rooms.Pins pins.OwnerPinUpdate) args p m so pass refl refl
  pins_due pins.OwnerPinGetValidatedFlag pass = validated_due P L args p m
  pins_due pins.OwnerPinSetValidatedFlag pass = flag_set_due P L Q turns (rooms.Pins pins.OwnerPinSetValidatedFlag) args p m so pass refl refl
  pins_due _ pass = tt
