-- What is to be shown of something that is to hold of each effect of a call of these classes.
use Rattle.std.specs.Prelude.{slice_index}
use Rattle.std.proofs.Common.{◌≡◌, ◌≤◌, ◌+◌, ℕ, true, false, List, None, Option, Result, Ok, Err, Some, Bool, length}
use Rattle.jc_heap.specs.Heap.{facts}
use Rattle.jc_heap.specs.Moves.{Begin, Commit, Abort, SetPlaces, WriteNonAtomic}
use Rattle.jc_memory.specs.Cells.{cells_effect}
use Rattle.jc_memory.specs.Making.{object_creation}
use Rattle.jc_memory.specs.Programs.{Program, Finish, Perform}
use Rattle.jc_memory.specs.Reading.{AllDue}
use Rattle.jc_memory.specs.State.{MemoryState, Effect, HeapMove, SetRegisters, SendBytes, apply_effect, IsNew, SetFlag}
use Rattle.jc_transient.specs.declared.owner.AppletNumber.{AppletNumber}
use Rattle.jc_memory.specs.declared.registers.Depth.{Depth}
use Rattle.jc_memory.specs.declared.registers.Depth.TheVariants.{Outside, Inside}
use Rattle.jc_transient.specs.declared.owner.PackageNumber.{PackageNumber}
use Rattle.jc_memory.specs.declared.registers.Registers.{Registers}
use Rattle.jc_environment.specs.Pins.PinInit.{first_record, value_array}
use Rattle.jc_environment.specs.Pins.{is_pin, counter, record_of}
use Rattle.jc_environment.specs.Pins.Updates.{changes_of_update}
use Rattle.jc_environment.specs.declared.pins.updates.PinRefusal.{PinRefusal}
use Rattle.jc_platform.specs.NamePlaces.{class_of}
use Rattle.jc_platform.specs.Signatures.{sets_receiver}
use Rattle.jc_platform.specs.declared.names.AidsMethod.TheVariants.{AidInit}
use Rattle.jc_platform.specs.declared.names.AppletsMethod.TheVariants.{AppletRegister, AppletRegisterBytes}
use Rattle.jc_platform.specs.declared.names.PlatformClass.TheVariants.{OwnerPin}
use Rattle.jc_platform.specs.declared.names.PlatformMethod.{PlatformMethod}
use Rattle.jc_platform.specs.declared.names.PlatformMethod.TheVariants.{Applets, Aids}
use Rattle.jc_linker.specs.Values.{Packages}
use Rattle.jc_frames.specs.declared.cell.Cell.{Cell}
use Rattle.jc_frames.specs.declared.outcome.FrameExit.{FrameExit}
use Rattle.jc_frames.specs.declared.outcome.FrameExit.TheVariants.{End}
use Rattle.jc_frames.specs.declared.outcome.Outcome.TheVariants.{Fault}
use Rattle.jc_world.specs.Arrays.{bytes_in}
use Rattle.jc_world.specs.Instances.{IsInstanceWith}
use Rattle.jc_world.specs.Objects.{reference_argument}
use Rattle.jc_world.specs.declared.arrays.Stretch.{Stretch}
use Rattle.jc_world.specs.declared.native_result.NativeResult.{NativeResult}
use Rattle.jc_world.specs.declared.native_result.NativeResult.TheVariants.{ReturnVoid, Aborted}
use Rattle.jc_api.proofs.Exits.{IsPlainExit}
use Rattle.jc_api.proofs.Passing.{CallPasses, RefersToNew, Turns}
use Rattle.jc_api_framework.specs.Aid.Cells.{is_aid_length, cells_of_aid}
use Rattle.jc_api_framework.specs.Applet.{install_aid}
use Rattle.jc_api_framework.specs.Applet.Register.{open_installation}
use Rattle.jc_api_framework.specs.OwnerPin.{is_own_value}
use Rattle.jc_api_framework.specs.System.Sharing.{aid_or_null}
use Rattle.jc_api_framework.specs.System.Transactions.{set_level}
use Rattle.jc_api_framework.proofs.ApduCalls.Checks.{IsCommandBuffer}
use Rattle.jc_api_framework.proofs.AppletCalls.Registering.{MayRegister, Registering}

-- the same of a call that may begin or end a transaction
pub record Bears (P : Effect → MemoryState → Type 0) (Q : MemoryState → Type 0) : Type 0 where
  pub keeps : (e : Effect) (m : MemoryState) → P e m → Q m → Q (apply_effect e m)
  pub turns : (g : Registers) (m : MemoryState) → Q m → g.active ≡ m.registers.active → g.installation ≡ m.registers.installation
      → g.selected ≡ m.registers.selected → P (SetRegisters g) m
  pub begins : (m : MemoryState) → Q m → m.heap.begun ≡ false → P (HeapMove Begin) m
  pub commits : (m : MemoryState) → Q m → m.heap.begun ≡ true → open_installation m.registers.installation ≡ None → P (HeapMove Commit) m
  pub aborts : (m : MemoryState) → m.heap.begun ≡ true → P (HeapMove Abort) m
  pub sends : (bytes : List ℕ) (m : MemoryState) → P (SendBytes bytes) m

pub turns_of : (P : Effect → MemoryState → Type 0) (Q : MemoryState → Type 0) → Bears P Q → Turns P Q
turns_of P Q bears = record { keeps = bears.keeps; turns = bears.turns; sends = bears.sends }

-- so it is of the references that methods answer: objects of the environment, the AID object of an applet, null, and that to a new object
pub record AnswersSo (L : MemoryState → ℕ → Type 0) (m : MemoryState) : Type 0 where
  pub fixed : (k : ℕ) → k ≤ 16 → L m (slice_index m.fixed k)
  pub aid : (o : Option AppletNumber) → L m (aid_or_null m.heap.now o)
  pub null : L m 0
  pub made : RefersToNew L

-- so it is of what a call that begins or ends a transaction answers, and of the memory that it leaves: of an exception and of a code fault; where
-- the level alone is set; where a transaction begins; and outside an installation where one ends
pub record EndsSo (R : Result NativeResult FrameExit → MemoryState → Type 0) (m : MemoryState) : Type 0 where
  pub exits : (e : FrameExit) → IsPlainExit e → R (Err e) m
  pub faults : (v : MemoryState) → R (Err (End Fault)) v
  pub levels : (depth : Depth) → R (Ok ReturnVoid) (apply_effect (set_level m depth) m)
  pub begins : R (Ok ReturnVoid) (apply_effect (set_level m Inside) (apply_effect (HeapMove Begin) m))
  pub commits : open_installation m.registers.installation ≡ None → R (Ok ReturnVoid) (apply_effect (set_level m Outside) (apply_effect (HeapMove Commit) m))
  pub aborts : open_installation m.registers.installation ≡ None → R (Ok Aborted) (apply_effect (set_level m Outside) (apply_effect (HeapMove Abort) m))
  pub stays : open_installation m.registers.installation ≡ None → R (Ok Aborted) (apply_effect (set_level m Outside) m)

-- each effect that registers an applet is due, and so is what follows: with the AID of the installation, and with one that is given
pub record RegistersSo (P : Effect → MemoryState → Type 0) (R : Result NativeResult FrameExit → MemoryState → Type 0) (method : PlatformMethod)
    (args : List Cell) (p : Packages) (m : MemoryState) : Type 0 where
  pub own : method ≡ Applets AppletRegister → (aid : List ℕ) (instance : ℕ) → reference_argument args 0 ≡ Some instance
      → install_aid p m.registers.installation ≡ Some aid → (k : PackageNumber) → MayRegister m aid instance k → (r : ℕ) → IsNew m.heap.now r
      → Registering P R p m aid instance k r
  pub given : method ≡ Applets AppletRegisterBytes → (e : Stretch) (instance : ℕ) → reference_argument args 0 ≡ Some instance → is_aid_length e.count ≡ true
      → (k : PackageNumber) → MayRegister m (bytes_in m e) instance k → (r : ℕ) → IsNew m.heap.now r → Registering P R p m (bytes_in m e) instance k r

-- a PIN, on which a method of OwnerPIN is called that sets cells of it
pub record IsPinCall (method : PlatformMethod) (args : List Cell) (m : MemoryState) (pin : ℕ) : Type 0 where
  pub class : class_of method ≡ OwnerPin
  pub sets : sets_receiver method ≡ true
  pub called : reference_argument args 0 ≡ Some pin
  pub is : is_pin m pin ≡ true

-- the record of a new PIN is set, with the array for its value
abbrev pub recorded : ℕ → ℕ → ℕ → ℕ → Program (Result (Unit {0}) PinRefusal)
recorded pin limit maximum value = Perform (HeapMove (SetPlaces (first_record pin limit maximum value))) (Perform (SetFlag pin false) (Finish (Ok tt)))

-- what a method sets: what those of any class set; the cells of an AID; the APDU buffer, within which the words fit;
-- the record of a new PIN; and the flag of a PIN, its counter, and its value
pub record MethodPasses (P : Effect → MemoryState → Type 0) (method : PlatformMethod) (args : List Cell) (p : Packages) (m : MemoryState) : Type 0 where
  pub calls : CallPasses P method args p m
  pub aid : method ≡ Aids AidInit → (own : ℕ) (bytes : List ℕ) → reference_argument args 0 ≡ Some own → IsInstanceWith m own 9 → is_aid_length (length bytes) ≡ true
      → P (cells_effect m own 0 (cells_of_aid bytes)) m
  pub buffer : (r at : ℕ) (words : List ℕ) → IsCommandBuffer m r → at + length words ≤ (facts m.heap.now r).length → P (cells_effect m r at words) m
  pub starts : (pin : ℕ) → IsPinCall method args m pin → (limit maximum : ℕ) → AllDue P (object_creation (value_array m maximum) (recorded pin limit maximum)) m
  pub flags : (pin : ℕ) → IsPinCall method args m pin → (flag : Bool) (v : MemoryState) → P (SetFlag pin flag) v
  pub counts : (pin : ℕ) → IsPinCall method args m pin → (n : ℕ) → P (HeapMove (WriteNonAtomic (counter pin) n)) (apply_effect (SetFlag pin false) m)
  pub refills : (pin : ℕ) → IsPinCall method args m pin → (n limit : ℕ) → P (HeapMove (WriteNonAtomic (counter pin) limit))
      (apply_effect (HeapMove (WriteNonAtomic (counter pin) n)) (apply_effect (SetFlag pin false) m))
  pub updates : (pin : ℕ) → IsPinCall method args m pin → (bytes : List ℕ) → is_own_value m pin ≡ Ok tt → length bytes ≤ (record_of m pin).maximum
      → P (HeapMove (SetPlaces (changes_of_update (record_of m pin) pin bytes))) m
