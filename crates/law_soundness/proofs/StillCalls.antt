-- How calls leave a memory: those that are still.
use Rattle.std.proofs.Common.{◌≡◌, true, List, [], ◌∷◌, Result, Ok, Err, refl, sym, ◌∙◌, subst}
use Rattle.jc_frames.specs.declared.outcome.FrameExit.{FrameExit}
use Rattle.jc_frames.specs.declared.outcome.FrameExit.TheVariants.{Throw, End}
use Rattle.jc_frames.specs.Frames.{Caller}
use Rattle.jc_transient.specs.Owners.{owner_number}
use Rattle.jc_memory.specs.State.{MemoryState, apply_effect}
use Rattle.jc_memory.specs.Programs.{Finish, Perform, Choose, Either}
use Rattle.jc_memory.specs.Reading.{AllDue, AllResults}
use Rattle.jc_linker.specs.Values.{Packages}
use Rattle.jc_world.specs.declared.native_result.NativeResult.{NativeResult}
use Rattle.jc_world.specs.declared.native_result.NativeResult.TheVariants.{ReturnVoid, ReturnValue, CallServer, Aborted}
use Rattle.jc_world.specs.NativeCalls.{NativeProgram}
use Rattle.law_soundness.specs.MemoryLaws.Fit.{IsFit, KeepsSound}
use Rattle.law_soundness.specs.MemoryLaws.State.{IsSoundMemory, IsSteady, is_owner_up_to, most_owner}
use Rattle.law_soundness.specs.MachineLaws.LocalEffects.{LocalEffectsStay}
use Rattle.law_soundness.specs.Machines.{KnowOwners}
use Rattle.law_soundness.specs.MachineLaws.Calls.{IsCallResult, IsReadyAgain}
use Rattle.jc_api.proofs.Due.{IsPlainAnswer, IsPlainCall}
use Rattle.jc_api.proofs.Exits.{IsPlainExit}
use Rattle.law_soundness.proofs.LivingReferences.{plain_living}
use Rattle.law_soundness.proofs.Still.{IsStill, Lives}
use Rattle.law_soundness.proofs.LocalEffects.{same_known}
use Rattle.law_soundness.proofs.RegistryEntries.{server_known, server_refers}

pub same_owners : (m n : MemoryState) → n.heap.now.packages ≡ m.heap.now.packages → most_owner n ≡ most_owner m → (callers : List Caller) → KnowOwners callers m
    → KnowOwners callers n
same_owners m n packages most [] known = tt
same_owners m n packages most (c ∷ callers) known = (
  same_known (most_owner n) m.heap.now n.heap.now (owner_number c.resume.active) packages
      (subst (λ k. is_owner_up_to k m.heap.now (owner_number c.resume.active) ≡ true) (sym most) known.0),
  known.1,
  same_owners m n packages most callers known.2,
)

-- a memory that is left as it was
pub stays : (m : MemoryState) → IsSteady m → IsReadyAgain m m
stays m steady = record { again = record { steady = steady; owners = λ callers known. known; active = refl }; references = λ r refers. refers }

-- an exception, or a code fault
pub exits_left : (m : MemoryState) → IsSteady m → (e : FrameExit) → IsPlainExit e → IsCallResult m (Err e) m
exits_left m steady (Throw e) plain = stays m steady
exits_left m steady (End o) plain = plain_living m.heap.now o plain

-- a memory that was left so after a call that answers plainly
pub left_so : (p : Packages) (m n : MemoryState) (answer : Result NativeResult FrameExit) → IsPlainAnswer Lives answer n → IsSoundMemory p n → IsReadyAgain m n
    → IsCallResult m answer n
left_so p m n (Ok ReturnVoid) plain sound stands = stands
left_so p m n (Ok (ReturnValue cell)) plain sound stands = (stands, plain)
left_so p m n (Ok (CallServer asked)) plain sound stands =
    let known = server_known p n sound (stands.again).steady asked.owner.0 asked.server plain.0 in
    (stands, known.0, known.1, server_refers p n sound asked.owner.0 asked.server plain.0, plain.1)
left_so p m n (Ok Aborted) plain sound stands = absurd plain
left_so p m n (Err (Throw e)) plain sound stands = stands
left_so p m n (Err (End o)) plain sound stands = plain_living n.heap.now o plain

-- a call that is still, and answers plainly
abbrev pub IsStillCall : MemoryState → NativeProgram → Type 0
IsStillCall m d = IsPlainCall IsStill Lives d m

module _ (keeps : KeepsSound) (calm : LocalEffectsStay) (p : Packages) (m : MemoryState) where
  still_each : (d : NativeProgram) (v : MemoryState) → IsPlainCall IsStill Lives d v → AllDue (IsFit p) d v → IsSoundMemory p v
      → IsReadyAgain m v → AllResults d v (IsCallResult m)
  still_each (Finish answer) v call due sound stands = left_so p m v answer call sound stands
  still_each (Perform e rest) v call due sound stands = still_each rest (apply_effect e v) call.1 due.1 (keeps p e v due.0 sound) (record {
    again = record {
      steady = calm.steady e v call.0.0 sound.settled (stands.again).steady;
      owners = λ callers known. calm.owners e v callers call.0.0 sound.settled ((stands.again).owners callers known);
      active = call.0.1 ∙ (stands.again).active;
    };
    references = λ r refers. calm.references e v call.0.0 sound.whole.now r (stands.references r refers);
  })
  still_each (Choose choose) v call due sound stands = λ r new. still_each (choose r) v (call r new) (due r new) sound stands
  still_each (Either x y) v call due sound stands = (still_each x v call.0 due.0 sound stands, still_each y v call.1 due.1 sound stands)

  pub still_left : IsSoundMemory p m → IsSteady m → (d : NativeProgram) → IsStillCall m d → AllDue (IsFit p) d m → AllResults d m (IsCallResult m)
  still_left sound steady d call due = still_each d m call due sound (stays m steady)
