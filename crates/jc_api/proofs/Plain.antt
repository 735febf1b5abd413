-- Checks of arguments end plainly, and elements that were asked for are given again.
use Rattle.std.proofs.Common.{◌≡◌, ◌+◌, ◌∙◌, ℕ, Bool, true, false, Option, Some, None, Result, Ok, Err, refl, sym, ap, subst, if◌then◌else◌}
use Rattle.std.specs.Prelude.{ℤ, pos, nat_le, IfOk}
use Rattle.jc_heap.specs.declared.object.Facts.{Facts}
use Rattle.jc_memory.specs.State.{MemoryState}
use Rattle.jc_linker.specs.Values.{Packages}
use Rattle.jc_firewall.specs.declared.access.Access.TheVariants.{ArrayElement}
use Rattle.jc_frames.specs.declared.exceptions.Exception.TheVariants.{ArrayIndexOutOfBoundsException}
use Rattle.jc_frames.specs.declared.outcome.FrameExit.{FrameExit}
use Rattle.jc_frames.specs.declared.outcome.FrameExit.TheVariants.{Throw, End}
use Rattle.jc_frames.specs.declared.outcome.Outcome.TheVariants.{Void, Short, Reference, Thrown, Fault}
use Rattle.jc_world.specs.declared.arrays.Stretch.{Stretch}
use Rattle.jc_world.specs.Answers.{and_then}
use Rattle.jc_world.specs.Arrays.{bytes_argument, elements_of, within}
use Rattle.jc_world.specs.Contexts.{firewall_check}
use Rattle.jc_world.specs.Numbers.{not_negative}
use Rattle.jc_api.specs.Arguments.{AreAsked, elements_at}
use Rattle.jc_api.specs.Exits.{plainly}
use Rattle.jc_api.proofs.Exits.{FaultsOnly, plain_bytes, plain_elements, plain_then}
use Rattle.jc_api.proofs.Reaching.{err_not_ok, same_Ok}
use Rattle.jc_api.proofs.Stretches.{both_ok}

-- ---- plain exits

pub plainly_faults : {A : Type 0} (r : Result A FrameExit) → FaultsOnly (plainly r)
plainly_faults (Ok a) = tt
plainly_faults (Err (Throw e)) = tt
plainly_faults (Err (End o)) = tt

pub plainly_ok : {A : Type 0} (r : Result A FrameExit) (a : A) → plainly r ≡ Ok a → r ≡ Ok a
plainly_ok (Ok b) a is = is
plainly_ok (Err e) a is = absurd (err_not_ok is)

pub plainly_same : {A : Type 0} (r : Result A FrameExit) → FaultsOnly r → plainly r ≡ r
plainly_same (Ok a) plain = refl
plainly_same (Err (Throw e)) plain = refl
plainly_same (Err (End Void)) plain = absurd plain
plainly_same (Err (End (Short v))) plain = absurd plain
plainly_same (Err (End (Reference r))) plain = absurd plain
plainly_same (Err (End (Thrown r))) plain = absurd plain
plainly_same (Err (End Fault)) plain = refl

-- the same of what is known of a check
pub bytes_plain : (m : MemoryState) (r : ℕ) → plainly (bytes_argument m r) ≡ bytes_argument m r
bytes_plain m r = plainly_same (bytes_argument m r) (plain_bytes m r)

pub elements_plain : (p : Packages) (m : MemoryState) (r : ℕ) (header : Option Facts) (start count : ℤ)
    → plainly (elements_of p m r header start count) ≡ elements_of p m r header start count
elements_plain p m r header start count = plainly_same (elements_of p m r header start count) (plain_elements p m r header start count)

pub at_faults : (p : Packages) (m : MemoryState) (r : ℕ) (start count : ℤ) → FaultsOnly (elements_at p m r start count)
unfolding elements_at
at_faults p m r start count = plain_then (bytes_argument m r) _ (plain_bytes m r) (λ header. plain_elements p m r header start count)

-- ---- elements that are asked for again

module _ (p : Packages) (m : MemoryState) (r : ℕ) (e : Stretch) where
  if_again : (f : Facts) (n c : ℕ) (b : Bool) → nat_le (n + c) f.length ≡ b
      → (if b then Ok (record { array = r; start = n; count = c }) else Err (Throw ArrayIndexOutOfBoundsException)) ≡ Ok e
      → within e.array f.length (Some e.start) (Some e.count) ≡ Ok e
  if_again f n c false le fine = absurd (err_not_ok fine)
  if_again f n c true le fine =
      let s : Stretch = record { array = r; start = n; count = c } in
      subst (λ (x : Stretch). within x.array f.length (Some x.start) (Some x.count) ≡ Ok x) (same_Ok s e fine)
      (ap (λ b. if b then Ok s else Err (Throw ArrayIndexOutOfBoundsException)) le)

  is_array : (f : Facts) (n c : ℕ) (b : Bool) → (if b then Ok (record { array = r; start = n; count = c }) else Err (Throw ArrayIndexOutOfBoundsException)) ≡ Ok e
      → r ≡ e.array
  is_array f n c false fine = absurd (err_not_ok fine)
  is_array f n c true fine = let s : Stretch = record { array = r; start = n; count = c } in ap (λ (x : Stretch). x.array) (same_Ok s e fine)

  within_again : (f : Facts) (n c : Option ℕ) → within r f.length n c ≡ Ok e → (within e.array f.length (Some e.start) (Some e.count) ≡ Ok e) × (r ≡ e.array)
  within_again f None c fine = absurd (err_not_ok fine)
  within_again f (Some n) None fine = absurd (err_not_ok fine)
  within_again f (Some n) (Some c) fine = (if_again f n c (nat_le (n + c) f.length) refl fine, is_array f n c (nat_le (n + c) f.length) fine)

  of_again : (header : Option Facts) (start count : ℤ) → elements_of p m r header start count ≡ Ok e
      → (elements_of p m e.array header (pos e.start) (pos e.count) ≡ Ok e) × (r ≡ e.array)
  unfolding elements_of
  of_again None start count fine = absurd (err_not_ok fine)
  of_again (Some f) start count fine =
      let b = both_ok (firewall_check ArrayElement p m f) (λ u. within r f.length (not_negative start) (not_negative count)) e fine in
      let w = within_again f (not_negative start) (not_negative count) b.2 in
      (ap (λ x. and_then x (λ u. within e.array f.length (Some e.start) (Some e.count))) b.1 ∙ w.0, w.1)

  pub asked_again : (header : Option Facts) (start count : ℤ) → bytes_argument m r ≡ Ok header → elements_of p m r header start count ≡ Ok e → AreAsked p m e
  unfolding elements_at
  asked_again header start count there fine =
      let again = of_again header start count fine in
      ap (λ x. and_then x (λ h. elements_of p m e.array h (pos e.start) (pos e.count))) (subst (λ a. bytes_argument m a ≡ Ok header) again.1 there) ∙ again.0

-- of what a call was given
pub ok_asked : (p : Packages) (m : MemoryState) (r : ℕ) (header : Option Facts) (start count : ℤ) (x : Result Stretch FrameExit)
    → bytes_argument m r ≡ Ok header → x ≡ elements_of p m r header start count → IfOk x (AreAsked p m)
ok_asked p m r header start count (Ok e) there is = asked_again p m r e header start count there (sym is)
ok_asked p m r header start count (Err e) there is = tt
