-- What a check gives where code does not go on: an exception, or a code fault; no value, and no exception that nothing caught.
use Rattle.std.specs.Prelude.{◌==◌, ◌+◌, Result, Ok, Err, Bool, true, false, if◌then◌else◌, Option, Some, None, ℕ, nat_le, ℤ}
use Rattle.jc_heap.specs.declared.object.Facts.{Facts}
use Rattle.jc_heap.specs.declared.object.Kind.{Kind}
use Rattle.jc_heap.specs.declared.object.Kind.TheVariants.{Instance, BooleanArray, ByteArray, ShortArray, ReferenceArray}
use Rattle.jc_firewall.specs.declared.access.Access.{Access}
use Rattle.jc_firewall.specs.declared.access.Access.TheVariants.{ArrayElement}
use Rattle.jc_firewall.specs.declared.decide.Decision.{Decision}
use Rattle.jc_firewall.specs.declared.decide.Decision.TheVariants.{Allow, Switch, Deny}
use Rattle.jc_memory.specs.Cells.{header_at}
use Rattle.jc_memory.specs.State.{MemoryState}
use Rattle.jc_linker.specs.Values.{Packages}
use Rattle.jc_frames.specs.declared.outcome.FrameExit.{FrameExit}
use Rattle.jc_frames.specs.declared.outcome.FrameExit.TheVariants.{Throw, End}
use Rattle.jc_frames.specs.declared.outcome.Outcome.{Outcome}
use Rattle.jc_frames.specs.declared.outcome.Outcome.TheVariants.{Void, Short, Reference, Thrown, Fault}
use Rattle.jc_world.specs.Answers.{and_then}
use Rattle.jc_world.specs.Arrays.{if_bytes, if_array, bytes_argument, within, elements_of}
use Rattle.jc_world.specs.Contexts.{unless_denied, firewall_check, firewall_decision}
use Rattle.jc_world.specs.Instances.{with_cells, instance_at}
use Rattle.jc_world.specs.Numbers.{not_negative}
use Rattle.jc_world.specs.Objects.{some_or_fault, check_or_fault, object_at}

-- an exception, or a code fault
abbrev pub IsPlainExit : FrameExit → Type 0
IsPlainExit (Throw e) = Unit {0}
IsPlainExit (End Void) = ⊥
IsPlainExit (End (Short v)) = ⊥
IsPlainExit (End (Reference r)) = ⊥
IsPlainExit (End (Thrown r)) = ⊥
IsPlainExit (End Fault) = Unit {0}

-- where there is no value there is such an exit
abbrev pub FaultsOnly : {A : Type 0} → Result A FrameExit → Type 0
FaultsOnly (Ok a) = Unit {0}
FaultsOnly (Err e) = IsPlainExit e

-- an exit that ends the run is a fault
pub plain_end : (N : Outcome → Type 0) → N Fault → (o : Outcome) → IsPlainExit (End o) → N o
plain_end N fault Void plain = absurd plain
plain_end N fault (Short v) plain = absurd plain
plain_end N fault (Reference r) plain = absurd plain
plain_end N fault (Thrown r) plain = absurd plain
plain_end N fault Fault plain = fault

pub plain_if : {A : Type 0} (b : Bool) (x y : Result A FrameExit) → FaultsOnly x → FaultsOnly y → FaultsOnly (if b then x else y)
plain_if true x y first second = first
plain_if false x y first second = second

pub plain_then : {A B : Type 0} (x : Result A FrameExit) (go : A → Result B FrameExit) → FaultsOnly x → ((a : A) → FaultsOnly (go a)) → FaultsOnly (and_then x go)
plain_then (Ok a) go plain each = each a
plain_then (Err e) go plain each = plain

pub plain_some : {A : Type 0} (o : Option A) → FaultsOnly (some_or_fault o)
plain_some None = tt
plain_some (Some a) = tt

pub plain_check : (b : Bool) → FaultsOnly (check_or_fault b)
plain_check true = tt
plain_check false = tt

plain_denied : (d : Decision) → FaultsOnly (unless_denied d)
plain_denied Allow = tt
plain_denied (Switch c) = tt
plain_denied (Deny rule) = tt

pub plain_firewall : (access : Access) (p : Packages) (m : MemoryState) (f : Facts) → FaultsOnly (firewall_check access p m f)
plain_firewall access p m f = plain_denied (firewall_decision access p m f)

pub plain_object : (m : MemoryState) (r : ℕ) → FaultsOnly (object_at m r)
unfolding object_at
plain_object m r = plain_if (r == 0) _ _ tt (plain_some (header_at m r))

plain_bytes_of : (kind : Kind) (f : Facts) → FaultsOnly (if_bytes kind f)
plain_bytes_of Instance f = tt
plain_bytes_of BooleanArray f = tt
plain_bytes_of ByteArray f = tt
plain_bytes_of ShortArray f = tt
plain_bytes_of ReferenceArray f = tt

plain_array_of : (o : Option Facts) → FaultsOnly (if_array o)
plain_array_of None = tt
plain_array_of (Some f) = plain_bytes_of f.kind f

pub plain_bytes : (m : MemoryState) (r : ℕ) → FaultsOnly (bytes_argument m r)
unfolding bytes_argument
plain_bytes m r = plain_if (r == 0) _ _ tt (plain_array_of (header_at m r))

plain_within : (array long : ℕ) (start count : Option ℕ) → FaultsOnly (within array long start count)
plain_within array long None count = tt
plain_within array long (Some start) None = tt
plain_within array long (Some start) (Some count) = plain_if (nat_le (start + count) long) _ _ tt tt

pub plain_elements : (p : Packages) (m : MemoryState) (r : ℕ) (o : Option Facts) (start count : ℤ) → FaultsOnly (elements_of p m r o start count)
unfolding elements_of
plain_elements p m r None start count = tt
plain_elements p m r (Some f) start count = plain_then (firewall_check ArrayElement p m f) _ (plain_firewall ArrayElement p m f)
    (λ u. plain_within r f.length (not_negative start) (not_negative count))

plain_cells : (n : ℕ) (kind : Kind) (f : Facts) → FaultsOnly (with_cells n kind f)
plain_cells n Instance f = plain_if (nat_le n f.length) _ _ tt tt
plain_cells n BooleanArray f = tt
plain_cells n ByteArray f = tt
plain_cells n ShortArray f = tt
plain_cells n ReferenceArray f = tt

pub plain_instance : (m : MemoryState) (r n : ℕ) → FaultsOnly (instance_at m r n)
unfolding instance_at
plain_instance m r n = plain_then (object_at m r) _ (plain_object m r) (λ f. plain_cells n f.kind f)
