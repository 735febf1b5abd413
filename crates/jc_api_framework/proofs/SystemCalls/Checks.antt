-- JCSystem: what its checks give where a call does not go on, and what they say where it does.
use Rattle.std.specs.Ordering.{int_eq}
use Rattle.std.specs.Prelude.{ℤ, pos}
use Rattle.std.proofs.Common.{◌≡◌, ℕ, Option, Some, None, Ok, refl, subst}
use Rattle.jc_heap.specs.declared.object.Kind.{Kind}
use Rattle.jc_heap.specs.declared.object.Kind.TheVariants.{Instance}
use Rattle.jc_memory.specs.State.{MemoryState}
use Rattle.jc_memory.specs.declared.making.NewObject.{NewObject}
use Rattle.jc_linker.specs.Values.{Packages}
use Rattle.jc_world.specs.Numbers.{not_negative}
use Rattle.jc_api.specs.NewArrays.{class_for}
use Rattle.jc_api.specs.TransientEvents.{allowed_event}
use Rattle.jc_api.proofs.Exits.{FaultsOnly, plain_if, plain_then}
use Rattle.jc_api.proofs.Passing.{IsTransientArray}
use Rattle.jc_api.proofs.Reaching.{same_Ok}
use Rattle.jc_api.proofs.Stretches.{both_ok}
use Rattle.jc_api.proofs.TransientEvents.{plain_allowed}
use Rattle.jc_api_framework.specs.System.Memory.{available_bytes}
use Rattle.jc_api_framework.specs.System.Transient.{length_in, event_named, requested_array}

plain_count : (o : Option ℕ) → FaultsOnly (length_in o)
plain_count None = tt
plain_count (Some n) = tt

plain_event : (v : ℤ) → FaultsOnly (event_named v)
plain_event v = plain_if (int_eq v (pos 1)) _ _ tt (plain_if (int_eq v (pos 2)) _ _ tt tt)

pub plain_requested : (kind : Kind) (count event : ℤ) (p : Packages) (m : MemoryState) → FaultsOnly (requested_array kind count event p m)
unfolding requested_array
plain_requested kind count event p m =
    plain_then (length_in (not_negative count)) _ (plain_count (not_negative count)) (λ long.
    plain_then (event_named event) _ (plain_event event) (λ named. plain_then (allowed_event named m) _ (plain_allowed named m) (λ u. tt)))

pub plain_available : (m : MemoryState) (type : ℤ) → FaultsOnly (available_bytes m type)
plain_available m type = plain_if (int_eq type (pos 0)) _ _ tt (plain_then (event_named type) _ (plain_event type) (λ event. tt))

-- what is asked for is a transient array for whom code runs
pub requested_is : (kind : Kind) (count event : ℤ) (p : Packages) (m : MemoryState) (o : NewObject) → (kind ≡ Instance → ⊥) → requested_array kind count event p m ≡ Ok o
    → IsTransientArray p m o
unfolding requested_array
requested_is kind count event p m o none e =
    let one = both_ok (length_in (not_negative count)) _ o e in
    let two = both_ok (event_named event) _ o one.2 in
    let three = both_ok (allowed_event two.0 m) _ o two.2 in
    let asked : NewObject = record { kind = kind; event = Some two.0; class = class_for kind p; owner = m.registers.active; length = one.0 } in
    subst (IsTransientArray p m) (same_Ok asked o three.2) (record { array = none; event = two.0; kept = refl; class = refl; owner = refl })
