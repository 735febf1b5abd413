-- Making and testing objects.
use Rattle.std.proofs.Common.{◌≡◌, ℕ, ◌<◌, Bool, true, false, Option, Some, None, Ok, Err, refl, sym, subst, if◌then◌else◌}
use Rattle.std.proofs.lemmas.Bool.{and_from, eq-eqb, ltb-true, not-true, not_from_false}
use Rattle.std.proofs.lemmas.Option.{cond_some, option_and_then_some}
use Rattle.std.specs.Prelude.{◌^◌, ◌||◌, nat_lt, not, is_some}
use Rattle.jc_heap.specs.declared.object.Kind.TheVariants.{Instance}
use Rattle.jc_frames.specs.declared.outcome.FrameExit.{FrameExit}
use Rattle.jc_transient.specs.Owners.{owner_number}
use Rattle.jc_memory.specs.State.{MemoryState}
use Rattle.jc_platform.specs.declared.names.PlatformClass.{PlatformClass}
use Rattle.jc_platform.specs.Platform.{class_by_word}
use Rattle.jc_linker.specs.Classes.{class_in, is_class, is_instantiable_class, is_instantiable_class_by, size_of}
use Rattle.jc_linker.specs.Resolve.{interface_by, names_interface}
use Rattle.jc_linker.specs.Values.{ClassValue, Packages}
use Rattle.jc_packages.specs.Objects.{fits_class}
use Rattle.jc_world.specs.Types.{class_named}
use Rattle.jc_instructions.specs.ObjectCreation.{instantiable_or_none, instantiable_class}
use Rattle.law_soundness.specs.MemoryLaws.Fit.{IsFit}
use Rattle.law_code.proofs.ClassFacts.{instantiable_is}
use Rattle.law_code.specs.Classes.{KnowsClasses}
use Rattle.law_soundness.specs.MemoryLaws.State.{IsSoundMemory, IsSteady}
use Rattle.law_code.proofs.Instructions.{checked_due, examined_due, made_due}
use Rattle.law_code.proofs.EffectConditions.{InstancesPass, new_for}
use Rattle.jc_api.proofs.Reaching.{err_not_ok, same_Ok}
use Rattle.law_soundness.specs.MachineLaws.Groups.{ObjectsFit}
use Rattle.law_soundness.proofs.RunObjects.{active_known, new_kept}

made_by : (c : Option ClassValue) (other : Option PlatformClass) → is_instantiable_class_by c other ≡ true
    → ((is_some c || is_some other) ≡ true) × (interface_by c other ≡ false)
made_by (Some c) other e = (refl, not-true c.is_interface e)
made_by None None e = absurd cc
made_by None (Some c) e = (refl, instantiable_is c e)

made_is : (p : Packages) (class : ℕ) → is_instantiable_class p class ≡ true → (is_class p class ≡ true) × (names_interface p class ≡ false)
unfolding is_instantiable_class is_class names_interface
made_is p class e = made_by (class_in p class) (class_by_word p.platform class) e

class_made : (p : Packages) (number index class : ℕ) → instantiable_class p number index ≡ Some class → is_instantiable_class p class ≡ true
unfolding instantiable_class
class_made p number index class e = option_and_then_some (instantiable_or_none p) (class_named p number index) class e
    (λ c named made. let so = cond_some (is_instantiable_class p c) c class made in subst (λ x. is_instantiable_class p x ≡ true) so.1 so.0)

cells_in : (size n : ℕ) (b : Bool) → nat_lt size (2 ^ 16) ≡ b → (stop : FrameExit) → (if b then Ok size else Err stop) ≡ Ok n → (size ≡ n) × (size < 65536)
cells_in size n true few stop e = (same_Ok size n e, ltb-true size 65536 few)
cells_in size n false few stop e = absurd (err_not_ok e)

module _ (p : Packages) (m : MemoryState) (known : KnowsClasses p) (sound : IsSoundMemory p m) (steady : IsSteady m) where
  fits_made : (class n : ℕ) → is_instantiable_class p class ≡ true → size_of p class ≡ n → fits_class p Instance class n ≡ true
  fits_made class n made size =
      let is = made_is p class made in
      and_from (is_class p class) _ is.0 (and_from (not (names_interface p class)) _ (not_from_false (names_interface p class) is.1)
      (eq-eqb n (size_of p class) (sym size)))

  instances_pass : (owner_number m.registers.active ≡ 0 → ⊥) → InstancesPass (IsFit p) p m
  instances_pass other number index class n is few =
      let made = class_made p number index class is in
      let size = cells_in (size_of p class) n (nat_lt (size_of p class) 65536) refl _ few in
      new_kept p m (new_for m Instance class n) (record {
        there = fits_made class n made size.0;
        known = active_known p m sound steady;
        small = λ instance. subst (λ x. x < 65536) size.0 size.1;
        environments = λ instance zero. absurd (other zero);
      }) refl

pub objects_are_fit : ObjectsFit
objects_are_fit = record {
  made = λ index p s m known sound steady other. made_due (IsFit p) p m (instances_pass p m known sound steady other) index s;
  checked = λ type p s m. checked_due (IsFit p) p m type s;
  examined = λ type p s m. examined_due (IsFit p) p m type s;
}
