-- What holds of all methods of the platform, computed over their rows: a new row needs no proof.
use Rattle.std.proofs.Common.{◌≡◌, ◌&&◌, ◌||◌, not, Bool, true, false, ap, refl, subst, sym}
use Rattle.std.specs.List.{list_all}
use Rattle.std.proofs.lemmas.Bool.{and_parts, false≢true, true≢false}
use Rattle.jc_platform.specs.declared.names.MethodKind.TheVariants.{Static}
use Rattle.jc_platform.specs.declared.names.PlatformClass.TheVariants.{Object}
use Rattle.jc_platform.specs.declared.names.PlatformMethod.{PlatformMethod}
use Rattle.jc_platform.specs.NamePlaces.{class_of, kind_of_method}
use Rattle.jc_platform.specs.Names.{apdus_rows, aids_rows, applets_rows, engines_rows, events_rows, exceptions_rows, methods, objects_rows, pins_rows, system_rows}
use Rattle.jc_platform.specs.Names.{utilities_rows, keys_rows, key_interfaces_rows, ciphers_rows}
use Rattle.jc_platform.specs.Names.{rsa_keys_rows, ec_keys_rows, rsa_interfaces_rows, ec_interfaces_rows, key_pairs_rows}
use Rattle.jc_platform.specs.Numbers.{same_class, same_kind}
use Rattle.jc_platform.specs.Signatures.{is_constructor, minds_receiver, sets_receiver}
use Rattle.jc_platform.proofs.Facts.{method_at_place}
use Rattle.jc_platform.proofs.EveryRow.{every_method}

-- what each row's method has, each method has
pub of_each : (test : PlatformMethod → Bool) → list_all (λ e. test e.method) methods ≡ true → (m : PlatformMethod) → test m ≡ true
of_each test all m = subst (λ n. test n ≡ true) (method_at_place m) (every_method (λ e. test e.method) all m)

either : (a b : Bool) → (a || b) ≡ true → a ≡ false → b ≡ true
either true b e is = absurd (false≢true (subst (λ x. x ≡ true) is e))
either false b e is = e

not_true : (a : Bool) → a ≡ true → not a ≡ false
not_true true e = refl
not_true false e = absurd (false≢true e)

-- what minds its receiver is static as a constructor alone, and not of Object; what sets its receiver minds it
abbrev is_minding : PlatformMethod → Bool
is_minding m = (not (minds_receiver m) || ((not (same_kind (kind_of_method m) Static) || is_constructor m) && not (same_class (class_of m) Object)))
    && (not (sets_receiver m) || minds_receiver m)

minding_rows : list_all (λ e. is_minding e.method) methods ≡ true
unfolding minds_receiver sets_receiver is_constructor objects_rows exceptions_rows utilities_rows system_rows aids_rows pins_rows applets_rows apdus_rows events_rows engines_rows keys_rows key_interfaces_rows ciphers_rows rsa_keys_rows ec_keys_rows rsa_interfaces_rows ec_interfaces_rows key_pairs_rows
minding_rows = refl

minding : (m : PlatformMethod) → minds_receiver m ≡ true →
    ((not (same_kind (kind_of_method m) Static) || is_constructor m) ≡ true) × (not (same_class (class_of m) Object) ≡ true)
minding m minds =
    let first = (and_parts (not (minds_receiver m) || _) (not (sets_receiver m) || minds_receiver m) (of_each is_minding minding_rows m)).0 in
    and_parts (not (same_kind (kind_of_method m) Static) || is_constructor m) (not (same_class (class_of m) Object))
    (either (not (minds_receiver m)) _ first (not_true (minds_receiver m) minds))

pub sets_minds : (m : PlatformMethod) → sets_receiver m ≡ true → minds_receiver m ≡ true
sets_minds m sets =
    either (not (sets_receiver m)) (minds_receiver m) (and_parts (not (minds_receiver m) || _) (not (sets_receiver m) || minds_receiver m)
    (of_each is_minding minding_rows m)).1 (not_true (sets_receiver m) sets)

-- a static method that is no constructor minds no receiver
pub static_minds_none : (m : PlatformMethod) → kind_of_method m ≡ Static → is_constructor m ≡ false → minds_receiver m ≡ true → ⊥
static_minds_none m static plain minds =
    let kind = either (not (same_kind (kind_of_method m) Static)) (is_constructor m) (minding m minds).0 (ap (λ k. not (same_kind k Static)) static) in
    true≢false (subst (λ b. true ≡ b) plain (sym kind))

pub minds_below_object : (m : PlatformMethod) → minds_receiver m ≡ true → class_of m ≡ Object → ⊥
minds_below_object m minds is = false≢true (subst (λ c. not (same_class c Object) ≡ true) is (minding m minds).1)
