-- The methods of a class stand together in their room.
use Rattle.std.proofs.Common.{◌≡◌, ◌≤◌, ◌-◌, ◌&&◌, ◌||◌, Bool, true, false, cond, List, [], ◌∷◌, take, drop, get_or, length, refl, ap, ℕ, lit≤}
use Rattle.std.specs.List.{filter, list_any}
use Rattle.jc_platform.specs.declared.names.PlatformClass.{PlatformClass}
use Rattle.jc_platform.specs.declared.names.PlatformClass.TheVariants.{Object}
use Rattle.jc_platform.specs.declared.rows.Room.{Room}
use Rattle.jc_platform.specs.declared.rows.Room.TheVariants.{Objects, Exceptions, Utilities, System, Aids, Pins, Applets, Apdus, Events, Engines}
use Rattle.jc_platform.specs.declared.rows.Room.TheVariants.{Keys, KeyInterfaces, Ciphers}
use Rattle.jc_platform.specs.declared.rows.Room.TheVariants.{RsaKeys, EcKeys, RsaInterfaces, EcInterfaces, KeyPairs}
use Rattle.jc_platform.specs.declared.rows.Stretch.{Stretch}
use Rattle.jc_platform.specs.Names.{objects_rows, exceptions_rows, utilities_rows, system_rows, aids_rows, pins_rows, applets_rows, apdus_rows, events_rows, engines_rows}
use Rattle.jc_platform.specs.Names.{keys_rows, key_interfaces_rows, ciphers_rows}
use Rattle.jc_platform.specs.Names.{rsa_keys_rows, ec_keys_rows, rsa_interfaces_rows, ec_interfaces_rows, key_pairs_rows}
use Rattle.jc_platform.specs.Numbers.{class_number}
use Rattle.jc_platform.specs.Lookup.{rows_of}
use Rattle.jc_platform.specs.Rows.{methods_of}

pub any-filter : {X : Type 0} (p q r : X → Bool) (xs : List X) → list_any (λ x. p x && q x && r x) xs ≡ list_any (λ x. q x && r x) (filter p xs)
any-filter p q r [] = refl
any-filter p q r (x ∷ xs) =
    elim (p x) as (λ b. ((b && q x && r x) || list_any (λ y. p y && q y && r y) xs) ≡ list_any (λ y. q y && r y) (cond b (x ∷ filter p xs) (filter p xs)))
    [ true ↦ ap (λ f. (q x && r x) || f) (any-filter p q r xs) | false ↦ any-filter p q r xs ]

-- where the methods of each class stand
abbrev stretch : Room → ℕ → ℕ → Stretch
stretch r f e = record { room = r; first = f; end = e }

abbrev pub stretches : List Stretch
stretches =
    stretch Objects 0 2 ∷
    stretch Objects 2 3 ∷
    stretch Objects 3 4 ∷
    stretch Objects 4 5 ∷
    stretch Objects 5 6 ∷
    stretch Objects 6 7 ∷
    stretch Objects 7 8 ∷
    stretch Objects 8 9 ∷
    stretch Objects 9 10 ∷
    stretch Objects 10 11 ∷
    stretch Objects 11 12 ∷
    stretch Objects 12 13 ∷
    stretch Objects 0 0 ∷
    stretch Pins 0 4 ∷
    stretch Applets 0 9 ∷
    stretch Apdus 0 24 ∷
    stretch Aids 0 7 ∷
    stretch System 0 22 ∷
    stretch Utilities 0 8 ∷
    stretch Pins 4 13 ∷
    stretch Exceptions 0 4 ∷
    stretch Exceptions 4 8 ∷
    stretch Exceptions 8 10 ∷
    stretch Exceptions 10 12 ∷
    stretch Exceptions 12 14 ∷
    stretch Exceptions 14 16 ∷
    stretch Exceptions 16 18 ∷
    stretch Exceptions 18 21 ∷
    stretch Objects 0 0 ∷
    stretch Events 0 2 ∷
    stretch Events 2 3 ∷
    stretch Objects 0 0 ∷
    stretch Exceptions 21 23 ∷
    stretch Engines 0 7 ∷
    stretch Engines 7 12 ∷
    stretch Engines 12 17 ∷
    stretch Engines 17 18 ∷
    stretch KeyInterfaces 0 4 ∷
    stretch KeyInterfaces 4 8 ∷
    stretch KeyInterfaces 8 14 ∷
    stretch KeyInterfaces 14 20 ∷
    stretch KeyInterfaces 20 26 ∷
    stretch Keys 0 1 ∷
    stretch Keys 1 7 ∷
    stretch Objects 0 0 ∷
    stretch Objects 0 0 ∷
    stretch Keys 7 8 ∷
    stretch Ciphers 9 21 ∷
    stretch RsaInterfaces 0 4 ∷
    stretch RsaInterfaces 4 8 ∷
    stretch RsaInterfaces 8 16 ∷
    stretch RsaInterfaces 16 24 ∷
    stretch RsaInterfaces 24 38 ∷
    stretch EcInterfaces 0 15 ∷
    stretch EcInterfaces 15 36 ∷
    stretch EcInterfaces 36 57 ∷
    stretch KeyPairs 0 5 ∷
    stretch KeyPairs 5 9 ∷
    stretch RsaKeys 0 4 ∷
    stretch Objects 0 0 ∷
    stretch Objects 0 0 ∷
    stretch RsaKeys 4 14 ∷
    stretch EcKeys 0 15 ∷
    stretch EcKeys 15 17 ∷
    stretch EcKeys 17 19 ∷
    stretch Ciphers 0 9 ∷
    []

abbrev pub stretch_of : ℕ → Stretch
stretch_of n = get_or stretches n (stretch Objects 0 0)

pub ends_within : (c : PlatformClass) → (stretch_of (class_number c)).end ≤ length (rows_of (stretch_of (class_number c)).room)
unfolding objects_rows exceptions_rows utilities_rows system_rows aids_rows pins_rows applets_rows apdus_rows events_rows engines_rows keys_rows key_interfaces_rows ciphers_rows rsa_keys_rows ec_keys_rows rsa_interfaces_rows ec_interfaces_rows key_pairs_rows
ends_within Object = lit≤ tt
ends_within _ = lit≤ tt

pub in_order : (c : PlatformClass) → (stretch_of (class_number c)).first ≤ (stretch_of (class_number c)).end
in_order Object = lit≤ tt
in_order _ = lit≤ tt

pub stand_together : (c : PlatformClass) → take ((stretch_of (class_number c)).end - (stretch_of (class_number c)).first)
    (drop (stretch_of (class_number c)).first (rows_of (stretch_of (class_number c)).room)) ≡ methods_of c
unfolding objects_rows exceptions_rows utilities_rows system_rows aids_rows pins_rows applets_rows apdus_rows events_rows engines_rows keys_rows key_interfaces_rows ciphers_rows rsa_keys_rows ec_keys_rows rsa_interfaces_rows ec_interfaces_rows key_pairs_rows
stand_together Object = refl
stand_together _ = refl
