-- What holds of the whole lists of rows, by computation: a new row needs no proof.
use Rattle.std.proofs.Common.{◌≡◌, ◌<◌, ◌==◌, ◌&&◌, ◌||◌, not, ℕ, Bool, true, false, List, Option, None, Some, length, get_or, lit<, refl}
use Rattle.std.specs.Prelude.{nat_lt, find}
use Rattle.std.specs.List.{list_all, list_any}
use Rattle.std.specs.Str.{bytes_eq}
use Rattle.jc_platform.specs.declared.kinds.Receiver.{Receiver}
use Rattle.jc_platform.specs.declared.kinds.Receiver.TheVariants.{Absent, Kept, Registered, Changed}
use Rattle.jc_platform.specs.declared.names.PlatformClass.{PlatformClass}
use Rattle.jc_platform.specs.declared.names.PlatformClass.TheVariants.{Object}
use Rattle.jc_platform.specs.declared.names.MethodKind.{MethodKind}
use Rattle.jc_platform.specs.declared.names.MethodKind.TheVariants.{Static, Virtual, Interface}
use Rattle.jc_platform.specs.declared.names.PlatformMethod.{PlatformMethod}
use Rattle.jc_platform.specs.declared.names.PlatformMethod.TheVariants.{Objects, Exceptions, Utilities, System, Aids, Pins, Applets, Apdus, Events, Engines}
use Rattle.jc_platform.specs.declared.names.PlatformMethod.TheVariants.{Keys, KeyInterfaces, Ciphers}
use Rattle.jc_platform.specs.declared.names.PlatformMethod.TheVariants.{RsaKeys, EcKeys, RsaInterfaces, EcInterfaces, KeyPairs}
use Rattle.jc_platform.specs.declared.names.ObjectsMethod.TheVariants.{ObjectInit}
use Rattle.jc_platform.specs.declared.names.ExceptionsMethod.TheVariants.{CardExceptionInit}
use Rattle.jc_platform.specs.declared.names.UtilitiesMethod.TheVariants.{UtilArrayCompare}
use Rattle.jc_platform.specs.declared.names.SystemMethod.TheVariants.{JcSystemAbortTransaction}
use Rattle.jc_platform.specs.declared.names.AidsMethod.TheVariants.{AidInit}
use Rattle.jc_platform.specs.declared.names.PinsMethod.TheVariants.{PinCheck}
use Rattle.jc_platform.specs.declared.names.AppletsMethod.TheVariants.{AppletInit}
use Rattle.jc_platform.specs.declared.names.ApdusMethod.TheVariants.{ApduGetBuffer}
use Rattle.jc_platform.specs.declared.names.EventsMethod.TheVariants.{MultiSelectableSelect}
use Rattle.jc_platform.specs.declared.names.EnginesMethod.TheVariants.{MessageDigestGetInstance}
use Rattle.jc_platform.specs.declared.names.KeysMethod.TheVariants.{KeyBuilderBuildKey}
use Rattle.jc_platform.specs.declared.names.KeyInterfacesMethod.TheVariants.{KeyClearKey}
use Rattle.jc_platform.specs.declared.names.CiphersMethod.TheVariants.{CipherGetInstance}
use Rattle.jc_platform.specs.declared.key_methods.RsaKeysMethod.TheVariants.{RsaKeyObjectSetModulus}
use Rattle.jc_platform.specs.declared.key_methods.EcKeysMethod.TheVariants.{EcKeyObjectSetFieldFp}
use Rattle.jc_platform.specs.declared.key_methods.RsaInterfacesMethod.TheVariants.{PrivateKeyClearKey}
use Rattle.jc_platform.specs.declared.key_methods.EcInterfacesMethod.TheVariants.{EcKeySetFieldFp}
use Rattle.jc_platform.specs.declared.key_methods.KeyPairsMethod.TheVariants.{KeyPairInit}
use Rattle.jc_platform.specs.NamePlaces.{class_of, entry_of_class, entry_of_method, home_of, kind_of_method, name_of_method, room_place, room_rows}
use Rattle.jc_platform.specs.Hierarchy.{is_exception_form, is_interface_form}
use Rattle.jc_platform.specs.Names.{MethodEntry, classes, methods, no_method}
use Rattle.jc_platform.specs.Names.{objects_rows, exceptions_rows, utilities_rows, system_rows, aids_rows, pins_rows, applets_rows, apdus_rows, events_rows, engines_rows}
use Rattle.jc_platform.specs.Names.{keys_rows, key_interfaces_rows, ciphers_rows}
use Rattle.jc_platform.specs.Names.{rsa_keys_rows, ec_keys_rows, rsa_interfaces_rows, ec_interfaces_rows, key_pairs_rows}
use Rattle.jc_platform.specs.Numbers.{class_count, class_number, method_count, method_number, same_class, same_kind, same_package}
use Rattle.jc_platform.specs.Signatures.{is_constructor_name, receiver_cells}

-- ---- how many there are

pub class_places : length classes ≡ class_count
unfolding classes
class_places = refl

pub method_places : length methods ≡ method_count
unfolding objects_rows exceptions_rows utilities_rows system_rows aids_rows pins_rows applets_rows apdus_rows events_rows engines_rows keys_rows key_interfaces_rows ciphers_rows rsa_keys_rows ec_keys_rows rsa_interfaces_rows ec_interfaces_rows key_pairs_rows
method_places = refl

pub room_places : (m : PlatformMethod) → room_place m < length (room_rows m)
unfolding objects_rows exceptions_rows utilities_rows system_rows aids_rows pins_rows applets_rows apdus_rows events_rows engines_rows keys_rows key_interfaces_rows ciphers_rows rsa_keys_rows ec_keys_rows rsa_interfaces_rows ec_interfaces_rows key_pairs_rows
room_places (Objects ObjectInit) = lit< tt
room_places (Objects _) = lit< tt
room_places (Exceptions CardExceptionInit) = lit< tt
room_places (Exceptions _) = lit< tt
room_places (Utilities UtilArrayCompare) = lit< tt
room_places (Utilities _) = lit< tt
room_places (System JcSystemAbortTransaction) = lit< tt
room_places (System _) = lit< tt
room_places (Aids AidInit) = lit< tt
room_places (Aids _) = lit< tt
room_places (Pins PinCheck) = lit< tt
room_places (Pins _) = lit< tt
room_places (Applets AppletInit) = lit< tt
room_places (Applets _) = lit< tt
room_places (Apdus ApduGetBuffer) = lit< tt
room_places (Apdus _) = lit< tt
room_places (Events MultiSelectableSelect) = lit< tt
room_places (Events _) = lit< tt
room_places (Engines MessageDigestGetInstance) = lit< tt
room_places (Engines _) = lit< tt
room_places (Keys KeyBuilderBuildKey) = lit< tt
room_places (Keys _) = lit< tt
room_places (KeyInterfaces KeyClearKey) = lit< tt
room_places (KeyInterfaces _) = lit< tt
room_places (Ciphers CipherGetInstance) = lit< tt
room_places (Ciphers _) = lit< tt
room_places (RsaKeys RsaKeyObjectSetModulus) = lit< tt
room_places (RsaKeys _) = lit< tt
room_places (EcKeys EcKeyObjectSetFieldFp) = lit< tt
room_places (EcKeys _) = lit< tt
room_places (RsaInterfaces PrivateKeyClearKey) = lit< tt
room_places (RsaInterfaces _) = lit< tt
room_places (EcInterfaces EcKeySetFieldFp) = lit< tt
room_places (EcInterfaces _) = lit< tt
room_places (KeyPairs KeyPairInit) = lit< tt
room_places (KeyPairs _) = lit< tt

-- ---- each name has its own row, so numbers are distinct

pub class_at_place : (c : PlatformClass) → (entry_of_class c).class ≡ c
unfolding classes
class_at_place Object = refl
class_at_place _ = refl

pub method_at_place : (m : PlatformMethod) → (entry_of_method m).method ≡ m
unfolding objects_rows exceptions_rows utilities_rows system_rows aids_rows pins_rows applets_rows apdus_rows events_rows engines_rows keys_rows key_interfaces_rows ciphers_rows rsa_keys_rows ec_keys_rows rsa_interfaces_rows ec_interfaces_rows key_pairs_rows
method_at_place (Objects ObjectInit) = refl
method_at_place (Objects _) = refl
method_at_place (Exceptions CardExceptionInit) = refl
method_at_place (Exceptions _) = refl
method_at_place (Utilities UtilArrayCompare) = refl
method_at_place (Utilities _) = refl
method_at_place (System JcSystemAbortTransaction) = refl
method_at_place (System _) = refl
method_at_place (Aids AidInit) = refl
method_at_place (Aids _) = refl
method_at_place (Pins PinCheck) = refl
method_at_place (Pins _) = refl
method_at_place (Applets AppletInit) = refl
method_at_place (Applets _) = refl
method_at_place (Apdus ApduGetBuffer) = refl
method_at_place (Apdus _) = refl
method_at_place (Events MultiSelectableSelect) = refl
method_at_place (Events _) = refl
method_at_place (Engines MessageDigestGetInstance) = refl
method_at_place (Engines _) = refl
method_at_place (Keys KeyBuilderBuildKey) = refl
method_at_place (Keys _) = refl
method_at_place (KeyInterfaces KeyClearKey) = refl
method_at_place (KeyInterfaces _) = refl
method_at_place (Ciphers CipherGetInstance) = refl
method_at_place (Ciphers _) = refl
method_at_place (RsaKeys RsaKeyObjectSetModulus) = refl
method_at_place (RsaKeys _) = refl
method_at_place (EcKeys EcKeyObjectSetFieldFp) = refl
method_at_place (EcKeys _) = refl
method_at_place (RsaInterfaces PrivateKeyClearKey) = refl
method_at_place (RsaInterfaces _) = refl
method_at_place (EcInterfaces EcKeySetFieldFp) = refl
method_at_place (EcInterfaces _) = refl
method_at_place (KeyPairs KeyPairInit) = refl
method_at_place (KeyPairs _) = refl

-- a method's number is its place in the list of all
pub at_number : (m : PlatformMethod) → get_or methods (method_number m) no_method ≡ entry_of_method m
unfolding objects_rows exceptions_rows utilities_rows system_rows aids_rows pins_rows applets_rows apdus_rows events_rows engines_rows keys_rows key_interfaces_rows ciphers_rows rsa_keys_rows ec_keys_rows rsa_interfaces_rows ec_interfaces_rows key_pairs_rows
at_number (Objects ObjectInit) = refl
at_number (Objects _) = refl
at_number (Exceptions CardExceptionInit) = refl
at_number (Exceptions _) = refl
at_number (Utilities UtilArrayCompare) = refl
at_number (Utilities _) = refl
at_number (System JcSystemAbortTransaction) = refl
at_number (System _) = refl
at_number (Aids AidInit) = refl
at_number (Aids _) = refl
at_number (Pins PinCheck) = refl
at_number (Pins _) = refl
at_number (Applets AppletInit) = refl
at_number (Applets _) = refl
at_number (Apdus ApduGetBuffer) = refl
at_number (Apdus _) = refl
at_number (Events MultiSelectableSelect) = refl
at_number (Events _) = refl
at_number (Engines MessageDigestGetInstance) = refl
at_number (Engines _) = refl
at_number (Keys KeyBuilderBuildKey) = refl
at_number (Keys _) = refl
at_number (KeyInterfaces KeyClearKey) = refl
at_number (KeyInterfaces _) = refl
at_number (Ciphers CipherGetInstance) = refl
at_number (Ciphers _) = refl
at_number (RsaKeys RsaKeyObjectSetModulus) = refl
at_number (RsaKeys _) = refl
at_number (EcKeys EcKeyObjectSetFieldFp) = refl
at_number (EcKeys _) = refl
at_number (RsaInterfaces PrivateKeyClearKey) = refl
at_number (RsaInterfaces _) = refl
at_number (EcInterfaces EcKeySetFieldFp) = refl
at_number (EcInterfaces _) = refl
at_number (KeyPairs KeyPairInit) = refl
at_number (KeyPairs _) = refl

-- ---- the lists

pub homes : list_all (λ e. same_package (home_of e.class) e.home) classes ≡ true
unfolding classes
homes = refl

pub method_homes : list_all (λ e. same_class (class_of e.method) e.class && same_kind (kind_of_method e.method) e.kind) methods ≡ true
unfolding objects_rows exceptions_rows utilities_rows system_rows aids_rows pins_rows applets_rows apdus_rows events_rows engines_rows keys_rows key_interfaces_rows ciphers_rows rsa_keys_rows ec_keys_rows rsa_interfaces_rows ec_interfaces_rows key_pairs_rows
method_homes = refl

-- cells and parameters are counted in a byte
pub few_cells : list_all (λ e. nat_lt (length e.cells) 256) classes ≡ true
unfolding classes
few_cells = refl

pub few_parameters : list_all (λ e. nat_lt (length e.parameters) 255) methods ≡ true
unfolding objects_rows exceptions_rows utilities_rows system_rows aids_rows pins_rows applets_rows apdus_rows events_rows engines_rows keys_rows key_interfaces_rows ciphers_rows rsa_keys_rows ec_keys_rows rsa_interfaces_rows ec_interfaces_rows key_pairs_rows
few_parameters = refl

-- superclasses and interfaces come earlier, and they are of that form
abbrev is_earlier : PlatformClass → Option PlatformClass → Bool
is_earlier c None = true
is_earlier c (Some s) = nat_lt (class_number s) (class_number c) && not (is_interface_form (entry_of_class s).form)

pub superclasses_earlier : list_all (λ e. is_earlier e.class e.superclass) classes ≡ true
unfolding classes
superclasses_earlier = refl

pub interfaces_earlier : list_all (λ e. list_all (λ i. nat_lt (class_number i) (class_number e.class) && is_interface_form (entry_of_class i).form) e.interfaces) classes
    ≡ true
unfolding classes
interfaces_earlier = refl

-- what the runtime environment throws is an exception
pub thrown_are_exceptions : list_all (λ e. not e.thrown || is_exception_form e.form) classes ≡ true
unfolding classes
thrown_are_exceptions = refl

-- a static method is called on no object, unless it is a constructor; each other method is
abbrev is_absent : Receiver → Bool
is_absent Absent = true
is_absent Kept = false
is_absent Registered = false
is_absent Changed = false

abbrev is_static : MethodKind → Bool
is_static Static = true
is_static Virtual = false
is_static Interface = false

abbrev has_receiver : MethodEntry → Bool
has_receiver e = not (is_static e.kind) || is_constructor_name e.name

abbrev pub agree : Bool → Bool → Bool
agree true b = b
agree false b = not b

pub receivers_are_there : list_all (λ e. agree (not (is_absent e.receiver)) (has_receiver e)) methods ≡ true
unfolding objects_rows exceptions_rows utilities_rows system_rows aids_rows pins_rows applets_rows apdus_rows events_rows engines_rows keys_rows key_interfaces_rows ciphers_rows rsa_keys_rows ec_keys_rows rsa_interfaces_rows ec_interfaces_rows key_pairs_rows
receivers_are_there = refl

-- a constructor is a static method that is called on an object
pub constructors_are_told : list_all (λ e. agree (same_kind e.kind Static && receiver_cells e.receiver == 1) (is_constructor_name e.name)) methods ≡ true
unfolding objects_rows exceptions_rows utilities_rows system_rows aids_rows pins_rows applets_rows apdus_rows events_rows engines_rows keys_rows key_interfaces_rows ciphers_rows rsa_keys_rows ec_keys_rows rsa_interfaces_rows ec_interfaces_rows key_pairs_rows
constructors_are_told = refl

-- a class is this one
abbrev is_that : PlatformClass → Option PlatformClass → Bool
is_that d None = false
is_that d (Some s) = same_class s d

-- a class is this one, directly below it or below such a one
abbrev is_at_or_below : PlatformClass → Option PlatformClass → PlatformClass → Bool
is_at_or_below c None d = same_class c d
is_at_or_below c (Some s) d = same_class c d || same_class s d || is_that d (entry_of_class s).superclass

-- a method of an interface is carried out by a virtual method with the same name, of a class that implements the interface, of its superclass or of that one's
abbrev is_carried_out : MethodEntry → Option PlatformMethod → Bool
is_carried_out e None = true
is_carried_out e (Some m) = bytes_eq (name_of_method m) e.name && same_kind (kind_of_method m) Virtual
    && list_any (λ c. is_at_or_below c.class c.superclass (class_of m) && list_any (λ i. same_class i e.class) c.interfaces) classes

pub carried_out : list_all (λ e. is_carried_out e e.implementation) methods ≡ true
unfolding classes objects_rows exceptions_rows utilities_rows system_rows aids_rows pins_rows applets_rows apdus_rows events_rows engines_rows keys_rows key_interfaces_rows ciphers_rows rsa_keys_rows ec_keys_rows rsa_interfaces_rows ec_interfaces_rows key_pairs_rows
carried_out = refl

-- names tell the methods of a class and a kind apart
abbrev is_numbered : ℕ → Option MethodEntry → Bool
is_numbered n None = false
is_numbered n (Some e) = method_number e.method == n

abbrev told_apart : List MethodEntry → Bool
told_apart rows = list_all (λ e. is_numbered (method_number e.method)
    (find (λ f. same_class f.class e.class && same_kind f.kind e.kind && bytes_eq f.name e.name) rows)) rows

pub objects_apart : told_apart objects_rows ≡ true
unfolding objects_rows
objects_apart = refl

pub exceptions_apart : told_apart exceptions_rows ≡ true
unfolding exceptions_rows
exceptions_apart = refl

pub utilities_apart : told_apart utilities_rows ≡ true
unfolding utilities_rows
utilities_apart = refl

pub system_apart : told_apart system_rows ≡ true
unfolding system_rows
system_apart = refl

pub aids_apart : told_apart aids_rows ≡ true
unfolding aids_rows
aids_apart = refl

pub pins_apart : told_apart pins_rows ≡ true
unfolding pins_rows
pins_apart = refl

pub applets_apart : told_apart applets_rows ≡ true
unfolding applets_rows
applets_apart = refl

pub apdus_apart : told_apart apdus_rows ≡ true
unfolding apdus_rows
apdus_apart = refl

pub events_apart : told_apart events_rows ≡ true
unfolding events_rows
events_apart = refl

pub engines_apart : told_apart engines_rows ≡ true
unfolding engines_rows
engines_apart = refl

pub keys_apart : told_apart keys_rows ≡ true
unfolding keys_rows
keys_apart = refl

pub key_interfaces_apart : told_apart key_interfaces_rows ≡ true
unfolding key_interfaces_rows
key_interfaces_apart = refl

pub ciphers_apart : told_apart ciphers_rows ≡ true
unfolding ciphers_rows
ciphers_apart = refl

pub rsa_keys_apart : told_apart rsa_keys_rows ≡ true
unfolding rsa_keys_rows
rsa_keys_apart = refl

pub ec_keys_apart : told_apart ec_keys_rows ≡ true
unfolding ec_keys_rows
ec_keys_apart = refl

pub rsa_interfaces_apart : told_apart rsa_interfaces_rows ≡ true
unfolding rsa_interfaces_rows
rsa_interfaces_apart = refl

pub ec_interfaces_apart : told_apart ec_interfaces_rows ≡ true
unfolding ec_interfaces_rows
ec_interfaces_apart = refl

pub key_pairs_apart : told_apart key_pairs_rows ≡ true
unfolding key_pairs_rows
key_pairs_apart = refl
