-- Where names stand, and tokens that tell them apart.
use Rattle.std.specs.Prelude.{ℕ, ◌≡◌, ◌+◌, ◌*◌, Bool, List, Option, None, Some, slice_index_or}
use Rattle.jc_platform.specs.declared.names.PlatformPackage.{PlatformPackage}
use Rattle.jc_platform.specs.declared.names.PlatformClass.{PlatformClass}
use Rattle.jc_platform.specs.declared.names.MethodKind.{MethodKind}
use Rattle.jc_platform.specs.declared.names.PlatformMethod.{PlatformMethod}
use Rattle.jc_platform.specs.declared.names.PlatformMethod.TheVariants.{Objects, Exceptions, Utilities, System, Aids, Pins, Applets, Apdus, Events, Engines}
use Rattle.jc_platform.specs.declared.names.PlatformMethod.TheVariants.{Keys, KeyInterfaces, Ciphers}
use Rattle.jc_platform.specs.declared.names.PlatformMethod.TheVariants.{RsaKeys, EcKeys, RsaInterfaces, EcInterfaces, KeyPairs}
use Rattle.jc_platform.specs.Names.{ClassEntry, MethodEntry, classes, no_class, no_method, objects_rows, exceptions_rows, utilities_rows, system_rows}
use Rattle.jc_platform.specs.Names.{aids_rows, pins_rows, applets_rows, apdus_rows, events_rows, engines_rows}
use Rattle.jc_platform.specs.Names.{keys_rows, key_interfaces_rows, ciphers_rows}
use Rattle.jc_platform.specs.Names.{rsa_keys_rows, ec_keys_rows, rsa_interfaces_rows, ec_interfaces_rows, key_pairs_rows}
use Rattle.jc_platform.specs.Numbers.{class_number, objects_number, exceptions_number, utilities_number, system_number, aids_number, pins_number, applets_number, apdus_number, events_number, engines_number}
use Rattle.jc_platform.specs.Numbers.{keys_number, key_interfaces_number, ciphers_number}
use Rattle.jc_platform.specs.Numbers.{rsa_keys_number, ec_keys_number, rsa_interfaces_number, ec_interfaces_number, key_pairs_number}
use Rattle.jc_platform.specs.Tokens.{Tokens, number_in, token_of_class, token_of_method}

-- the row of a class
abbrev pub entry_of_class : PlatformClass → ClassEntry
entry_of_class c = slice_index_or classes (class_number c) no_class

-- the methods of a method's room
abbrev pub room_rows : PlatformMethod → List MethodEntry
room_rows (Objects m) = objects_rows
room_rows (Exceptions m) = exceptions_rows
room_rows (Utilities m) = utilities_rows
room_rows (System m) = system_rows
room_rows (Aids m) = aids_rows
room_rows (Pins m) = pins_rows
room_rows (Applets m) = applets_rows
room_rows (Apdus m) = apdus_rows
room_rows (Events m) = events_rows
room_rows (Engines m) = engines_rows
room_rows (Keys m) = keys_rows
room_rows (KeyInterfaces m) = key_interfaces_rows
room_rows (Ciphers m) = ciphers_rows
room_rows (RsaKeys m) = rsa_keys_rows
room_rows (EcKeys m) = ec_keys_rows
room_rows (RsaInterfaces m) = rsa_interfaces_rows
room_rows (EcInterfaces m) = ec_interfaces_rows
room_rows (KeyPairs m) = key_pairs_rows

-- its place in its room
abbrev pub room_place : PlatformMethod → ℕ
room_place (Objects m) = objects_number m
room_place (Exceptions m) = exceptions_number m
room_place (Utilities m) = utilities_number m
room_place (System m) = system_number m
room_place (Aids m) = aids_number m
room_place (Pins m) = pins_number m
room_place (Applets m) = applets_number m
room_place (Apdus m) = apdus_number m
room_place (Events m) = events_number m
room_place (Engines m) = engines_number m
room_place (Keys m) = keys_number m
room_place (KeyInterfaces m) = key_interfaces_number m
room_place (Ciphers m) = ciphers_number m
room_place (RsaKeys m) = rsa_keys_number m
room_place (EcKeys m) = ec_keys_number m
room_place (RsaInterfaces m) = rsa_interfaces_number m
room_place (EcInterfaces m) = ec_interfaces_number m
room_place (KeyPairs m) = key_pairs_number m

-- the row of a method
abbrev pub entry_of_method : PlatformMethod → MethodEntry
entry_of_method (Objects m) = slice_index_or objects_rows (objects_number m) no_method
entry_of_method (Exceptions m) = slice_index_or exceptions_rows (exceptions_number m) no_method
entry_of_method (Utilities m) = slice_index_or utilities_rows (utilities_number m) no_method
entry_of_method (System m) = slice_index_or system_rows (system_number m) no_method
entry_of_method (Aids m) = slice_index_or aids_rows (aids_number m) no_method
entry_of_method (Pins m) = slice_index_or pins_rows (pins_number m) no_method
entry_of_method (Applets m) = slice_index_or applets_rows (applets_number m) no_method
entry_of_method (Apdus m) = slice_index_or apdus_rows (apdus_number m) no_method
entry_of_method (Events m) = slice_index_or events_rows (events_number m) no_method
entry_of_method (Engines m) = slice_index_or engines_rows (engines_number m) no_method
entry_of_method (Keys m) = slice_index_or keys_rows (keys_number m) no_method
entry_of_method (KeyInterfaces m) = slice_index_or key_interfaces_rows (key_interfaces_number m) no_method
entry_of_method (Ciphers m) = slice_index_or ciphers_rows (ciphers_number m) no_method
entry_of_method (RsaKeys m) = slice_index_or rsa_keys_rows (rsa_keys_number m) no_method
entry_of_method (EcKeys m) = slice_index_or ec_keys_rows (ec_keys_number m) no_method
entry_of_method (RsaInterfaces m) = slice_index_or rsa_interfaces_rows (rsa_interfaces_number m) no_method
entry_of_method (EcInterfaces m) = slice_index_or ec_interfaces_rows (ec_interfaces_number m) no_method
entry_of_method (KeyPairs m) = slice_index_or key_pairs_rows (key_pairs_number m) no_method

-- the package of a class
abbrev pub home_of : PlatformClass → PlatformPackage
home_of c = (entry_of_class c).home

-- its name in platform tables
abbrev pub name_of_class : PlatformClass → List ℕ
name_of_class c = (entry_of_class c).name

-- each table has the class
abbrev pub is_needed_class : PlatformClass → Bool
is_needed_class c = (entry_of_class c).needed

-- a class of the package with this number, with this token, as an object's header names it: the number times 256, and the token; without one a word that
-- names no class
abbrev pub word_of_token : ℕ → Option ℕ → ℕ
word_of_token number None = 65535
word_of_token number (Some token) = 256 * number + token

-- a class as an object's header names it
abbrev pub class_word : Tokens → PlatformClass → ℕ
class_word t c = word_of_token (number_in t (home_of c)) (token_of_class t c)

-- the class of a method
abbrev pub class_of : PlatformMethod → PlatformClass
class_of m = (entry_of_method m).class

-- the kind of a method
abbrev pub kind_of_method : PlatformMethod → MethodKind
kind_of_method m = (entry_of_method m).kind

-- its name in platform tables
abbrev pub name_of_method : PlatformMethod → List ℕ
name_of_method m = (entry_of_method m).name

-- each table has the method
abbrev pub is_needed_method : PlatformMethod → Bool
is_needed_method m = (entry_of_method m).needed

-- a token identifies a class among those of its package, and a method among those of its class and kind
pub record AreDistinct (t : Tokens) : Type 0 where
  pub of_classes : (c d : PlatformClass) (k : ℕ) → home_of c ≡ home_of d → token_of_class t c ≡ Some k → token_of_class t d ≡ Some k → c ≡ d
  pub of_methods : (m n : PlatformMethod) (k : ℕ) → class_of m ≡ class_of n → kind_of_method m ≡ kind_of_method n
      → token_of_method t m ≡ Some k → token_of_method t n ≡ Some k → m ≡ n
