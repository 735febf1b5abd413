-- How methods are looked up: the rooms, which are the lists of some classes' methods.
use Rattle.std.specs.Prelude.{List}
use Rattle.jc_platform.specs.declared.rows.Room.{Room}
use Rattle.jc_platform.specs.declared.rows.Room.TheVariants.{Objects, Exceptions, Utilities, System, Aids, Pins, Applets, Apdus, Events, Engines}
use Rattle.jc_platform.specs.declared.rows.Room.TheVariants.{Keys, KeyInterfaces, Ciphers}
use Rattle.jc_platform.specs.declared.rows.Room.TheVariants.{RsaKeys, EcKeys, RsaInterfaces, EcInterfaces, KeyPairs}
use Rattle.jc_platform.specs.Names.{MethodEntry, objects_rows, exceptions_rows, utilities_rows, system_rows, aids_rows, pins_rows, applets_rows, apdus_rows, events_rows, engines_rows}
use Rattle.jc_platform.specs.Names.{keys_rows, key_interfaces_rows, ciphers_rows}
use Rattle.jc_platform.specs.Names.{rsa_keys_rows, ec_keys_rows, rsa_interfaces_rows, ec_interfaces_rows, key_pairs_rows}

-- the methods of a room
abbrev pub rows_of : Room → List MethodEntry
rows_of Objects = objects_rows
rows_of Exceptions = exceptions_rows
rows_of Utilities = utilities_rows
rows_of System = system_rows
rows_of Aids = aids_rows
rows_of Pins = pins_rows
rows_of Applets = applets_rows
rows_of Apdus = apdus_rows
rows_of Events = events_rows
rows_of Engines = engines_rows
rows_of Keys = keys_rows
rows_of KeyInterfaces = key_interfaces_rows
rows_of Ciphers = ciphers_rows
rows_of RsaKeys = rsa_keys_rows
rows_of EcKeys = ec_keys_rows
rows_of RsaInterfaces = rsa_interfaces_rows
rows_of EcInterfaces = ec_interfaces_rows
rows_of KeyPairs = key_pairs_rows
