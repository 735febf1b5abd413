-- The keys that code keeps with their schedules.
use Rattle.std.specs.Prelude.{ℕ, List}
use Rattle.jc_ciphers.specs.declared.des.Des.{Des}
use Rattle.jc_ciphers.specs.declared.triple_des.TripleDes.{TripleDes}
use Rattle.jc_ciphers.specs.TripleDes.{Parts}

-- the key under which this enciphers
abbrev pub key_of : Des → List ℕ
key_of d = d.key

-- the keys under which this enciphers
abbrev pub keys_of : TripleDes → Parts
keys_of t = record { first = t.first.key; second = t.second.key; third = t.third.key }
