-- The key that code keeps with its schedule.
use Rattle.std.specs.Prelude.{ℕ, ◌-◌, ◌*◌, List, take}
use Rattle.jc_ciphers.specs.declared.aes.Aes.{Aes}

-- the key under which this enciphers
abbrev pub key_of : Aes → List ℕ
key_of a = take (4 * (a.rounds - 6)) a.key
