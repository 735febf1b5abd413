-- Where the words of an applet stand in the registry: the one place that says it.
use Rattle.std.specs.Prelude.{ℕ, ◌*◌}

-- how many words the registry has for each applet
abbrev pub entry_length : ℕ
entry_length = 3

-- the first of them, counted from the registry's first word, for the applet after n others
abbrev pub entry_start : ℕ → ℕ
entry_start applet = entry_length * applet

-- what they are: the address of its AID object, the number of its package, the address of its instance
abbrev pub entry_aid : ℕ
entry_aid = 0

abbrev pub entry_package : ℕ
entry_package = 1

abbrev pub entry_instance : ℕ
entry_instance = 2
