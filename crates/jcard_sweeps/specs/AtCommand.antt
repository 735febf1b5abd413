-- A card at a command, which is kept for all cuts or faults of the command.
use Rattle.std.specs.Prelude.{ℕ, List}
use Rattle.jcard_script.specs.Begun.{HasBegun, IsCommandLine}
use Rattle.jcard_sweeps.specs.Runs.{store_of}
use Rattle.jcard_sweeps.specs.declared.at_command.AtCommand.{AtCommand}

-- a card over these words has carried out these lines, and these are the bytes of the command in that line
abbrev pub IsAtCommand : List ℕ → ℕ → List ℕ → List ℕ → AtCommand → Type 0
IsAtCommand words instructions before line kept = HasBegun instructions (store_of words) before kept.begun × IsCommandLine kept.command.items line
