-- What comes after each cut of a command.
use Rattle.std.specs.Prelude.{ℕ, false}
use Rattle.jcard_outcomes.specs.declared.recoveries.Depth.TheVariants.{Zero}
use Rattle.jcard_sweeps.specs.declared.command.Behind.{Behind}

-- nothing but the answers of the probe, with at most this many instructions a command
abbrev pub nothing_more : ℕ → Behind
nothing_more n = record { depth = Zero; objects = false; instructions = n }
