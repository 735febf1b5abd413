-- The models of faults that a sweep tries.
use Rattle.std.specs.Prelude.{true, false}
use Rattle.jcard_outcomes.specs.declared.models.Models.{Models}

-- all of them
abbrev pub all_models : Models
all_models = record { skip = true; turn = true; zero = true }

-- none of them
abbrev pub no_models : Models
no_models = record { skip = false; turn = false; zero = false }
