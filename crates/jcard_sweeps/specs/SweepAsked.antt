-- What is asked of a sweep.
use Rattle.std.specs.Prelude.{ℕ, Bool, List, Option}
use Rattle.jcard_sweeps.specs.declared.command.Behind.{Behind}
use Rattle.jcard_sweeps.specs.Texts.{text_of}
use Rattle.jcard_sweeps.specs.declared.asked.Asked.{Asked}

-- the names of the script and of the probe, the number of the line, whether each command is cut, what comes after each cut, and the part
pub record SweepAsked : Type 0 where
  pub script : List ℕ
  pub probe : Option (List ℕ)
  pub line : Option (List ℕ)
  pub each : Bool
  pub behind : Behind
  pub part : Option (List ℕ)

-- that is asked
abbrev pub sweep_asked_by : Asked → SweepAsked
sweep_asked_by a = record {
  script = a.script.now;
  probe = text_of a.probe;
  line = text_of a.line;
  each = a.each;
  behind = a.behind;
  part = text_of a.part;
}
