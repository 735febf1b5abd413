-- What is reported of a row that is swept: its power is cut after each of its writes, or it is attacked at each of its instructions.
use Rattle.std.specs.Prelude.{ℕ, ◌≡◌, ◌⊎◌, ◌++◌, true, false, List, codes, Option, Some, None}
use Rattle.jcard_outcomes.specs.Models.{all_models}
use Rattle.jcard_outcomes.specs.Report.{broken_by_calls, broken_told, first_broken}
use Rattle.jcard_outcomes.specs.declared.report.Sweep.{Sweep}
use Rattle.jcard_sweeps.specs.ScriptLines.{Line}
use Rattle.jcard_sweeps.specs.Command.{nothing_more}
use Rattle.jcard_tear.specs.Sweep.{IsLineSwept}
use Rattle.jcard_attack.specs.Each.{IsAttackedIn}
use Rattle.jcard_attack.specs.Report.{accepted_text, any_accepted, first_of}
use Rattle.jcard_attack.specs.Sweep.{IsSwept}
use Rattle.jcard_attack.specs.declared.aftermaths.Attacked.{Attacked}
use Rattle.jcard_attack.specs.declared.outcomes.AttackSweep.{AttackSweep}
use Rattle.jcard_attack.specs.declared.outcomes.Outcome.TheVariants.{Accepted}
use Rattle.jcard_attack.specs.declared.sweep.Sought.{Sought}
use Rattle.jcard_test.specs.Cards.{probe_of}
use Rattle.jcard_outcomes.specs.Row.{line_text, script_text}
use Rattle.jcard_outcomes.specs.declared.row.Row.{Row}

-- ---- cuts

-- a cut of a sweep left neither what was before nor what comes after, and that is reported
abbrev pub IsBrokenTold : Sweep → List ℕ → Type 0
IsBrokenTold sweep told = (k : ℕ) × (first_broken 0 sweep.cuts.items ≡ Some k) × (told ≡ broken_told (broken_by_calls sweep.cuts.items) k)

-- what is reported of a line that is cut after each number of its writes, over these words, with the SELECT of what is selected before it as
-- the probe and at most this many instructions a command: nothing where each cut left what was before or what comes after; else the first that
-- did not, or that it could not be cut
abbrev pub IsToldOfLine : ℕ → List ℕ → Line → Option (List ℕ) → Type 0
IsToldOfLine budget w l None = (sweep : Sweep) × IsLineSwept w None (nothing_more budget) l sweep × (first_broken 0 sweep.cuts.items ≡ None)
IsToldOfLine budget w l (Some told) = ((sweep : Sweep) × IsLineSwept w None (nothing_more budget) l sweep × IsBrokenTold sweep told) ⊎ (told ≡ codes "not cut")

-- ---- faults

-- one fault of each model is tried, and none may get 9000
abbrev pub IsUsual : Sought → Type 0
IsUsual sought = (sought.models ≡ all_models) × (sought.within ≡ 0) × (sought.accepted.now ≡ codes "9000")

-- a line was attacked so over these words, with the line of this probe after each fault
abbrev pub IsStruckLine : ℕ → List ℕ → Line → List ℕ → AttackSweep → Type 0
IsStruckLine budget w l probe s = (c : Attacked) × (sought : Sought) × IsAttackedIn (probe ++ codes "\n") budget l c × IsUsual sought × IsSwept w c sought None s

-- what is reported of a line that is attacked so: nothing where no fault was accepted; else how many were, or that it could not be attacked
abbrev pub IsToldOfFaults : ℕ → List ℕ → Line → List ℕ → Option (List ℕ) → Type 0
IsToldOfFaults budget w l probe None = (s : AttackSweep) × IsStruckLine budget w l probe s × (any_accepted s.strikes.items ≡ false)
IsToldOfFaults budget w l probe (Some told) = ((s : AttackSweep) × IsStruckLine budget w l probe s × (any_accepted s.strikes.items ≡ true)
    × (told ≡ accepted_text (first_of Accepted s.strikes.items) s.strikes.items)) ⊎ (told ≡ codes "not attacked")

-- ---- both

-- what is reported of a line that is swept, by faults where there is a probe, else by cuts
abbrev pub IsToldOfSweptLine : ℕ → List ℕ → Line → Option (List ℕ) → Option (List ℕ) → Type 0
IsToldOfSweptLine budget w l None told = IsToldOfLine budget w l told
IsToldOfSweptLine budget w l (Some probe) told = IsToldOfFaults budget w l probe told

-- the same of the row after these
abbrev pub IsToldOfSweep : ℕ → List ℕ → List Row → Row → Option (List ℕ) → Type 0
IsToldOfSweep budget w before r told =
    IsToldOfSweptLine budget w (record { number = r.number; before = script_text before; text = line_text r }) (probe_of r) told
