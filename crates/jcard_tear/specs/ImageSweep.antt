-- `jcard tear`: what is read, what is done with it, and what is reported.
use Rattle.std.specs.Prelude.{ℕ, List}
use Rattle.jcard_files.specs.Effects.{FindsThen, Tells, WithNoFile}
use Rattle.jcard_files.specs.declared.fault.Fault.{Fault}
use Rattle.jcard_sweeps.specs.ImageSweep.{SweepsImage}
use Rattle.jcard_sweeps.specs.Output.{IsReportTold}
use Rattle.jcard_sweeps.specs.ReportedFaults.{IsTearFault}
use Rattle.jcard_sweeps.specs.SweepAsked.{SweepAsked}
use Rattle.jcard_tear.specs.TargetCuts.{IsCut, IsUncut}
use Rattle.jcard_sweeps.specs.declared.command.Behind.{Behind}
use Rattle.jcard_sweeps.specs.declared.image_sweep.Swept.{Swept}
use Rattle.jcard_sweeps.specs.declared.sweep_fault.TearFault.{TearFault}
use Rattle.jcard_tear.specs.declared.target_cuts.Cutting.{Cutting}
use Rattle.jcard_sweeps.specs.declared.targets.Target.{Target}

-- how commands are cut, and what comes after each cut
abbrev pub cutting_of : Behind → Swept → Cutting
cutting_of behind swept = record { subject = swept.subject; follow_up = record { probe = swept.probe; behind = behind } }

-- that was not cut, which is reported
abbrev pub IsUncutTold : Cutting → Target → Fault → Type 0
IsUncutTold cutting target fault = (cause : TearFault) × IsUncut cutting target cause × IsTearFault cutting.subject.names.image.now cause fault

-- this was cut, and the report was written
abbrev pub IsTargetTorn : Cutting → Target → Tells
IsTargetTorn cutting target = FindsThen (IsCut cutting target) (IsUncutTold cutting target) (λ told. WithNoFile (IsReportTold told.text.items told.is_whole))

-- the same of what is swept
abbrev pub IsTorn : Behind → Swept → Tells
IsTorn behind swept = IsTargetTorn (cutting_of behind swept) swept.target

-- the words of the image and the script were read, the whole script was carried out over these words, and what is meant of its commands was cut,
-- on cards in memory alone
abbrev pub IsTear : List ℕ → SweepAsked → Tells
IsTear image asked = SweepsImage image asked (IsTorn asked.behind)
