-- What commands of a script leave that are cut, and how it is reported.
use Rattle.std.specs.Prelude.{ℕ, ◌≡◌, ◌↔◌, Bool, IsTrue, true, All, map, List, ◌++◌}
use Rattle.jcard_outcomes.specs.Report.{are_whole, is_whole_outcome, report_text, verdicts_text}
use Rattle.jcard_outcomes.specs.Part.{head_text, part_text}
use Rattle.jcard_outcomes.specs.CommandShares.{share_text}
use Rattle.jcard_outcomes.specs.declared.each.LineSweep.{LineSweep}
use Rattle.jcard_outcomes.specs.declared.part.Part.{Part}
use Rattle.jcard_outcomes.specs.declared.report.Sweep.{Sweep}
use Rattle.jcard_sweeps.specs.Shares.{share_in}
use Rattle.jcard_tear.specs.Faults.{IsLineUncut, IsOneUncut}
use Rattle.jcard_sweeps.specs.Names.{commands_name}
use Rattle.jcard_tear.specs.Parts.{IsLinePart}
use Rattle.jcard_sweeps.specs.ScriptLines.{line_of}
use Rattle.jcard_tear.specs.Sweep.{AreSwept, IsLineSwept, given_of}
use Rattle.jcard_sweeps.specs.declared.sweep_fault.TearFault.{TearFault}
use Rattle.jcard_tear.specs.declared.target_cuts.Cutting.{Cutting}
use Rattle.jcard_tear.specs.declared.target_cuts.ToldCuts.{ToldCuts}
use Rattle.jcard_sweeps.specs.declared.targets.Target.{Target}
use Rattle.jcard_sweeps.specs.declared.targets.Target.TheVariants.{Command, CommandPart, Each, EachPart}

-- the report is this, and ends so
abbrev pub AreToldAs : List ℕ → Bool → ToldCuts → Type 0
AreToldAs report whole told = (told.text.items ≡ report) × (told.is_whole ≡ whole)

-- whether the cuts of all commands were all or nothing
abbrev pub AreAllWhole : List LineSweep → Bool → Type 0
AreAllWhole sweeps whole = IsTrue whole ↔ All (λ s. is_whole_outcome s.outcome ≡ true) sweeps

-- the report of a command that was cut after each number of its writes, on cards of copies of the words, with the lines of the probe, if any,
-- and what else comes after each; the lines of a part of that; the verdicts over each command, with objects the rows too; or those over the commands
-- in a part, and whether each was all or nothing, by which a part does not end
abbrev pub IsCut : Cutting → Target → ToldCuts → Type 0
IsCut c (Command l) told = (s : Sweep) × IsLineSwept c.subject.words.now (given_of c.follow_up) c.follow_up.behind (line_of l) s
    × AreToldAs (report_text s) (are_whole s.cuts.items) told
IsCut c (CommandPart l share) told = (p : Part) × IsLinePart c.subject.words.now (given_of c.follow_up) c.follow_up.behind (line_of l) share.first share.step p
    × AreToldAs (part_text p) true told
IsCut c Each told = (sweeps : List LineSweep) × (whole : Bool)
    × AreSwept c.subject.words.now (given_of c.follow_up) c.follow_up.behind (map line_of c.subject.commands.now) sweeps
    × AreAllWhole sweeps whole × AreToldAs (verdicts_text c.follow_up.behind.objects sweeps) whole told
IsCut c (EachPart share) told = (sweeps : List LineSweep) × (whole : Bool)
    × AreSwept c.subject.words.now (given_of c.follow_up) c.follow_up.behind (map line_of (share_in share c.subject.commands.now)) sweeps
    × AreAllWhole sweeps whole
    × AreToldAs (head_text (commands_name c.subject.words.now c.subject.script.now (given_of c.follow_up) c.follow_up.behind share.step)
    ++ share_text share.first share.step whole (verdicts_text c.follow_up.behind.objects sweeps)) true told

-- why it was not cut, or one of the commands was not; memory may be refused for what is reported too
abbrev pub IsUncut : Cutting → Target → TearFault → Type 0
IsUncut c (Command l) cause = IsLineUncut c.subject.words.now (given_of c.follow_up) c.follow_up.behind (line_of l) 1 cause
IsUncut c (CommandPart l share) cause = IsLineUncut c.subject.words.now (given_of c.follow_up) c.follow_up.behind (line_of l) share.step cause
IsUncut c Each cause = IsOneUncut c.subject.words.now (given_of c.follow_up) c.follow_up.behind (map line_of c.subject.commands.now) cause
IsUncut c (EachPart share) cause =
    IsOneUncut c.subject.words.now (given_of c.follow_up) c.follow_up.behind (map line_of (share_in share c.subject.commands.now)) cause
