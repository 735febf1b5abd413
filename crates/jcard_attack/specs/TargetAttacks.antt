-- What faults of commands of a script came to, and how it is reported.
use Rattle.std.specs.Prelude.{ℕ, ◌≡◌, ◌++◌, false, not, List, map, Some, None}
use Rattle.jcard_outcomes.specs.CommandShares.{share_text}
use Rattle.jcard_outcomes.specs.Part.{head_text}
use Rattle.jcard_outcomes.specs.declared.part.Share.{Share}
use Rattle.jcard_sweeps.specs.ScriptLines.{Line, line_of}
use Rattle.jcard_sweeps.specs.Shares.{share_in}
use Rattle.jcard_sweeps.specs.declared.targets.Target.{Target}
use Rattle.jcard_sweeps.specs.declared.targets.Target.TheVariants.{Command, CommandPart, Each, EachPart}
use Rattle.jcard_attack.specs.Each.{AreStruck, IsAttackedIn, IsOneUnswept, any_line_accepted, verdicts_text}
use Rattle.jcard_attack.specs.Names.{attack_name, faults_name}
use Rattle.jcard_attack.specs.PartLines.{part_text}
use Rattle.jcard_attack.specs.Report.{any_accepted, report_text}
use Rattle.jcard_attack.specs.Sweep.{IsSwept, IsUnswept}
use Rattle.jcard_attack.specs.declared.aftermaths.AttackFault.{AttackFault}
use Rattle.jcard_attack.specs.declared.aftermaths.Attacked.{Attacked}
use Rattle.jcard_attack.specs.declared.each.LineAttack.{LineAttack}
use Rattle.jcard_attack.specs.declared.outcomes.AttackSweep.{AttackSweep}
use Rattle.jcard_attack.specs.declared.sweep.Sought.{Sought}
use Rattle.jcard_attack.specs.declared.target_attacks.Attacking.{Attacking}
use Rattle.jcard_attack.specs.declared.target_attacks.ToldAttack.{ToldAttack}

-- what faults of a command came to is reported, and whether one was accepted
abbrev pub IsCommandTold : List ℕ → Attacked → Sought → ToldAttack → Type 0
IsCommandTold words c sought told = (s : AttackSweep) × IsSwept words c sought None s × (told.text.items ≡ report_text s)
    × (told.is_accepted ≡ any_accepted s.strikes.items)

-- the same of each command, after each fault of which the lines of the probe come
abbrev pub AreToldEach : Attacking → ToldAttack → Type 0
AreToldEach a told = (attacks : List LineAttack)
    × AreStruck a.subject.words.now a.probe.now a.asked.instructions a.asked.sought (map line_of a.subject.commands.now) attacks
    × (told.text.items ≡ verdicts_text a.asked.sought.objects attacks) × (told.is_accepted ≡ any_line_accepted attacks)

-- of the commands in a part, which says whether one was accepted, and does not end by that
abbrev pub AreToldIn : Attacking → Share → ToldAttack → Type 0
AreToldIn a share told = (attacks : List LineAttack)
    × AreStruck a.subject.words.now a.probe.now a.asked.instructions a.asked.sought (map line_of (share_in share a.subject.commands.now)) attacks
    × (told.text.items ≡ head_text (attack_name a a.subject.script.now share.step)
    ++ share_text share.first share.step (not (any_line_accepted attacks)) (verdicts_text a.asked.sought.objects attacks)) × (told.is_accepted ≡ false)

-- of the faults of a command in a part of them, which says whether one was accepted, and does not end by that
abbrev pub IsToldPart : Attacking → Line → Share → ToldAttack → Type 0
IsToldPart a l share told = (c : Attacked) × (s : AttackSweep) × IsAttackedIn a.probe.now a.asked.instructions l c
    × IsSwept a.subject.words.now c a.asked.sought (Some share) s
    × (told.text.items ≡ head_text (faults_name a l share.step)
    ++ share_text share.first share.step (not (any_accepted s.strikes.items)) (part_text s)) × (told.is_accepted ≡ false)

-- of what is attacked
abbrev pub IsToldBy : Attacking → Target → ToldAttack → Type 0
IsToldBy a (Command line) told = (c : Attacked) × IsAttackedIn a.probe.now a.asked.instructions (line_of line) c
    × IsCommandTold a.subject.words.now c a.asked.sought told
IsToldBy a (CommandPart line share) told = IsToldPart a (line_of line) share told
IsToldBy a Each told = AreToldEach a told
IsToldBy a (EachPart share) told = AreToldIn a share told

-- why not
abbrev pub AreUntoldEach : Attacking → AttackFault → Type 0
AreUntoldEach a cause = IsOneUnswept a.subject.words.now a.probe.now a.asked.instructions (map line_of a.subject.commands.now) cause

abbrev pub AreUntoldIn : Attacking → Share → AttackFault → Type 0
AreUntoldIn a share cause = IsOneUnswept a.subject.words.now a.probe.now a.asked.instructions
    (map line_of (share_in share a.subject.commands.now)) cause

abbrev pub IsUntoldBy : Attacking → Target → AttackFault → Type 0
IsUntoldBy a (Command line) cause = (c : Attacked) × IsAttackedIn a.probe.now a.asked.instructions (line_of line) c
    × IsUnswept a.subject.words.now c cause
IsUntoldBy a (CommandPart line share) cause = (c : Attacked) × IsAttackedIn a.probe.now a.asked.instructions (line_of line) c
    × IsUnswept a.subject.words.now c cause
IsUntoldBy a Each cause = AreUntoldEach a cause
IsUntoldBy a (EachPart share) cause = AreUntoldIn a share cause
