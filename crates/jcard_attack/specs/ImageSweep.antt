-- `jcard attack`: what is read, what is done with it, and what is reported.
use Rattle.std.specs.Prelude.{ℕ, ◌≡◌, List, []}
use Rattle.std.specs.Option.{unwrap_or}
use Rattle.jcard_files.specs.Effects.{FindsThen, Tells, WithNoFile}
use Rattle.jcard_files.specs.declared.fault.Fault.{Fault}
use Rattle.jcard_sweeps.specs.ImageSweep.{SweepsImage}
use Rattle.jcard_sweeps.specs.Texts.{text_of}
use Rattle.jcard_sweeps.specs.declared.image_sweep.Swept.{Swept}
use Rattle.jcard_sweeps.specs.declared.targets.Target.{Target}
use Rattle.jcard_attack.specs.AttackAsked.{AttackAsked, attack_asked_by, sweep_of}
use Rattle.jcard_attack.specs.Output.{IsAttackTold}
use Rattle.jcard_attack.specs.ReportedFaults.{IsAttackFault}
use Rattle.jcard_attack.specs.TargetAttacks.{IsToldBy, IsUntoldBy}
use Rattle.jcard_attack.specs.declared.aftermaths.AttackFault.{AttackFault}
use Rattle.jcard_attack.specs.declared.target_attacks.Attacking.{Attacking}

-- that was not attacked, which is reported
abbrev pub IsUntoldTold : Attacking → Target → Fault → Type 0
IsUntoldTold a target fault = (cause : AttackFault) × IsUntoldBy a target cause × IsAttackFault a.subject.names.image.now cause fault

-- the faults of this were tried, and the report was written
abbrev pub IsTargetAttacked : Attacking → Target → Tells
IsTargetAttacked a target = FindsThen (IsToldBy a target) (IsUntoldTold a target) (λ told. WithNoFile (IsAttackTold told.text.items told.is_accepted))

-- how commands are attacked: as it is asked for, with the lines of the probe, or with none
abbrev pub IsAttackingOf : AttackAsked → Swept → Attacking → Type 0
IsAttackingOf asked swept a = (a.subject ≡ swept.subject) × (attack_asked_by a.asked ≡ asked) × (a.probe.now ≡ unwrap_or (text_of swept.probe) [])

-- the same of what is swept
abbrev pub IsAttacked : AttackAsked → Swept → Tells
IsAttacked asked swept ended text deeds = (a : Attacking) × IsAttackingOf asked swept a × IsTargetAttacked a swept.target ended text deeds

-- the words of the image and the script were read, the whole script was carried out over these words, and the command that is meant was attacked,
-- on cards in memory alone
abbrev pub IsAttack : List ℕ → AttackAsked → Tells
IsAttack image asked = SweepsImage image (sweep_of asked) (IsAttacked asked)
