-- The name of a sweep of faults, by which its parts know one another.
use Rattle.std.specs.Prelude.{ℕ, ◌++◌, Bool, if◌then◌else◌, List, Some, codes, decimal, drop, take}
use Rattle.std.specs.Str.{bytes_eq}
use Rattle.jcard_outcomes.specs.declared.models.Models.{Models}
use Rattle.jcard_sweeps.specs.Names.{commands_name}
use Rattle.jcard_sweeps.specs.ScriptLines.{Line}
use Rattle.jcard_attack.specs.AttackAsked.{attack_asked_by, behind_of}
use Rattle.jcard_attack.specs.declared.sweep.Sought.{Sought}
use Rattle.jcard_attack.specs.declared.target_attacks.Attacking.{Attacking}

-- the models that are tried
abbrev pub models_text : Models → List ℕ
models_text models = (if models.skip then codes "skip " else codes "") ++ ((if models.turn then codes "turn " else codes "")
    ++ (if models.zero then codes "zero " else codes ""))

-- which faults are tried, and which answer none may get
abbrev pub faults_text : Sought → List ℕ
faults_text sought = codes "attack " ++ (models_text sought.models ++ (sought.accepted.now ++ (codes " " ++ (decimal sought.within ++ codes "\n"))))

-- the name of a sweep over this script in this many parts: as of a sweep of cuts whose script says first which faults are tried
abbrev pub attack_name : Attacking → List ℕ → ℕ → List ℕ
attack_name a script parts = commands_name a.subject.words.now (faults_text a.asked.sought ++ script) (Some a.probe.now) (behind_of (attack_asked_by a.asked)) parts

-- what a name says after its checksum where parts have faults of one command
abbrev pub faults_mark : List ℕ
faults_mark = codes " faults"

-- the parts of the sweep with this name have those
abbrev pub is_of_faults : List ℕ → Bool
is_of_faults name = bytes_eq (drop 40 name) faults_mark

-- the name of the sweep of the command in a line: the checksum of the sweep over the script up to it, and that parts have its faults
abbrev pub faults_name : Attacking → Line → ℕ → List ℕ
faults_name a l parts = take 40 (attack_name a (l.before ++ l.text) parts) ++ faults_mark
