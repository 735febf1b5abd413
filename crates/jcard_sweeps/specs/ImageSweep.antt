-- Sweeps over commands of a script: what is read and carried out, and then handed on.
use Rattle.std.specs.Prelude.{ℕ, ◌≡◌, List, Option}
use Rattle.jcard_files.specs.Effects.{FindsThen, ReadsThen, Tells}
use Rattle.jcard_files.specs.FileDeeds.{FileDeed}
use Rattle.jcard_sweeps.specs.Subject.{CarriesThen, IsProbeRead, IsProbeUnread}
use Rattle.jcard_sweeps.specs.SweepAsked.{SweepAsked}
use Rattle.jcard_sweeps.specs.Targets.{IsNoTarget, IsTarget}
use Rattle.jcard_sweeps.specs.Texts.{text_of}
use Rattle.jcard_sweeps.specs.declared.image_sweep.Swept.{Swept}
use Rattle.jcard_sweeps.specs.declared.subject.Subject.{Subject}
use Rattle.jcard_sweeps.specs.declared.targets.Target.{Target}

-- the probe was read with which these commands of a script are swept, if one is named
abbrev pub IsSweptRead : Subject → Target → Option (List ℕ) → Swept → List FileDeed → Type 0
IsSweptRead subject target probe swept deeds = (swept.subject ≡ subject) × (swept.target ≡ target) × IsProbeRead probe (text_of swept.probe) deeds

-- what is meant of the commands of a script was found, the probe was read, and then it went on so with both
abbrev pub SweepsSubject : SweepAsked → (Swept → Tells) → Subject → Tells
SweepsSubject asked next subject =
    FindsThen (IsTarget asked subject.commands.now) (IsNoTarget asked subject.commands.now) (λ target.
    ReadsThen (IsSweptRead subject target asked.probe) (IsProbeUnread asked.probe) next)

-- the words of the image and the script were read, the whole script was carried out over these words, and then it went on so with what is meant of
-- its commands
abbrev pub SweepsImage : List ℕ → SweepAsked → (Swept → Tells) → Tells
SweepsImage image asked next = CarriesThen image asked.script asked.behind.instructions (SweepsSubject asked next)
