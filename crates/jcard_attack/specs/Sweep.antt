-- A command with a fault at each of its instructions.
use Rattle.std.specs.Prelude.{ℕ, ◌≡◌, ◌⊎◌, List, [], ◌∷◌, length, codes, Bool, Option, Some, None}
use Rattle.std.specs.Bool.{MatchBool}
use Rattle.jc_card.specs.declared.planned_fault.PlannedFault.{PlannedFault}
use Rattle.jcard_outcomes.specs.declared.part.Share.{Share}
use Rattle.jcard_outcomes.specs.declared.standing.Left.{Left}
use Rattle.jcard_sweeps.specs.Report.{AreObjectsAsked, IsTold}
use Rattle.jcard_sweeps.specs.Shares.{share_in}
use Rattle.jcard_attack.specs.Aftermaths.{IsAftermath, IsBegun, IsUnfinished}
use Rattle.jcard_attack.specs.Judgement.{IsLastAnswer, IsSameAs, IsStanding, gives_access, judged}
use Rattle.jcard_attack.specs.Models.{faults_tried, kinds_tried}
use Rattle.jcard_attack.specs.Objects.{IsAftermathTold, IsObjectsFault}
use Rattle.jcard_attack.specs.declared.aftermaths.AttackFault.{AttackFault}
use Rattle.jcard_attack.specs.declared.aftermaths.AttackFault.TheVariants.{Down, NoMemory, TooManyInstructions}
use Rattle.jcard_attack.specs.declared.aftermaths.Attacked.{Attacked}
use Rattle.jcard_attack.specs.declared.outcomes.Aftermath.{Aftermath}
use Rattle.jcard_attack.specs.declared.outcomes.AttackSweep.{AttackSweep}
use Rattle.jcard_attack.specs.declared.outcomes.Struck.{Struck}
use Rattle.jcard_attack.specs.declared.sweep.Baseline.{Baseline}
use Rattle.jcard_attack.specs.declared.sweep.Sought.{Sought}

-- a fault came to this, is judged so beside the command without a fault, and is reported with what changed since the objects before it stood, if any
pub record IsStruck (words : List ℕ) (c : Attacked) (b : Baseline) (s : Struck) : Type 0 where
  pub left : Left
  pub same : Bool
  pub last : List ℕ
  pub undisturbed_last : List ℕ
  pub comes : IsAftermath words c (Some s.fault) (record { answer = s.answer; left = left })
  pub told : IsTold b.objects.now left s.answers.items
  pub compared : MatchBool same (IsSameAs b.undisturbed.now.left left) (IsSameAs b.undisturbed.now.left left → ⊥)
  pub last_is : IsLastAnswer s.answer.items left.answers.items last
  pub undisturbed_is : IsLastAnswer b.undisturbed.now.answer.items b.undisturbed.now.left.answers.items undisturbed_last
  pub judged_so : s.outcome ≡ judged b.accepted.now b.undisturbed.now.answer.items s.answer.items (gives_access b.accepted.now undisturbed_last last) same
  pub stands : IsStanding b.before.now b.undisturbed.now.left left s.standing

-- so did these faults, one after the other
unfoldable pub AreStruckBy : List ℕ → Attacked → Baseline → List PlannedFault → List Struck → Type 0
AreStruckBy words c b [] [] = Unit {0}
AreStruckBy words c b (fault ∷ faults) (s ∷ strikes) = ((s.fault ≡ fault) × IsStruck words c b s) × AreStruckBy words c b faults strikes
AreStruckBy words c b faults strikes = ⊥

-- all of a list, or those in the part that is asked for
abbrev pub asked_in : {A : Type 0} → Option Share → List A → List A
asked_in None all = all
asked_in (Some share) all = share_in share all

-- the faults that are tried of a command of n instructions: all, or those of a part
abbrev pub faults_of : Sought → Option Share → ℕ → List PlannedFault
faults_of sought part n = asked_in part (faults_tried (kinds_tried sought.models sought.within) n)

-- what was before a command, what it comes to without a fault, and what faults of these kinds, or those of them in a part, come to at each instruction
-- of which something is reported
pub record IsSwept (words : List ℕ) (c : Attacked) (sought : Sought) (part : Option Share) (s : AttackSweep) : Type 0 where
  pub baseline : Baseline
  pub accepted : baseline.accepted.now ≡ sought.accepted.now
  pub before : baseline.before.now ≡ s.before
  pub begun : IsBegun words c s.before
  pub comes : IsAftermath words c None baseline.undisturbed.now
  pub asked : AreObjectsAsked sought.objects s.before baseline.objects.now
  pub told : IsAftermathTold baseline.objects.now baseline.undisturbed.now s.undisturbed
  pub strikes : AreStruckBy words c baseline (faults_of sought part (length s.instructions.items)) s.strikes.items

-- what keeps the instructions of a command from being reported, though it was carried out: memory is refused, or there are too many
abbrev pub IsTraceFault : AttackFault → Type 0
IsTraceFault fault = (fault ≡ NoMemory) ⊎ (fault ≡ TooManyInstructions)

-- the card is down at the command without a fault
abbrev pub IsDownAt : List ℕ → Attacked → Type 0
IsDownAt words c = (a : Aftermath) × IsAftermath words c None a × (a.answer.items ≡ codes "down")

-- why a command was not: a script for it, or the probe after one, was not carried out to its end; the card is down at it without a fault; what stands
-- in the image before it is bad; or it carries out too many instructions, which the notes say
abbrev pub IsUnswept : List ℕ → Attacked → AttackFault → Type 0
IsUnswept words c fault = IsUnfinished words c fault ⊎ ((fault ≡ Down) × IsDownAt words c) ⊎ IsObjectsFault fault ⊎ (fault ≡ TooManyInstructions)
