-- `jcard tear --join` and `jcard attack --join`: what is read, and what is reported.
use Rattle.std.specs.Prelude.{ℕ, ◌≡◌, ◌⊎◌, Bool, true, false, List, [], length, Result, Err}
use Rattle.jcard_files.specs.FileDeeds.{FileDeed}
use Rattle.jcard_files.specs.declared.fault.Fault.{Fault}
use Rattle.jcard_files.specs.declared.fault.Fault.TheVariants.{NoMemory}
use Rattle.jcard_outcomes.specs.CommandShares.{AreNoShares, AreSharesJoined}
use Rattle.jcard_outcomes.specs.Join.{ArePartsOf}
use Rattle.jcard_outcomes.specs.Join as joins
use Rattle.jcard_outcomes.specs.Part.{has}
use Rattle.jcard_outcomes.specs.SweepHead.{AreBehindHeads, AreOfOthers}
use Rattle.jcard_outcomes.specs.SweepKind.{kind_of}
use Rattle.jcard_outcomes.specs.declared.join.Joined.{Joined}
use Rattle.jcard_outcomes.specs.declared.join_fault.JoinFault.{JoinFault}
use Rattle.jcard_outcomes.specs.declared.recoveries.Depth.{Depth}
use Rattle.jcard_outcomes.specs.declared.report.Sweep.{Sweep}
use Rattle.jcard_outcomes.specs.declared.sweep_head.HeadFault.{HeadFault}
use Rattle.jcard_outcomes.specs.declared.sweep_kind.SweepKind.{SweepKind}
use Rattle.jcard_outcomes.specs.declared.sweep_kind.SweepKind.TheVariants.{Cuts}
use Rattle.jcard_sweeps.specs.Join.{AreJoinedBy, IsReported, told_share_fault}
use Rattle.jcard_sweeps.specs.PartTexts.{AreFirstRead, AreRead, AreUnread, IsOtherTold}
use Rattle.jcard_attack.specs.Names.{is_of_faults}
use Rattle.jcard_attack.specs.Output.{IsAttackTold}
use Rattle.jcard_attack.specs.PartLines.{IsJoined, IsTellable, IsUnjoined, shares_text}
use Rattle.jcard_attack.specs.Report.{any_accepted, report_text}
use Rattle.jcard_attack.specs.declared.join.JoinedAttack.{JoinedAttack}
use Rattle.jcard_attack.specs.declared.outcomes.AttackSweep.{AttackSweep}

-- the lines of n parts of the faults of a command were joined; or they are not those, or memory was refused. Those of the parts of a sweep are joined
-- to what is reported of it, or memory was refused
pub record AreLinesJoinedTo (n : ℕ) (lines : List ℕ) (ended : Result Unit Fault) (text : List ℕ) : Type 0 where
  pub joined : ((j : JoinedAttack) × IsJoined n lines j × IsAttackTold j.text.items j.is_accepted ended text)
      ⊎ ((cause : JoinFault) × IsUnjoined n lines cause × (ended ≡ Err (told_share_fault cause)) × (text ≡ []))
  pub whole : (s : AttackSweep) → IsTellable s → lines ≡ shares_text s n n
      → IsAttackTold (report_text s) (any_accepted s.strikes.items) ended text ⊎ ((ended ≡ Err NoMemory) × (text ≡ []))

-- texts without heads of all parts of the faults of a command were put into their order, and their lines joined; or they are not those, or memory was
-- refused
abbrev pub AreFaultsJoinedTo : List (List ℕ) → Result Unit Fault → List ℕ → Type 0
AreFaultsJoinedTo texts ended text = ((j : Joined) × AreSharesJoined texts j × AreLinesJoinedTo (length texts) j.text.items ended text)
    ⊎ ((cause : JoinFault) × AreNoShares texts cause × (ended ≡ Err (told_share_fault cause)) × (text ≡ []))

-- texts without heads were joined as the parts of a sweep of faults, or of such another sweep
abbrev pub AreJoinedAs : Bool → SweepKind → List (List ℕ) → Result Unit Fault → List ℕ → Type 0
AreJoinedAs true kind texts ended text = AreFaultsJoinedTo texts ended text
AreJoinedAs false kind texts ended text = AreJoinedBy kind texts ended text

-- as the parts of the sweep with this name
abbrev pub AreNamedJoined : List ℕ → List (List ℕ) → Result Unit Fault → List ℕ → Type 0
AreNamedJoined name texts ended text = AreJoinedAs (is_of_faults name) (kind_of name) texts ended text

-- what the texts of the files with these names say after their heads was joined; or they are not of one sweep. The parts of a sweep are joined
-- to what is reported of it, or memory was refused
pub record IsJoinedTo (names texts : List (List ℕ)) (ended : Result Unit Fault) (text : List ℕ) : Type 0 where
  pub joined : ((name : List ℕ) × (bodies : List (List ℕ)) × AreBehindHeads name texts bodies × AreNamedJoined name bodies ended text)
      ⊎ ((cause : HeadFault) × (fault : Fault) × AreOfOthers texts cause × IsOtherTold names cause fault × (ended ≡ Err fault) × (text ≡ []))
  pub whole : (depth : Depth) (s : Sweep) (name : List ℕ) → has 10 name ≡ false → is_of_faults name ≡ false → kind_of name ≡ Cuts depth
      → joins.IsTellable depth s → ArePartsOf s name texts
      → IsReported s ended text ⊎ ((ended ≡ Err NoMemory) × (text ≡ []))

-- the files were read, and joined; or they were read up to one that could not be, or up to one for whose text memory was refused
abbrev pub IsJoining : List (List ℕ) → Result Unit Fault → List ℕ → List FileDeed → Type 0
IsJoining names ended text deeds = ((fault : Fault) × (ended ≡ Err fault) × (text ≡ []) × AreUnread names fault deeds)
    ⊎ ((ended ≡ Err NoMemory) × (text ≡ []) × AreFirstRead names deeds)
    ⊎ ((texts : List (List ℕ)) × AreRead names texts deeds × IsJoinedTo names texts ended text)
