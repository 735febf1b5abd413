-- What is reported of the texts of all parts of a sweep, which have cuts of one command, or commands of a script.
use Rattle.std.specs.Prelude.{ℕ, ◌≡◌, ◌⊎◌, List, [], Result, Err}
use Rattle.jcard_files.specs.Effects.{Says}
use Rattle.jcard_files.specs.declared.fault.Fault.{Fault}
use Rattle.jcard_files.specs.declared.fault.Fault.TheVariants.{BadCut, BadShare, CutMissing, CutTwice, NoMemory, OtherSweep, ShareMissing, ShareTwice}
use Rattle.jcard_outcomes.specs.CommandShares.{AreNoShares, AreSharesJoined}
use Rattle.jcard_outcomes.specs.Join.{AreBodiesOf, AreJoined, IsJoinFault, IsTellable}
use Rattle.jcard_outcomes.specs.Report.{are_whole, report_text}
use Rattle.jcard_outcomes.specs.declared.join.Joined.{Joined}
use Rattle.jcard_outcomes.specs.declared.join_fault.JoinFault.{JoinFault}
use Rattle.jcard_outcomes.specs.declared.join_fault.JoinFault.TheVariants as joining
use Rattle.jcard_outcomes.specs.declared.recoveries.Depth.{Depth}
use Rattle.jcard_outcomes.specs.declared.report.Sweep.{Sweep}
use Rattle.jcard_outcomes.specs.declared.sweep_kind.SweepKind.{SweepKind}
use Rattle.jcard_outcomes.specs.declared.sweep_kind.SweepKind.TheVariants.{Cuts, Commands}
use Rattle.jcard_sweeps.specs.Output.{IsReportTold}

-- what is reported of texts that are not the parts of a sweep
abbrev pub told_join_fault : JoinFault → Fault
told_join_fault joining.NoMemory = NoMemory
told_join_fault (joining.Missing k) = CutMissing k
told_join_fault (joining.Twice k) = CutTwice k
told_join_fault (joining.BadLine k) = BadCut k
told_join_fault (joining.OtherSweep k) = OtherSweep k

-- what is reported of texts that are not all shares of the commands of a script
abbrev pub told_share_fault : JoinFault → Fault
told_share_fault joining.NoMemory = NoMemory
told_share_fault (joining.Missing k) = ShareMissing k
told_share_fault (joining.Twice k) = ShareTwice k
told_share_fault (joining.BadLine k) = BadShare k
told_share_fault (joining.OtherSweep k) = BadShare k

-- the report was written
abbrev pub IsJoinTold : Joined → Says
IsJoinTold j = IsReportTold j.text.items j.is_all_or_nothing

-- the report of a sweep was written
abbrev pub IsReported : Sweep → Says
IsReported s = IsReportTold (report_text s) (are_whole s.cuts.items)

-- texts without heads were joined to a report; or they are not the parts of a sweep, or memory was refused. The parts of a sweep are joined to
-- what is reported of it, or memory was refused
pub record AreBodiesJoinedTo (depth : Depth) (texts : List (List ℕ)) (ended : Result Unit Fault) (text : List ℕ) : Type 0 where
  pub joined : ((j : Joined) × AreJoined depth texts j × IsJoinTold j ended text)
      ⊎ ((cause : JoinFault) × IsJoinFault texts cause × (ended ≡ Err (told_join_fault cause)) × (text ≡ []))
  pub whole : (s : Sweep) → IsTellable depth s → AreBodiesOf s texts → IsReported s ended text ⊎ ((ended ≡ Err NoMemory) × (text ≡ []))

-- texts without heads of all shares of the commands of a script were joined; or they are not those, or memory was refused
abbrev pub AreSharesJoinedTo : List (List ℕ) → Result Unit Fault → List ℕ → Type 0
AreSharesJoinedTo texts ended text = ((j : Joined) × AreSharesJoined texts j × IsJoinTold j ended text)
    ⊎ ((cause : JoinFault) × AreNoShares texts cause × (ended ≡ Err (told_share_fault cause)) × (text ≡ []))

-- texts without heads were joined as the parts of such a sweep
abbrev pub AreJoinedBy : SweepKind → List (List ℕ) → Result Unit Fault → List ℕ → Type 0
AreJoinedBy (Cuts depth) texts ended text = AreBodiesJoinedTo depth texts ended text
AreJoinedBy Commands texts ended text = AreSharesJoinedTo texts ended text
