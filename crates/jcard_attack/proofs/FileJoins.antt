-- Joining the texts in files.
use Rattle.std.proofs.Common.{◌≡◌, ◌⊎◌, ◌∙◌, inl, inr, ℕ, ◌<◌, List, [], length, ap, sym, refl, subst, Err, Result}
use Rattle.jcard_files.specs.FileDeeds.{FileDeed}
use Rattle.jcard_files.specs.declared.fault.Fault.{Fault}
use Rattle.jcard_files.specs.declared.fault.Fault.TheVariants.{NoMemory}
use Rattle.jcard_outcomes.specs.SweepHead.{AreBehindHeads, AreOfOthers}
use Rattle.jcard_outcomes.specs.SweepKind.{kind_of}
use Rattle.jcard_outcomes.specs.declared.join_fault.JoinFault.{JoinFault}
use Rattle.jcard_outcomes.specs.declared.join_fault.JoinFault.TheVariants as joining
use Rattle.jcard_outcomes.specs.declared.sweep_head.HeadFault.{HeadFault}
use Rattle.jcard_outcomes.specs.declared.sweep_head.HeadFault.TheVariants as heading
use Rattle.jcard_outcomes.proofs.PartHeads.{bodies_of_parts, name_of_parts, parts_of_one}
use Rattle.jcard_sweeps.specs.Join.{AreJoinedBy, told_share_fault}
use Rattle.jcard_sweeps.specs.PartTexts.{AreFirstRead, AreUnread, IsOtherTold}
use Rattle.jcard_attack.specs.Output.{IsAttackTold}
use Rattle.jcard_attack.specs.PartFiles.{AreJoinedAs, AreLinesJoinedTo, AreNamedJoined, IsJoinedTo, IsJoining}
use Rattle.jcard_attack.specs.PartLines.{IsJoined, IsTellable, IsUnjoined, shares_text}
use Rattle.jcard_attack.specs.Report.{any_accepted, report_text}
use Rattle.jcard_attack.specs.declared.join.JoinedAttack.{JoinedAttack}
use Rattle.jcard_attack.specs.declared.outcomes.AttackSweep.{AttackSweep}

-- files that could not be read are not joined
pub unread_joining : (names : List (List ℕ)) (fault : Fault) (deeds : List FileDeed)
    → ((fault ≡ NoMemory) × AreFirstRead names deeds) ⊎ AreUnread names fault deeds
    → IsJoining names (Err fault) [] deeds
unread_joining names fault deeds (inl e) = inr (inl (ap Err e.0, refl, e.1))
unread_joining names fault deeds (inr h) = inl (fault, refl, refl, h)

struck_reported : (s : AttackSweep) (j : JoinedAttack) (ended : Result (Unit {0}) Fault) (text : List ℕ) → j.text.items ≡ report_text s
    → j.is_accepted ≡ any_accepted s.strikes.items → IsAttackTold j.text.items j.is_accepted ended text
    → IsAttackTold (report_text s) (any_accepted s.strikes.items) ended text
struck_reported s j ended text e f told = subst (λ b. IsAttackTold (report_text s) b ended text) f (subst (λ t. IsAttackTold t j.is_accepted ended text) e told)

-- the report of faults was reported
pub lines_told : (n : ℕ) (lines : List ℕ) (j : JoinedAttack) (ended : Result (Unit {0}) Fault) (text : List ℕ) → IsJoined n lines j
    → ((s : AttackSweep) → IsTellable s → lines ≡ shares_text s n n → (j.text.items ≡ report_text s) × (j.is_accepted ≡ any_accepted s.strikes.items))
    → IsAttackTold j.text.items j.is_accepted ended text → AreLinesJoinedTo n lines ended text
lines_told n lines j ended text joined whole told = record {
  joined = inl (j, joined, told);
  whole = λ s tellable e. let of = whole s tellable e in inl (struck_reported s j ended text of.0 of.1 told);
}

-- the lines were not joined
pub lines_untold : (n : ℕ) (lines : List ℕ) (cause : JoinFault) (fault : Fault) → fault ≡ told_share_fault cause → IsUnjoined n lines cause
    → ((s : AttackSweep) → IsTellable s → lines ≡ shares_text s n n → cause ≡ joining.NoMemory) → AreLinesJoinedTo n lines (Err fault) []
lines_untold n lines cause fault e why none = record {
  joined = inr (cause, why, ap Err e, refl);
  whole = λ s tellable h. inr (ap Err (e ∙ ap told_share_fault (none s tellable h)), refl);
}

-- the bodies were joined
pub heads_joined : (names texts bodies : List (List ℕ)) (name : List ℕ) (ended : Result (Unit {0}) Fault) (text : List ℕ) → 0 < length texts → AreBehindHeads name texts bodies
    → AreNamedJoined name bodies ended text → IsJoinedTo names texts ended text
heads_joined names texts bodies name ended text some behind told = record {
  joined = inl (name, bodies, behind, told);
  whole = λ depth s own plain cuts kind tellable parts.
      let same : own ≡ name = name_of_parts s own name texts bodies some plain parts behind in
      let named = subst (λ n. AreNamedJoined n bodies ended text) (sym same) told in
      let by_kind = subst (λ b. AreJoinedAs b (kind_of own) bodies ended text) cuts named in
      let deep = subst (λ k. AreJoinedBy k bodies ended text) kind by_kind in
      deep.whole s tellable (bodies_of_parts s own name texts bodies plain parts behind);
}

-- the texts are not of one sweep
pub others_told : (names texts : List (List ℕ)) (cause : HeadFault) (fault : Fault) → 0 < length texts → AreOfOthers texts cause → IsOtherTold names cause fault
    → IsJoinedTo names texts (Err fault) []
others_told names texts cause fault some others told = record {
  joined = inr (cause, fault, others, told, refl, refl);
  whole = λ depth s own plain cuts kind tellable parts. inr (ap Err (refused cause fault (parts_of_one s own texts cause some plain parts others) told), refl);
}
  where
    refused : (cause : HeadFault) (fault : Fault) → cause ≡ heading.NoMemory → IsOtherTold names cause fault → fault ≡ NoMemory
    refused cause fault e told = subst (λ c. IsOtherTold names c fault) e told
