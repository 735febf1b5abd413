-- Lists of kinds of faults.
use Rattle.std.proofs.Common.{◌≡◌, ◌∙◌, ℕ, suc, ◌+◌, List, [], ◌∷◌, ◌++◌, map, ap, append_assoc, append-nil, arith, sym}
use Rattle.jc_interp.specs.declared.attacks.FaultModel.{FaultModel}
use Rattle.jc_card.specs.declared.planned_fault.PlannedFault.{PlannedFault}
use Rattle.jcard_attack.specs.Models.{fault_at, faults_within, second_at, seconds_within}

-- no second faults
pub seconds_none : (kind : PlannedFault) (models : List FaultModel) (start : List PlannedFault) → start ≡ start ++ seconds_within kind models 0
unfolding seconds_within
seconds_none kind models start = sym (append-nil start)

-- the second faults one instruction farther
pub seconds_more : (kind : PlannedFault) (models : List FaultModel) (n : ℕ)
    → seconds_within kind models (n + 1) ≡ seconds_within kind models n ++ map (second_at kind (n + 1)) models
unfolding seconds_within
seconds_more kind models n = let next : n + 1 ≡ suc n = omega arith in ap (seconds_within kind models) next

pub seconds_next : (kind : PlannedFault) (models : List FaultModel) (n : ℕ) (start so next : List PlannedFault) → so ≡ start ++ seconds_within kind models n
    → next ≡ so ++ map (second_at kind (n + 1)) models → next ≡ start ++ seconds_within kind models (n + 1)
seconds_next kind models n start so next is more = more ∙ ap (λ l. l ++ map (second_at kind (n + 1)) models) is
    ∙ append_assoc start (seconds_within kind models n) (map (second_at kind (n + 1)) models) ∙ ap (λ l. start ++ l) (sym (seconds_more kind models n))

-- no faults
pub faults_none : (kind : PlannedFault) (start : List PlannedFault) → start ≡ start ++ faults_within kind 0
unfolding faults_within
faults_none kind start = sym (append-nil start)

-- the fault at one instruction more
pub faults_next : (kind : PlannedFault) (n : ℕ) (start so next : List PlannedFault) → so ≡ start ++ faults_within kind n
    → next ≡ so ++ fault_at kind n ∷ [] → next ≡ start ++ faults_within kind (n + 1)
unfolding faults_within
faults_next kind n start so next is more =
    let one : n + 1 ≡ suc n = omega arith in
    more ∙ ap (λ l. l ++ fault_at kind n ∷ []) is ∙ append_assoc start (faults_within kind n) (fault_at kind n ∷ [])
    ∙ ap (λ k. start ++ faults_within kind k) (sym one)
