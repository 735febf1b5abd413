-- The kinds of faults that a sweep tries.
use Rattle.std.specs.List.{flat_map}
use Rattle.std.specs.Prelude.{ℕ, zero, suc, ◌+◌, Bool, List, [], ◌∷◌, ◌++◌, filter, map, None, Some}
use Rattle.jc_interp.specs.declared.attacks.FaultModel.{FaultModel}
use Rattle.jc_interp.specs.declared.attacks.FaultModel.TheVariants.{Skip, Turn, Zero}
use Rattle.jc_card.specs.declared.planned_fault.PlannedFault.{PlannedFault}
use Rattle.jcard_outcomes.specs.declared.models.Models.{Models}

-- the fault of the same kind at this instruction: faults of one kind differ in nothing else
abbrev pub fault_at : PlannedFault → ℕ → PlannedFault
fault_at kind k = record kind { instruction = k }

-- the faults of a kind at the first n instructions
unfoldable pub faults_within : PlannedFault → ℕ → List PlannedFault
faults_within kind zero = []
faults_within kind (suc n) = faults_within kind n ++ fault_at kind n ∷ []

-- those of each of these kinds in turn
abbrev pub faults_tried : List PlannedFault → ℕ → List PlannedFault
faults_tried kinds n = flat_map (λ kind. faults_within kind n) kinds

-- this model is among them
abbrev pub has_model : Models → FaultModel → Bool
has_model models Skip = models.skip
has_model models Turn = models.turn
has_model models Zero = models.zero

-- those that are tried, in this order
abbrev pub models_tried : Models → List FaultModel
models_tried models = filter (has_model models) (Skip ∷ Turn ∷ Zero ∷ [])

-- a fault of this model at the first instruction
abbrev pub first_fault : FaultModel → PlannedFault
first_fault model = record { instruction = 0; model = model; second = None }

-- a fault of this kind, and another of this model at the n-th instruction after it
abbrev pub second_at : PlannedFault → ℕ → FaultModel → PlannedFault
second_at kind n model = record kind { second = Some (record { number = n; model = model }) }

-- a fault of this kind, and another of one of these models within n instructions after it, the nearest first
unfoldable pub seconds_within : PlannedFault → List FaultModel → ℕ → List PlannedFault
seconds_within kind models zero = []
seconds_within kind models (suc n) = seconds_within kind models n ++ map (second_at kind (n + 1)) models

-- a fault of each of these models, and another within n instructions after it
abbrev pub pairs_within : List FaultModel → ℕ → List PlannedFault
pairs_within models n = flat_map (λ model. seconds_within (first_fault model) models n) models

-- the kinds that are tried, in this order, each by its fault at the first instruction: a fault alone, and then two, within n instructions
abbrev pub kinds_tried : Models → ℕ → List PlannedFault
kinds_tried models n = map first_fault (models_tried models) ++ pairs_within (models_tried models) n
