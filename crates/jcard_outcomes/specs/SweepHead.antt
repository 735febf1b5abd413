-- Of which sweep the text of a part is.
use Rattle.std.specs.Prelude.{ℕ, ◌≡◌, ◌<◌, false, List, [], ◌++◌, length}
use Rattle.std.specs.List.{slice_index_or}
use Rattle.jcard_outcomes.specs.Part.{has, head_text}
use Rattle.jcard_outcomes.specs.declared.sweep_head.HeadFault.{HeadFault}
use Rattle.jcard_outcomes.specs.declared.sweep_head.HeadFault.TheVariants.{NoMemory, OtherSweep}

-- after its head, which names this sweep, a text states this
abbrev pub IsBehindHead : List ℕ → List ℕ → List ℕ → Type 0
IsBehindHead name text body = (text ≡ head_text name ++ body) × (has 10 name ≡ false)

-- the texts state these after their heads, which all name this sweep
pub record AreBehindHeads (name : List ℕ) (texts bodies : List (List ℕ)) : Type 0 where
  pub all : length bodies ≡ length texts
  pub each : (i : ℕ) → i < length texts → IsBehindHead name (slice_index_or texts i []) (slice_index_or bodies i [])

-- the text at a place and the first one do not name the same sweep, or name none
abbrev pub IsOfOther : List (List ℕ) → ℕ → Type 0
IsOfOther texts j = (name first body : List ℕ) → IsBehindHead name (slice_index_or texts 0 []) first
    → IsBehindHead name (slice_index_or texts j []) body → ⊥

-- the texts are refused: the one at this place is the first of another sweep; or memory was refused
abbrev pub AreOfOthers : List (List ℕ) → HeadFault → Type 0
AreOfOthers texts NoMemory = Unit {0}
AreOfOthers texts (OtherSweep j) = (j < length texts) × IsOfOther texts j × ((i : ℕ) → i < j → IsOfOther texts i → ⊥)
