-- What is written of faults.
use Rattle.std.specs.Prelude.{ℕ, ◌≡◌, Bool, true, false, List, Ok, Err}
use Rattle.jcard_texts.specs.Texts.{IsCutOf}
use Rattle.jcard_files.specs.Effects.{Says}
use Rattle.jcard_files.specs.declared.fault.Fault.TheVariants.{FaultAccepted, WriteFailed}

-- a report was written, and so it ended: no fault was accepted, or one was; or a write failed within it
abbrev pub IsAttackTold : List ℕ → Bool → Says
IsAttackTold report accepted (Ok done) text = (text ≡ report) × (accepted ≡ false)
IsAttackTold report accepted (Err FaultAccepted) text = (text ≡ report) × (accepted ≡ true)
IsAttackTold report accepted (Err WriteFailed) text = IsCutOf report text
IsAttackTold report accepted (Err other) text = ⊥
