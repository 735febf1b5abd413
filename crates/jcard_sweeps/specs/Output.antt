-- What is written of cuts.
use Rattle.std.specs.Prelude.{ℕ, ◌≡◌, Bool, true, false, List, Ok, Err}
use Rattle.jcard_texts.specs.Texts.{IsCutOf}
use Rattle.jcard_files.specs.Effects.{Says}
use Rattle.jcard_files.specs.declared.fault.Fault.TheVariants.{NotAllOrNothing, WriteFailed}

-- a report was written, and so it ended: each cut was all or nothing, and no recovery made a difference, or one was not or one did; or a
-- write failed within it
abbrev pub IsReportTold : List ℕ → Bool → Says
IsReportTold report whole (Ok done) text = (text ≡ report) × (whole ≡ true)
IsReportTold report whole (Err NotAllOrNothing) text = (text ≡ report) × (whole ≡ false)
IsReportTold report whole (Err WriteFailed) text = IsCutOf report text
IsReportTold report whole (Err other) text = ⊥
