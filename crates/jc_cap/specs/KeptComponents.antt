-- Components that are kept once they were read.
use Rattle.std.specs.Prelude.{◌≡◌, ℕ, List, Result, Ok, Err}
use Rattle.jc_cap.specs.declared.fault.CapFault.{CapFault}
use Rattle.jc_cap.specs.declared.exports.ExportedClass.{ExportedClass}
use Rattle.jc_cap.specs.Reading.{IsReadable, ◌>>=◌, value_of_whole}
use Rattle.jc_cap.specs.Applets.{AppletNamed, applets_at}
use Rattle.jc_cap.specs.Envelope.{info_at}
use Rattle.jc_cap.specs.Exports.{exports_at}
use Rattle.jc_cap.specs.Tags.{applet_tag, export_tag}

-- what was found of a component: its bytes are kept, and can be read; or the fault of reading them
abbrev pub Keeps : {A : Type 0} → List ℕ → Result A CapFault → Result (List ℕ) CapFault → Type 0
Keeps bytes read (Ok kept) = (kept ≡ bytes) × IsReadable read
Keeps bytes read (Err fault) = read ≡ Err fault

-- reading found no fault, or this one
abbrev pub IsReadAs : {A B : Type 0} → Result A CapFault → Result B CapFault → Type 0
IsReadAs (Ok x) read = IsReadable read
IsReadAs (Err fault) read = read ≡ Err fault

-- what an Applet component says
abbrev pub applets_told : List ℕ → Result (List AppletNamed) CapFault
applets_told text = info_at applet_tag text >>= λ info. value_of_whole (applets_at info)

-- what an Export component says
abbrev pub exports_told : List ℕ → Result (List ExportedClass) CapFault
exports_told text = info_at export_tag text >>= λ info. value_of_whole (exports_at info)
