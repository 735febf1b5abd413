-- `jcard run`: what is read, what is done with it, and what is reported.
use Rattle.std.specs.Prelude.{ℕ, Bool, ◌≡◌, ◌⊎◌, ◌*◌, List, [], length, Result, Ok, Err, Option}
use Rattle.std.specs.Prelude.{◌∷◌}
use Rattle.std.specs.Bool.{OnTrue}
use Rattle.std.specs.Io.KnownBytes.{Consumes}
use Rattle.jc_words.specs.File.{IsImageSize}
use Rattle.jc_words.specs.Store.{FuseStoreValue, below_fuse}
use Rattle.jcard_script.specs.Script.{EndsWithin, IsWholeScript}
use Rattle.jcard_script.specs.declared.script.ScriptFault.{ScriptFault}
use Rattle.jcard_files.specs.Effects.{Says, Tells}
use Rattle.jcard_files.specs.FileDeeds.{ClosesImage, OpensImage, ReadsText, fresh_store, untouched}
use Rattle.jcard_files.specs.Images.{IsNotOpenedToWrite, IsUnopened}
use Rattle.jcard_files.specs.declared.fault.Fault.{Fault}
use Rattle.jcard_sweeps.specs.ScriptFault.{IsOutcomeOf}

-- the script, of whose bytes so much was known before and is known after, was carried out to this end, with this budget, from one store to the other,
-- and this text was written
abbrev pub IsCarriedOut : ℕ → List ℕ → List ℕ → Option (List ℕ) → Option (List ℕ) → FuseStoreValue → FuseStoreValue → Says
IsCarriedOut budget image script known left before after ended text = (bytes : List ℕ) × (at_end : Bool) × (carried : Result Unit ScriptFault)
    × Consumes known left bytes × OnTrue at_end (IsWholeScript left bytes) × EndsWithin budget carried before after at_end bytes text
    × IsOutcomeOf image script carried ended

-- the image could not be opened, and the script was not asked for; or after it the script could not, nothing was written, and the
-- image was closed with no write asked for; or the script was carried out to this end over the image's words, this text was written,
-- and the image was closed as the script left it, with the script's writes and no other
abbrev pub IsRun : ℕ → List ℕ → List ℕ → Tells
IsRun budget image script ended text deeds =
    ((fault : Fault) × (ended ≡ Err fault) × IsNotOpenedToWrite image fault × (text ≡ []) × (deeds ≡ OpensImage image (Err fault) ∷ []))
    ⊎ ((w : List ℕ) × (fault : Fault) × (ended ≡ Err fault) × IsUnopened script fault × (text ≡ [])
    × (deeds ≡ OpensImage image (Ok w) ∷ ReadsText script (Err fault) ∷ ClosesImage image (untouched w) ∷ []))
    ⊎ ((w : List ℕ) × (known left : Option (List ℕ)) × (after : FuseStoreValue) × IsImageSize (2 * length w)
    × IsCarriedOut budget image script known left (fresh_store w) after ended text
    × (deeds ≡ OpensImage image (Ok w) ∷ ReadsText script (Ok known) ∷ ClosesImage image (below_fuse after) ∷ []))
