-- How `jcard tear` ends where a card does not power up.
use Rattle.std.proofs.Common.{◌≡◌, ℕ, false, List, Err, ap}
use Rattle.jc_card.specs.declared.power_up.PowerFault.{PowerFault}
use Rattle.jc_card.specs.declared.power_up.PowerFault.TheVariants.{BadMagic, BadVersion, BadSize, BadLog, BadTable, BadPackage, StoreDown, NoMemory}
use Rattle.jcard_sweeps.specs.ScriptFault.{IsUnpowered}
use Rattle.jcard_files.specs.Fault.{is_unwritten}
use Rattle.jcard_files.specs.declared.fault.Fault.{Fault}

-- no write failed where a card does not power up
pub unpowered_unwritten : (image : List ℕ) (cause : PowerFault) (fault : Fault) → IsUnpowered image cause fault → is_unwritten (Err fault) ≡ false
unpowered_unwritten image BadMagic fault h = ap (λ (f : Fault). is_unwritten (Err f)) h
unpowered_unwritten image BadVersion fault h = ap (λ (f : Fault). is_unwritten (Err f)) h
unpowered_unwritten image BadSize fault h = ap (λ (f : Fault). is_unwritten (Err f)) h
unpowered_unwritten image BadLog fault h = ap (λ (f : Fault). is_unwritten (Err f)) h
unpowered_unwritten image BadTable fault h = ap (λ (f : Fault). is_unwritten (Err f)) h
unpowered_unwritten image BadPackage fault h = ap (λ (f : Fault). is_unwritten (Err f)) h
unpowered_unwritten image NoMemory fault h = ap (λ (f : Fault). is_unwritten (Err f)) h
unpowered_unwritten image StoreDown fault h = ap (λ (f : Fault). is_unwritten (Err f)) h.1
